use Rattle.std.proofs.Common.{ℕ, ◌≡◌, ◌-◌, ◌<◌, ◌++◌, ap, subst, ◌∙◌, arith}
use Rattle.mail_core.specs.Lanes.{lane_of}
use Rattle.mail_core.specs.SetUp.{at_priority, priorities, in_poll_order}
use Rattle.mail_core.proofs.DrainLemmas.{at_priority-same, priorities-push}
use Rattle.mail_core.proofs.ends.LocalOffice.drain_receiver.Goals as goal

pub loop-step-preserved : goal.loop-step-preserved
loop-step-preserved c =
    let n = c.args.self.now.parties in
    let i = c.loop-step.invariant in
    let k = c.loop-step.step in
    let ls = c.loop-step.self.lanes.items in
    let others : (s r p : ℕ) → s < n → p < 6 → ((r ≡ c.args.receiver) × (p ≡ 5 - k) → ⊥) → lane_of c.drain_priority.new.self.lanes.items n s r p ≡ lane_of ls n s r p =
    subst (λ m. (s r p : ℕ) → s < m → p < 6 → ((r ≡ c.args.receiver) × (p ≡ 5 - k) → ⊥) → lane_of c.drain_priority.new.self.lanes.items m s r p ≡ lane_of ls m s r p) i.parties c.in_ok-drain_priority.ensures.others in
    let some : 0 < n = omega (arith, c.requires) in
    record {
      parties = c.drain_priority.ensures.parties ∙ i.parties;
      list = priorities-push n (λ s p. lane_of c.args.self.now.lanes.items n s c.args.receiver p) k _ _ _ _ c.in_ok-drain_priority.ensures.list i.list
          (ap (λ m. at_priority m (λ s. lane_of ls m s c.args.receiver (5 - k))) i.parties
          ∙ at_priority-same n (λ s. lane_of ls n s c.args.receiver (5 - k)) (λ s. lane_of c.args.self.now.lanes.items n s c.args.receiver (5 - k)) some (λ s l. i.rest s (5 - k) l (omega arith)));
      rest = λ s p h b. others s c.args.receiver p h (omega arith) (λ e. absurd (omega (arith, e.1))) ∙ i.rest s p h (omega arith);
      others = λ s r p h b other. others s r p h b (λ e. other e.0) ∙ i.others s r p h b other;
    }

pub returns-clause-list : goal.returns-clause-list
unfolding in_poll_order
returns-clause-list c =
    let all : c.loop-step.step ≡ 6 = omega arith in
    subst (λ k. c.loop-step.list.items ≡ c.args.list.now.items ++ priorities c.args.self.now.parties (λ s p. lane_of c.args.self.now.lanes.items c.args.self.now.parties s c.args.receiver p) k) all c.loop-step.invariant.list
