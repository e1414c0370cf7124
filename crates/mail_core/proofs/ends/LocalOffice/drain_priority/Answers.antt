use Rattle.std.proofs.Common.{ℕ, ◌≡◌, ◌-◌, ◌<◌, [], ◌++◌, refl, sym, ap, ◌∙◌, arith}
use Rattle.std.proofs.lemmas.List.{append-nil}
use Rattle.mail_core.specs.Lanes.{lane_of}
use Rattle.mail_core.proofs.DrainLemmas.{lane_of-changed, of_controllers-push}
use Rattle.mail_core.proofs.ends.LocalOffice.drain_priority.Goals as goal

pub loop-sender-init : goal.loop-sender-init
loop-sender-init c =
    let n = c.args.self.now.parties in
    let some : n - 1 < n = omega (arith, c.requires.receiver) in
    let change = λ (s : ℕ) (r : ℕ) (p : ℕ) (h : s < n) (b : p < 6) (other : (c.args.receiver ≡ r) × (n - 1 ≡ s) × (c.args.prio ≡ p) → ⊥).
    lane_of-changed n n (n - 1) c.args.receiver c.args.prio s r p c.args.self.now.lanes.items c.drain.new.self.lanes.items [] refl c.in_ok-drain.ensures.lanes some h c.requires.prio b other in
    record {
      parties = c.drain.ensures.parties;
      environment = omega (arith, c.requires.receiver);
      list = c.in_ok-drain.ensures.list ∙ ap (λ ms. c.args.list.now.items ++ ms) (sym (append-nil _));
      rest = λ s h l. change s c.args.receiver c.args.prio (omega arith) c.requires.prio (λ e. absurd (omega (arith, e.1)));
      others = λ s r p h b other. change s r p h b (λ e. other (sym e.0, sym e.2));
    }

pub loop-sender-preserved : goal.loop-sender-preserved
loop-sender-preserved c =
    let n = c.args.self.now.parties in
    let i = c.loop-sender.invariant in
    let k = c.loop-sender.sender in
    let below : k < n = omega (arith, c.loop-sender-test.true, i.environment) in
    let change = λ (s : ℕ) (r : ℕ) (p : ℕ) (h : s < n) (b : p < 6) (other : (c.args.receiver ≡ r) × (k ≡ s) × (c.args.prio ≡ p) → ⊥).
    lane_of-changed n c.loop-sender.self.parties k c.args.receiver c.args.prio s r p c.loop-sender.self.lanes.items c.drain-in-loop-sender.new.self.lanes.items [] i.parties c.in_ok-drain-2.ensures.lanes below h c.requires.prio b other in
    record {
      parties = c.drain-in-loop-sender.ensures.parties ∙ i.parties;
      environment = i.environment;
      list = of_controllers-push (λ s. lane_of c.args.self.now.lanes.items n s c.args.receiver c.args.prio) k _ _ _ _ _ c.in_ok-drain-2.ensures.list i.list
          (ap (λ m. lane_of c.loop-sender.self.lanes.items m k c.args.receiver c.args.prio) i.parties ∙ i.rest k (omega arith) c.loop-sender-test.true);
      rest = λ s h l. change s c.args.receiver c.args.prio (omega (arith, i.environment)) c.requires.prio (λ e. absurd (omega (arith, e.1))) ∙ i.rest s (omega arith) l;
      others = λ s r p h b other. change s r p h b (λ e. other (sym e.0, sym e.2)) ∙ i.others s r p h b other;
    }
