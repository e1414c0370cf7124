use Rattle.std.proofs.Common.{ℕ, ◌≡◌, ◌+◌, ◌<◌, ◌++◌, map, ap, subst, ◌∙◌, arith}
use Rattle.std.proofs.lemmas.List.{map_push, length-map, length_push}
use Rattle.mail_core.specs.Lanes.{lane_of}
use Rattle.mail_core.specs.SetUp.{in_poll_order}
use Rattle.mail_core.proofs.DrainLemmas.{in_poll_order-same, slice_get-push}
use Rattle.mail_core.proofs.ends.LocalOffice.drain_all.Goals as goal

pub loop-receiver-preserved : goal.loop-receiver-preserved
loop-receiver-preserved c =
    let n = c.args.self.now.parties in
    let i = c.loop-receiver.invariant in
    let k = c.loop-receiver.receiver in
    let ls = c.loop-receiver.self.lanes.items in
    let others : (s r p : ℕ) → s < n → p < 6 → (r ≡ k → ⊥) → lane_of c.drain_receiver.new.self.lanes.items n s r p ≡ lane_of ls n s r p =
    subst (λ m. (s r p : ℕ) → s < m → p < 6 → (r ≡ k → ⊥) → lane_of c.drain_receiver.new.self.lanes.items m s r p ≡ lane_of ls m s r p) i.parties c.in_ok-drain_receiver.ensures.others in
    let new : c.drain_receiver.new.list.items ≡ in_poll_order n (λ s p. lane_of c.args.self.now.lanes.items n s k p) =
    c.in_ok-drain_receiver.ensures.list
    ∙ ap (λ ms. ms ++ in_poll_order c.loop-receiver.self.parties (λ s p. lane_of ls c.loop-receiver.self.parties s k p)) c.new-list.ensures.items
    ∙ ap (λ m. in_poll_order m (λ s p. lane_of ls m s k p)) i.parties
    ∙ in_poll_order-same n (λ s p. lane_of ls n s k p) (λ s p. lane_of c.args.self.now.lanes.items n s k p) c.requires (λ s p h b. i.rest s k p h b (omega arith)) in
    record {
      parties = c.drain_receiver.ensures.parties ∙ i.parties;
      count = rw c.in_ok-push.ensures.items (length_push c.loop-receiver.all.items c.drain_receiver.new.list ∙ ap (λ m. m + 1) i.count);
      each = rw (c.in_ok-push.ensures.items, map_push) (slice_get-push (map (λ x. x.items) c.loop-receiver.all.items) c.drain_receiver.new.list.items (λ r. in_poll_order n (λ s p. lane_of c.args.self.now.lanes.items n s r p)) k (length-map c.loop-receiver.all.items (λ x. x.items) ∙ i.count) i.each new);
      rest = λ s r p h b above. others s r p h b (λ e. absurd (omega arith)) ∙ i.rest s r p h b (omega arith);
    }
