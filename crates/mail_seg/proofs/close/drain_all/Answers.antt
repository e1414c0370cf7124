use Rattle.std.proofs.Common.{◌≡◌, ◌+◌, ◌-◌, ◌*◌, ◌<◌, ◌++◌, inl, inr, sym, ap, subst, ◌∙◌, arith, map}
use Rattle.std.proofs.lemmas.Bool.{cases_eq}
use Rattle.std.proofs.lemmas.List.{map_push, length-map, length_push}
use Rattle.mail_core.specs.SetUp.{in_poll_order}
use Rattle.mail_core.proofs.DrainLemmas.{in_poll_order-same, slice_get-push}
use Rattle.mail_seg.specs.Left.{queues_of, pass_at, Shifted, left_in, IsSettled}
use Rattle.mail_seg.proofs.CloseLemmas.{Shifted-step, pass_at-shifted, IsBox-same, left_in-same, IsSettled-same}
use Rattle.mail_seg.proofs.close.drain_all.Goals as goal

pub drain_receiver-requires-clause-boxes : goal.drain_receiver-requires-clause-boxes
drain_receiver-requires-clause-boxes g c =
    let i = c.loop-receiver.invariant in
    let k = c.loop-receiver.receiver in
    let rows = queues_of c.args.rows.now.items in
    let inside : k + 1 < c.args.parties = omega (arith, c.loop-receiver-test.true, c.requires.some) in
    λ b low. IsBox-same {f = pass_at rows (k * 6 + b)} {g = pass_at (queues_of c.loop-receiver.rows.items) b} (λ s h. sym (pass_at-shifted b s i.shifted h)) (c.requires.boxes k b inside low)

pub loop-receiver-preserved : goal.loop-receiver-preserved
loop-receiver-preserved g c =
    let n = c.args.parties in
    let i = c.loop-receiver.invariant in
    let k = c.loop-receiver.receiver in
    let here : k < n = omega (arith, c.loop-receiver-test.true) in
    let rows = queues_of c.args.rows.now.items in
    let rows' = queues_of c.loop-receiver.rows.items in
    let more : k * 6 + 6 ≡ (k + 1) * 6 = omega arith in
    let new : c.drain_receiver.new.list.items ≡ in_poll_order n (λ s p. left_in (pass_at rows (k * 6 + (5 - p))) k s) =
    c.in_ok-drain_receiver.ensures.list
    ∙ ap (λ ms. ms ++ in_poll_order n (λ s p. left_in (pass_at rows' (5 - p)) k s)) c.new-list.ensures.items
    ∙ in_poll_order-same n (λ s p. left_in (pass_at rows' (5 - p)) k s) (λ s p. left_in (pass_at rows (k * 6 + (5 - p))) k s) c.requires.some
    (λ s p h low. left_in-same (pass_at rows' (5 - p)) (pass_at rows (k * 6 + (5 - p))) k s (pass_at-shifted (5 - p) k i.shifted here) (pass_at-shifted (5 - p) s i.shifted h)) in
    record {
      count = rw c.in_ok-push.ensures.items (length_push c.loop-receiver.all.items c.drain_receiver.new.list ∙ ap (λ m. m + 1) i.count);
      shifted = subst (λ m. Shifted m n rows (queues_of c.drain_receiver.new.rows.items)) more (Shifted-step i.shifted c.in_ok-drain_receiver.ensures.shifted);
      each = rw (c.in_ok-push.ensures.items, map_push) (slice_get-push (map (λ x. x.items) c.loop-receiver.all.items) c.drain_receiver.new.list.items (λ r. in_poll_order n (λ s p. left_in (pass_at rows (r * 6 + (5 - p))) r s)) k (length-map c.loop-receiver.all.items (λ x. x.items) ∙ i.count) i.each new);
      settled = λ s r b h l low. elim (cases_eq r k) [
        | inl same ↦ subst (λ j. IsSettled (pass_at rows (j * 6 + b)) j s) (sym same)
            (IsSettled-same (pass_at rows' b) (pass_at rows (k * 6 + b)) k s (pass_at-shifted b k i.shifted here) (pass_at-shifted b s i.shifted h) (c.in_ok-drain_receiver.ensures.settled s b h low))
        | inr other ↦ i.settled s r b h (omega (arith, l, other)) low
      ];
    }
