use Rattle.std.proofs.Common.{ℕ, ◌≡◌, ◌+◌, ◌-◌, ◌<◌, ◌++◌, inl, inr, sym, ap, subst, ◌∙◌, arith}
use Rattle.std.proofs.lemmas.Bool.{cases_eq}
use Rattle.mail_core.specs.SetUp.{priorities, in_poll_order}
use Rattle.mail_core.proofs.DrainLemmas.{at_priority-same, priorities-push}
use Rattle.mail_seg.specs.Left.{queues_of, pass_at, left_in, IsSettled}
use Rattle.mail_seg.proofs.CloseLemmas.{Shifted-step, Shifted-fronts, pass_at-shifted, IsBox-same, left_in-same, IsSettled-same}
use Rattle.mail_seg.proofs.close.drain_receiver.Goals as goal

pub drain_box-requires-clause-is_box : goal.drain_box-requires-clause-is_box
drain_box-requires-clause-is_box g c =
    let i = c.loop-b.invariant in
    let k = c.loop-b._b in
    let rows = queues_of c.args.rows.now.items in
    let same_place : k + 0 ≡ k = omega arith in
    IsBox-same {f = pass_at rows k} {g = pass_at (queues_of c.loop-b.rows.items) 0} (λ s h. sym (pass_at-shifted 0 s i.shifted h ∙ ap (λ j. pass_at rows j s) same_place)) (c.requires.boxes k c.loop-b-test.true)

pub loop-b-preserved : goal.loop-b-preserved
loop-b-preserved g c =
    let n = c.args.parties in
    let r = c.args.receiver in
    let i = c.loop-b.invariant in
    let k = c.loop-b._b in
    let low : k < 6 = c.loop-b-test.true in
    let rows = queues_of c.args.rows.now.items in
    let f = pass_at (queues_of c.loop-b.rows.items) 0 in
    let same_place : k + 0 ≡ k = omega arith in
    let back : k ≡ 5 - (5 - k) = omega arith in
    let some : 0 < n = omega (arith, c.requires.receiver) in
    let here = λ (s : ℕ) (h : s < n). pass_at-shifted 0 s i.shifted h ∙ ap (λ j. pass_at rows j s) same_place in
    let there = λ (s : ℕ) (h : s < n). here s h ∙ ap (λ j. pass_at rows j s) back in
    record {
      shifted = Shifted-step i.shifted (Shifted-fronts i.shifted.count c.in_ok-drain_box.ensures.fronts);
      list = priorities-push n (λ s p. left_in (pass_at rows (5 - p)) r s) k _ _ _ _ c.in_ok-drain_box.ensures.list i.list
          (at_priority-same n (left_in f r) (λ s. left_in (pass_at rows (5 - (5 - k))) r s) some (λ s l. left_in-same f (pass_at rows (5 - (5 - k))) r s (there r c.requires.receiver) (there s l)));
      settled = λ s b h l. elim (cases_eq b k) [
        | inl same ↦ subst (λ j. IsSettled (pass_at rows j) r s) (sym same) (IsSettled-same f (pass_at rows k) r s (here r c.requires.receiver) (here s h) (c.in_ok-drain_box.ensures.settled s h))
        | inr other ↦ i.settled s b h (omega (arith, l, other))
      ];
    }

pub returns-clause-list : goal.returns-clause-list
unfolding in_poll_order
returns-clause-list g c =
    let all : c.loop-b._b ≡ 6 = omega arith in
    subst (λ k. c.loop-b.list.items ≡ c.args.list.now.items ++ priorities c.args.parties (λ s p. left_in (pass_at (queues_of c.args.rows.now.items) (5 - p)) c.args.receiver s) k) all c.loop-b.invariant.list
