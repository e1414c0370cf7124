-- Each step keeps the rule of a lane.
use Rattle.std.proofs.Common.{◌≡◌, ◌≢◌, ℕ, zero, suc, true, false, true≢false, List, [], ◌∷◌, ◌++◌, length, set, sym, refl, ap, ◌∙◌, subst, ⊎_elim, append_assoc}
use Rattle.std.proofs.lemmas.List.{append-nil}
use mathlib.Core.Option.{some, some-ne-none}
use lib.ListN.{get_elem?}
use Rattle.crossbeam_deque.specs.Tasks.{Pushes, Takes, Finds, Forks, Merges, Learns}
use Rattle.crossbeam_deque.proofs.Lists.{at_set, at_snoc}
use Rattle.room_kinds.specs.declared.message.Msg.{Msg}
use Rattle.mail_lanes.specs.declared.rule.LaneView.{LaneView}
use Rattle.mail_lanes.specs.Rule.{lane_view, Fits, InOrder}

at_end : (l : List LaneView) (a b : LaneView) (j : ℕ) → get_elem? l j ≢ some b → get_elem? (l ++ a ∷ []) j ≡ some b → j ≡ length l
at_end [] a b zero n e = refl
at_end [] a b (suc j) n e = absurd (some-ne-none b (sym e))
at_end (x ∷ xs) a b zero n e = absurd (n e)
at_end (x ∷ xs) a b (suc j) n e = ap suc (at_end xs a b j n e)

abbrev All : (ℕ → LaneView → Type 0) → List LaneView → Type 0
All F views = (port : ℕ) (v : LaneView) → get_elem? views port ≡ some v → F port v

all_set : (F : ℕ → LaneView → Type 0) (views : List LaneView) (port : ℕ) (w : LaneView) → F port w → ((j : ℕ) (u : LaneView) → j ≢ port → get_elem? views j ≡ some u → F j u) → All F (set views port w)
all_set F views port w mine others j u e = ⊎_elim (λ (x : (j ≡ port) × (w ≡ u)). subst (λ (y : ℕ × LaneView). F y.0 y.1) (λ i. (sym x.0 i, x.1 i)) mine)
    (λ (x : (j ≢ port) × (get_elem? views j ≡ some u)). others j u x.0 x.1) (at_set views port j w u e)

-- the rule at the start
pub begins : InOrder [] (lane_view true true [] [] ∷ [])
begins = (0, 0, [], [], refl, all_set (Fits 0 0 [] []) (lane_view true true [] [] ∷ []) 0 (lane_view true true [] []) ((λ _. (refl, refl)), λ _. (refl, refl)) (λ j u other e. absurd (other (at_end [] _ u j (λ x. some-ne-none u (sym x)) e))))

pub sends : (port : ℕ) (v : LaneView) (xs : List Msg) → v.pushes ≡ true → Pushes InOrder port v xs (λ w. w ≡ lane_view v.pushes v.takes (v.sent ++ xs) v.got)
sends port v xs may items views h at = let w : LaneView = lane_view v.pushes v.takes (v.sent ++ xs) v.got in let mine = h.5 port v at in let sent = h.2 ++ xs in (
  w,
  (
    h.0,
    h.1,
    sent,
    h.3,
    ap (λ l. l ++ xs) h.4 ∙ append_assoc h.3 items xs,
    all_set (Fits h.0 h.1 sent h.3) views port w ((λ _. ((mine.0 may).0, ap (λ l. l ++ xs) (mine.0 may).1)), mine.1)
        (λ j u other e. ((λ p. absurd (other (((h.5 j u e).0 p).0 ∙ sym (mine.0 may).0))), (h.5 j u e).1)),
  ),
  refl,
)

pub gets : (port : ℕ) (v : LaneView) → v.takes ≡ true → Takes InOrder port v 1 (λ xs w. w ≡ lane_view v.pushes v.takes v.sent (v.got ++ xs))
gets port v may xs items views _ _ h at = let w : LaneView = lane_view v.pushes v.takes v.sent (v.got ++ xs) in let mine = h.5 port v at in let got = h.3 ++ xs in (
  w,
  (
    h.0,
    h.1,
    h.2,
    got,
    h.4 ∙ sym (append_assoc h.3 xs items),
    all_set (Fits h.0 h.1 h.2 got) views port w (mine.0, λ _. ((mine.1 may).0, ap (λ l. l ++ xs) (mine.1 may).1))
        (λ j u other e. ((h.5 j u e).0, λ p. absurd (other (((h.5 j u e).1 p).0 ∙ sym (mine.1 may).0)))),
  ),
  refl,
)

-- what one that alone pushes and takes knows
totals : (port : ℕ) (v : LaneView) → v.pushes ≡ true → v.takes ≡ true → Learns InOrder port v (λ items. v.sent ≡ v.got ++ items)
totals port v a b items views h at = let mine = h.5 port v at in (mine.0 a).1 ∙ h.4 ∙ ap (λ l. l ++ items) (sym (mine.1 b).1)

pub owns : (port : ℕ) (v : LaneView) → v.pushes ≡ true → v.takes ≡ true →
    Takes InOrder port v 1 (λ xs w. (w ≡ lane_view v.pushes v.takes v.sent (v.got ++ xs)) × (rest : List Msg) × (v.sent ≡ (v.got ++ xs) ++ rest))
owns port v a b xs items views least most h at =
    let base = gets port v b xs items views least most h at in
    (base.0, base.1, (base.2, items, totals port v a b (xs ++ items) views h at ∙ sym (append_assoc v.got xs items)))

pub finds : (port : ℕ) (v : LaneView) → v.pushes ≡ true → v.takes ≡ true → Finds InOrder port v (v.sent ≡ v.got)
finds port v a b views h at = totals port v a b [] views h at ∙ append-nil v.got

pub forks : (port : ℕ) (v : LaneView) → v.pushes ≡ true → v.takes ≡ true → Forks InOrder port v (lane_view true false v.sent []) (lane_view false true [] v.got)
forks port v a b items views h at = let l : LaneView = lane_view true false v.sent [] in let r : LaneView = lane_view false true [] v.got in let mine = h.5 port v at in let vs : List LaneView = set views port l in
    let Old : ℕ → LaneView → Type 0 = λ j u. (u.pushes ≡ true → (j ≡ h.0) × (u.sent ≡ h.2)) × (u.takes ≢ true) in
    let old : All Old vs = all_set Old views port l ((λ _. mine.0 a), λ p. true≢false (sym p)) (λ j u other e. ((h.5 j u e).0, λ p. other (((h.5 j u e).1 p).0 ∙ sym (mine.1 b).0))) in (
      h.0,
      length vs,
      h.2,
      h.3,
      h.4,
      λ j u e. ⊎_elim (λ x. ((old j u x).0, λ p. absurd ((old j u x).1 p)))
          (λ (is : r ≡ u). ((λ p. absurd (true≢false (sym (ap (λ (y : LaneView). y.pushes) is ∙ p)))), λ p. (at_end vs r u j (λ x. (old j u x).1 p) e, ap (λ (y : LaneView). y.got) (sym is) ∙ (mine.1 b).1))) (at_snoc vs r u j e),
    )

pub merges : (port : ℕ) (v : LaneView) (other : ℕ) (u : LaneView) → v.pushes ≡ true → u.takes ≡ true → Merges InOrder port v other u (lane_view true true v.sent u.got) (lane_view false false [] [])
merges port v other u a b items views h at two at' = let both : LaneView = lane_view true true v.sent u.got in let mine = h.5 port v at in let vs : List LaneView = set views port both in
    let was : get_elem? views other ≡ some u = ⊎_elim (λ x. absurd (two x.0)) (λ x. x.1) (at_set views port other both u at') in let theirs = (h.5 other u was).1 b in
    let Now : ℕ → LaneView → Type 0 = λ j y. j ≢ other → Fits h.0 port h.2 h.3 j y in
    let now : All Now vs = all_set Now views port both (λ _. ((λ _. mine.0 a), λ _. (refl, theirs.1))) (λ j y _ e apart. ((h.5 j y e).0, λ p. absurd (apart (((h.5 j y e).1 p).0 ∙ sym theirs.0)))) in
    (h.0, port, h.2, h.3, h.4, all_set (Fits h.0 port h.2 h.3) vs other (lane_view false false [] []) ((λ p. absurd (true≢false (sym p))), λ p. absurd (true≢false (sym p))) (λ j y apart e. now j y e apart))
