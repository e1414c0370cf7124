-- Placed slots with the paths of their numbers.
use Rattle.std.proofs.Common.{◌≡◌, ◌∙◌, ℕ, ◌+◌, ◌<◌, ◌≤◌, List, [], ◌∷◌, ◌++◌, length, get_or, drop, append_assoc, append-nil, refl, sym, ap, arith, Some}
use Rattle.std.specs.Prelude.{slice_get}
use Rattle.std.proofs.lemmas.List.{drop_more, drop_all}
use Rattle.std.proofs.lemmas.Option.{get_or_from_slice_get, slice_get_within}
use Rattle.room_wiring.specs.declared.slot.Slot.{Slot}
use Rattle.wiring_slots.specs.declared.slot_tree.placed_slots.BareSlot.{BareSlot}
use Rattle.wiring_slots.specs.slot_tree.PlacedSlots.{with_path, with_paths}

-- one more path, and one more slot
pub one_placed : (ps : List (List ℕ)) (bs : List BareSlot) (p : List ℕ) (b : BareSlot) → length bs ≡ length ps → with_paths (ps ++ p ∷ []) (bs ++ b ∷ []) ≡ with_paths ps bs ++ with_path p b ∷ []
one_placed [] [] p b same = refl
one_placed [] (c ∷ cs) p b same = absurd (grind arith)
one_placed (q ∷ qs) [] p b same = absurd (grind arith)
one_placed (q ∷ qs) (c ∷ cs) p b same = ap (λ (ss : List Slot). with_path q c ∷ ss) (one_placed qs cs p b (omega (arith, same)))

pub count_placed : (ps : List (List ℕ)) (bs : List BareSlot) → length bs ≡ length ps → length (with_paths ps bs) ≡ length bs
count_placed [] [] same = refl
count_placed [] (c ∷ cs) same = absurd (grind arith)
count_placed (q ∷ qs) [] same = absurd (grind arith)
count_placed (q ∷ qs) (c ∷ cs) same = let rest = count_placed qs cs (omega (arith, same)) in omega (arith, rest)

no_slots : (ps : List (List ℕ)) → with_paths ps [] ≡ []
no_slots [] = refl
no_slots (p ∷ ps) = refl

-- ---- the loop that gives each slot its path
module _ (ps : List (List ℕ)) (bs : List BareSlot) (i : ℕ) (now all : List Slot) (so_far : now ++ with_paths (drop i ps) (drop i bs) ≡ all) where
  module _ (p : List ℕ) (d : BareSlot) (path : slice_get ps i ≡ Some p) (within : i < length bs) where
    abbrev rest : List Slot
    rest = with_paths (drop (i + 1) ps) (drop (i + 1) bs)

    next : with_paths (drop i ps) (drop i bs) ≡ with_path p (get_or bs i d) ∷ rest
    next =
        ap (λ (qs : List (List ℕ)). with_paths qs (drop i bs)) (drop_more ps i p (slice_get_within ps i p path))
        ∙ ap (λ (q : List ℕ). with_paths (q ∷ drop (i + 1) ps) (drop i bs)) (get_or_from_slice_get ps i p p path)
        ∙ ap (λ (cs : List BareSlot). with_paths (p ∷ drop (i + 1) ps) cs) (drop_more bs i d within)

    pub path_given : (new : List Slot) (s : Slot) → s ≡ with_path p (get_or bs i d) → new ≡ now ++ s ∷ [] → new ++ rest ≡ all
    path_given new s is added =
        ap (λ (ss : List Slot). ss ++ rest) (added ∙ ap (λ (t : Slot). now ++ t ∷ []) is)
        ∙ append_assoc now (with_path p (get_or bs i d) ∷ []) rest
        ∙ ap (λ (ss : List Slot). now ++ ss) (sym next)
        ∙ so_far

  pub all_given : length bs ≤ i → now ≡ all
  all_given end =
      let over : with_paths (drop i ps) (drop i bs) ≡ [] = ap (λ (cs : List BareSlot). with_paths (drop i ps) cs) (drop_all i bs end) ∙ no_slots (drop i ps) in
      sym (append-nil now) ∙ ap (λ (ss : List Slot). now ++ ss) (sym over) ∙ so_far
