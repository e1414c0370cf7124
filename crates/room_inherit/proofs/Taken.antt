-- The flat classes, taken in an order in which bases come first.
use Rattle.std.proofs.Common.{◌≡◌, inl, inr, ℕ, zero, suc, ◌+◌, ◌<◌, ◌≤◌, Bool, true, false, nat_eq, List, [], ◌∷◌, length, map, Option, Some, None, refl, sym, ap, ◌∙◌, subst, arith}
use Rattle.std.specs.Prelude.{option_map, slice_get, slice_set, slice_index, if◌then◌else◌}
use Rattle.std.specs.List.{list_all}
use Rattle.std.specs.Option.{option_map_or, option_and_then}
use Rattle.std.proofs.lemmas.Bool.{cases_eq, cases_lt, eqb-true}
use Rattle.number_graphs.specs.class_containment.Containment.{IsContainmentOrder}
use Rattle.room_ast.specs.Trees.{ClassTree, ASystem, ASubsystem, AnActor, AProtocol, AData, ActorTree}
use Rattle.room_ast.specs.model_parts.Classes.{as_actor, class_name}
use Rattle.room_inherit.specs.Filling.{there_at, base_there, is_vacant, put_new, taken_over, with_actor, with_class, left_beside, FillingTree, AllTaken, OneUnknown, TooLarge, filled_on, filled, none_taken, replaced_by, replaced}
use Rattle.room_inherit.specs.Flat.{base_number, actor_at, over_base, flat_actor, flat_class}
use Rattle.derived_classes.specs.Derived.{refines_known}
use Rattle.room_inherit.specs.Rules.{extended, of_actor, names_known}
use Rattle.derived_classes.proofs.Lists.{some_same, got_past, none_past}
use Rattle.room_inherit.proofs.Places.{actor_is, actor_within, set_length, there_same, there_other, unfolds, Way, Taken, Next, no_actor, one_actor, begun, base_is, passes_is, IsRest, whole_rest, next_rest, rest_within, rest_first, one_fails, place_of, all_passed}

-- the flat class of each class, which is there from then on
abbrev flats_way : List ClassTree → Way ActorTree
flats_way cs = record { value = flat_actor cs; tells = refines_known; wanted = λ k j. true }

-- the flat class over a base, once its refinements are known
over_known : (a : ActorTree) (base : Option ActorTree) → taken_over a base ≡ (if option_map_or (λ f. refines_known f a) base true then Some (over_base a base) else None)
over_known a None = refl
over_known a (Some base) = refl

module _ (cs : List ClassTree) (order : List ℕ) (is : IsContainmentOrder (map (extended cs) cs) order) where
  -- ---- one more class

  put_next : (k i : ℕ) (a v : ActorTree) (flats : List (Option ActorTree)) → Taken (flats_way cs) cs order k flats → actor_at cs i ≡ Some a → v ≡ flat_actor cs a → Next (flats_way cs) cs k i v flats (put_new flats i v)
  unfolding put_new
  put_next k i a v flats taken here value = tested (is_vacant (slice_get flats i)) refl
    where
      within : i < length flats
      within = omega (arith, taken.sized, actor_within cs i a here)

      -- a number that isn't vacant has its flat class already
      there : (o : Option (Option ActorTree)) → slice_get flats i ≡ o → is_vacant o ≡ false → there_at flats i ≡ Some v
      there None e full = absurd (omega (arith, within, none_past flats i e))
      there (Some None) e full = cc
      there (Some (Some f)) e full =
          let got : there_at flats i ≡ Some f = ap (option_and_then (λ (x : Option ActorTree). x)) e in
          got ∙ sym (taken.right i f got) ∙ ap (option_map (flat_actor cs)) here ∙ ap Some (sym value)

      tested : (b : Bool) → is_vacant (slice_get flats i) ≡ b → Next (flats_way cs) cs k i v flats (if b then slice_set flats i (Some v) else flats)
      tested true e = record {
        sized = set_length flats i (Some v);
        others = λ j ne want. there_other flats i j (Some v) ne;
        itself = λ want. there_same flats i (Some v) within;
        only = λ j x got. elim (cases_eq j i) [
          | inl same ↦ inr (same, some_same x v (sym got ∙ ap (there_at (slice_set flats i (Some v))) same ∙ there_same flats i (Some v) within))
          | inr ne ↦ inl (sym (there_other flats i j (Some v) ne) ∙ got)
        ];
      }
      tested false e = record {
        sized = refl;
        others = λ j ne want. refl;
        itself = λ want. there (slice_get flats i) refl e;
        only = λ j x got. inl got;
      }

  abbrev Unknown : Type 0
  Unknown = (j : ℕ) × ((a : ActorTree) × ((actor_at cs j ≡ Some a) × (names_known cs a ≡ false)))

  abbrev StepOutcome : ℕ → Option (List (Option ActorTree)) → Type 0
  StepOutcome k (Some flats) = Taken (flats_way cs) cs order k flats
  StepOutcome k None = Unknown

  always : (k i b : ℕ) (a : ActorTree) → k < length order → slice_index order k ≡ i → actor_at cs i ≡ Some a → base_number cs a ≡ Some b → b < length cs → true ≡ true
  always k i b a lt at here above within = refl

  step : (k i : ℕ) (flats : List (Option ActorTree)) → Taken (flats_way cs) cs order k flats → k < length order → slice_index order k ≡ i → StepOutcome (k + 1) (with_class (map class_name cs) cs flats i)
  step k i flats taken lt at = go (actor_at cs i) refl
    where
      value : (a : ActorTree) → actor_at cs i ≡ Some a → over_base a (base_there (map class_name cs) flats a) ≡ flat_actor cs a
      value a here = ap (over_base a) (base_is (flats_way cs) cs order is always k i a flats taken lt at here) ∙ sym (unfolds cs order is k i a lt at here)

      tested : (a : ActorTree) → actor_at cs i ≡ Some a → (t : Bool) → names_known cs a ≡ t → StepOutcome (k + 1) (option_map (put_new flats i) (if t then Some (over_base a (base_there (map class_name cs) flats a)) else None))
      tested a here true known =
          let v = over_base a (base_there (map class_name cs) flats a) in
          one_actor (flats_way cs) cs (λ m j want. refl) order k i a v flats (put_new flats i v) taken at here known (value a here) (put_next k i a v flats taken here (value a here))
      tested a here false known = (i, (a, (here, known)))

      go : (o : Option ActorTree) → actor_at cs i ≡ o → StepOutcome (k + 1) (with_actor (map class_name cs) flats i o)
      go None here = no_actor (flats_way cs) cs (λ m j want. refl) order k i flats taken at here
      go (Some a) here =
          let P : Option ActorTree → Type 0 = λ o. StepOutcome (k + 1) (option_map (put_new flats i) o) in
          subst P (sym (over_known a (base_there (map class_name cs) flats a) ∙ ap (λ t. if t then Some (over_base a (base_there (map class_name cs) flats a)) else None) (passes_is (flats_way cs) cs order is always k i a flats taken lt at here))) (tested a here (names_known cs a) refl)

  -- ---- all of them

  abbrev Outcome : FillingTree → Type 0
  Outcome (AllTaken flats) = (k : ℕ) × ((length order ≤ k) × Taken (flats_way cs) cs order k flats)
  Outcome OneUnknown = Unknown
  Outcome TooLarge = (k : ℕ) × ((flats : List (Option ActorTree)) × (Taken (flats_way cs) cs order k flats × (left_beside flats ≡ 0)))

  on_step : (next : List (Option ActorTree) → FillingTree) (k : ℕ) (o : Option (List (Option ActorTree))) → StepOutcome k o → ((flats : List (Option ActorTree)) → Taken (flats_way cs) cs order k flats → Outcome (next flats)) → Outcome (filled_on next o)
  on_step next k None unknown goes = unknown
  on_step next k (Some flats) taken goes = tested (nat_eq (left_beside flats) 0) refl
    where
      tested : (b : Bool) → nat_eq (left_beside flats) 0 ≡ b → Outcome (if b then TooLarge else next flats)
      tested true e = (k, (flats, (taken, eqb-true (left_beside flats) 0 e)))
      tested false e = goes flats taken

  fills : (rest : List ℕ) (k : ℕ) (flats : List (Option ActorTree)) → IsRest order k rest → Taken (flats_way cs) cs order k flats → Outcome (filled (map class_name cs) cs rest flats)
  fills [] k flats h taken = (k, (omega (arith, h.sized), taken))
  fills (i ∷ rest) k flats h taken =
      on_step (filled (map class_name cs) cs rest) (k + 1) (with_class (map class_name cs) cs flats i) (step k i flats taken (rest_within order k i rest h) (rest_first order k i rest h)) (λ more good. fills rest (k + 1) more (next_rest order k i rest h) good)

  -- ---- what that says of the model

  there_all : (flats : List (Option ActorTree)) (k : ℕ) → length order ≤ k → Taken (flats_way cs) cs order k flats → (i : ℕ) → there_at flats i ≡ option_map (flat_actor cs) (actor_at cs i)
  there_all flats k le taken i =
      elim (cases_lt i (length cs)) [
        | inl lt ↦ let p = place_of (flats_way cs) cs order is i lt in taken.there p.0 i (omega (arith, p.1, le)) p.2 refl
        | inr past ↦
            ap (option_and_then (λ (f : Option ActorTree). f)) (got_past flats i (omega (arith, past, taken.sized)))
            ∙ sym (ap (λ o. option_map (flat_actor cs) (option_and_then as_actor o)) (got_past cs i past))
      ]

replaces : (cs : List ClassTree) (c : ClassTree) (f : Option ActorTree) → f ≡ option_map (flat_actor cs) (as_actor c) → replaced_by c f ≡ flat_class cs c
replaces cs (ASystem s) f e = ap (replaced_by (ASystem s)) e
replaces cs (ASubsystem s) f e = ap (replaced_by (ASubsystem s)) e
replaces cs (AnActor a) f e = ap (replaced_by (AnActor a)) e
replaces cs (AProtocol p) f e = ap (replaced_by (AProtocol p)) e
replaces cs (AData d) f e = ap (replaced_by (AData d)) e

replaces_all : (cs xs : List ClassTree) (fs : List (Option ActorTree)) → length fs ≡ length xs → ((i : ℕ) → there_at fs i ≡ option_map (flat_actor cs) (actor_at xs i)) → replaced xs fs ≡ map (flat_class cs) xs
replaces_all cs [] fs sized there = refl
replaces_all cs (x ∷ xs) [] sized there = absurd (omega (arith, sized))
replaces_all cs (x ∷ xs) (f ∷ fs) sized there =
    ap (λ c. c ∷ replaced xs fs) (replaces cs x f (there zero)) ∙ ap (λ ys. flat_class cs x ∷ ys) (replaces_all cs xs fs (omega (arith, sized)) (λ i. there (suc i)))

-- Flat classes that stand in their places, and leave nothing beside them.
pub record AreTooLarge (cs : List ClassTree) (flats : List (Option ActorTree)) : Type 0 where
  pub sized : length flats ≡ length cs
  pub right : (i : ℕ) (f : ActorTree) → there_at flats i ≡ Some f → option_map (flat_actor cs) (actor_at cs i) ≡ Some f
  pub none_left : left_beside flats ≡ 0

-- What the flat classes say of the rule on what refinements name, and of the model.
abbrev pub FillsRightly : List ClassTree → FillingTree → Type 0
FillsRightly cs (AllTaken fs) = (list_all (of_actor (names_known cs)) cs ≡ true) × (replaced cs fs ≡ map (flat_class cs) cs)
FillsRightly cs OneUnknown = list_all (of_actor (names_known cs)) cs ≡ false
FillsRightly cs TooLarge = (flats : List (Option ActorTree)) × AreTooLarge cs flats

pub fills_rightly : (cs : List ClassTree) (order : List ℕ) → IsContainmentOrder (map (extended cs) cs) order → FillsRightly cs (filled (map class_name cs) cs order (none_taken cs))
fills_rightly cs order is = told (filled (map class_name cs) cs order (none_taken cs)) (fills cs order is order 0 (none_taken cs) (whole_rest order) (begun (flats_way cs) cs order))
  where
    told : (f : FillingTree) → Outcome cs order is f → FillsRightly cs f
    told (AllTaken fs) (k, (le, taken)) = (all_passed (flats_way cs) cs order is fs k le taken, replaces_all cs cs fs taken.sized (there_all cs order is fs k le taken))
    told OneUnknown (j, (a, (here, unknown))) = one_fails (of_actor (names_known cs)) cs j (AnActor a) (actor_is (slice_get cs j) a here) unknown
    told TooLarge (k, (flats, (taken, none))) = (flats, record { sized = taken.sized; right = taken.right; none_left = none })
