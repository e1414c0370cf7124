-- Runs of trails, cut into groups that go on alike.
use Rattle.std.proofs.Common.{◌≡◌, ◌∙◌, ℕ, zero, suc, ◌+◌, ◌-◌, ◌<◌, ◌≤◌, Bool, true, false, cond, nat_eq, List, [], ◌∷◌, ◌++◌, Option, Some, None, length, map, take, take_all, get_or, append-nil, refl, sym, ap, arith}
use Rattle.std.specs.Prelude.{option_and_then, unwrap_or, slice_get}
use Rattle.std.specs.List.{range_with_len, flat_map}
use Rattle.std.proofs.lemmas.List.{take_more}
use Rattle.std.proofs.lemmas.Grind.{flat_map-append}
use Rattle.std.proofs.lemmas.Option.{none-some, slice_get_past}
use Rattle.std.proofs.lemmas.Bool.Decides.{nat_tests}
use Rattle.room_kinds.specs.declared.numbers.ControllerId.{ControllerId}
use Rattle.wiring_slots.specs.declared.slot_tree.names.MappingPlan.{MappingPlan}
use Rattle.wiring_slots.specs.declared.slot_tree.names.StepPlan.{StepPlan}
use Rattle.wiring_slots.specs.declared.slot_tree.owners.Trail.{Trail}
use Rattle.wiring_slots.specs.declared.slot_tree.runs.Run.{Run}
use Rattle.wiring_slots.specs.slot_tree.Owners.{next_step, mapped_at, owner_at}
use Rattle.wiring_slots.specs.slot_tree.Runs.{trail_at, trails_between, trails_of}
use Rattle.wiring_slots.specs.slot_tree.MappingOrders.{EndsAlike, IsGroup}

-- ---- lists of runs
pub run_pushed : (rs : List Run) (r : Run) → flat_map trails_of (rs ++ r ∷ []) ≡ flat_map trails_of rs ++ trails_of r
run_pushed rs r = flat_map-append trails_of rs (r ∷ []) ∙ ap (λ (ts : List Trail). flat_map trails_of rs ++ ts) (append-nil (trails_of r))

pub run_taken : (rs : List Run) (i : ℕ) (r d : Run) → i < length rs → r ≡ get_or rs i d → flat_map trails_of (take i rs) ++ trails_of r ≡ flat_map trails_of (take (i + 1) rs)
run_taken rs i r d lt is =
    sym (run_pushed (take i rs) r)
    ∙ ap (λ (qs : List Run). flat_map trails_of qs) (ap (λ (q : Run). take i rs ++ q ∷ []) is ∙ sym (take_more rs i d lt))

pub all_taken : (rs : List Run) (i : ℕ) → length rs ≤ i → flat_map trails_of (take i rs) ≡ flat_map trails_of rs
all_taken rs i le = ap (λ (qs : List Run). flat_map trails_of qs) (take_all i rs le)

-- ---- cutting a run
counted_apart : {X : Type 0} (f : ℕ → X) (first a b c k : ℕ) → c ≡ a + b → k ≡ first + a → map f (range_with_len first c) ≡ map f (range_with_len first a) ++ map f (range_with_len k b)
counted_apart {X} f first zero b c k size on =
    let all : c ≡ b = omega arith in
    let same : first ≡ k = omega arith in
    ap (λ n. map f (range_with_len first n)) all ∙ ap (λ j. map f (range_with_len j b)) same
counted_apart {X} f first (suc a) b zero k size on = absurd (omega arith)
counted_apart {X} f first (suc a) b (suc c) k size on = ap (λ (xs : List X). f first ∷ xs) (counted_apart f (first + 1) a b c k (omega arith) (omega arith))

pub cut_at : (steps first middle end : ℕ) → first ≤ middle → middle ≤ end → trails_between steps first end ≡ trails_between steps first middle ++ trails_between steps middle end
cut_at steps first middle end low high = counted_apart (trail_at steps) first (middle - first) (end - middle) (end - first) middle (omega arith) (omega arith)

pub none_between : (steps first end : ℕ) → end ≤ first → trails_between steps first end ≡ []
none_between steps first end le = let none : end - first ≡ 0 = omega arith in ap (λ n. map (trail_at steps) (range_with_len first n)) none

pub first_between : (steps first end : ℕ) → first < end → trails_between steps first end ≡ trail_at steps first ∷ trails_between steps (first + 1) end
first_between steps first end lt =
    let size : end - first ≡ suc (end - (first + 1)) = omega arith in
    ap (λ n. map (trail_at steps) (range_with_len first n)) size

-- ---- groups
module _ (mappings : List MappingPlan) where
  next_not_mapped : (t : Trail) (s : StepPlan) → next_step mappings t ≡ Some s → mapped_at mappings t ≡ None
  next_not_mapped t s e = go (slice_get mappings t.mapping) e
    where
      go : (o : Option MappingPlan) → option_and_then (λ (m : MappingPlan). slice_get m.steps t.steps) o ≡ Some s
          → option_and_then (λ (m : MappingPlan). cond (nat_eq t.steps (length m.steps)) (Some m.controller) None) o ≡ None
      go None e = refl
      go (Some m) e = inside (nat_eq t.steps (length m.steps)) refl
        where
          inside : (b : Bool) → nat_eq t.steps (length m.steps) ≡ b → cond b (Some m.controller) None ≡ None
          inside true whole = let past : length m.steps ≤ t.steps = grind (arith, nat_tests) in absurd (none-some s (sym (slice_get_past m.steps t.steps past) ∙ e))
          inside false more = refl

  pub group_is : (run : Run) (first end top : ℕ) (o : Option StepPlan) → next_step mappings (trail_at run.steps first) ≡ o → (EndsAlike mappings first end) → (o ≡ None → end ≡ 0) → first < run.end
      → ((j : ℕ) → first < j → j < top → j < end) → first < top → top ≤ run.end
      → IsGroup mappings run first (record { first = first; end = top; steps = run.steps })
  group_is run first end top o next ends none lt upto more within = record {
    begins = refl;
    steps = refl;
    more = more;
    within = within;
    alike = λ j low high. either j (nat_eq j first) refl low high;
    one = λ j low high. alone j low high o next none;
  }
    where
      some : (j : ℕ) (s : StepPlan) → first < j → j < top → next_step mappings (trail_at run.steps first) ≡ Some s → next_step mappings (trail_at run.steps j) ≡ Some s
      some j s low high e = ends j run.steps s (omega arith) (upto j low high) e

      alone : (j : ℕ) → first < j → j < top → (o : Option StepPlan) → next_step mappings (trail_at run.steps first) ≡ o → (o ≡ None → end ≡ 0) → mapped_at mappings (trail_at run.steps j) ≡ None
      alone j low high None e none = let zero_end = none refl in let inside = upto j low high in absurd (omega (arith, zero_end, inside))
      alone j low high (Some s) e none = next_not_mapped (trail_at run.steps j) s (some j s low high e)

      same : (j : ℕ) → first < j → j < top → (o : Option StepPlan) → next_step mappings (trail_at run.steps first) ≡ o → (o ≡ None → end ≡ 0)
          → next_step mappings (trail_at run.steps j) ≡ next_step mappings (trail_at run.steps first)
      same j low high None e none = let zero_end = none refl in let inside = upto j low high in absurd (omega (arith, zero_end, inside))
      same j low high (Some s) e none = some j s low high e ∙ sym e

      either : (j : ℕ) (b : Bool) → nat_eq j first ≡ b → first ≤ j → j < top → next_step mappings (trail_at run.steps j) ≡ next_step mappings (trail_at run.steps first)
      either j true is low high = let own : j ≡ first = grind (arith, nat_tests) in ap (λ k. next_step mappings (trail_at run.steps k)) own
      either j false is low high = let behind : first < j = grind (arith, nat_tests) in same j behind high o next none

  -- ---- owners
  owner_apart : (owner : ControllerId) (ts us : List Trail) → owner_at mappings owner (ts ++ us) ≡ owner_at mappings (owner_at mappings owner ts) us
  owner_apart owner [] us = refl
  owner_apart owner (t ∷ ts) us = owner_apart (unwrap_or (mapped_at mappings t) owner) ts us

  owner_stays : (owner : ControllerId) (steps first n : ℕ) → ((j : ℕ) → first ≤ j → j < first + n → mapped_at mappings (trail_at steps j) ≡ None)
      → owner_at mappings owner (map (trail_at steps) (range_with_len first n)) ≡ owner
  owner_stays owner steps first zero none = refl
  owner_stays owner steps first (suc n) none =
      ap (λ (o : Option ControllerId). owner_at mappings (unwrap_or o owner) (map (trail_at steps) (range_with_len (first + 1) n))) (none first (omega arith) (omega arith))
      ∙ owner_stays owner steps (first + 1) n (λ j low high. none j (omega arith) (omega arith))

  pub owner_of_group : (run g : Run) (first : ℕ) (owner owner' : ControllerId) → IsGroup mappings run first g → owner' ≡ unwrap_or (mapped_at mappings (trail_at run.steps first)) owner
      → owner_at mappings owner' (trails_between run.steps g.end run.end) ≡ owner_at mappings owner (trails_between run.steps first run.end)
  owner_of_group run g first owner owner' h is =
      let steps = run.steps in
      let more = h.more in
      let within = h.within in
      let others = trails_between steps (first + 1) g.end in
      let rest = trails_between steps g.end run.end in
      let size : first + 1 + (g.end - (first + 1)) ≡ g.end = omega (arith, more) in
      let stays : owner_at mappings owner' others ≡ owner' =
      owner_stays owner' steps (first + 1) (g.end - (first + 1)) (λ j low high. h.one j (omega arith) (omega (arith, size, high)))
      in
      let cut : trails_between steps first run.end ≡ trail_at steps first ∷ (others ++ rest) =
      first_between steps first run.end (omega (arith, more, within))
      ∙ ap (λ (ts : List Trail). trail_at steps first ∷ ts) (cut_at steps (first + 1) g.end run.end (omega (arith, more)) (omega (arith, within)))
      in
      sym (
      ap (λ (ts : List Trail). owner_at mappings owner ts) cut
      ∙ ap (λ (o : ControllerId). owner_at mappings o (others ++ rest)) (sym is)
      ∙ owner_apart owner' others rest
      ∙ ap (λ (o : ControllerId). owner_at mappings o rest) stays
      )

  pub owner_of_run : (owner : ControllerId) (rs : List Run) (i : ℕ) (r d : Run) (whole : ControllerId) → i < length rs → r ≡ get_or rs i d → owner ≡ owner_at mappings whole (flat_map trails_of (take i rs))
      → owner_at mappings owner (trails_of r) ≡ owner_at mappings whole (flat_map trails_of (take (i + 1) rs))
  owner_of_run owner rs i r d whole lt is so_far =
      ap (λ (o : ControllerId). owner_at mappings o (trails_of r)) so_far
      ∙ sym (owner_apart whole (flat_map trails_of (take i rs)) (trails_of r))
      ∙ ap (λ (ts : List Trail). owner_at mappings whole ts) (run_taken rs i r d lt is)
