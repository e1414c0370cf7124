-- The tables that are put together name only what they have.
use Rattle.std.proofs.Common.{◌≡◌, ◌∙◌, ℕ, zero, suc, ◌+◌, ◌<◌, ◌≤◌, Bool, true, List, [], ◌∷◌, length, Option, Some, length-append, refl, ap, arith}
use Rattle.std.specs.Prelude.{slice_get, slice_index, slice_index_or, option_and_then}
use Rattle.std.specs.List.{sum}
use Rattle.std.specs.Option.{option_map_or}
use Rattle.std.proofs.lemmas.List.Sums.{sum_by-cons}
use Rattle.room_ast.specs.Trees.{ModelTree}
use Rattle.room_wiring.specs.Consistent.{IsConsistent}
use Rattle.room_wiring.specs.Slots.{class_of}
use Rattle.room_wiring.specs.Places.{port_count}
use Rattle.room_wiring.specs.declared.slot.Partner.{Partner}
use Rattle.room_wiring.specs.declared.slot.Slot.{Slot}
use Rattle.room_wiring.specs.declared.tables.PlaceSpan.{PlaceSpan}
use Rattle.room_wiring.specs.declared.names.ClassNames.{ClassNames}
use Rattle.check_classes.specs.class_rules.Ends.{has_known_actors}
use Rattle.check_bindings.specs.structure_rules.Threads.{threads_are_few}
use Rattle.wiring_plan.specs.structure_plan.Plans.{plan_of}
use Rattle.wiring_plan.specs.declared.structure_plan.plan.ClassPlan.{ClassPlan}
use Rattle.wiring_plan.specs.declared.structure_plan.plan.PortPlan.{PortPlan}
use Rattle.wiring_plan.specs.declared.structure_plan.plan.StructurePlan.{StructurePlan}
use Rattle.wiring_slots.specs.slot_tree.Known.{IsKnownSlot}
use Rattle.wiring_plan.specs.wiring_classes.Classes.{classes_of}
use Rattle.wiring_slots.specs.model_slots.Answers.{slots_in, wired}
use Rattle.wiring_plan.proofs.port_counts.PortCounts.{ports_counted}
use Rattle.wiring_slots.proofs.wired_laws.Sound.{names_what_is}
use Rattle.wiring_places.specs.place_rules.Parts.{class_plan, no_class}
use Rattle.wiring_places.specs.place_rules.Counts.{counts_of_ports, counts_of_slots, spans_from, first_ports_from}
use Rattle.wiring_places.specs.declared.place_rules.place.LayerJoin.{LayerJoin}
use Rattle.binding_expand.specs.wiring_tables.Assembled.{counts_in, assembled, AreComplete}
use Rattle.wiring_slots.proofs.slot_tree.KnownSlots.{at_place}

some_at : {X : Type 0} (xs : List X) (i : ℕ) → i < length xs → (x : X) × (slice_get xs i ≡ Some x)
some_at [] i lt = absurd (omega arith)
some_at (x ∷ xs) zero lt = (x, refl)
some_at (x ∷ xs) (suc i) lt = some_at xs i (omega arith)

-- ---- rows of ports

module _ (plan : StructurePlan) where
  rows_count : (row : ℕ) (xs : List Slot) → length (first_ports_from plan row xs) ≡ length xs
  unfolding first_ports_from
  rows_count row [] = refl
  rows_count row (x ∷ xs) = ap suc (rows_count (row + length (class_plan plan x.class).ports) xs)

  module _ (all : List Slot) (joins : List LayerJoin) where
    ports_count : (outside inside served : ℕ → ℕ) (s : ℕ) (imported : Bool) (reference p : ℕ) (ports : List PortPlan) → length (counts_of_ports outside inside served s imported reference p ports) ≡ length ports
    unfolding counts_of_ports
    ports_count outside inside served s imported reference p [] = refl
    ports_count outside inside served s imported reference p (port ∷ ports) = ap suc (ports_count outside inside served s imported reference (p + 1) ports)

    -- a slot's ports, and then those of the others
    slot_count : (s : ℕ) (y : Slot) (ys : List Slot) → length (counts_of_slots plan all joins s (y ∷ ys)) ≡ length (class_plan plan y.class).ports + length (counts_of_slots plan all joins (s + 1) ys)
    unfolding counts_of_slots
    slot_count s y ys = length-append _ (counts_of_slots plan all joins (s + 1) ys) ∙ ap (λ (k : ℕ). k + length (counts_of_slots plan all joins (s + 1) ys)) (ports_count _ _ _ s _ _ 0 (class_plan plan y.class).ports)

    row_within : (xs : List Slot) (i s row : ℕ) (x : Slot) → slice_get xs i ≡ Some x
        → slice_index (first_ports_from plan row xs) i + length (class_plan plan x.class).ports ≤ row + length (counts_of_slots plan all joins s xs)
    unfolding first_ports_from
    row_within [] i s row x e = absurd cc
    row_within (y ∷ ys) zero s row x e =
        let is : y ≡ x = cc in
        let same = ap (λ (z : Slot). length (class_plan plan z.class).ports) is in
        let both = slot_count s y ys in
        omega (arith, same, both)
    row_within (y ∷ ys) (suc i) s row x e =
        let both = slot_count s y ys in
        let rest = row_within ys i (s + 1) (row + length (class_plan plan y.class).ports) x e in
        omega (arith, both, rest)

-- ---- spans of places

spans_count : (first : ℕ) (ns : List ℕ) → length (spans_from first ns) ≡ length ns
unfolding spans_from
spans_count first [] = refl
spans_count first (n ∷ ns) = ap suc (spans_count (first + n) ns)

span_within : (ns : List ℕ) (i first : ℕ) (span : PlaceSpan) → slice_get (spans_from first ns) i ≡ Some span → span.first + span.count ≤ first + sum ns
unfolding spans_from
span_within [] i first span e = absurd cc
span_within (n ∷ ns) zero first span e =
    let made : PlaceSpan = record { first = first; count = n } in
    let is : made ≡ span = cc in
    let start = ap (λ (s : PlaceSpan). s.first + s.count) is in
    let total = sum_by-cons (λ (k : ℕ). k) n ns in
    omega (arith, start, total)
span_within (n ∷ ns) (suc i) first span e =
    let total = sum_by-cons (λ (k : ℕ). k) n ns in
    let rest = span_within ns i (first + n) span e in
    omega (arith, total, rest)

-- ---- classes

class_ports : (cs : List ClassPlan) (n : ℕ) → option_map_or (λ (c : ClassPlan). length c.ports) (slice_get cs n) 0 ≡ length (slice_index_or cs n no_class).ports
class_ports [] n = refl
class_ports (c ∷ cs) zero = refl
class_ports (c ∷ cs) (suc n) = class_ports cs n

module _ (m : ModelTree) (joins : List LayerJoin) (partners : List Partner) (told : List (List Bool)) (known : has_known_actors m ≡ true) (few : threads_are_few m ≡ true) (limit : length (slots_in m) ≤ 4096) (complete : AreComplete (wired m) joins partners told) where
  port_count_is : (s : ℕ) (x : Slot) → slice_get (slots_in m) s ≡ Some x → port_count (assembled (wired m) joins partners told) s ≡ length (class_plan (plan_of m) x.class).ports
  unfolding port_count class_of
  port_count_is s x e =
      ap (λ (o : Option Slot). option_map_or (λ (c : ClassNames). length c.ports) (option_and_then (λ (y : Slot). slice_get (classes_of m) y.class) o) 0) e
      ∙ ports_counted m x.class ∙ class_ports (plan_of m).classes x.class

  pub assembled_consistent : IsConsistent (assembled (wired m) joins partners told)
  assembled_consistent =
      let what = names_what_is m known few in
      let rows = spans_count 0 (counts_in (wired m) joins) in
      record {
        slots_numbered = omega arith;
        controllers_numbered = what.few_controllers;
        classes_known = λ s x e. (at_place (IsKnownSlot (length (wired m).classes) (length (wired m).controllers)) (slots_in m) s x what.slots e).class;
        owners_known = λ s x e. (at_place (IsKnownSlot (length (wired m).classes) (length (wired m).controllers)) (slots_in m) s x what.slots e).owner;
        first_ports_complete = rows_count (plan_of m) 0 (slots_in m);
        ports_complete = λ s lt.
            let at = some_at (slots_in m) s lt in
            let count = port_count_is s at.0 at.1 in
            let within = row_within (plan_of m) (slots_in m) joins (slots_in m) s 0 0 at.0 at.1 in
            omega (arith, count, within, rows);
        partners_complete = λ i span e. let within = span_within (counts_in (wired m) joins) i 0 span e in omega (arith, within, complete.joined);
        told_complete = complete.answered;
        told_rows_complete = λ s row e. at_place (λ (r : List Bool). length r ≡ length (wired m).controllers) told s row complete.rows e;
      }
