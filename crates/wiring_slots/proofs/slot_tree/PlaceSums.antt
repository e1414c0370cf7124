-- Sums up to a cap tell whether there are too many places.
use Rattle.std.proofs.Common.{◌≡◌, ◌∙◌, ℕ, zero, suc, ◌+◌, min, eqb, ltb, List, [], ◌∷◌, map, refl, ap, arith}
use Rattle.std.specs.Prelude.{slice_get}
use Rattle.std.specs.List.{sum_by}
use Rattle.std.specs.Option.{option_map_or}
use Rattle.std.proofs.lemmas.Bool.Decides.{nat_tests}
use Rattle.std.proofs.lemmas.List.Sums.{sum_by-cons}
use Rattle.room_kinds.specs.declared.structure.ReferenceKind.{ReferenceKind}
use Rattle.room_kinds.specs.declared.structure.ReferenceKind.TheVariants as kinds
use Rattle.room_wiring.specs.declared.slot.Slot.{Slot}
use Rattle.wiring_plan.specs.declared.structure_plan.plan.ClassPlan.{ClassPlan}
use Rattle.wiring_plan.specs.declared.structure_plan.plan.StructurePlan.{StructurePlan}
use Rattle.wiring_slots.specs.slot_tree.Places.{class_places, slot_places, has_too_many_places}
use Rattle.wiring_slots.specs.slot_tree.Sums.{cap, counts_of, count_at, slot_count}
use Rattle.wiring_slots.specs.declared.slot_tree.places.ClassCounts.{ClassCounts}

capped_class : (kind : ReferenceKind) (c : ClassPlan) → count_at kind (counts_of c) ≡ min cap (class_places kind c)
capped_class kinds.Fixed c = refl
capped_class kinds.Optional c = refl
capped_class kinds.Imported c = refl

capped_at : (kind : ReferenceKind) (cs : List ClassPlan) (n : ℕ) → option_map_or (count_at kind) (slice_get (map counts_of cs) n) 0 ≡ min cap (option_map_or (class_places kind) (slice_get cs n) 0)
capped_at kind [] n = refl
capped_at kind (c ∷ cs) zero = capped_class kind c
capped_at kind (c ∷ cs) (suc n) = capped_at kind cs n

two : (a b x y : ℕ) → a ≡ min cap b → min cap x ≡ min cap y → min cap (a + x) ≡ min cap (b + y)
two a b x y one rest = omega (arith, one, rest)

capped_sum : (plan : StructurePlan) (slots : List Slot) → min cap (sum_by (slot_count (map counts_of plan.classes)) slots) ≡ min cap (sum_by (slot_places plan) slots)
capped_sum plan [] = refl
capped_sum plan (s ∷ ss) =
    let one = capped_at s.kind plan.classes s.class in
    let rest = capped_sum plan ss in
    rw (sum_by-cons, sum_by-cons) (two _ _ _ _ one rest)

at_cap : (n : ℕ) → eqb (min cap n) cap ≡ ltb 65536 n
at_cap n = grind (arith, nat_tests)

pub too_many_is : (plan : StructurePlan) (slots : List Slot) (counts : List ClassCounts) (places : ℕ) → counts ≡ map counts_of plan.classes → places ≡ min cap (sum_by (slot_count counts) slots) → eqb places 65537 ≡ has_too_many_places plan slots
unfolding has_too_many_places
too_many_is plan slots counts places are is =
    ap (λ k. eqb k 65537) (is ∙ ap (λ (cs : List ClassCounts). min cap (sum_by (slot_count cs) slots)) are ∙ capped_sum plan slots) ∙ at_cap (sum_by (slot_places plan) slots)
