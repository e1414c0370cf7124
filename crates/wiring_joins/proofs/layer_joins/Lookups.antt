-- Layer connections found by the index of a class.
use Rattle.std.proofs.Common.{◌≡◌, ◌≢◌, ℕ, ◌+◌, ◌-◌, ◌<◌, ◌^◌, ◌&&◌, Bool, true, false, List, [], ◌∷◌, ◌++◌, length, take, suc, zero, refl, sym, ap, ◌∙◌, subst, arith, Option, Some, None, nat_eq}
use Rattle.std.proofs.lemmas.List.{take_more}
use Rattle.std.specs.Prelude.{slice_get, slice_index_or, find}
use Rattle.room_wiring.specs.declared.slot.Slot.{Slot}
use Rattle.wiring_plan.specs.declared.structure_plan.plan.LayerPlan.{LayerPlan}
use Rattle.wiring_plan.specs.declared.structure_plan.plan.ClassPlan.{ClassPlan}
use Rattle.wiring_plan.specs.declared.structure_plan.plan.StructurePlan.{StructurePlan}
use Rattle.wiring_places.specs.place_rules.Parts.{no_class, class_plan, container_class, inside_of}
use Rattle.wiring_places.specs.place_rules.Layers.{fitting, fits, same_protocol, layer_protocol}
use Rattle.wiring_joins.specs.declared.layer_joins.index.LayerIndex.{LayerIndex}
use Rattle.wiring_joins.specs.layer_joins.Index.{layer_at, layer_key}
use Rattle.wiring_joins.specs.layer_joins.Indexes.{IsIndex, AreClassIndexes}

push_index : (plan : StructurePlan) (cs : List ClassPlan) (ys : List LayerIndex) (c : ClassPlan) (y : LayerIndex) → AreClassIndexes plan cs ys → IsIndex plan c y → AreClassIndexes plan (cs ++ c ∷ []) (ys ++ y ∷ [])
push_index plan [] [] c y h is = (is, tt)
push_index plan [] (z ∷ zs) c y h is = absurd h
push_index plan (d ∷ ds) [] c y h is = absurd h
push_index plan (d ∷ ds) (z ∷ zs) c y h is = (h.0, push_index plan ds zs c y h.1 is)

pub index_more : (plan : StructurePlan) (cs : List ClassPlan) (i : ℕ) (c : ClassPlan) (ys out : List LayerIndex) (y : LayerIndex) → i < length cs → c ≡ slice_index_or cs i c → AreClassIndexes plan (take i cs) ys → ((r p : ℕ) → r < 2 ^ 16 → p < 2 ^ 16 → layer_at y (layer_key r p) ≡ fitting plan c r (Some p)) → out ≡ ys ++ y ∷ []
    → AreClassIndexes plan (take (i + 1) cs) out
index_more plan cs i c ys out y lt is h found pushed =
    let more : take (i + 1) cs ≡ take i cs ++ c ∷ [] = take_more cs i c lt ∙ ap (λ x. take i cs ++ x ∷ []) (sym is) in
    let P : List ClassPlan → Type 0 = λ xs. AreClassIndexes plan xs out in
    let Q : List LayerIndex → Type 0 = λ xs. AreClassIndexes plan (take i cs ++ c ∷ []) xs in
    subst P (sym more) (subst Q (sym pushed) (push_index plan (take i cs) ys c y h (record { found = found })))

-- the index at a class's number is that of the class
pub index_there : (plan : StructurePlan) (cs : List ClassPlan) (ys : List LayerIndex) (k : ℕ) (y : LayerIndex) → AreClassIndexes plan cs ys → slice_get ys k ≡ Some y → IsIndex plan (slice_index_or cs k no_class) y
index_there plan [] [] k y h e = absurd cc
index_there plan [] (z ∷ zs) k y h e = absurd h
index_there plan (c ∷ cs) [] k y h e = absurd h
index_there plan (c ∷ cs) (z ∷ zs) zero y h e = let same : z ≡ y = cc in let P : LayerIndex → Type 0 = λ x. IsIndex plan c x in subst P same h.0
index_there plan (c ∷ cs) (z ∷ zs) (suc k) y h e = index_there plan cs zs k y h.1 e

pub index_missing : (plan : StructurePlan) (cs : List ClassPlan) (ys : List LayerIndex) (k : ℕ) → AreClassIndexes plan cs ys → slice_get ys k ≡ None → slice_index_or cs k no_class ≡ no_class
index_missing plan [] [] k h e = refl
index_missing plan [] (z ∷ zs) k h e = absurd h
index_missing plan (c ∷ cs) [] k h e = absurd h
index_missing plan (c ∷ cs) (z ∷ zs) zero h e = absurd cc
index_missing plan (c ∷ cs) (z ∷ zs) (suc k) h e = index_missing plan cs zs k h.1 e

-- no layer connection fits a port without a protocol
no_protocol : (q : Option ℕ) → same_protocol q None ≡ false
no_protocol None = refl
no_protocol (Some p) = refl

and_false : (a b : Bool) → b ≡ false → (a && b) ≡ false
and_false true b e = e
and_false false b e = refl

none_fit : (plan : StructurePlan) (class : ClassPlan) (r : ℕ) (layers : List LayerPlan) → find (fits plan class r None) layers ≡ None
none_fit plan class r [] = refl
none_fit plan class r (x ∷ xs) = rw (and_false (nat_eq x.reference r) (same_protocol (layer_protocol plan class x) None) (no_protocol (layer_protocol plan class x))) (none_fit plan class r xs)

pub fitting_none : (plan : StructurePlan) (class : ClassPlan) (r : ℕ) → fitting plan class r None ≡ None
fitting_none plan class r = none_fit plan class r class.layers

-- the class of a container that isn't the subsystem
pub container_class_slot : (plan : StructurePlan) (slots : List Slot) (c : ℕ) → c ≢ 0 → container_class plan slots c ≡ inside_of plan (slice_get slots (c - 1))
container_class_slot plan slots zero h = absurd (h refl)
container_class_slot plan slots (suc c) h = let e : c ≡ suc c - 1 = omega arith in ap (λ n. inside_of plan (slice_get slots n)) e

pub fitting_there : (plan : StructurePlan) (ys : List LayerIndex) (k r p : ℕ) (y : LayerIndex) → AreClassIndexes plan plan.classes ys → slice_get ys k ≡ Some y → r < 2 ^ 16 → p < 2 ^ 16 → layer_at y (layer_key r p) ≡ fitting plan (class_plan plan k) r (Some p)
fitting_there plan ys k r p y h e lr lp = (index_there plan plan.classes ys k y h e).found r p lr lp

pub fitting_missing : (plan : StructurePlan) (ys : List LayerIndex) (k r p : ℕ) → AreClassIndexes plan plan.classes ys → slice_get ys k ≡ None → None ≡ fitting plan (class_plan plan k) r (Some p)
fitting_missing plan ys k r p h e = ap (λ c. fitting plan c r (Some p)) (sym (index_missing plan plan.classes ys k h e))

-- what the inside of a slot has
pub fitting_inside : (plan : StructurePlan) (slots : List Slot) (c r : ℕ) (protocol : Option ℕ) (x : Option Slot) → c ≢ 0 → slice_get slots (c - 1) ≡ x → fitting plan (inside_of plan x) r protocol ≡ fitting plan (container_class plan slots c) r protocol
fitting_inside plan slots c r protocol x ne e = ap (λ d. fitting plan d r protocol) (sym (container_class_slot plan slots c ne ∙ ap (inside_of plan) e))
