-- One more container.
use Rattle.std.proofs.Common.{◌≡◌, ℕ, ◌+◌, ◌-◌, ◌<◌, ◌≤◌, ◌||◌, Bool, true, false, List, [], ◌∷◌, ◌++◌, length, suc, zero, refl, sym, ap, ◌∙◌, subst, arith, Some, length-append, add-zero}
use Rattle.std.specs.Prelude.{slice_get, slice_index_or, if◌then◌else◌}
use Rattle.std.proofs.lemmas.List.{get_or_past}
use Rattle.std.specs.List.{list_any}
use Rattle.room_wiring.specs.declared.slot.Slot.{Slot}
use Rattle.wiring_plan.specs.declared.structure_plan.plan.ClassPlan.{ClassPlan}
use Rattle.wiring_plan.specs.declared.structure_plan.plan.StructurePlan.{StructurePlan}
use Rattle.wiring_places.specs.declared.binding_stretches.class.ClassStretches.{ClassStretches}
use Rattle.wiring_places.specs.binding_stretches.Taken.{taken_in}
use Rattle.room_kinds.specs.Structure.{is_imported}
use Rattle.wiring_places.specs.place_rules.Parts.{no_class, class_plan, container_class, inside_of}
use Rattle.wiring_places.specs.place_rules.Stretches.{stretches, all_taken, none_taken, stretches_from, taken_from}
use Rattle.wiring_places.specs.place_rules.Pairs.{pairs_nothing, lacks_place, lacks_place_from}
use Rattle.wiring_places.specs.place_spans.Containers.{IsOfClass, AreStretchesFrom, AreContainers, AreSoFar}

no_stretches_at : (plan : StructurePlan) → stretches plan no_class ≡ []
unfolding stretches_from
no_stretches_at plan = refl

none_taken_at : (plan : StructurePlan) → all_taken plan no_class ≡ none_taken
unfolding taken_from
none_taken_at plan = refl

-- nothing is taken where there are no bindings
pub is_of_none : (plan : StructurePlan) (y : ClassStretches) → y.stretches.items ≡ [] → taken_in y.taken ≡ none_taken → IsOfClass plan no_class y
is_of_none plan y a b = record { stretches = a ∙ sym (no_stretches_at plan); taken = b ∙ sym (none_taken_at plan) }

-- an imported slot has no inside
pub is_of_imported : (plan : StructurePlan) (x : Slot) (y : ClassStretches) → true ≡ is_imported x.kind → y.stretches.items ≡ [] → taken_in y.taken ≡ none_taken → IsOfClass plan (inside_of plan (Some x)) y
is_of_imported plan x y e a b =
    let same : inside_of plan (Some x) ≡ no_class = ap (λ t. if t then no_class else class_plan plan x.class) (sym e) in
    let Q : ClassPlan → Type 0 = λ d. IsOfClass plan d y in subst Q (sym same) (is_of_none plan y a b)

-- nor has one of a class that isn't there
pub is_of_missing : (plan : StructurePlan) (x : Slot) (y : ClassStretches) (classes : List ClassPlan) (n : ℕ) → false ≡ is_imported x.kind → classes ≡ plan.classes → n ≡ x.class → length classes ≤ n → y.stretches.items ≡ [] → taken_in y.taken ≡ none_taken → IsOfClass plan (inside_of plan (Some x)) y
is_of_missing plan x y classes n e same_classes same_class past a b =
    let gone : class_plan plan x.class ≡ no_class = ap (λ c. slice_index_or c x.class no_class) (sym same_classes) ∙ ap (λ k. slice_index_or classes k no_class) (sym same_class) ∙ get_or_past classes n no_class past in
    let same : inside_of plan (Some x) ≡ no_class = ap (λ t. if t then no_class else class_plan plan x.class) (sym e) ∙ gone in
    let Q : ClassPlan → Type 0 = λ d. IsOfClass plan d y in subst Q (sym same) (is_of_none plan y a b)

get_in : (xs : List Slot) (i : ℕ) (d : Slot) → i < length xs → slice_get xs i ≡ Some (slice_index_or xs i d)
get_in [] i d lt = absurd (omega arith)
get_in (x ∷ xs) zero d lt = refl
get_in (x ∷ xs) (suc i) d lt = get_in xs i d (omega arith)

module _ (plan : StructurePlan) (slots : List Slot) where
  pub inside : (i : ℕ) (x : Slot) → i < length slots → x ≡ slice_index_or slots i x → container_class plan slots (i + 1) ≡ inside_of plan (Some x)
  inside i x lt is =
      let e : suc i ≡ i + 1 = omega arith in
      let Q : ℕ → Type 0 = λ n. container_class plan slots n ≡ inside_of plan (Some x) in
      subst Q e (ap (inside_of plan) (get_in slots i x lt ∙ ap (λ y. Some y) (sym is)))

  push_last : (c : ℕ) (ys : List ClassStretches) (y : ClassStretches) → AreStretchesFrom plan slots c ys → IsOfClass plan (container_class plan slots (c + length ys)) y → AreStretchesFrom plan slots c (ys ++ y ∷ [])
  push_last c [] y h is = (let Q : ℕ → Type 0 = λ n. IsOfClass plan (container_class plan slots n) y in subst Q (add-zero c) is, tt)
  push_last c (z ∷ zs) y h is =
      let e : c + suc (length zs) ≡ (c + 1) + length zs = omega arith in
      (h.0, push_last (c + 1) zs y h.1 (let Q : ℕ → Type 0 = λ n. IsOfClass plan (container_class plan slots n) y in subst Q e is))

  lacks : (c n : ℕ) (b : Bool) → list_any pairs_nothing (stretches plan (container_class plan slots c)) ≡ b → lacks_place_from plan slots c (suc n) ≡ (b || lacks_place_from plan slots (c + 1) n)
  unfolding lacks_place_from
  lacks c n b e = ap (λ t. t || lacks_place_from plan slots (c + 1) n) e

  lacks_at : (c m : ℕ) (b : Bool) → 0 < m → list_any pairs_nothing (stretches plan (container_class plan slots c)) ≡ b → lacks_place_from plan slots c m ≡ (b || lacks_place_from plan slots (c + 1) (m - 1))
  lacks_at c zero b pos e = absurd (omega arith)
  lacks_at c (suc n) b pos e = let same : n ≡ suc n - 1 = omega arith in lacks c n b e ∙ ap (λ k. b || lacks_place_from plan slots (c + 1) k) same

  none_left : (c n : ℕ) → n ≡ 0 → lacks_place_from plan slots c n ≡ false
  unfolding lacks_place_from
  none_left c zero e = refl
  none_left c (suc n) e = absurd (omega arith)

  tested : (class : ClassPlan) (y : ClassStretches) (b found : Bool) → IsOfClass plan class y → found ≡ list_any pairs_nothing y.stretches.items → found ≡ b → list_any pairs_nothing (stretches plan class) ≡ b
  tested class y b found is e f = ap (list_any pairs_nothing) (sym is.stretches) ∙ sym e ∙ f

  -- the subsystem pairs nothing somewhere
  pub first_lacks : (y : ClassStretches) (found : Bool) → IsOfClass plan plan.subsystem y → found ≡ list_any pairs_nothing y.stretches.items → found ≡ true → lacks_place plan slots ≡ true
  first_lacks y found is e f = lacks_at 0 (length slots + 1) true (omega arith) (tested plan.subsystem y true found is e f)

  pub first_known : (y : ClassStretches) (found : Bool) (base out : List ClassStretches) → IsOfClass plan plan.subsystem y → found ≡ list_any pairs_nothing y.stretches.items → found ≡ false → base ≡ [] → out ≡ base ++ y ∷ [] → AreSoFar plan slots 0 out
  first_known y found base out is e f none more = record {
    pairing = let e1 : (length slots + 1) - 1 ≡ length slots - 0 = omega arith in sym (lacks_at 0 (length slots + 1) false (omega arith) (tested plan.subsystem y false found is e f) ∙ ap (λ k. lacks_place_from plan slots (0 + 1) k) e1);
    size = ap length (more ∙ ap (λ xs. xs ++ y ∷ []) none);
    each = let Q : List ClassStretches → Type 0 = λ ys. AreStretchesFrom plan slots 0 ys in subst Q (sym (more ∙ ap (λ xs. xs ++ y ∷ []) none)) (is, tt);
  }

  pub slot_lacks : (i : ℕ) (x : Slot) (ys : List ClassStretches) (y : ClassStretches) (found : Bool) → i < length slots → x ≡ slice_index_or slots i x → AreSoFar plan slots i ys → IsOfClass plan (inside_of plan (Some x)) y → found ≡ list_any pairs_nothing y.stretches.items → found ≡ true → lacks_place plan slots ≡ true
  slot_lacks i x ys y found lt same known is e f =
      sym known.pairing ∙ lacks_at (i + 1) (length slots - i) true (omega (arith, lt)) (ap (λ d. list_any pairs_nothing (stretches plan d)) (inside i x lt same) ∙ tested (inside_of plan (Some x)) y true found is e f)

  pub slot_known : (i : ℕ) (x : Slot) (ys out : List ClassStretches) (y : ClassStretches) (found : Bool) → i < length slots → x ≡ slice_index_or slots i x → AreSoFar plan slots i ys → IsOfClass plan (inside_of plan (Some x)) y → found ≡ list_any pairs_nothing y.stretches.items → found ≡ false → out ≡ ys ++ y ∷ []
      → AreSoFar plan slots (i + 1) out
  slot_known i x ys out y found lt same known is e f pushed = record {
    pairing =
        let less : (length slots - i) - 1 ≡ length slots - (i + 1) = omega arith in
        sym (lacks_at (i + 1) (length slots - i) false (omega (arith, lt)) (ap (λ d. list_any pairs_nothing (stretches plan d)) (inside i x lt same) ∙ tested (inside_of plan (Some x)) y false found is e f) ∙ ap (λ k. lacks_place_from plan slots ((i + 1) + 1) k) less) ∙ known.pairing;
    size = ap length pushed ∙ length-append ys (y ∷ []) ∙ ap (λ n. n + 1) known.size;
    each =
        let at : container_class plan slots (0 + length ys) ≡ inside_of plan (Some x) = let e1 : 0 + length ys ≡ i + 1 = omega (arith, known.size) in ap (container_class plan slots) e1 ∙ inside i x lt same in
        let Q : List ClassStretches → Type 0 = λ zs. AreStretchesFrom plan slots 0 zs in
        subst Q (sym pushed) (push_last 0 ys y known.each (let R : ClassPlan → Type 0 = λ d. IsOfClass plan d y in subst R (sym at) is));
  }

  pub all_known : (i : ℕ) (ys : List ClassStretches) → i ≤ length slots → length slots ≤ i → AreSoFar plan slots i ys → AreContainers plan slots ys
  all_known i ys le ge known = record {
    pairing = sym known.pairing ∙ none_left (i + 1) (length slots - i) (omega (arith, ge));
    size = known.size ∙ (let e : i ≡ length slots = omega (arith, le, ge) in ap (λ n. n + 1) e);
    each = known.each;
  }
