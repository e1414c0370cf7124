-- One more slot.
use Rattle.std.proofs.Common.{◌≡◌, ℕ, ◌+◌, ◌<◌, ◌≤◌, Bool, List, [], ◌∷◌, ◌++◌, length, drop, suc, zero, refl, sym, ap, ◌∙◌, subst, arith, append_assoc, append-nil, sum, Some, None}
use Rattle.std.proofs.lemmas.List.{at_drop_more, at_drop_all}
use Rattle.std.proofs.lemmas.List.Sums.{sum_by-append}
use Rattle.std.specs.Prelude.{slice_get, slice_index_or}
use Rattle.room_wiring.specs.declared.slot.Slot.{Slot}
use Rattle.wiring_plan.specs.declared.structure_plan.plan.PortPlan.{PortPlan}
use Rattle.wiring_plan.specs.declared.structure_plan.plan.StructurePlan.{StructurePlan}
use Rattle.wiring_places.specs.declared.binding_stretches.class.ClassStretches.{ClassStretches}
use Rattle.wiring_places.specs.declared.binding_stretches.taken.Taken.{Taken}
use Rattle.wiring_places.specs.binding_stretches.Taken.{taken_in}
use Rattle.wiring_places.specs.declared.place_rules.place.LayerJoin.{LayerJoin}
use Rattle.room_kinds.specs.Structure.{is_imported}
use Rattle.wiring_places.specs.place_rules.Parts.{no_class, class_plan, container_class, inside_of, container_of_parent}
use Rattle.wiring_places.specs.place_rules.Stretches.{all_taken, none_taken, taken_from}
use Rattle.wiring_places.specs.place_rules.Counts.{counts_of_ports, counts_of_slots, served_at}
use Rattle.wiring_places.specs.place_spans.Containers.{AreStretchesFrom, AreContainers}

there : (plan : StructurePlan) (slots : List Slot) (c k : ℕ) (ys : List ClassStretches) (y : ClassStretches) → AreStretchesFrom plan slots c ys → slice_get ys k ≡ Some y → taken_in y.taken ≡ all_taken plan (container_class plan slots (c + k))
there plan slots c k [] y h e = absurd cc
there plan slots c zero (z ∷ zs) y h e =
    let same : z ≡ y = cc in
    let at : c ≡ c + 0 = omega arith in
    let P : ClassStretches → Type 0 = λ x. taken_in x.taken ≡ all_taken plan (container_class plan slots (c + 0)) in
    subst P same (h.0.taken ∙ ap (λ n. all_taken plan (container_class plan slots n)) at)
there plan slots c (suc k) (z ∷ zs) y h e =
    let at : (c + 1) + k ≡ c + suc k = omega arith in
    there plan slots (c + 1) k zs y h.1 e ∙ ap (λ n. all_taken plan (container_class plan slots n)) at

pub taken_there : (plan : StructurePlan) (slots : List Slot) (ys : List ClassStretches) (k : ℕ) (y : ClassStretches) → AreContainers plan slots ys → slice_get ys k ≡ Some y → taken_in y.taken ≡ all_taken plan (container_class plan slots k)
taken_there plan slots ys k y known e = let at : 0 + k ≡ k = omega arith in there plan slots 0 k ys y known.each e ∙ ap (λ n. all_taken plan (container_class plan slots n)) at

get_past : {A : Type 0} → (xs : List A) (k : ℕ) → slice_get xs k ≡ None → length xs ≤ k
get_past [] k e = omega arith
get_past (x ∷ xs) zero e = absurd cc
get_past (x ∷ xs) (suc k) e = let h = get_past xs k e in omega (arith, h)

past_get : {A : Type 0} → (xs : List A) (k : ℕ) → length xs ≤ k → slice_get xs k ≡ None
past_get [] k le = refl
past_get (x ∷ xs) zero le = absurd (omega arith)
past_get (x ∷ xs) (suc k) le = past_get xs k (omega arith)

none_at : (plan : StructurePlan) → all_taken plan no_class ≡ none_taken
unfolding taken_from
none_at plan = refl

no_container : (plan : StructurePlan) (slots : List Slot) (k : ℕ) → length slots + 1 ≤ k → container_class plan slots k ≡ no_class
no_container plan slots zero le = absurd (omega arith)
no_container plan slots (suc k) le = ap (inside_of plan) (past_get slots k (omega arith))

pub taken_past : (plan : StructurePlan) (slots : List Slot) (ys : List ClassStretches) (k : ℕ) (nothing : Taken) → AreContainers plan slots ys → slice_get ys k ≡ None → taken_in nothing ≡ none_taken → taken_in nothing ≡ all_taken plan (container_class plan slots k)
taken_past plan slots ys k nothing known e is = let le = get_past ys k e in is ∙ sym (none_at plan) ∙ ap (all_taken plan) (sym (no_container plan slots k (omega (arith, le, known.size))))

pub slot_counts_more : (plan : StructurePlan) (slots : List Slot) (joins : List LayerJoin) (xs : List Slot) (i : ℕ) (x : Slot) (outside inside served : ℕ → ℕ) (container : ℕ) (imported : Bool) (ports : List PortPlan) (done : List ℕ) {out : List ℕ} → i < length xs → x ≡ slice_index_or xs i x
    → outside ≡ all_taken plan (container_class plan slots container) → container ≡ container_of_parent x.parent → inside ≡ all_taken plan (container_class plan slots (i + 1)) → served ≡ served_at joins → imported ≡ is_imported x.kind → ports ≡ (class_plan plan x.class).ports
    → out ≡ done ++ counts_of_ports outside inside served i imported x.reference 0 ports → out ++ counts_of_slots plan slots joins (i + 1) (drop (i + 1) xs) ≡ done ++ counts_of_slots plan slots joins i (drop i xs)
unfolding counts_of_slots
slot_counts_more plan slots joins xs i x outside inside served container imported ports done {out} lt is e_out e_container e_in e_served e_imported e_ports pushed =
    let left = counts_of_slots plan slots joins (i + 1) (drop (i + 1) xs) in
    let outside' = all_taken plan (container_class plan slots (container_of_parent x.parent)) in
    let inside' = all_taken plan (container_class plan slots (i + 1)) in
    let here : counts_of_slots plan slots joins i (drop i xs) ≡ counts_of_ports outside' inside' (served_at joins) i (is_imported x.kind) x.reference 0 (class_plan plan x.class).ports ++ left =
    at_drop_more (counts_of_slots plan slots joins i) xs i x lt ∙ ap (λ y. counts_of_slots plan slots joins i (y ∷ drop (i + 1) xs)) (sym is) in
    let out_is : outside ≡ outside' = e_out ∙ ap (λ n. all_taken plan (container_class plan slots n)) e_container in
    let same : counts_of_ports outside inside served i imported x.reference 0 ports ≡ counts_of_ports outside' inside' (served_at joins) i (is_imported x.kind) x.reference 0 (class_plan plan x.class).ports =
    ap (λ f. counts_of_ports f inside served i imported x.reference 0 ports) out_is ∙ ap (λ f. counts_of_ports outside' f served i imported x.reference 0 ports) e_in ∙ ap (λ f. counts_of_ports outside' inside' f i imported x.reference 0 ports) e_served
    ∙ ap (λ b. counts_of_ports outside' inside' (served_at joins) i b x.reference 0 ports) e_imported ∙ ap (λ ps. counts_of_ports outside' inside' (served_at joins) i (is_imported x.kind) x.reference 0 ps) e_ports in
    ap (λ ys. ys ++ left) (pushed ∙ ap (λ ys. done ++ ys) same) ∙ append_assoc done (counts_of_ports outside' inside' (served_at joins) i (is_imported x.kind) x.reference 0 (class_plan plan x.class).ports) left ∙ ap (λ ys. done ++ ys) (sym here)

-- the counts of one more slot are among those that are left
pub slot_counts_few : (plan : StructurePlan) (slots : List Slot) (joins : List LayerJoin) (xs : List Slot) (i : ℕ) (x : Slot) (outside inside served : ℕ → ℕ) (container : ℕ) (imported : Bool) (ports : List PortPlan) (done : List ℕ) (m : ℕ) → i < length xs → x ≡ slice_index_or xs i x
    → outside ≡ all_taken plan (container_class plan slots container) → container ≡ container_of_parent x.parent → inside ≡ all_taken plan (container_class plan slots (i + 1)) → served ≡ served_at joins → imported ≡ is_imported x.kind → ports ≡ (class_plan plan x.class).ports
    → sum (done ++ counts_of_slots plan slots joins i (drop i xs)) < m → sum (counts_of_ports outside inside served i imported x.reference 0 ports) < m
slot_counts_few plan slots joins xs i x outside inside served container imported ports done m lt is e_out e_container e_in e_served e_imported e_ports few =
    let here = counts_of_ports outside inside served i imported x.reference 0 ports in
    let left = counts_of_slots plan slots joins (i + 1) (drop (i + 1) xs) in
    let all = slot_counts_more plan slots joins xs i x outside inside served container imported ports done {out = done ++ here} lt is e_out e_container e_in e_served e_imported e_ports refl in
    let same = ap sum all in
    let both = sum_by-append (λ (k : ℕ). k) (done ++ here) left in
    let front = sum_by-append (λ (k : ℕ). k) done here in
    omega (arith, same, both, front, few)

pub slot_counts_end : (plan : StructurePlan) (slots : List Slot) (joins : List LayerJoin) (xs : List Slot) (i : ℕ) (done : List ℕ) → length xs ≤ i → done ++ counts_of_slots plan slots joins i (drop i xs) ≡ done
unfolding counts_of_slots
slot_counts_end plan slots joins xs i done le = ap (λ ys. done ++ ys) (at_drop_all (counts_of_slots plan slots joins i) xs i le) ∙ append-nil done
