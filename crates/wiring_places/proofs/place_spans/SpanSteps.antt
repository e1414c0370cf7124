-- One more port, one more slot.
use Rattle.std.proofs.Common.{◌≡◌, ℕ, ◌+◌, ◌<◌, ◌≤◌, List, [], ◌∷◌, ◌++◌, length, drop, sym, ap, ◌∙◌, append_assoc, append-nil}
use Rattle.std.proofs.lemmas.List.{at_drop_more, at_drop_all}
use Rattle.std.specs.Prelude.{slice_index_or}
use Rattle.room_wiring.specs.declared.slot.Slot.{Slot}
use Rattle.room_wiring.specs.declared.tables.PlaceSpan.{PlaceSpan}
use Rattle.wiring_plan.specs.declared.structure_plan.plan.StructurePlan.{StructurePlan}
use Rattle.wiring_places.specs.place_rules.Parts.{class_plan}
use Rattle.wiring_places.specs.place_rules.Counts.{spans_from, first_ports_from}

pub spans_more : (first i d next : ℕ) (ns : List ℕ) (done out : List PlaceSpan) → i < length ns → next ≡ first + slice_index_or ns i d → out ≡ done ++ record { first = first; count = slice_index_or ns i d } ∷ [] → out ++ spans_from next (drop (i + 1) ns) ≡ done ++ spans_from first (drop i ns)
unfolding spans_from
spans_more first i d next ns done out lt is pushed =
    let x : PlaceSpan = record { first = first; count = slice_index_or ns i d } in
    let here : spans_from first (drop i ns) ≡ x ∷ spans_from next (drop (i + 1) ns) = at_drop_more (spans_from first) ns i d lt ∙ ap (λ n. x ∷ spans_from n (drop (i + 1) ns)) (sym is) in
    ap (λ xs. xs ++ spans_from next (drop (i + 1) ns)) pushed ∙ append_assoc done (x ∷ []) (spans_from next (drop (i + 1) ns)) ∙ ap (λ xs. done ++ xs) (sym here)

pub spans_end : (first i : ℕ) (ns : List ℕ) (done : List PlaceSpan) → length ns ≤ i → done ++ spans_from first (drop i ns) ≡ done
unfolding spans_from
spans_end first i ns done le = ap (λ xs. done ++ xs) (at_drop_all (spans_from first) ns i le) ∙ append-nil done

pub first_ports_more : (plan : StructurePlan) (row next i : ℕ) (xs : List Slot) (x : Slot) (done out : List ℕ) → i < length xs → x ≡ slice_index_or xs i x → next ≡ row + length (class_plan plan x.class).ports → out ≡ done ++ row ∷ [] → out ++ first_ports_from plan next (drop (i + 1) xs) ≡ done ++ first_ports_from plan row (drop i xs)
unfolding first_ports_from
first_ports_more plan row next i xs x done out lt same is pushed =
    let left = first_ports_from plan next (drop (i + 1) xs) in
    let here : first_ports_from plan row (drop i xs) ≡ row ∷ left = at_drop_more (first_ports_from plan row) xs i x lt ∙ ap (λ y. first_ports_from plan row (y ∷ drop (i + 1) xs)) (sym same) ∙ ap (λ n. row ∷ first_ports_from plan n (drop (i + 1) xs)) (sym is) in
    ap (λ xs. xs ++ left) pushed ∙ append_assoc done (row ∷ []) left ∙ ap (λ xs. done ++ xs) (sym here)

pub first_ports_end : (plan : StructurePlan) (row i : ℕ) (xs : List Slot) (done : List ℕ) → length xs ≤ i → done ++ first_ports_from plan row (drop i xs) ≡ done
unfolding first_ports_from
first_ports_end plan row i xs done le = ap (λ ys. done ++ ys) (at_drop_all (first_ports_from plan row) xs i le) ∙ append-nil done
