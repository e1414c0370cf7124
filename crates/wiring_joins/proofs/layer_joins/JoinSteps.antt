-- One more port, one more slot.
use Rattle.std.proofs.Common.{◌≡◌, ℕ, ◌+◌, ◌<◌, ◌≤◌, List, ◌∷◌, ◌++◌, length, drop, sym, ap, ◌∙◌, append_assoc, append-nil, Some}
use Rattle.std.proofs.lemmas.List.{at_drop_more, at_drop_all}
use Rattle.std.specs.Prelude.{slice_index_or}
use Rattle.room_wiring.specs.declared.slot.Slot.{Slot}
use Rattle.wiring_plan.specs.declared.structure_plan.plan.PortPlan.{PortPlan}
use Rattle.wiring_plan.specs.declared.structure_plan.plan.StructurePlan.{StructurePlan}
use Rattle.wiring_places.specs.declared.place_rules.place.LayerJoin.{LayerJoin}
use Rattle.wiring_places.specs.place_rules.Parts.{inside_of}
use Rattle.wiring_places.specs.place_rules.Layers.{port_join, port_joins, slot_joins}

module _ (plan : StructurePlan) (slots : List Slot) where
  pub port_joins_more : (s : ℕ) (ports : List PortPlan) (i : ℕ) (d : PortPlan) (done out : List LayerJoin) → i < length ports → out ≡ done ++ port_join plan slots s i (slice_index_or ports i d) → out ++ port_joins plan slots s (i + 1) (drop (i + 1) ports) ≡ done ++ port_joins plan slots s i (drop i ports)
  unfolding port_joins
  port_joins_more s ports i d done out lt e =
      let x = slice_index_or ports i d in
      let left = port_joins plan slots s (i + 1) (drop (i + 1) ports) in
      let first : port_joins plan slots s i (drop i ports) ≡ port_join plan slots s i x ++ left = at_drop_more (port_joins plan slots s i) ports i d lt in
      ap (λ xs. xs ++ left) e ∙ append_assoc done (port_join plan slots s i x) left ∙ ap (λ xs. done ++ xs) (sym first)

  pub port_joins_end : (s : ℕ) (ports : List PortPlan) (i : ℕ) (done : List LayerJoin) → length ports ≤ i → done ++ port_joins plan slots s i (drop i ports) ≡ done
  unfolding port_joins
  port_joins_end s ports i done le = ap (λ xs. done ++ xs) (at_drop_all (port_joins plan slots s i) ports i le) ∙ append-nil done

  pub slot_joins_more : (xs : List Slot) (i : ℕ) (x : Slot) (ports : List PortPlan) (done out : List LayerJoin) → i < length xs → x ≡ slice_index_or xs i x → ports ≡ (inside_of plan (Some x)).ports → out ≡ done ++ port_joins plan slots i 0 ports
      → out ++ slot_joins plan slots (i + 1) (drop (i + 1) xs) ≡ done ++ slot_joins plan slots i (drop i xs)
  unfolding slot_joins
  slot_joins_more xs i x ports done out lt is same e =
      let left = slot_joins plan slots (i + 1) (drop (i + 1) xs) in
      let here : slot_joins plan slots i (drop i xs) ≡ slot_joins plan slots i (slice_index_or xs i x ∷ drop (i + 1) xs) = at_drop_more (slot_joins plan slots i) xs i x lt in
      let first : slot_joins plan slots i (drop i xs) ≡ port_joins plan slots i 0 ports ++ left = here ∙ ap (λ y. slot_joins plan slots i (y ∷ drop (i + 1) xs)) (sym is) ∙ ap (λ ps. port_joins plan slots i 0 ps ++ left) (sym same) in
      ap (λ xs. xs ++ left) e ∙ append_assoc done (port_joins plan slots i 0 ports) left ∙ ap (λ xs. done ++ xs) (sym first)

  pub slot_joins_end : (xs : List Slot) (i : ℕ) (done : List LayerJoin) → length xs ≤ i → done ++ slot_joins plan slots i (drop i xs) ≡ done
  unfolding slot_joins
  slot_joins_end xs i done le = ap (λ xs. done ++ xs) (at_drop_all (slot_joins plan slots i) xs i le) ∙ append-nil done
