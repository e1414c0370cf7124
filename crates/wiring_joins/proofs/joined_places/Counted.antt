-- There are as many places as the ports have.
use Rattle.std.proofs.Common.{◌≡◌, ◌∙◌, ℕ, zero, suc, ◌+◌, Bool, List, [], ◌∷◌, ◌++◌, length, length-append, append_assoc, refl, sym, ap, arith}
use Rattle.std.specs.Prelude.{slice_index}
use Rattle.std.specs.List.{sum}
use Rattle.std.proofs.lemmas.List.{get_or_at}
use Rattle.std.proofs.lemmas.List.Sums.{sum_by-cons, sum_by-append}
use Rattle.room_wiring.specs.declared.slot.Slot.{Slot}
use Rattle.wiring_plan.specs.declared.structure_plan.plan.PortPlan.{PortPlan}
use Rattle.wiring_plan.specs.declared.structure_plan.plan.StructurePlan.{StructurePlan}
use Rattle.wiring_places.specs.declared.place_rules.place.LayerJoin.{LayerJoin}
use Rattle.wiring_places.specs.declared.place_rules.place.Place.{Place}
use Rattle.wiring_places.specs.declared.place_rules.place.Role.{Role}
use Rattle.room_kinds.specs.Structure.{is_imported}
use Rattle.wiring_places.specs.place_rules.Parts.{class_plan, container_class, container_of}
use Rattle.wiring_places.specs.place_rules.Stretches.{all_taken}
use Rattle.wiring_places.specs.place_rules.Counts.{served_at, counts_of_ports, counts_of_slots}
use Rattle.wiring_places.specs.place_rules.Layers.{layer_joins}
use Rattle.wiring_places.specs.place_rules.Partners.{role_of, places_of_port, places_of_ports, places_of_slots, partners_from}
use Rattle.wiring_joins.specs.joined_places.Wired.{counts_in, places_in, pairs_in, partners_by}

port_places : (s p : ℕ) (role : Role) (k n : ℕ) → length (places_of_port s p role k n) ≡ n
unfolding places_of_port
port_places s p role k zero = refl
port_places s p role k (suc n) = ap suc (port_places s p role (k + 1) n)

-- the places of ports whose counts stand in a list behind others
ports_places : (imported : Bool) (s : ℕ) (before ns after : List ℕ) (row p : ℕ) (ports : List PortPlan) → length before ≡ row + p → length ns ≡ length ports → length (places_of_ports imported s (before ++ (ns ++ after)) row p ports) ≡ sum ns
unfolding places_of_ports
ports_places imported s before [] after row p [] at size = refl
ports_places imported s before [] after row p (port ∷ ports) at size = absurd (omega arith)
ports_places imported s before (n ∷ ns) after row p [] at size = absurd (omega arith)
ports_places imported s before (n ∷ ns) after row p (port ∷ ports) at size =
    let cs = before ++ (n ∷ (ns ++ after)) in
    let here : slice_index cs (row + p) ≡ n = get_or_at before n (ns ++ after) 0 (row + p) at in
    let moved : (before ++ n ∷ []) ++ (ns ++ after) ≡ cs = append_assoc before (n ∷ []) (ns ++ after) in
    let longer : length (before ++ n ∷ []) ≡ row + (p + 1) = length-append before (n ∷ []) ∙ (omega arith) in
    let first : length (places_of_port s p (role_of imported port.kind) 0 (slice_index cs (row + p))) ≡ n = port_places s p (role_of imported port.kind) 0 (slice_index cs (row + p)) ∙ here in
    let rest : length (places_of_ports imported s cs row (p + 1) ports) ≡ sum ns =
    ap (λ (xs : List ℕ). length (places_of_ports imported s xs row (p + 1) ports)) (sym moved) ∙ ports_places imported s (before ++ n ∷ []) ns after row (p + 1) ports longer (omega arith) in
    length-append (places_of_port s p (role_of imported port.kind) 0 (slice_index cs (row + p))) (places_of_ports imported s cs row (p + 1) ports) ∙ ap (λ (k : ℕ). k + length (places_of_ports imported s cs row (p + 1) ports)) first
    ∙ ap (λ (k : ℕ). n + k) rest ∙ sym (sum_by-cons (λ (k : ℕ). k) n ns)

ports_count : (outside inside served : ℕ → ℕ) (s : ℕ) (imported : Bool) (reference p : ℕ) (ports : List PortPlan) → length (counts_of_ports outside inside served s imported reference p ports) ≡ length ports
unfolding counts_of_ports
ports_count outside inside served s imported reference p [] = refl
ports_count outside inside served s imported reference p (port ∷ ports) = ap suc (ports_count outside inside served s imported reference (p + 1) ports)

module _ (plan : StructurePlan) (all : List Slot) (joins : List LayerJoin) where
  -- the counts of a slot's ports
  slot_counts : ℕ → Slot → List ℕ
  slot_counts s x = counts_of_ports (all_taken plan (container_class plan all (container_of x))) (all_taken plan (container_class plan all (s + 1))) (served_at joins) s (is_imported x.kind) x.reference 0 (class_plan plan x.class).ports

  slots_places : (before : List ℕ) (row s : ℕ) (xs : List Slot) → length before ≡ row → length (places_of_slots plan (before ++ counts_of_slots plan all joins s xs) s row xs) ≡ sum (counts_of_slots plan all joins s xs)
  unfolding places_of_slots counts_of_slots slot_counts
  slots_places before row s [] at = refl
  slots_places before row s (x ∷ xs) at =
      let here = slot_counts s x in
      let rest = counts_of_slots plan all joins (s + 1) xs in
      let ports = (class_plan plan x.class).ports in
      let cs = before ++ (here ++ rest) in
      let size : length here ≡ length ports = ports_count _ _ _ s (is_imported x.kind) x.reference 0 ports in
      let longer : length (before ++ here) ≡ row + length ports = length-append before here ∙ (omega arith) in
      let first : length (places_of_ports (is_imported x.kind) s cs row 0 ports) ≡ sum here = ports_places (is_imported x.kind) s before here rest row 0 ports (omega arith) size in
      let left : length (places_of_slots plan cs (s + 1) (row + length ports) xs) ≡ sum rest =
      ap (λ (ys : List ℕ). length (places_of_slots plan ys (s + 1) (row + length ports) xs)) (sym (append_assoc before here rest)) ∙ slots_places (before ++ here) (row + length ports) (s + 1) xs longer in
      length-append (places_of_ports (is_imported x.kind) s cs row 0 ports) (places_of_slots plan cs (s + 1) (row + length ports) xs) ∙ ap (λ (k : ℕ). k + length (places_of_slots plan cs (s + 1) (row + length ports) xs)) first
      ∙ ap (λ (k : ℕ). sum here + k) left ∙ sym (sum_by-append (λ (k : ℕ). k) here rest)

partners_long : (places : List Place) (far : List ℕ) (face : ℕ) (xs : List Place) → length (partners_from places far face xs) ≡ length xs
unfolding partners_from
partners_long places far face [] = refl
partners_long places far face (x ∷ xs) = ap suc (partners_long places far (face + 2) xs)

pub places_counted : (plan : StructurePlan) (slots : List Slot) → length (places_in plan slots) ≡ sum (counts_in plan slots)
unfolding places_in counts_in
places_counted plan slots = slots_places plan slots (layer_joins plan slots) [] 0 0 slots refl

pub partners_counted : (plan : StructurePlan) (slots : List Slot) → length (partners_by (places_in plan slots) (pairs_in plan slots)) ≡ sum (counts_in plan slots)
unfolding partners_by
partners_counted plan slots = partners_long (places_in plan slots) _ 0 (places_in plan slots) ∙ places_counted plan slots
