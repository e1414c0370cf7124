-- A place of the row of all places stands where its slot, port and number say.
use Rattle.std.proofs.Common.{◌≡◌, ◌∙◌, ℕ, zero, suc, ◌+◌, ◌<◌, Bool, List, [], ◌∷◌, length, Some, slice_get, slice_index, refl, sym, ap, arith, inl, inr}
use Rattle.std.proofs.lemmas.Option.{same_Some, get_or_from_slice_get}
use Rattle.room_wiring.specs.declared.slot.Slot.{Slot}
use Rattle.wiring_plan.specs.declared.structure_plan.plan.PortPlan.{PortPlan}
use Rattle.wiring_plan.specs.declared.structure_plan.plan.StructurePlan.{StructurePlan}
use Rattle.wiring_places.specs.declared.place_rules.place.LayerJoin.{LayerJoin}
use Rattle.wiring_places.specs.declared.place_rules.place.Place.{Place}
use Rattle.wiring_places.specs.declared.place_rules.place.Role.{Role}
use Rattle.room_kinds.specs.Structure.{is_imported}
use Rattle.wiring_places.specs.place_rules.Parts.{class_plan}
use Rattle.wiring_places.specs.place_rules.Counts.{counts}
use Rattle.wiring_places.specs.place_rules.Partners.{role_of, places_of_port, places_of_ports, places_of_slots, all_places}
use Rattle.number_graphs.specs.face_matchings.Offsets.{offset}
use Rattle.number_graphs.proofs.face_matchings.Places.{offset_next}
use Rattle.wiring_joins.proofs.slot_references.Counting.{get_either}
use Rattle.wiring_joins.proofs.place_faces.Rows.{offset_first, port_lengths, IsPort, own_count, row_of, count_at, ports_places_long, port_places_long}

port_place_of : (s p : ℕ) (role : Role) (k n i : ℕ) (y : Place) → slice_get (places_of_port s p role k n) i ≡ Some y
    → (i < n) × (y ≡ record { slot = s; port = p; place = k + i; role = role })
unfolding places_of_port
port_place_of s p role k zero i y e = absurd cc
port_place_of s p role k (suc n) zero y e =
    let same : k ≡ k + 0 = omega arith in
    (omega arith, sym (same_Some (record { slot = s; port = p; place = k; role = role }) y e) ∙ ap (λ m. let x : Place = record { slot = s; port = p; place = m; role = role } in x) same)
port_place_of s p role k (suc n) (suc i) y e =
    let more = port_place_of s p role (k + 1) n i y e in
    let below = more.0 in
    let same : (k + 1) + i ≡ k + suc i = omega arith in
    (omega (arith, below), more.1 ∙ ap (λ m. let x : Place = record { slot = s; port = p; place = m; role = role } in x) same)

-- the place at i of the places of ports, the first of which has the number p, is one of the port q behind it
record IsOfPort (imported : Bool) (s : ℕ) (cs : List ℕ) (row p : ℕ) (ports : List PortPlan) (i : ℕ) (y : Place) : Type 0 where
  q : ℕ
  port : PortPlan
  k : ℕ
  named : slice_get ports q ≡ Some port
  below : k < slice_index cs (row + (p + q))
  at : offset cs (row + p) + i ≡ offset cs (row + (p + q)) + k
  is : y ≡ record { slot = s; port = p + q; place = k; role = role_of imported port.kind }

module _ (imported : Bool) (s : ℕ) (cs : List ℕ) (row : ℕ) where
  port_found : (p : ℕ) (ports : List PortPlan) (i : ℕ) (y : Place) → slice_get (places_of_ports imported s cs row p ports) i ≡ Some y → IsOfPort imported s cs row p ports i y
  unfolding places_of_ports
  port_found p [] i y e = absurd cc
  port_found p (x ∷ xs) i y e =
      let here : List Place = places_of_port s p (role_of imported x.kind) 0 (slice_index cs (row + p)) in
      let rest : List Place = places_of_ports imported s cs row (p + 1) xs in
      elim (get_either here rest i y e) [
        | inl a ↦
            let one = port_place_of s p (role_of imported x.kind) 0 (slice_index cs (row + p)) i y a in
            let less = one.0 in
            let there : row + (p + 0) ≡ row + p = omega arith in
            let count = ap (slice_index cs) there in
            let begins = ap (offset cs) there in
            let first : 0 + i ≡ i = omega arith in
            let number : p ≡ p + 0 = omega arith in
            record {
              q = 0;
              port = x;
              k = i;
              named = refl;
              below = omega (arith, less, count);
              at = omega (arith, begins);
              is = one.1 ∙ ap (λ m. let z : Place = record { slot = s; port = p; place = m; role = role_of imported x.kind } in z) first
                  ∙ ap (λ m. let z : Place = record { slot = s; port = m; place = i; role = role_of imported x.kind } in z) number;
            }
        | inr b ↦
            let more = port_found (p + 1) xs b.0 y b.2 in
            let behind = b.1 in
            let long = port_places_long s p (role_of imported x.kind) 0 (slice_index cs (row + p)) in
            let next = offset_next cs (row + p) in
            let same = ap (offset cs) (let w : (row + p) + 1 ≡ row + (p + 1) = omega arith in w) in
            let there : row + ((p + 1) + more.q) ≡ row + (p + suc more.q) = omega arith in
            let count = ap (slice_index cs) there in
            let begins = ap (offset cs) there in
            let less = more.below in
            let at = more.at in
            let number : (p + 1) + more.q ≡ p + suc more.q = omega arith in
            record {
              q = suc more.q;
              port = more.port;
              k = more.k;
              named = more.named;
              below = omega (arith, less, count);
              at = omega (arith, at, behind, long, next, same, begins);
              is = more.is ∙ ap (λ m. let z : Place = record { slot = s; port = m; place = more.k; role = role_of imported more.port.kind } in z) number;
            }
      ]

-- the place at i of the places of slots, the first of which has the number s0, is one of the slot s behind it
record IsOfSlot (plan : StructurePlan) (cs : List ℕ) (s0 row : ℕ) (xs : List Slot) (i : ℕ) (y : Place) : Type 0 where
  s : ℕ
  x : Slot
  p : ℕ
  port : PortPlan
  k : ℕ
  slot : slice_get xs s ≡ Some x
  named : slice_get (class_plan plan x.class).ports p ≡ Some port
  below : k < slice_index cs (row + (offset (port_lengths plan xs) s + p))
  at : offset cs row + i ≡ offset cs (row + (offset (port_lengths plan xs) s + p)) + k
  is : y ≡ record { slot = s0 + s; port = p; place = k; role = role_of (is_imported x.kind) port.kind }

module _ (plan : StructurePlan) (cs : List ℕ) where
  slot_found : (s0 row : ℕ) (xs : List Slot) (i : ℕ) (y : Place) → slice_get (places_of_slots plan cs s0 row xs) i ≡ Some y → IsOfSlot plan cs s0 row xs i y
  unfolding places_of_slots
  slot_found s0 row [] i y e = absurd cc
  slot_found s0 row (x ∷ xs) i y e =
      let ports : List PortPlan = (class_plan plan x.class).ports in
      let here : List Place = places_of_ports (is_imported x.kind) s0 cs row 0 ports in
      let rest : List Place = places_of_slots plan cs (s0 + 1) (row + length ports) xs in
      let begin = ap (offset cs) (let w : row + 0 ≡ row = omega arith in w) in
      elim (get_either here rest i y e) [
        | inl a ↦
            let one = port_found (is_imported x.kind) s0 cs row 0 ports i y a in
            let less = one.below in
            let at = one.at in
            let number : 0 + one.q ≡ one.q = omega arith in
            let slot_number : s0 ≡ s0 + 0 = omega arith in
            record {
              s = 0;
              x = x;
              p = one.q;
              port = one.port;
              k = one.k;
              slot = refl;
              named = one.named;
              below = less;
              at = omega (arith, at, begin);
              is = one.is ∙ ap (λ m. let z : Place = record { slot = s0; port = m; place = one.k; role = role_of (is_imported x.kind) one.port.kind } in z) number
                  ∙ ap (λ m. let z : Place = record { slot = m; port = one.q; place = one.k; role = role_of (is_imported x.kind) one.port.kind } in z) slot_number;
            }
        | inr b ↦
            let more = slot_found (s0 + 1) (row + length ports) xs b.0 y b.2 in
            let behind = b.1 in
            let long = ports_places_long (is_imported x.kind) s0 cs row 0 ports in
            let end = ap (offset cs) (let w : row + (0 + length ports) ≡ row + length ports = omega arith in w) in
            let there : (row + length ports) + (offset (port_lengths plan xs) more.s + more.p) ≡ row + ((length ports + offset (port_lengths plan xs) more.s) + more.p) = omega arith in
            let count = ap (slice_index cs) there in
            let begins = ap (offset cs) there in
            let less = more.below in
            let at = more.at in
            let slot_number : (s0 + 1) + more.s ≡ s0 + suc more.s = omega arith in
            record {
              s = suc more.s;
              x = more.x;
              p = more.p;
              port = more.port;
              k = more.k;
              slot = more.slot;
              named = more.named;
              below = omega (arith, less, count);
              at = omega (arith, at, behind, long, begin, end, begins);
              is = more.is ∙ ap (λ m. let z : Place = record { slot = m; port = more.p; place = more.k; role = role_of (is_imported more.x.kind) more.port.kind } in z) slot_number;
            }
      ]

-- a place of the row of all places
pub record IsAt (plan : StructurePlan) (slots : List Slot) (joins : List LayerJoin) (i : ℕ) (y : Place) : Type 0 where
  pub x : Slot
  pub port : PortPlan
  pub of : IsPort plan slots y.slot y.port x port
  pub below : y.place < own_count plan slots joins y.slot x y.port port
  pub at : i ≡ offset (counts plan slots joins) (row_of plan slots joins y.slot y.port) + y.place

pub place_found : (plan : StructurePlan) (slots : List Slot) (joins : List LayerJoin) (i : ℕ) (y : Place) → slice_get (all_places plan slots (counts plan slots joins)) i ≡ Some y
    → IsAt plan slots joins i y
place_found plan slots joins i y e =
    let cs = counts plan slots joins in
    let found = slot_found plan cs 0 0 slots i y e in
    let number : 0 + found.s ≡ found.s = omega arith in
    let slot : y.slot ≡ found.s = ap (λ (z : Place). z.slot) found.is ∙ number in
    let port : y.port ≡ found.p = ap (λ (z : Place). z.port) found.is in
    let place : y.place ≡ found.k = ap (λ (z : Place). z.place) found.is in
    let of : IsPort plan slots y.slot y.port found.x found.port = record { slot = ap (slice_get slots) slot ∙ found.slot; named = ap (slice_get (class_plan plan found.x.class).ports) port ∙ found.named } in
    let row : 0 + (offset (port_lengths plan slots) found.s + found.p) ≡ row_of plan slots joins y.slot y.port =
    (let w : 0 + (offset (port_lengths plan slots) found.s + found.p) ≡ offset (port_lengths plan slots) found.s + found.p = omega arith in w)
    ∙ ap (λ n. offset (port_lengths plan slots) n + found.p) (sym slot) ∙ ap (λ n. offset (port_lengths plan slots) y.slot + n) (sym port) in
    let count : slice_index cs (row_of plan slots joins y.slot y.port) ≡ own_count plan slots joins y.slot found.x y.port found.port =
    get_or_from_slice_get cs (row_of plan slots joins y.slot y.port) (own_count plan slots joins y.slot found.x y.port found.port) 0 (count_at plan slots joins y.slot found.x y.port found.port of) in
    let same_count = ap (slice_index cs) row in
    let same_offset = ap (offset cs) row in
    let begin = offset_first cs in
    let less = found.below in
    let at = found.at in
    record { x = found.x; port = found.port; of = of; below = omega (arith, less, same_count, count, place); at = omega (arith, at, same_offset, begin, place) }
