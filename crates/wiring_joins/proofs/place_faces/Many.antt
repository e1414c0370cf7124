-- There are as many places as the counts of all ports say.
use Rattle.std.proofs.Common.{◌≡◌, ℕ, ◌+◌, ◌*◌, List, [], ◌∷◌, length, length-append, sum, refl, ap, arith}
use Rattle.std.proofs.lemmas.List.Sums.{sum_by-cons}
use Rattle.room_wiring.specs.declared.slot.Slot.{Slot}
use Rattle.wiring_plan.specs.declared.structure_plan.plan.StructurePlan.{StructurePlan}
use Rattle.wiring_places.specs.declared.place_rules.place.LayerJoin.{LayerJoin}
use Rattle.wiring_places.specs.declared.place_rules.place.Place.{Place}
use Rattle.room_kinds.specs.Structure.{is_imported}
use Rattle.wiring_places.specs.place_rules.Parts.{class_plan, container_of, container_class}
use Rattle.wiring_places.specs.place_rules.Stretches.{all_taken}
use Rattle.wiring_places.specs.place_rules.Counts.{served_at, counts_of_ports, counts_of_slots}
use Rattle.wiring_places.specs.place_rules.Partners.{places_of_ports, places_of_slots, across_from, across_places}
use Rattle.number_graphs.specs.face_matchings.Offsets.{offset}
use Rattle.wiring_joins.specs.place_faces.Paired.{counts_of, places_of}
use Rattle.wiring_joins.proofs.place_faces.Rows.{port_lengths, offset_first, ports_long, ports_places_long}

offset_all : (ns : List ℕ) → offset ns (length ns) ≡ sum ns
offset_all [] = refl
offset_all (n ∷ ns) = let more = offset_all ns in omega (arith, more, sum_by-cons (λ m. m) n ns)

counts_long : (plan : StructurePlan) (slots : List Slot) (joins : List LayerJoin) (s : ℕ) (xs : List Slot) → length (counts_of_slots plan slots joins s xs) ≡ sum (port_lengths plan xs)
unfolding counts_of_slots
counts_long plan slots joins s [] = refl
counts_long plan slots joins s (x ∷ xs) =
    let outside = all_taken plan (container_class plan slots (container_of x)) in
    let inside = all_taken plan (container_class plan slots (s + 1)) in
    let here = counts_of_ports outside inside (served_at joins) s (is_imported x.kind) x.reference 0 (class_plan plan x.class).ports in
    let long = ports_long outside inside (served_at joins) s (is_imported x.kind) x.reference 0 (class_plan plan x.class).ports in
    let rest = counts_long plan slots joins (s + 1) xs in
    let both = length-append here (counts_of_slots plan slots joins (s + 1) xs) in
    let all = sum_by-cons (λ n. n) (length (class_plan plan x.class).ports) (port_lengths plan xs) in
    omega (arith, long, rest, both, all)

places_long : (plan : StructurePlan) (cs : List ℕ) (s row : ℕ) (xs : List Slot) → offset cs row + length (places_of_slots plan cs s row xs) ≡ offset cs (row + sum (port_lengths plan xs))
unfolding places_of_slots
places_long plan cs s row [] = let e : row ≡ row + 0 = omega arith in let at = ap (offset cs) e in omega (arith, at)
places_long plan cs s row (x ∷ xs) =
    let many = length (class_plan plan x.class).ports in
    let here = places_of_ports (is_imported x.kind) s cs row 0 (class_plan plan x.class).ports in
    let rest = places_of_slots plan cs (s + 1) (row + many) xs in
    let long = ports_places_long (is_imported x.kind) s cs row 0 (class_plan plan x.class).ports in
    let begin = ap (offset cs) (let w : row + 0 ≡ row = omega arith in w) in
    let end = ap (offset cs) (let w : row + (0 + many) ≡ row + many = omega arith in w) in
    let more = places_long plan cs (s + 1) (row + many) xs in
    let both = length-append here rest in
    let all = sum_by-cons (λ n. n) many (port_lengths plan xs) in
    let last = ap (offset cs) (let w : (row + many) + sum (port_lengths plan xs) ≡ row + sum (port_lengths plan (x ∷ xs)) = omega (arith, all) in w) in
    omega (arith, long, begin, end, more, both, last)

across_long : (face : ℕ) (xs : List Place) → length (across_from face xs) ≡ 2 * length xs
unfolding across_from
across_long face [] = refl
across_long face (x ∷ xs) = let more = across_long (face + 2) xs in omega (arith, more)

-- each of them has two faces
pub faces_many : (plan : StructurePlan) (slots : List Slot) → length (across_places (places_of plan slots)) ≡ 2 * sum (counts_of plan slots)
faces_many plan slots =
    let cs = counts_of plan slots in
    let many = places_long plan cs 0 0 slots in
    let begin = offset_first cs in
    let long = counts_long plan slots (Rattle.wiring_places.specs.place_rules.Layers.layer_joins plan slots) 0 slots in
    let end = ap (offset cs) (let w : 0 + sum (port_lengths plan slots) ≡ length cs = omega (arith, long) in w) in
    let all = offset_all cs in
    let faces = across_long 0 (places_of plan slots) in
    omega (arith, many, begin, end, all, faces)
