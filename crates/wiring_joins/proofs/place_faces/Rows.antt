-- Where the ports of slots stand, how many places they have, and where those stand.
use Rattle.std.proofs.Common.{◌≡◌, ◌∙◌, ℕ, zero, suc, ◌+◌, ◌-◌, ◌<◌, ◌≤◌, Bool, List, [], ◌∷◌, ◌++◌, length, length-append, Some, slice_get, slice_index, slice_index_or, refl, sym, ap, subst, arith}
use Rattle.std.proofs.lemmas.Option.{same_Some, get_or_from_slice_get}
use Rattle.room_wiring.specs.declared.slot.Slot.{Slot}
use Rattle.room_wiring.specs.declared.tables.PlaceSpan.{PlaceSpan}
use Rattle.wiring_plan.specs.declared.structure_plan.plan.PortPlan.{PortPlan}
use Rattle.wiring_plan.specs.declared.structure_plan.plan.StructurePlan.{StructurePlan}
use Rattle.wiring_places.specs.declared.place_rules.place.LayerJoin.{LayerJoin}
use Rattle.wiring_places.specs.declared.place_rules.place.Place.{Place}
use Rattle.wiring_places.specs.declared.place_rules.place.Role.{Role}
use Rattle.room_kinds.specs.Structure.{is_imported}
use Rattle.wiring_places.specs.place_rules.Parts.{class_plan, container_of, container_class}
use Rattle.wiring_places.specs.place_rules.Stretches.{all_taken}
use Rattle.wiring_places.specs.place_rules.Counts.{served_at, port_count, counts_of_ports, counts_of_slots, counts, spans_from, first_ports_from, no_places, span_of}
use Rattle.wiring_places.specs.place_rules.Partners.{role_of, places_of_port, places_of_ports, places_of_slots, all_places}
use Rattle.number_graphs.specs.face_matchings.Offsets.{offset}
use Rattle.number_graphs.proofs.face_matchings.Places.{offset_next}

-- ---- parts of lists

pub get_left : {X : Type 0} (xs ys : List X) (i : ℕ) (x : X) → slice_get xs i ≡ Some x → slice_get (xs ++ ys) i ≡ Some x
get_left [] ys i x e = absurd cc
get_left (y ∷ xs) ys zero x e = e
get_left (y ∷ xs) ys (suc i) x e = get_left xs ys i x e

pub get_right : {X : Type 0} (xs ys : List X) (i : ℕ) → slice_get (xs ++ ys) (length xs + i) ≡ slice_get ys i
get_right [] ys i = let e : 0 + i ≡ i = omega arith in ap (slice_get ys) e
get_right (x ∷ xs) ys i =
    let e : suc (length xs) + i ≡ suc (length xs + i) = omega arith in
    ap (slice_get (x ∷ xs ++ ys)) e ∙ get_right xs ys i

pub offset_first : (ns : List ℕ) → offset ns 0 ≡ 0
offset_first [] = refl
offset_first (n ∷ ns) = refl

offset_grows : (ns : List ℕ) (i j : ℕ) → offset ns i ≤ offset ns (i + j)
offset_grows ns i zero = let e : i ≡ i + 0 = omega arith in let Q : ℕ → Type 0 = λ n. offset ns i ≤ offset ns n in subst Q e (omega arith)
offset_grows ns i (suc j) =
    let e : (i + j) + 1 ≡ i + suc j = omega arith in
    let more = offset_grows ns i j in
    let step = offset_next ns (i + j) in
    let Q : ℕ → Type 0 = λ n. offset ns i ≤ offset ns n in subst Q e (omega (arith, more, step))

-- ---- ports of slots

-- how many ports each slot has
abbrev pub port_lengths : StructurePlan → List Slot → List ℕ
port_lengths plan [] = []
port_lengths plan (x ∷ xs) = length (class_plan plan x.class).ports ∷ port_lengths plan xs

first_port : (plan : StructurePlan) (row : ℕ) (xs : List Slot) (s : ℕ) (x : Slot) → slice_get xs s ≡ Some x → slice_index (first_ports_from plan row xs) s ≡ row + offset (port_lengths plan xs) s
unfolding first_ports_from
first_port plan row [] s x e = absurd cc
first_port plan row (y ∷ ys) zero x e = omega arith
first_port plan row (y ∷ ys) (suc s) x e =
    let more = first_port plan (row + length (class_plan plan y.class).ports) ys s x e in
    omega (arith, more)

pub port_length_at : (plan : StructurePlan) (xs : List Slot) (s : ℕ) (x : Slot) → slice_get xs s ≡ Some x → slice_get (port_lengths plan xs) s ≡ Some (length (class_plan plan x.class).ports)
port_length_at plan [] s x e = absurd cc
port_length_at plan (y ∷ ys) zero x e = ap (λ (z : Slot). Some (length (class_plan plan z.class).ports)) (same_Some y x e)
port_length_at plan (y ∷ ys) (suc s) x e = port_length_at plan ys s x e

module _ (outside inside served : ℕ → ℕ) (s : ℕ) (imported : Bool) (reference : ℕ) where
  pub ports_long : (p : ℕ) (ports : List PortPlan) → length (counts_of_ports outside inside served s imported reference p ports) ≡ length ports
  unfolding counts_of_ports
  ports_long p [] = refl
  ports_long p (x ∷ xs) = ap suc (ports_long (p + 1) xs)

  port_at : (p : ℕ) (ports : List PortPlan) (q : ℕ) (port : PortPlan) → slice_get ports q ≡ Some port → slice_get (counts_of_ports outside inside served s imported reference p ports) q ≡ Some (port_count outside inside served s imported reference (p + q) port)
  unfolding counts_of_ports
  port_at p [] q port e = absurd cc
  port_at p (x ∷ xs) zero port e =
      let zero_more : p ≡ p + 0 = omega arith in
      ap (λ n. Some (port_count outside inside served s imported reference n x)) zero_more ∙ ap (λ (y : PortPlan). Some (port_count outside inside served s imported reference (p + 0) y)) (same_Some x port e)
  port_at p (x ∷ xs) (suc q) port e =
      let one_more : (p + 1) + q ≡ p + suc q = omega arith in
      port_at (p + 1) xs q port e ∙ ap (λ n. Some (port_count outside inside served s imported reference n port)) one_more

span_at : (first : ℕ) (ns : List ℕ) (i n : ℕ) (d : PlaceSpan) → slice_get ns i ≡ Some n → ((slice_index_or (spans_from first ns) i d).first ≡ first + offset ns i) × ((slice_index_or (spans_from first ns) i d).count ≡ n)
unfolding spans_from
span_at first [] i n d e = absurd cc
span_at first (m ∷ ns) zero n d e = (omega arith, same_Some m n e)
span_at first (m ∷ ns) (suc i) n d e = let more = span_at (first + m) ns i n d e in (omega (arith, more.0), more.1)

-- port p of slot s
pub record IsPort (plan : StructurePlan) (slots : List Slot) (s p : ℕ) (x : Slot) (port : PortPlan) : Type 0 where
  pub slot : slice_get slots s ≡ Some x
  pub named : slice_get (class_plan plan x.class).ports p ≡ Some port

module _ (plan : StructurePlan) (slots : List Slot) (joins : List LayerJoin) where
  -- how many places port p of slot s has
  abbrev pub own_count : ℕ → Slot → ℕ → PortPlan → ℕ
  own_count s x p port = port_count (all_taken plan (container_class plan slots (container_of x))) (all_taken plan (container_class plan slots (s + 1))) (served_at joins) s (is_imported x.kind) x.reference p port

  -- the place of a port in the list of all ports
  abbrev pub row_of : ℕ → ℕ → ℕ
  row_of s p = offset (port_lengths plan slots) s + p

  count_from : (s0 : ℕ) (xs : List Slot) (s : ℕ) (x : Slot) (p : ℕ) (port : PortPlan) → slice_get xs s ≡ Some x → slice_get (class_plan plan x.class).ports p ≡ Some port
      → slice_get (counts_of_slots plan slots joins s0 xs) (offset (port_lengths plan xs) s + p) ≡ Some (own_count (s0 + s) x p port)
  unfolding counts_of_slots
  count_from s0 [] s x p port ex ep = absurd cc
  count_from s0 (y ∷ ys) zero x p port ex ep =
      let same = same_Some y x ex in
      let here : slice_get (class_plan plan y.class).ports p ≡ Some port = ap (λ (z : Slot). slice_get (class_plan plan z.class).ports p) same ∙ ep in
      let at = port_at (all_taken plan (container_class plan slots (container_of y))) (all_taken plan (container_class plan slots (s0 + 1))) (served_at joins) s0 (is_imported y.kind) y.reference 0 (class_plan plan y.class).ports p port here in
      let index : 0 + p ≡ p = omega arith in
      let slot : s0 ≡ s0 + 0 = omega arith in
      ap (slice_get (counts_of_slots plan slots joins s0 (y ∷ ys))) index
      ∙ get_left (counts_of_ports (all_taken plan (container_class plan slots (container_of y))) (all_taken plan (container_class plan slots (s0 + 1))) (served_at joins) s0 (is_imported y.kind) y.reference 0 (class_plan plan y.class).ports) (counts_of_slots plan slots joins (s0 + 1) ys) p _ at
      ∙ ap (λ n. Some (own_count s0 y n port)) index ∙ ap (λ (z : Slot). Some (own_count s0 z p port)) same ∙ ap (λ n. Some (own_count n x p port)) slot
  count_from s0 (y ∷ ys) (suc s) x p port ex ep =
      let these = counts_of_ports (all_taken plan (container_class plan slots (container_of y))) (all_taken plan (container_class plan slots (s0 + 1))) (served_at joins) s0 (is_imported y.kind) y.reference 0 (class_plan plan y.class).ports in
      let long = ports_long (all_taken plan (container_class plan slots (container_of y))) (all_taken plan (container_class plan slots (s0 + 1))) (served_at joins) s0 (is_imported y.kind) y.reference 0 (class_plan plan y.class).ports in
      let index : (length (class_plan plan y.class).ports + offset (port_lengths plan ys) s) + p ≡ length these + (offset (port_lengths plan ys) s + p) = omega (arith, long) in
      let slot : (s0 + 1) + s ≡ s0 + suc s = omega arith in
      ap (slice_get (counts_of_slots plan slots joins s0 (y ∷ ys))) index ∙ get_right these (counts_of_slots plan slots joins (s0 + 1) ys) (offset (port_lengths plan ys) s + p)
      ∙ count_from (s0 + 1) ys s x p port ex ep ∙ ap (λ n. Some (own_count n x p port)) slot

  pub count_at : (s : ℕ) (x : Slot) (p : ℕ) (port : PortPlan) → IsPort plan slots s p x port → slice_get (counts plan slots joins) (row_of s p) ≡ Some (own_count s x p port)
  count_at s x p port is =
      let slot : 0 + s ≡ s = omega arith in
      count_from 0 slots s x p port is.slot is.named ∙ ap (λ n. Some (own_count n x p port)) slot

  pub span_is : (s : ℕ) (x : Slot) (p : ℕ) (port : PortPlan) → IsPort plan slots s p x port
      → ((span_of (first_ports_from plan 0 slots) (spans_from 0 (counts plan slots joins)) s p).first ≡ offset (counts plan slots joins) (row_of s p)) × ((span_of (first_ports_from plan 0 slots) (spans_from 0 (counts plan slots joins)) s p).count ≡ own_count s x p port)
  span_is s x p port is =
      let spans = spans_from 0 (counts plan slots joins) in
      let first = first_port plan 0 slots s x is.slot in
      let row : slice_index (first_ports_from plan 0 slots) s + p ≡ row_of s p = omega (arith, first) in
      let at = span_at 0 (counts plan slots joins) (row_of s p) (own_count s x p port) no_places (count_at s x p port is) in
      (ap (λ n. (slice_index_or spans n no_places).first) row ∙ at.0 ∙ omega arith, ap (λ n. (slice_index_or spans n no_places).count) row ∙ at.1)

-- ---- places

pub port_places_long : (s p : ℕ) (role : Role) (k n : ℕ) → length (places_of_port s p role k n) ≡ n
unfolding places_of_port
port_places_long s p role k zero = refl
port_places_long s p role k (suc n) = ap suc (port_places_long s p role (k + 1) n)

port_places_at : (s p : ℕ) (role : Role) (k n i : ℕ) → i < n → slice_get (places_of_port s p role k n) i ≡ Some (record { slot = s; port = p; place = k + i; role = role })
unfolding places_of_port
port_places_at s p role k zero i lt = absurd (omega (arith, lt))
port_places_at s p role k (suc n) zero lt = let e : k ≡ k + 0 = omega arith in ap (λ m. let x : Place = record { slot = s; port = p; place = m; role = role } in Some x) e
port_places_at s p role k (suc n) (suc i) lt =
    let e : (k + 1) + i ≡ k + suc i = omega arith in
    port_places_at s p role (k + 1) n i (omega (arith, lt)) ∙ ap (λ m. let x : Place = record { slot = s; port = p; place = m; role = role } in Some x) e

module _ (imported : Bool) (s : ℕ) (cs : List ℕ) (row : ℕ) where
  pub ports_places_long : (p : ℕ) (ports : List PortPlan) → offset cs (row + p) + length (places_of_ports imported s cs row p ports) ≡ offset cs (row + (p + length ports))
  unfolding places_of_ports
  ports_places_long p [] = let e : row + p ≡ row + (p + 0) = omega arith in let at = ap (offset cs) e in omega (arith, at)
  ports_places_long p (x ∷ xs) =
      let here = places_of_port s p (role_of imported x.kind) 0 (slice_index cs (row + p)) in
      let rest = places_of_ports imported s cs row (p + 1) xs in
      let long = port_places_long s p (role_of imported x.kind) 0 (slice_index cs (row + p)) in
      let both = length-append here rest in
      let next = offset_next cs (row + p) in
      let same = ap (offset cs) (let e : (row + p) + 1 ≡ row + (p + 1) = omega arith in e) in
      let more = ports_places_long (p + 1) xs in
      let end = ap (offset cs) (let e : row + ((p + 1) + length xs) ≡ row + (p + suc (length xs)) = omega arith in e) in
      omega (arith, long, both, next, same, more, end)

  ports_places_at : (p : ℕ) (ports : List PortPlan) (q : ℕ) (port : PortPlan) (k i : ℕ) → slice_get ports q ≡ Some port → k < slice_index cs (row + (p + q)) → offset cs (row + p) + i ≡ offset cs (row + (p + q)) + k
      → slice_get (places_of_ports imported s cs row p ports) i ≡ Some (record { slot = s; port = p + q; place = k; role = role_of imported port.kind })
  unfolding places_of_ports
  ports_places_at p [] q port k i e lt at = absurd cc
  ports_places_at p (x ∷ xs) zero port k i e lt at =
      let here = places_of_port s p (role_of imported x.kind) 0 (slice_index cs (row + p)) in
      let rest = places_of_ports imported s cs row (p + 1) xs in
      let there : row + (p + 0) ≡ row + p = omega arith in
      let same_offset = ap (offset cs) there in
      let same_count = ap (slice_index cs) there in
      let number : i ≡ k = omega (arith, at, same_offset) in
      let place : 0 + i ≡ k = omega (arith, number) in
      let port_number : p ≡ p + 0 = omega arith in
      get_left here rest i _ (port_places_at s p (role_of imported x.kind) 0 (slice_index cs (row + p)) i (omega (arith, lt, same_count, number)))
      ∙ ap (λ m. let y : Place = record { slot = s; port = p; place = m; role = role_of imported x.kind } in Some y) place
      ∙ ap (λ m. let y : Place = record { slot = s; port = m; place = k; role = role_of imported x.kind } in Some y) port_number
      ∙ ap (λ (z : PortPlan). let y : Place = record { slot = s; port = p + 0; place = k; role = role_of imported z.kind } in Some y) (same_Some x port e)
  ports_places_at p (x ∷ xs) (suc q) port k i e lt at =
      let here = places_of_port s p (role_of imported x.kind) 0 (slice_index cs (row + p)) in
      let rest = places_of_ports imported s cs row (p + 1) xs in
      let long = port_places_long s p (role_of imported x.kind) 0 (slice_index cs (row + p)) in
      let next = offset_next cs (row + p) in
      let same = ap (offset cs) (let w : (row + p) + 1 ≡ row + (p + 1) = omega arith in w) in
      let there : row + ((p + 1) + q) ≡ row + (p + suc q) = omega arith in
      let same_offset = ap (offset cs) there in
      let same_count = ap (slice_index cs) there in
      let grows = offset_grows cs (row + (p + 1)) q in
      let grown = ap (offset cs) (let w : (row + (p + 1)) + q ≡ row + ((p + 1) + q) = omega arith in w) in
      let far : length here + (i - length here) ≡ i = omega (arith, long, next, same, same_offset, grows, grown, at) in
      let on : offset cs (row + (p + 1)) + (i - length here) ≡ offset cs (row + ((p + 1) + q)) + k = omega (arith, far, long, next, same, same_offset, at) in
      let port_number : (p + 1) + q ≡ p + suc q = omega arith in
      ap (slice_get (here ++ rest)) (sym far) ∙ get_right here rest (i - length here) ∙ ports_places_at (p + 1) xs q port k (i - length here) e (omega (arith, lt, same_count)) on
      ∙ ap (λ m. let y : Place = record { slot = s; port = m; place = k; role = role_of imported port.kind } in Some y) port_number

module _ (plan : StructurePlan) (cs : List ℕ) where
  slots_places_at : (s0 row : ℕ) (xs : List Slot) (s : ℕ) (x : Slot) (p : ℕ) (port : PortPlan) (k i : ℕ) → slice_get xs s ≡ Some x → slice_get (class_plan plan x.class).ports p ≡ Some port → k < slice_index cs (row + (offset (port_lengths plan xs) s + p))
      → offset cs row + i ≡ offset cs (row + (offset (port_lengths plan xs) s + p)) + k → slice_get (places_of_slots plan cs s0 row xs) i ≡ Some (record { slot = s0 + s; port = p; place = k; role = role_of (is_imported x.kind) port.kind })
  unfolding places_of_slots
  slots_places_at s0 row [] s x p port k i ex ep lt at = absurd cc
  slots_places_at s0 row (y ∷ ys) zero x p port k i ex ep lt at =
      let same = same_Some y x ex in
      let named : slice_get (class_plan plan y.class).ports p ≡ Some port = ap (λ (z : Slot). slice_get (class_plan plan z.class).ports p) same ∙ ep in
      let here = places_of_ports (is_imported y.kind) s0 cs row 0 (class_plan plan y.class).ports in
      let rest = places_of_slots plan cs (s0 + 1) (row + length (class_plan plan y.class).ports) ys in
      let begin = ap (offset cs) (let w : row + 0 ≡ row = omega arith in w) in
      let port_number : 0 + p ≡ p = omega arith in
      let slot_number : s0 ≡ s0 + 0 = omega arith in
      get_left here rest i _ (ports_places_at (is_imported y.kind) s0 cs row 0 (class_plan plan y.class).ports p port k i named lt (omega (arith, begin, at)))
      ∙ ap (λ m. let z : Place = record { slot = s0; port = m; place = k; role = role_of (is_imported y.kind) port.kind } in Some z) port_number
      ∙ ap (λ m. let z : Place = record { slot = m; port = p; place = k; role = role_of (is_imported y.kind) port.kind } in Some z) slot_number
      ∙ ap (λ (w : Slot). let z : Place = record { slot = s0 + 0; port = p; place = k; role = role_of (is_imported w.kind) port.kind } in Some z) same
  slots_places_at s0 row (y ∷ ys) (suc s) x p port k i ex ep lt at =
      let many = length (class_plan plan y.class).ports in
      let here = places_of_ports (is_imported y.kind) s0 cs row 0 (class_plan plan y.class).ports in
      let rest = places_of_slots plan cs (s0 + 1) (row + many) ys in
      let deep = offset (port_lengths plan ys) s + p in
      let long = ports_places_long (is_imported y.kind) s0 cs row 0 (class_plan plan y.class).ports in
      let begin = ap (offset cs) (let w : row + 0 ≡ row = omega arith in w) in
      let end = ap (offset cs) (let w : row + (0 + many) ≡ row + many = omega arith in w) in
      let there : row + ((many + offset (port_lengths plan ys) s) + p) ≡ (row + many) + deep = omega arith in
      let same_offset = ap (offset cs) there in
      let same_count = ap (slice_index cs) there in
      let grows = offset_grows cs (row + many) deep in
      let far : length here + (i - length here) ≡ i = omega (arith, long, begin, end, same_offset, grows, at) in
      let on : offset cs (row + many) + (i - length here) ≡ offset cs ((row + many) + deep) + k = omega (arith, far, long, begin, end, same_offset, at) in
      let slot_number : (s0 + 1) + s ≡ s0 + suc s = omega arith in
      ap (slice_get (here ++ rest)) (sym far) ∙ get_right here rest (i - length here) ∙ slots_places_at (s0 + 1) (row + many) ys s x p port k (i - length here) ex ep (omega (arith, lt, same_count)) on
      ∙ ap (λ m. let z : Place = record { slot = m; port = p; place = k; role = role_of (is_imported x.kind) port.kind } in Some z) slot_number

-- the place at k of a port stands k behind the first of the port
pub place_is : (plan : StructurePlan) (slots : List Slot) (joins : List LayerJoin) (s : ℕ) (x : Slot) (p : ℕ) (port : PortPlan) (k : ℕ) → IsPort plan slots s p x port → k < own_count plan slots joins s x p port
    → slice_get (all_places plan slots (counts plan slots joins)) (offset (counts plan slots joins) (row_of plan slots joins s p) + k) ≡ Some (record { slot = s; port = p; place = k; role = role_of (is_imported x.kind) port.kind })
place_is plan slots joins s x p port k is lt =
    let cs = counts plan slots joins in
    let row = row_of plan slots joins s p in
    let zero_row : row ≡ 0 + row = omega arith in
    let same_offset = ap (offset cs) zero_row in
    let same_count = ap (slice_index cs) zero_row in
    let count = get_or_from_slice_get cs row (own_count plan slots joins s x p port) 0 (count_at plan slots joins s x p port is) in
    let begin = offset_first cs in
    let slot_number : 0 + s ≡ s = omega arith in
    slots_places_at plan cs 0 0 slots s x p port k (offset cs row + k) is.slot is.named (omega (arith, lt, count, same_count)) (omega (arith, begin, same_offset))
    ∙ ap (λ m. let z : Place = record { slot = m; port = p; place = k; role = role_of (is_imported x.kind) port.kind } in Some z) slot_number
