-- The sides of a container have no more places at the beginning than are counted of all slots: its own once, and those of its references once.
use Rattle.std.proofs.Common.{◌≡◌, ◌∙◌, ℕ, zero, suc, ◌+◌, ◌*◌, ◌<◌, ◌≤◌, Bool, true, false, cond, ◌==◌, List, [], ◌∷◌, map, length, Option, Some, None, slice_get, slice_index, refl, sym, ap, subst, arith, eqb-true}
use Rattle.std.specs.Prelude.{nat_lt, slice_index_or}
use Rattle.std.specs.List.{sum_by}
use Rattle.std.specs.Option.{option_map_or}
use Rattle.std.proofs.lemmas.Bool.{and_parts}
use Rattle.std.proofs.lemmas.Bool.Decides.{nat_tests}
use Rattle.std.proofs.lemmas.List.Sums.{sum_by-cons, sum_by-le-sum_by}
use Rattle.std.proofs.lemmas.Option.{same_Some}
use Rattle.room_kinds.specs.Structure.{is_imported}
use Rattle.room_kinds.specs.declared.structure.PortKind.{PortKind}
use Rattle.room_kinds.specs.declared.structure.PortKind.TheVariants.{Frame, Relay, End, Internal, Sap, Spp}
use Rattle.room_kinds.specs.declared.structure.ReferenceKind.{ReferenceKind}
use Rattle.room_kinds.specs.declared.structure.ReferenceKind.TheVariants as kinds
use Rattle.room_wiring.specs.declared.slot.Slot.{Slot}
use Rattle.wiring_plan.specs.declared.structure_plan.plan.PlacesPlan.{PlacesPlan}
use Rattle.wiring_plan.specs.declared.structure_plan.plan.PlacesPlan.TheVariants.{One, Number, Any}
use Rattle.wiring_plan.specs.declared.structure_plan.plan.PortPlan.{PortPlan}
use Rattle.wiring_plan.specs.declared.structure_plan.plan.ReferencePlan.{ReferencePlan}
use Rattle.wiring_plan.specs.declared.structure_plan.plan.ClassPlan.{ClassPlan}
use Rattle.wiring_plan.specs.declared.structure_plan.plan.StructurePlan.{StructurePlan}
use Rattle.wiring_slots.specs.slot_tree.Places.{counted, counted_outside, counted_at, class_places, slot_places, has_too_many_places}
use Rattle.wiring_places.specs.declared.place_rules.stretch.Supply.TheVariants.{Limited, Growing}
use Rattle.wiring_places.specs.place_rules.Parts.{class_plan, no_class, inside_of, container_class, container_of, is_child, children_from, children}
use Rattle.wiring_places.specs.place_rules.Stretches.{none_taken}
use Rattle.wiring_joins.specs.place_faces.SlotsOf.{AreSlotsOf}
use Rattle.wiring_joins.proofs.place_bounds.Rows.{own_places, free_from}
use Rattle.wiring_joins.proofs.place_bounds.Free.{of_own, of_inner, references_free, free}

-- ---- what a slot counts

places_or : (kind : ReferenceKind) (classes : List ClassPlan) (n : ℕ) → option_map_or (class_places kind) (slice_get classes n) 0 ≡ class_places kind (slice_index_or classes n no_class)
places_or kind [] n = refl
places_or kind (c ∷ cs) zero = refl
places_or kind (c ∷ cs) (suc n) = places_or kind cs n

pub slot_counts : (plan : StructurePlan) (x : Slot) → slot_places plan x ≡ sum_by (counted_at x.kind) (class_plan plan x.class).ports
slot_counts plan x = places_or x.kind plan.classes x.class

pub one_counts : (f : Slot → ℕ) (xs : List Slot) (s : ℕ) (x : Slot) → slice_get xs s ≡ Some x → f x ≤ sum_by f xs
one_counts f [] s x e = absurd cc
one_counts f (y ∷ ys) zero x e = let same = ap f (same_Some y x e) in omega (arith, same, sum_by-cons f y ys)
one_counts f (y ∷ ys) (suc s) x e = let more = one_counts f ys s x e in omega (arith, more, sum_by-cons f y ys)

few_counted : (n : ℕ) → nat_lt 65536 n ≡ false → n ≤ 65536
few_counted n e = grind (arith, nat_tests)

pub all_count : (plan : StructurePlan) (slots : List Slot) → has_too_many_places plan slots ≡ false → sum_by (slot_places plan) slots ≤ 65536
unfolding has_too_many_places
all_count plan slots e = few_counted (sum_by (slot_places plan) slots) e

-- ---- ports

outside_counts : (kind : ReferenceKind) (port : PortPlan) → counted_outside port ≤ counted_at kind port
outside_counts kind port = go kind port.kind port.places port.protocol
  where
    go : (kind : ReferenceKind) (of : PortKind) (places : PlacesPlan) (protocol : Option ℕ) → (let p : PortPlan = record { kind = of; places = places; protocol = protocol } in counted_outside p ≤ counted_at kind p)
    go kinds.Fixed Frame places protocol = omega arith
    go kinds.Fixed Relay places protocol = omega arith
    go kinds.Fixed End places protocol = omega arith
    go kinds.Fixed Internal places protocol = omega arith
    go kinds.Fixed Sap places protocol = omega arith
    go kinds.Fixed Spp places protocol = omega arith
    go kinds.Optional Frame places protocol = omega arith
    go kinds.Optional Relay places protocol = omega arith
    go kinds.Optional End places protocol = omega arith
    go kinds.Optional Internal places protocol = omega arith
    go kinds.Optional Sap places protocol = omega arith
    go kinds.Optional Spp places protocol = omega arith
    go kinds.Imported of places protocol = omega arith

own_counts : (kind : ReferenceKind) → is_imported kind ≡ false → (port : PortPlan) → own_places (of_own port) ≤ counted_at kind port
own_counts kind present port = by_kind kind present port.kind port.places port.protocol
  where
    go : (of : PortKind) (places : PlacesPlan) (protocol : Option ℕ) → (let p : PortPlan = record { kind = of; places = places; protocol = protocol } in own_places (of_own p) ≤ counted p)
    go Frame places protocol = omega arith
    go Relay One protocol = omega arith
    go Relay (Number n) protocol = omega arith
    go Relay Any protocol = omega arith
    go End places protocol = omega arith
    go Internal One protocol = omega arith
    go Internal (Number n) protocol = omega arith
    go Internal Any protocol = omega arith
    go Sap places protocol = omega arith
    go Spp places protocol = omega arith

    by_kind : (kind : ReferenceKind) → is_imported kind ≡ false → (of : PortKind) (places : PlacesPlan) (protocol : Option ℕ) → (let p : PortPlan = record { kind = of; places = places; protocol = protocol } in own_places (of_own p) ≤ counted_at kind p)
    by_kind kinds.Fixed h of places protocol = go of places protocol
    by_kind kinds.Optional h of places protocol = go of places protocol
    by_kind kinds.Imported h of places protocol = absurd cc

growing_none : (b : Bool) → own_places (cond b Growing (Limited 0)) ≡ 0
growing_none true = refl
growing_none false = refl

inner_counts : (count : ℕ) (port : PortPlan) → own_places (of_inner count port) ≤ count * counted_outside port
inner_counts count port = go port.kind port.places port.protocol
  where
    go : (of : PortKind) (places : PlacesPlan) (protocol : Option ℕ) → (let p : PortPlan = record { kind = of; places = places; protocol = protocol } in own_places (of_inner count p) ≤ count * counted_outside p)
    go Frame places protocol = omega arith
    go Relay One protocol = omega arith
    go Relay (Number n) protocol = omega arith
    go Relay Any protocol = omega arith
    go End One protocol = omega arith
    go End (Number n) protocol = omega arith
    go End Any protocol = let none = growing_none (count == 1) in omega (arith, none)
    go Internal places protocol = omega arith
    go Sap places protocol = omega arith
    go Spp places protocol = omega arith

own_row : (kind : ReferenceKind) → is_imported kind ≡ false → (k : ℕ) (ports : List PortPlan) → free_from of_own none_taken k ports ≤ sum_by (counted_at kind) ports
unfolding free_from
own_row kind present k [] = omega arith
own_row kind present k (port ∷ ports) =
    let here = own_counts kind present port in
    let more = own_row kind present (k + 1) ports in
    omega (arith, here, more, sum_by-cons (counted_at kind) port ports)

inner_row : (count k : ℕ) (ports : List PortPlan) → free_from (of_inner count) none_taken k ports ≤ count * sum_by counted_outside ports
unfolding free_from
inner_row count k [] = omega arith
inner_row count k (port ∷ ports) =
    let here = inner_counts count port in
    let more = inner_row count (k + 1) ports in
    let all = ap (λ n. count * n) (sum_by-cons counted_outside port ports) in
    omega (arith, here, more, all)

-- ---- the slots of references

-- so many places each, as many times as there are children of the references, the first of which has the number r
children_places : List Slot → ℕ → ℕ → ℕ → List ℕ → ℕ
children_places xs n c r [] = 0
children_places xs n c r (q ∷ qs) = length (children_from n xs c r) * q + children_places xs n c (r + 1) qs

-- so many places, if the slot is a child of the reference
child_places : Slot → ℕ → ℕ → List ℕ → ℕ
child_places x c r [] = 0
child_places x c r (q ∷ qs) = cond (is_child c r x) q 0 + child_places x c (r + 1) qs

child_past : (x : Slot) (c r : ℕ) (qs : List ℕ) → x.reference < r → child_places x c r qs ≡ 0
unfolding child_places
child_past x c r [] lt = refl
child_past x c r (q ∷ qs) lt =
    let here = pick (is_child c r x) refl in
    let more = child_past x c (r + 1) qs (omega (arith, lt)) in
    omega (arith, here, more)
  where
    pick : (b : Bool) → is_child c r x ≡ b → cond b q 0 ≡ 0
    pick true e = let same = eqb-true x.reference r (and_parts (container_of x == c) (x.reference == r) e).1 in absurd (omega (arith, same, lt))
    pick false e = refl

-- a slot is a child of one reference at most
child_once : (x : Slot) (c r most : ℕ) (qs : List ℕ) → (container_of x ≡ c → (i : ℕ) → x.reference ≡ r + i → slice_index qs i ≤ most) → child_places x c r qs ≤ most
unfolding child_places
child_once x c r most [] has = omega arith
child_once x c r most (q ∷ qs) has = pick (is_child c r x) refl (child_once x c (r + 1) most qs (λ at i same. has at (suc i) (omega (arith, same))))
  where
    pick : (b : Bool) → is_child c r x ≡ b → child_places x c (r + 1) qs ≤ most → cond b q 0 + child_places x c (r + 1) qs ≤ most
    pick true e rest =
        let tests = and_parts (container_of x == c) (x.reference == r) e in
        let at = eqb-true (container_of x) c tests.0 in
        let same = eqb-true x.reference r tests.1 in
        let here = has at 0 (omega (arith, same)) in
        let past = child_past x c (r + 1) qs (omega (arith, same)) in
        omega (arith, here, past)
    pick false e rest = omega (arith, rest)

children_more : (x : Slot) (xs : List Slot) (n c r : ℕ) (qs : List ℕ) → children_places (x ∷ xs) n c r qs ≡ child_places x c r qs + children_places xs (n + 1) c r qs
unfolding children_places child_places
children_more x xs n c r [] = refl
children_more x xs n c r (q ∷ qs) =
    let here = pick (is_child c r x) in
    let more = children_more x xs n c (r + 1) qs in
    omega (arith, here, more)
  where
    pick : (b : Bool) → length (cond b (n ∷ children_from (n + 1) xs c r) (children_from (n + 1) xs c r)) * q ≡ cond b q 0 + length (children_from (n + 1) xs c r) * q
    pick true = omega arith
    pick false = omega arith

no_children : (n c r : ℕ) (qs : List ℕ) → children_places [] n c r qs ≡ 0
unfolding children_places
no_children n c r [] = refl
no_children n c r (q ∷ qs) = let more = no_children n c (r + 1) qs in omega (arith, more)

children_few : (f : Slot → ℕ) (c : ℕ) (qs : List ℕ) (xs : List Slot) (n : ℕ) → ((s : ℕ) (x : Slot) → slice_get xs s ≡ Some x → container_of x ≡ c → slice_index qs x.reference ≤ f x) → children_places xs n c 0 qs ≤ sum_by f xs
children_few f c qs [] n has = let none = no_children n c 0 qs in omega (arith, none)
children_few f c qs (x ∷ xs) n has =
    let here = child_once x c 0 (f x) qs (λ at i same. let e : x.reference ≡ i = omega (arith, same) in subst (λ j. slice_index qs j ≤ f x) e (has 0 x refl at)) in
    let more = children_few f c qs xs (n + 1) (λ s y e. has (suc s) y e) in
    let all = children_more x xs n c 0 qs in
    omega (arith, here, more, all, sum_by-cons f x xs)

-- ---- the sides of a container

module _ (plan : StructurePlan) (slots : List Slot) (are : AreSlotsOf plan slots) where
  -- what the interface of a reference's class counts
  abbrev interface : ReferencePlan → ℕ
  interface x = sum_by counted_outside (class_plan plan x.class).ports

  interface_at : (xs : List ReferencePlan) (i : ℕ) (x : ReferencePlan) → slice_get xs i ≡ Some x → slice_index (map interface xs) i ≡ interface x
  interface_at [] i x e = absurd cc
  interface_at (y ∷ ys) zero x e = ap interface (same_Some y x e)
  interface_at (y ∷ ys) (suc i) x e = interface_at ys i x e

  references_few : (c r : ℕ) (xs : List ReferencePlan) → ((i : ℕ) (x : ReferencePlan) → slice_get xs i ≡ Some x → length (children slots c (r + i)) ≡ x.count) → references_free plan none_taken r xs ≤ children_places slots 0 c r (map interface xs)
  unfolding references_free children_places
  references_few c r [] has = omega arith
  references_few c r (x ∷ xs) has =
      let here = inner_row x.count ((r + 1) * 65536) (class_plan plan x.class).ports in
      let at : r + 0 ≡ r = omega arith in
      let many : length (children slots c r) ≡ x.count = ap (λ k. length (children slots c k)) (sym at) ∙ has 0 x refl in
      let times = ap (λ k. k * interface x) many in
      let more = references_few c (r + 1) xs (λ i y e. let w : r + suc i ≡ (r + 1) + i = omega arith in ap (λ k. length (children slots c k)) (sym w) ∙ has (suc i) y e) in
      omega (arith, here, times, more)

  inner_free : (c : ℕ) → references_free plan none_taken 0 (container_class plan slots c).references ≤ sum_by (slot_places plan) slots
  inner_free c =
      let references = (container_class plan slots c).references in
      let all = references_few c 0 references (λ i x e. let w : i ≡ 0 + i = omega arith in ap (λ k. length (children slots c k)) (sym w) ∙ are.counted c i x e) in
      let few = children_few (slot_places plan) c (map interface references) slots 0 slot_has in
      omega (arith, all, few)
    where
      slot_has : (s : ℕ) (x : Slot) → slice_get slots s ≡ Some x → container_of x ≡ c → slice_index (map interface (container_class plan slots c).references) x.reference ≤ slot_places plan x
      slot_has s x e at =
          let stands = are.stands s x e in
          let named : slice_get (container_class plan slots c).references x.reference ≡ Some stands.reference = ap (λ k. slice_get (container_class plan slots k).references x.reference) (sym at) ∙ stands.named in
          let is = interface_at (container_class plan slots c).references x.reference stands.reference named in
          let class = ap (λ k. sum_by counted_outside (class_plan plan k).ports) (sym stands.class) in
          let less = sum_by-le-sum_by counted_outside (counted_at x.kind) (class_plan plan x.class).ports (outside_counts x.kind) in
          let counts = slot_counts plan x in
          omega (arith, is, class, less, counts)

  own_slot : (found : Option Slot) → ((x : Slot) → found ≡ Some x → slot_places plan x ≤ sum_by (slot_places plan) slots) → free_from of_own none_taken 0 (inside_of plan found).ports ≤ sum_by (slot_places plan) slots
  unfolding free_from
  own_slot None has = omega arith
  own_slot (Some x) has = pick (is_imported x.kind) refl
    where
      pick : (b : Bool) → is_imported x.kind ≡ b → free_from of_own none_taken 0 (cond b no_class (class_plan plan x.class)).ports ≤ sum_by (slot_places plan) slots
      pick true e = omega arith
      pick false e =
          let own = own_row x.kind e 0 (class_plan plan x.class).ports in
          let counts = slot_counts plan x in
          let one = has x refl in
          omega (arith, own, counts, one)

  own_free : (c : ℕ) → free_from of_own none_taken 0 (container_class plan slots c).ports ≤ sum_by (slot_places plan) slots
  unfolding free_from
  own_free zero =
      let P : List PortPlan → Type 0 = λ ports. free_from of_own none_taken 0 ports ≤ sum_by (slot_places plan) slots in
      subst P (sym are.no_ports) (omega arith)
  own_free (suc s) = own_slot (slice_get slots s) (λ x e. one_counts (slot_places plan) slots s x e)

  -- all places that the sides of a container have at the beginning
  pub free_few : has_too_many_places plan slots ≡ false → (c : ℕ) → free plan (container_class plan slots c) none_taken ≤ 131072
  free_few e c =
      let own = own_free c in
      let inner = inner_free c in
      let all = all_count plan slots e in
      omega (arith, own, inner, all)
