-- Which places a side of a binding stands for.
use Rattle.std.proofs.Common.{◌≡◌, ◌∙◌, ◌⊎◌, inl, inr, ℕ, zero, suc, ◌+◌, ◌-◌, ◌*◌, ◌/◌, ◌%◌, ◌<◌, max, Bool, true, false, cond, ◌==◌, List, length, Option, Some, None, slice_get, slice_index, refl, sym, ap, subst, arith, eqb-true, div-add-mod'}
use Rattle.std.proofs.lemmas.Bool.{and_parts}
use Rattle.std.proofs.lemmas.Option.{same_Some}
use Rattle.std.proofs.lemmas.Nat.{div_below, mod_below}
use Rattle.room_kinds.specs.declared.structure.PortKind.{PortKind}
use Rattle.room_kinds.specs.declared.structure.PortKind.TheVariants.{Frame, Relay, End, Internal, Sap, Spp}
use Rattle.room_wiring.specs.declared.slot.Slot.{Slot}
use Rattle.wiring_plan.specs.declared.structure_plan.plan.SidePlan.{SidePlan}
use Rattle.wiring_plan.specs.declared.structure_plan.plan.SidePlan.TheVariants.{Own, Inner}
use Rattle.wiring_plan.specs.declared.structure_plan.plan.PlacesPlan.{PlacesPlan}
use Rattle.wiring_plan.specs.declared.structure_plan.plan.PlacesPlan.TheVariants.{One, Number, Any}
use Rattle.wiring_plan.specs.declared.structure_plan.plan.PortPlan.{PortPlan}
use Rattle.wiring_plan.specs.declared.structure_plan.plan.ClassPlan.{ClassPlan}
use Rattle.wiring_plan.specs.declared.structure_plan.plan.ReferencePlan.{ReferencePlan}
use Rattle.wiring_plan.specs.declared.structure_plan.plan.StructurePlan.{StructurePlan}
use Rattle.wiring_places.specs.declared.place_rules.place.LayerJoin.{LayerJoin}
use Rattle.wiring_places.specs.declared.place_rules.stretch.Supply.{Supply}
use Rattle.wiring_places.specs.declared.place_rules.stretch.Supply.TheVariants.{Limited, Growing}
use Rattle.room_kinds.specs.Structure.{is_imported}
use Rattle.wiring_places.specs.place_rules.Parts.{class_plan, no_class, container_of, container_class, inside_of, children}
use Rattle.wiring_places.specs.place_rules.Stretches.{side_number, supply_of_places, supply_of_relay, own_supply_of, own_supply, inner_supply_of, inner_supply, reference_supply, supply, all_taken}
use Rattle.wiring_places.specs.place_rules.Counts.{counts, spans_from, first_ports_from, span_of, count_of, place_count, served_at, service_key}
use Rattle.wiring_places.specs.place_rules.Pairs.{is_relay, inner_side, place_at, side_face}
use Rattle.wiring_joins.specs.place_faces.SlotsOf.{AreSlotsOf}
use Rattle.wiring_joins.proofs.place_faces.Children.{same_child, child_at}
use Rattle.wiring_joins.proofs.place_faces.Rows.{IsPort, own_count, span_is}
use Rattle.wiring_joins.proofs.place_faces.Faces.{IsFace, same_face, face_of_span}

-- a place with this number is among those of a side, of which so many are taken in all
abbrev pub IsWithin : Supply → ℕ → ℕ → Type 0
IsWithin (Limited m) taken n = n < m
IsWithin Growing taken n = n < taken

-- the side of a class has a place at n
abbrev pub HasPlace : StructurePlan → ClassPlan → SidePlan → ℕ → Type 0
HasPlace plan class side n = IsWithin (supply plan class side) (all_taken plan class (side_number side)) n

-- f is the face that a container's own port turns to the inside at place n
pub record UsesOwn (plan : StructurePlan) (slots : List Slot) (joins : List LayerJoin) (c : ℕ) (side : SidePlan) (n f : ℕ) : Type 0 where
  pub s : ℕ
  pub p : ℕ
  pub d : ℕ
  pub x : Slot
  pub port : PortPlan
  pub container : c ≡ s + 1
  pub named : side ≡ Own p
  pub face : IsFace plan slots joins f s p n d x port
  pub present : is_imported x.kind ≡ false
  pub kind : ((port.kind ≡ Relay) × (d ≡ 1)) ⊎ ((port.kind ≡ Internal) × (d ≡ 0))

-- f is the outer face of the place at n of a port of a container's reference
pub record UsesInner (plan : StructurePlan) (slots : List Slot) (joins : List LayerJoin) (c : ℕ) (side : SidePlan) (n f : ℕ) : Type 0 where
  pub s : ℕ
  pub p : ℕ
  pub k : ℕ
  pub i : ℕ
  pub x : Slot
  pub port : PortPlan
  pub container : c ≡ container_of x
  pub named : side ≡ Inner x.reference p
  pub child : s ≡ slice_index (children slots c x.reference) i
  pub among : i < length (children slots c x.reference)
  pub place : n ≡ i * own_count plan slots joins s x p port + k
  pub face : IsFace plan slots joins f s p k 0 x port
  pub kind : (port.kind ≡ Relay) ⊎ (port.kind ≡ End)

-- f is the face of the place at n of a side of a container's binding
abbrev pub Uses : StructurePlan → List Slot → List LayerJoin → ℕ → SidePlan → ℕ → ℕ → Type 0
Uses plan slots joins c side n f = UsesOwn plan slots joins c side n f ⊎ UsesInner plan slots joins c side n f

-- one face is the place of one number of one side of one container
abbrev pub AreOne : ℕ → SidePlan → ℕ → ℕ → SidePlan → ℕ → Type 0
AreOne c side n c' side' n' = (c ≡ c') × (side ≡ side') × (n ≡ n')

other_kinds : (kind : PortKind) (d : ℕ) → ((kind ≡ Relay) × (d ≡ 1)) ⊎ ((kind ≡ Internal) × (d ≡ 0)) → (kind ≡ Relay) ⊎ (kind ≡ End) → d ≡ 0 → ⊥
other_kinds kind d (inl own) inner e = omega (arith, own.1, e)
other_kinds kind d (inr own) (inl inner) e = let a = own.0 in cc
other_kinds kind d (inr own) (inr inner) e = let a = own.0 in cc

module _ (plan : StructurePlan) (slots : List Slot) (joins : List LayerJoin) where
  own_own : (c : ℕ) (side : SidePlan) (n f c' : ℕ) (side' : SidePlan) (n' : ℕ) → UsesOwn plan slots joins c side n f → UsesOwn plan slots joins c' side' n' f → AreOne c side n c' side' n'
  own_own c side n f c' side' n' u v =
      let e = same_face plan slots joins f u.s u.p n u.d u.x u.port v.s v.p n' v.d v.x v.port u.face v.face in
      (u.container ∙ ap (λ m. m + 1) e.slot ∙ sym v.container, u.named ∙ ap (λ m. Own m) e.port_number ∙ sym v.named, e.place)

  own_inner : (c : ℕ) (side : SidePlan) (n f c' : ℕ) (side' : SidePlan) (n' : ℕ) → UsesOwn plan slots joins c side n f → UsesInner plan slots joins c' side' n' f → ⊥
  own_inner c side n f c' side' n' u v =
      let e = same_face plan slots joins f u.s u.p n u.d u.x u.port v.s v.p v.k 0 v.x v.port u.face v.face in
      let Q : PortPlan → Type 0 = λ q. (q.kind ≡ Relay) ⊎ (q.kind ≡ End) in
      other_kinds u.port.kind u.d u.kind (subst Q (sym e.port_is) v.kind) e.face

  same_index : (c r i s c' r' i' s' : ℕ) → c ≡ c' → r ≡ r' → s ≡ s' → s ≡ slice_index (children slots c r) i → i < length (children slots c r) → s' ≡ slice_index (children slots c' r') i' → i' < length (children slots c' r') → i ≡ i'
  same_index c r i s c' r' i' s' ec er es is lt is' lt' =
      let lists : children slots c' r' ≡ children slots c r = ap (λ m. children slots m r') (sym ec) ∙ ap (children slots c) (sym er) in
      let Q : List ℕ → Type 0 = λ ns. i' < length ns in
      same_child slots c r i i' lt (subst Q lists lt') (sym is ∙ es ∙ is' ∙ ap (λ ns. slice_index ns i') lists)

  inner_inner : (c : ℕ) (side : SidePlan) (n f c' : ℕ) (side' : SidePlan) (n' : ℕ) → UsesInner plan slots joins c side n f → UsesInner plan slots joins c' side' n' f → AreOne c side n c' side' n'
  inner_inner c side n f c' side' n' u v =
      let e = same_face plan slots joins f u.s u.p u.k 0 u.x u.port v.s v.p v.k 0 v.x v.port u.face v.face in
      let containers : c ≡ c' = u.container ∙ ap container_of e.slot_is ∙ sym v.container in
      let references : u.x.reference ≡ v.x.reference = ap (λ (z : Slot). z.reference) e.slot_is in
      let index = same_index c u.x.reference u.i u.s c' v.x.reference v.i v.s containers references e.slot u.child u.among v.child v.among in
      let counts_same : own_count plan slots joins u.s u.x u.p u.port ≡ own_count plan slots joins v.s v.x v.p v.port =
      ap (λ m. own_count plan slots joins m u.x u.p u.port) e.slot ∙ ap (λ (z : Slot). own_count plan slots joins v.s z u.p u.port) e.slot_is ∙ ap (λ m. own_count plan slots joins v.s v.x m u.port) e.port_number ∙ ap (own_count plan slots joins v.s v.x v.p) e.port_is in
      let numbers : u.i * own_count plan slots joins u.s u.x u.p u.port + u.k ≡ v.i * own_count plan slots joins v.s v.x v.p v.port + v.k =
      ap (λ m. m * own_count plan slots joins u.s u.x u.p u.port + u.k) index ∙ ap (λ m. v.i * m + u.k) counts_same ∙ ap (λ m. v.i * own_count plan slots joins v.s v.x v.p v.port + m) e.place in
      (containers, u.named ∙ ap (λ m. Inner m u.p) references ∙ ap (λ m. Inner v.x.reference m) e.port_number ∙ sym v.named, u.place ∙ numbers ∙ sym v.place)

  pub same_use : (c : ℕ) (side : SidePlan) (n f c' : ℕ) (side' : SidePlan) (n' : ℕ) → Uses plan slots joins c side n f → Uses plan slots joins c' side' n' f → AreOne c side n c' side' n'
  same_use c side n f c' side' n' (inl u) (inl v) = own_own c side n f c' side' n' u v
  same_use c side n f c' side' n' (inl u) (inr v) = absurd (own_inner c side n f c' side' n' u v)
  same_use c side n f c' side' n' (inr u) (inl v) = absurd (own_inner c' side' n' f c side n v u)
  same_use c side n f c' side' n' (inr u) (inr v) = inner_inner c side n f c' side' n' u v

-- ---- the places of an own port

relay_within : (places : PlacesPlan) (taken n : ℕ) → IsWithin (supply_of_relay 1 places) taken n → n < count_of places 0
relay_within One taken n h = h
relay_within (Number m) taken n h = omega (arith, h)
relay_within Any taken n h = absurd (omega (arith, h))

internal_within : (places : PlacesPlan) (taken n : ℕ) → IsWithin (supply_of_places 1 places) taken n → n < count_of places taken
internal_within One taken n h = h
internal_within (Number m) taken n h = omega (arith, h)
internal_within Any taken n h = h

module _ (plan : StructurePlan) (slots : List Slot) (joins : List LayerJoin) where
  abbrev first_ports : List ℕ
  first_ports = first_ports_from plan 0 slots

  abbrev first_of : ℕ → ℕ → ℕ
  first_of s p = (span_of first_ports (spans_from 0 (counts plan slots joins)) s p).first

  -- what is taken inside of slot s
  abbrev taken_inside : ℕ → ℕ → ℕ
  taken_inside s = all_taken plan (container_class plan slots (s + 1))

  -- how many places a port of this kind has
  pub count_by_kind : (s p : ℕ) (x : Slot) (port : PortPlan) (kind : PortKind) → port.kind ≡ kind
      → own_count plan slots joins s x p port ≡ place_count (is_imported x.kind) kind port.places (all_taken plan (container_class plan slots (container_of x)) ((x.reference + 1) * 65536 + p)) (taken_inside s p) (served_at joins (service_key s p))
  count_by_kind s p x port kind e =
      ap (λ k. place_count (is_imported x.kind) k port.places (all_taken plan (container_class plan slots (container_of x)) ((x.reference + 1) * 65536 + p)) (taken_inside s p) (served_at joins (service_key s p))) e

  own_by_kind : (s p n f : ℕ) (x : Slot) (port : PortPlan) (kind : PortKind) → IsPort plan slots s p x port → is_imported x.kind ≡ false → port.kind ≡ kind → IsWithin (own_supply_of kind port.places) (taken_inside s p) n → f ≡ 2 * (first_of s p + n) + is_relay kind
      → UsesOwn plan slots joins (suc s) (Own p) n f
  own_by_kind s p n f x port Frame at present e h is = absurd (omega (arith, h))
  own_by_kind s p n f x port Relay at present e h is =
      let count = count_by_kind s p x port Relay e in
      let lt = relay_within port.places (taken_inside s p) n h in
      record {
        s = s;
        p = p;
        d = 1;
        x = x;
        port = port;
        container = omega arith;
        named = refl;
        face = face_of_span plan slots joins f s p n 1 x port at (omega (arith, count, lt)) (omega arith) is;
        present = present;
        kind = inl (e, refl);
      }
  own_by_kind s p n f x port End at present e h is = absurd (omega (arith, h))
  own_by_kind s p n f x port Internal at present e h is =
      let count = count_by_kind s p x port Internal e ∙ ap (λ b. cond b 0 (count_of port.places (taken_inside s p))) present in
      let lt = internal_within port.places (taken_inside s p) n h in
      record {
        s = s;
        p = p;
        d = 0;
        x = x;
        port = port;
        container = omega arith;
        named = refl;
        face = face_of_span plan slots joins f s p n 0 x port at (omega (arith, count, lt)) (omega arith) is;
        present = present;
        kind = inr (e, refl);
      }
  own_by_kind s p n f x port Sap at present e h is = absurd (omega (arith, h))
  own_by_kind s p n f x port Spp at present e h is = absurd (omega (arith, h))

  own_by_port : (s p n f : ℕ) (x : Slot) (found : Option PortPlan) → slice_get slots s ≡ Some x → is_imported x.kind ≡ false → slice_get (class_plan plan x.class).ports p ≡ found → IsWithin (own_supply found) (taken_inside s p) n → f ≡ 2 * (first_of s p + n) + inner_side found
      → UsesOwn plan slots joins (suc s) (Own p) n f
  own_by_port s p n f x None slot present e h is = absurd (omega (arith, h))
  own_by_port s p n f x (Some port) slot present e h is = own_by_kind s p n f x port port.kind (record { slot = slot; named = e }) present refl h is

  own_by_import : (s p n f : ℕ) (x : Slot) (b : Bool) → slice_get slots s ≡ Some x → is_imported x.kind ≡ b → IsWithin (own_supply (slice_get (cond b no_class (class_plan plan x.class)).ports p)) (taken_inside s p) n → f ≡ 2 * (first_of s p + n) + inner_side (slice_get (cond b no_class (class_plan plan x.class)).ports p)
      → UsesOwn plan slots joins (suc s) (Own p) n f
  own_by_import s p n f x true slot e h is = absurd (omega (arith, h))
  own_by_import s p n f x false slot e h is = own_by_port s p n f x (slice_get (class_plan plan x.class).ports p) slot e refl h is

  own_by_slot : (s p n f : ℕ) (found : Option Slot) → slice_get slots s ≡ found → IsWithin (own_supply (slice_get (inside_of plan found).ports p)) (taken_inside s p) n → f ≡ 2 * (first_of s p + n) + inner_side (slice_get (inside_of plan found).ports p) → UsesOwn plan slots joins (suc s) (Own p) n f
  own_by_slot s p n f None e h is = absurd (omega (arith, h))
  own_by_slot s p n f (Some x) e h is = own_by_import s p n f x (is_imported x.kind) e refl h is

  own_use : AreSlotsOf plan slots → (c p n f : ℕ) → HasPlace plan (container_class plan slots c) (Own p) n → f ≡ side_face slots first_ports (spans_from 0 (counts plan slots joins)) (container_class plan slots c) c (Own p) n → UsesOwn plan slots joins c (Own p) n f
  own_use are zero p n f h is =
      let none : IsWithin (own_supply None) (all_taken plan plan.subsystem p) n =
      let Q : List PortPlan → Type 0 = λ ports. IsWithin (own_supply (slice_get ports p)) (all_taken plan plan.subsystem p) n in subst Q are.no_ports h in
      absurd (omega (arith, none))
  own_use are (suc s) p n f h is =
      let container : suc s ≡ s + 1 = omega arith in
      let slot : suc s - 1 ≡ s = omega arith in
      let Q : ℕ → Type 0 = λ c. IsWithin (own_supply (slice_get (inside_of plan (slice_get slots s)).ports p)) (all_taken plan (container_class plan slots c) p) n in
      own_by_slot s p n f (slice_get slots s) refl (subst Q container h) (is ∙ ap (λ m. 2 * (first_of m p + n) + inner_side (slice_get (inside_of plan (slice_get slots s)).ports p)) slot)

-- ---- the places of a port of a reference

relay_places : (count : ℕ) (places : PlacesPlan) (taken n : ℕ) → IsWithin (supply_of_relay count places) taken n → n < count * count_of places 0
relay_places count One taken n h = omega (arith, h)
relay_places count (Number m) taken n h = h
relay_places count Any taken n h = absurd (omega (arith, h))

end_places : (count : ℕ) (places : PlacesPlan) (taken n : ℕ) → IsWithin (supply_of_places count places) taken n → n < count * count_of places taken
end_places count One taken n h = omega (arith, h)
end_places count (Number m) taken n h = h
end_places count Any taken n h = pick (count == 1) refl h
  where
    pick : (b : Bool) → (count == 1) ≡ b → IsWithin (cond b Growing (Limited 0)) taken n → n < count * taken
    pick true e lt =
        let one : count ≡ 1 = eqb-true count 1 e in
        let Q : ℕ → Type 0 = λ m. n < m * taken in subst Q (sym one) (omega (arith, lt))
    pick false e lt = absurd (omega (arith, lt))

-- a place in rows of equal length, by row and column
in_rows : (n rows width : ℕ) → n < rows * width → (0 < rows) × (0 < width) × (n / max width 1 < rows) × (n % max width 1 < width) × (n ≡ (n / max width 1) * width + n % max width 1)
in_rows n rows zero h = absurd (omega (arith, h))
in_rows n zero (suc w) h = absurd (omega (arith, h))
in_rows n (suc r) (suc w) h =
    let wide : max (suc w) 1 ≡ suc w = omega arith in
    let positive : 0 < suc w = omega arith in
    let split = div-add-mod' n (suc w) in
    let Q : ℕ → Type 0 = λ m. (n / m < suc r) × (n % m < suc w) × (n ≡ (n / m) * suc w + n % m) in
    let at : Q (suc w) = (div_below n (suc w) (suc r) positive h, mod_below n (suc w) positive, sym split) in
    let is = subst Q (sym wide) at in
    (omega arith, positive, is.0, is.1, is.2)

module _ (plan : StructurePlan) (slots : List Slot) (joins : List LayerJoin) (are : AreSlotsOf plan slots) (c r : ℕ) (reference : ReferencePlan) (named : slice_get (container_class plan slots c).references r ≡ Some reference) where
  -- a slot of the reference
  pub record IsOfReference (s : ℕ) : Type 0 where
    pub x : Slot
    pub slot : slice_get slots s ≡ Some x
    pub container : container_of x ≡ c
    pub number : x.reference ≡ r
    pub class : x.class ≡ reference.class
    pub kind : x.kind ≡ reference.kind

  pub of_reference : (i : ℕ) → i < length (children slots c r) → IsOfReference (slice_index (children slots c r) i)
  of_reference i lt =
      let f = child_at slots c r i lt in
      let tests = and_parts (container_of f.0 == c) (f.0.reference == r) f.2 in
      let container = eqb-true (container_of f.0) c tests.0 in
      let number = eqb-true f.0.reference r tests.1 in
      let stands = are.stands (slice_index (children slots c r) i) f.0 f.1 in
      let same : stands.reference ≡ reference =
      same_Some stands.reference reference (sym stands.named ∙ ap (λ k. slice_get (container_class plan slots k).references f.0.reference) container ∙ ap (slice_get (container_class plan slots c).references) number ∙ named) in
      record { x = f.0; slot = f.1; container = container; number = number; class = stands.class ∙ ap (λ (q : ReferencePlan). q.class) same; kind = stands.kind ∙ ap (λ (q : ReferencePlan). q.kind) same }

  module _ (p : ℕ) (port : PortPlan) (has : slice_get (class_plan plan reference.class).ports p ≡ Some port) where
    port_of : (s : ℕ) (o : IsOfReference s) → IsPort plan slots s p o.x port
    port_of s o = record { slot = o.slot; named = ap (λ k. slice_get (class_plan plan k).ports p) o.class ∙ has }

    -- what the bindings of the container take of it
    abbrev taken : ℕ
    taken = all_taken plan (container_class plan slots c) ((r + 1) * 65536 + p)

    taken_is : (s : ℕ) (o : IsOfReference s) → all_taken plan (container_class plan slots (container_of o.x)) ((o.x.reference + 1) * 65536 + p) ≡ taken
    taken_is s o = ap (λ k. all_taken plan (container_class plan slots k) ((o.x.reference + 1) * 65536 + p)) o.container ∙ ap (λ k. all_taken plan (container_class plan slots c) ((k + 1) * 65536 + p)) o.number

    module _ (width : ℕ) (wide : (s : ℕ) (o : IsOfReference s) → own_count plan slots joins s o.x p port ≡ width) (passes : (port.kind ≡ Relay) ⊎ (port.kind ≡ End)) where
      inner_placed : (n f : ℕ) → n < reference.count * width → f ≡ 2 * place_at (first_ports_from plan 0 slots) (spans_from 0 (counts plan slots joins)) (children slots c r) p n → UsesInner plan slots joins c (Inner r p) n f
      inner_placed n f lt is =
          let rows = in_rows n reference.count width lt in
          let many = are.counted c r reference named in
          let among_first : 0 < length (children slots c r) = omega (arith, rows.0, many) in
          let first = of_reference 0 among_first in
          let s0 = slice_index (children slots c r) 0 in
          let span0 = span_is plan slots joins s0 first.x p port (port_of s0 first) in
          let each : (span_of (first_ports_from plan 0 slots) (spans_from 0 (counts plan slots joins)) s0 p).count ≡ width = span0.1 ∙ wide s0 first in
          let at : f ≡ 2 * ((span_of (first_ports_from plan 0 slots) (spans_from 0 (counts plan slots joins)) (slice_index (children slots c r) (n / max width 1)) p).first + n % max width 1) =
          is ∙ ap (λ m. 2 * ((span_of (first_ports_from plan 0 slots) (spans_from 0 (counts plan slots joins)) (slice_index (children slots c r) (n / max m 1)) p).first + n % max m 1)) each in
          let i = n / max width 1 in
          let k = n % max width 1 in
          let s = slice_index (children slots c r) i in
          let among : i < length (children slots c r) = omega (arith, rows.2, many) in
          let o = of_reference i among in
          let count = wide s o in
          let lists : children slots c o.x.reference ≡ children slots c r = ap (children slots c) o.number in
          let Q : List ℕ → Type 0 = λ ns. i < length ns in
          record {
            s = s;
            p = p;
            k = k;
            i = i;
            x = o.x;
            port = port;
            container = sym o.container;
            named = ap (λ m. Inner m p) (sym o.number);
            child = ap (λ ns. slice_index ns i) (sym lists);
            among = subst Q (sym lists) among;
            place = rows.4 ∙ ap (λ m. i * m + k) (sym count);
            face = face_of_span plan slots joins f s p k 0 o.x port (port_of s o) (omega (arith, rows.3, count)) (omega arith) (at ∙ omega arith);
            kind = passes;
          }

    inner_by_kind : (n f : ℕ) (kind : PortKind) → port.kind ≡ kind → IsWithin (inner_supply_of reference.count kind port.places) taken n → f ≡ 2 * place_at (first_ports_from plan 0 slots) (spans_from 0 (counts plan slots joins)) (children slots c r) p n → UsesInner plan slots joins c (Inner r p) n f
    inner_by_kind n f Frame e h is = absurd (omega (arith, h))
    inner_by_kind n f Relay e h is = inner_placed (count_of port.places 0) (λ s o. count_by_kind plan slots joins s p o.x port Relay e) (inl e) n f (relay_places reference.count port.places taken n h) is
    inner_by_kind n f End e h is =
        inner_placed (count_of port.places taken) (λ s o. count_by_kind plan slots joins s p o.x port End e ∙ ap (count_of port.places) (taken_is s o)) (inr e) n f (end_places reference.count port.places taken n h) is
    inner_by_kind n f Internal e h is = absurd (omega (arith, h))
    inner_by_kind n f Sap e h is = absurd (omega (arith, h))
    inner_by_kind n f Spp e h is = absurd (omega (arith, h))

  inner_by_port : (p n f : ℕ) (found : Option PortPlan) → slice_get (class_plan plan reference.class).ports p ≡ found → IsWithin (inner_supply reference.count found) (all_taken plan (container_class plan slots c) ((r + 1) * 65536 + p)) n
      → f ≡ 2 * place_at (first_ports_from plan 0 slots) (spans_from 0 (counts plan slots joins)) (children slots c r) p n → UsesInner plan slots joins c (Inner r p) n f
  inner_by_port p n f None e h is = absurd (omega (arith, h))
  inner_by_port p n f (Some port) e h is = inner_by_kind p port e n f port.kind refl h is

module _ (plan : StructurePlan) (slots : List Slot) (joins : List LayerJoin) (are : AreSlotsOf plan slots) where
  inner_by_reference : (c r p n f : ℕ) (found : Option ReferencePlan) → slice_get (container_class plan slots c).references r ≡ found → IsWithin (reference_supply plan found p) (all_taken plan (container_class plan slots c) ((r + 1) * 65536 + p)) n
      → f ≡ 2 * place_at (first_ports_from plan 0 slots) (spans_from 0 (counts plan slots joins)) (children slots c r) p n → UsesInner plan slots joins c (Inner r p) n f
  inner_by_reference c r p n f None e h is = absurd (omega (arith, h))
  inner_by_reference c r p n f (Some reference) e h is = inner_by_port plan slots joins are c r reference e p n f (slice_get (class_plan plan reference.class).ports p) refl h is

  -- each place of a side of a container's bindings is one of a port's, on the face that the container sees
  pub side_use : (c : ℕ) (side : SidePlan) (n f : ℕ) → HasPlace plan (container_class plan slots c) side n → f ≡ side_face slots (first_ports_from plan 0 slots) (spans_from 0 (counts plan slots joins)) (container_class plan slots c) c side n → Uses plan slots joins c side n f
  side_use c (Own p) n f h is = inl (own_use plan slots joins are c p n f h is)
  side_use c (Inner r p) n f h is = inr (inner_by_reference c r p n f (slice_get (container_class plan slots c).references r) refl h is)
