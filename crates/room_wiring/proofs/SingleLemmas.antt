-- The tables of one actor name only what they have.
use Rattle.std.proofs.Common.{◌≡◌, ℕ, suc, zero, ◌+◌, ◌<◌, ◌≤◌, List, [], ◌∷◌, false, Some, length, replicate, slice_get, slice_index, arith, refl}
use Rattle.std.proofs.lemmas.List.{length-replicate, get_or-replicate}
use Rattle.std.proofs.lemmas.Option.{slice_get_within, get_or_from_slice_get}
use Rattle.room_wiring.specs.declared.tables.Tables.{Tables}
use Rattle.room_wiring.specs.declared.slot.Slot.{Slot}
use Rattle.room_wiring.specs.declared.names.ClassNames.{ClassNames}
use Rattle.room_wiring.specs.Slots.{class_of}
use Rattle.room_wiring.specs.Places.{port_count}
use Rattle.room_wiring.specs.Consistent.{IsConsistent}
use Rattle.room_wiring.specs.Single.{single_tables, top_slot, one_place}

-- the only item of a list of one
only : {A : Type 0} (a x : A) (i : ℕ) → slice_get (a ∷ []) i ≡ Some x → a ≡ x
only a x zero e = cc
only a x (suc i) e = cc

-- each item of equal ones
same : {A : Type 0} (n : ℕ) (a x : A) (i : ℕ) → slice_get (replicate n a) i ≡ Some x → a ≡ x
same n a x i e =
    let within : i < length (replicate n a) = slice_get_within _ _ _ e in
    let below : i < n = rw length-replicate at within in
    let at_x = get_or_from_slice_get (replicate n a) i x a e in
    let at_a = get_or-replicate n i a a below in
    cc

abbrev tables : List ℕ → ClassNames → Tables
tables path class = single_tables path class

class_known : (path : List ℕ) (class : ClassNames) (s : ℕ) (x : Slot) → slice_get (tables path class).slots s ≡ Some x → x.class < 1
class_known path class s x e = rw (← only (top_slot path) x s e) (omega arith)

owner_known : (path : List ℕ) (class : ClassNames) (s : ℕ) (x : Slot) → slice_get (tables path class).slots s ≡ Some x → x.owner.0 < 1
owner_known path class s x e = rw (← only (top_slot path) x s e) (omega arith)

ports_known : (path : List ℕ) (class : ClassNames) (s : ℕ) → s < 1 → slice_index (0 ∷ []) s + port_count (tables path class) s ≤ length (tables path class).ports
unfolding port_count class_of
ports_known path class zero h = rw length-replicate (omega arith)
ports_known path class (suc s) h = absurd (omega arith)

pub single_consistent : (path : List ℕ) (class : ClassNames) → IsConsistent (single_tables path class)
single_consistent path class = record {
  slots_numbered = omega arith;
  controllers_numbered = omega arith;
  classes_known = class_known path class;
  owners_known = owner_known path class;
  first_ports_complete = refl;
  ports_complete = ports_known path class;
  partners_complete = λ i span e. rw (← same (length class.ports) one_place span i e) (omega arith);
  told_complete = refl;
  told_rows_complete = λ s row e. rw (← only (false ∷ []) row s e) refl;
}
