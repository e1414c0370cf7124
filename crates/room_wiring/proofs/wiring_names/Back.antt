-- Numbers that are read back from names, at a wiring whose names tell things apart.
use Rattle.std.proofs.Common.{◌≡◌, ℕ, ◌<◌, true, cond, List, [], ◌∷◌, length, map, refl, sym, ap, ◌∙◌, Option, Some, None, arith}
use Rattle.std.specs.Prelude.{slice_get, option_and_then, nat_lt}
use Rattle.std.specs.Option.{option_map_or}
use Rattle.std.proofs.lemmas.Bool.Decides.{nat_tests}
use Rattle.std.proofs.lemmas.Option.{slice_get_within, option_and_then_some}
use Rattle.std.proofs.Math.ListN.{length-map}
use Rattle.room_wiring.specs.declared.tables.Tables.{Tables}
use Rattle.room_wiring.specs.declared.slot.Slot.{Slot}
use Rattle.room_wiring.specs.declared.names.ClassNames.{ClassNames}
use Rattle.room_wiring.specs.declared.names.PortNames.{PortNames}
use Rattle.room_wiring.specs.declared.names.SignalNames.{SignalNames}
use Rattle.room_wiring.specs.Slots.{slot_at, class_at, class_of}
use Rattle.room_wiring.specs.WellNamed.{NamesDiffer, IsWellNamed, IsWellNamedClass, IsWellNamedPort, signals_of}
use Rattle.room_wiring.specs.wiring_names.Lookup.{numbered, narrowed, place_of, slot_called, port_in, port_called, state_in, state_called, signal_in, signal_called, port_of}
use Rattle.room_wiring.proofs.wiring_names.Fresh.{distinct_names, numbered_distinct, place_or_len}
use Rattle.room_wiring.proofs.wiring_names.Found.{all_at}

narrowed_place : (i n : ℕ) → i < n → i < 65536 → narrowed (cond (nat_lt i n) (Some i) None) ≡ i
narrowed_place i n h small =
    let inside : nat_lt i n ≡ true = grind (arith, nat_tests) in
    let fits : nat_lt i 65536 ≡ true = grind (arith, nat_tests) in
    rw (inside, fits) refl

-- the place of an item's name, among names that differ, is the item's
pub place_at : {A : Type 0} (name : A → List ℕ) (xs : List A) (i : ℕ) (x : A) → NamesDiffer name xs → slice_get xs i ≡ Some x → i < 65536 → place_of (map name xs) (name x) ≡ i
unfolding place_of
place_at name xs i x h e small =
    let inside : i < length (map name xs) = rw length-map (slice_get_within xs i x e) in
    ap (λ (n : ℕ). narrowed (cond (nat_lt n (length (map name xs))) (Some n) None)) (place_or_len name xs i x h e) ∙ narrowed_place i (length (map name xs)) inside small

-- and so it is when they are numbered
pub place_back : {A : Type 0} (name : A → List ℕ) (xs : List A) (i : ℕ) (x : A) → NamesDiffer name xs → slice_get xs i ≡ Some x → i < 65536 → place_of (numbered (map name xs)) (name x) ≡ i
place_back name xs i x h e small = ap (λ ns. place_of ns (name x)) (numbered_distinct (map name xs) (distinct_names name xs h)) ∙ place_at name xs i x h e small

own_names : (ls : List (List ℕ)) → map (λ (l : List ℕ). l) ls ≡ ls
own_names [] = refl
own_names (l ∷ ls) = ap (λ (more : List (List ℕ)). l ∷ more) (own_names ls)

pub slot_back : (t : Tables) (s : ℕ) (x : Slot) → IsWellNamed t → slot_at t s ≡ Some x → s < 65536 → slot_called t x.path ≡ s
slot_back t s x h e small = place_at (λ (y : Slot). y.path) t.slots s x h.paths_differ e small

-- the class of a slot is well named
pub class_named : (t : Tables) (s : ℕ) (c : ClassNames) → IsWellNamed t → class_of t s ≡ Some c → IsWellNamedClass c
unfolding class_of
class_named t s c h e =
    option_and_then_some (λ (x : Slot). class_at t x.class) (slot_at t s) c e (λ x slot_is class_is. all_at IsWellNamedClass t.classes x.class c h.classes class_is)

pub port_back : (t : Tables) (s p : ℕ) (c : ClassNames) (x : PortNames) → IsWellNamed t → class_of t s ≡ Some c → slice_get c.ports p ≡ Some x → p < 65536 → port_called t s x.name ≡ p
unfolding port_called
port_back t s p c x h class_is e small =
    ap (λ (co : Option ClassNames). option_map_or (port_in x.name) co 0) class_is ∙ place_back (λ (y : PortNames). y.name) c.ports p x (class_named t s c h class_is).ports_differ e small

pub state_back : (t : Tables) (s n : ℕ) (c : ClassNames) (label : List ℕ) → IsWellNamed t → class_of t s ≡ Some c → slice_get c.states n ≡ Some label → n < 65536 → state_called t s label ≡ n
unfolding state_called
state_back t s n c label h class_is e small =
    ap (λ (co : Option ClassNames). option_map_or (state_in label) co 0) class_is
    ∙ ap (λ (ls : List (List ℕ)). place_of (numbered ls) label) (sym (own_names c.states)) ∙ place_back (λ (l : List ℕ). l) c.states n label (class_named t s c h class_is).states_differ e small

pub signal_back : (t : Tables) (s p n : ℕ) (c : ClassNames) (x : PortNames) (y : SignalNames) → IsWellNamed t → class_of t s ≡ Some c → slice_get c.ports p ≡ Some x → slice_get (signals_of x) n ≡ Some y → n < 65536 → signal_called t s p y.name ≡ n
unfolding signal_called
signal_back t s p n c x y h class_is port_is e small =
    let port : option_and_then (port_of p) (class_of t s) ≡ Some x = ap (option_and_then (port_of p)) class_is ∙ port_is in
    let named : IsWellNamedPort x = all_at IsWellNamedPort c.ports p x (class_named t s c h class_is).ports port_is in
    ap (λ (po : Option PortNames). option_map_or (signal_in y.name) po 0) port ∙ place_back (λ (z : SignalNames). z.name) (signals_of x) n y named.signals_differ e small
