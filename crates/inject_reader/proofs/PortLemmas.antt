-- Slots, classes and ports at a wiring.
use Rattle.std.proofs.Common.{◌≡◌, ℕ, ◌-◌, ◌<◌, ◌≤◌, Bool, true, false, cond, List, length, refl, sym, ap, ◌∙◌, subst, Option, Some, None, arith}
use Rattle.std.specs.Prelude.{position, option_and_then}
use Rattle.std.specs.Option.{option_map_or}
use Rattle.std.specs.List.{position_or_len}
use Rattle.std.proofs.lemmas.Option.{slice_get_within}
use Rattle.name_tables.specs.name_numbers.Names.{same}
use Rattle.room_wiring.specs.declared.tables.Tables.{Tables}
use Rattle.room_wiring.specs.declared.slot.Slot.{Slot}
use Rattle.room_wiring.specs.declared.names.ClassNames.{ClassNames}
use Rattle.room_wiring.specs.declared.names.PortNames.{PortNames}
use Rattle.room_wiring.specs.declared.names.SignalNames.{SignalNames}
use Rattle.room_wiring.specs.Slots.{slot_at, class_at, class_of, slot_named}
use Rattle.room_wiring.specs.Places.{port_count}
use Rattle.room_wiring.specs.WellNamed.{signals_of}
use Rattle.room_wiring.specs.wiring_names.Lookup.{slot_called, port_in, port_called, signal_in, signal_called, port_of}
use Rattle.inject_reader.specs.Guesses.{IsNoLater}
use Rattle.inject_reader.specs.Meaning.{coming, first_coming}
use Rattle.inject_reader.proofs.GuessLemmas.{named_le, placed_le, front_guess, back_guess, guess_right}

-- a slot with a class is one of the wiring's
slot_inside : (t : Tables) (s : ℕ) (o : Option Slot) (c : ClassNames) → slot_at t s ≡ o → option_and_then (λ (x : Slot). class_at t x.class) o ≡ Some c → s < length t.slots
slot_inside t s None c e h = absurd cc
slot_inside t s (Some x) c e h = slice_get_within t.slots s x e

pub class_inside : (t self : Tables) (s : ℕ) (c : ClassNames) → t ≡ self → class_of self s ≡ Some c → s < length t.slots
unfolding class_of
class_inside t self s c is h = subst (λ (x : Tables). s < length x.slots) (sym is) (slot_inside self s (slot_at self s) c refl h)

counted : (t : Tables) (s : ℕ) (c : ClassNames) → class_of t s ≡ Some c → port_count t s ≡ length c.ports
unfolding port_count
counted t s c h = ap (λ (o : Option ClassNames). option_map_or (λ (k : ClassNames). length k.ports) o 0) h

pub port_inside : (t self : Tables) (s p : ℕ) (c : ClassNames) → t ≡ self → class_of self s ≡ Some c → p < length c.ports → p < port_count t s
port_inside t self s p c is h lt = let all : port_count self s ≡ length c.ports = counted self s c h in subst (λ (x : Tables). p < port_count x s) (sym is) (omega arith)

-- no slot before the one of this number has the path
slot_guess : (t : Tables) (path : List ℕ) → IsNoLater (slot_called t path) (λ (x : Slot). same x.path path) t.slots
slot_guess t path = let le : slot_called t path ≤ position_or_len (λ (x : Slot). same x.path path) t.slots = placed_le (λ (x : Slot). x.path) path t.slots in omega arith

port_guess : (t : Tables) (s : ℕ) (c : ClassNames) (name : List ℕ) → class_of t s ≡ Some c → IsNoLater (port_called t s name) (λ (x : PortNames). same x.name name) c.ports
unfolding port_called
port_guess t s c name h =
    let is : option_map_or (port_in name) (class_of t s) 0 ≡ port_in name c = ap (λ (o : Option ClassNames). option_map_or (port_in name) o 0) h in
    let le : port_in name c ≤ position_or_len (λ (x : PortNames). same x.name name) c.ports = named_le (λ (x : PortNames). x.name) name c.ports in
    omega arith

signal_le : (t : Tables) (s p : ℕ) (x : PortNames) (name : List ℕ) → option_and_then (port_of p) (class_of t s) ≡ Some x → signal_called t s p name ≤ position_or_len (λ (y : SignalNames). same y.name name) (signals_of x)
unfolding signal_called
signal_le t s p x name h =
    let is : option_map_or (signal_in name) (option_and_then (port_of p) (class_of t s)) 0 ≡ signal_in name x = ap (λ (o : Option PortNames). option_map_or (signal_in name) o 0) h in
    let le : signal_in name x ≤ position_or_len (λ (y : SignalNames). same y.name name) (signals_of x) = named_le (λ (y : SignalNames). y.name) name (signals_of x) in
    omega arith

coming_guess : (x : PortNames) (name : List ℕ) (n : ℕ) (t : Bool) → n ≤ position_or_len (λ (y : SignalNames). same y.name name) (signals_of x)
    → IsNoLater (n - cond t (length x.incoming) 0) (λ (y : SignalNames). same y.name name) (cond t x.outgoing x.incoming)
coming_guess x name n true le = back_guess (λ (y : SignalNames). same y.name name) x.incoming x.outgoing n le
coming_guess x name n false le =
    let whole : n ≡ n - 0 = omega arith in
    subst (λ (k : ℕ). IsNoLater k (λ (y : SignalNames). same y.name name) x.incoming) whole (front_guess (λ (y : SignalNames). same y.name name) x.incoming x.outgoing n le)

-- the slot of this number, where it has the path
pub slot_right : (names t self : Tables) (path : List ℕ) (guess : ℕ) → names ≡ t → t ≡ self → guess ≡ slot_called names path → option_map_or (λ (x : Slot). same x.path path) (slot_at t guess) false ≡ true → Some guess ≡ slot_named self path
unfolding slot_named
slot_right names t self path guess as_t as_self is h =
    let p : Slot → Bool = λ (x : Slot). same x.path path in
    let least : IsNoLater guess p t.slots = rw (is, as_t) (slot_guess t path) in
    sym (guess_right p t.slots guess least h) ∙ ap (λ (x : Tables). position p x.slots) as_self

-- no port before the one of this number has the name
pub port_least : (names t self : Tables) (s guess : ℕ) (c : ClassNames) (name : List ℕ) (ports : List PortNames) → names ≡ t → t ≡ self → class_of self s ≡ Some c → guess ≡ port_called names s name → ports ≡ c.ports → IsNoLater guess (λ (x : PortNames). same x.name name) ports
port_least names t self s guess c name ports as_t as_self h is ports_are = rw (is, as_t, as_self, ports_are) (port_guess self s c name h)

-- no signal that comes in before the one of this number has the name
signal_guess : (t : Tables) (s p guess : ℕ) (x : PortNames) (name : List ℕ) → option_and_then (port_of p) (class_of t s) ≡ Some x → guess ≡ signal_called t s p name - first_coming x → IsNoLater guess (λ (y : SignalNames). same y.name name) (coming x)
signal_guess t s p guess x name h e = rw e (coming_guess x name (signal_called t s p name) x.conjugated (signal_le t s p x name h))

pub signal_least : (names t self : Tables) (s p guess : ℕ) (x : PortNames) (name : List ℕ) → names ≡ t → t ≡ self → option_and_then (port_of p) (class_of self s) ≡ Some x → guess ≡ signal_called names s p name - first_coming x → IsNoLater guess (λ (y : SignalNames). same y.name name) (coming x)
signal_least names t self s p guess x name as_t as_self h is = signal_guess self s p guess x name h (is ∙ ap (λ (n : Tables). signal_called n s p name - first_coming x) (as_t ∙ as_self))
