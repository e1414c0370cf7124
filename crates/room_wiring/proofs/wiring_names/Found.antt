-- What is looked up in numbered names.
use Rattle.std.proofs.Common.{subst, ◌≡◌, ℕ, List, refl, ap, Option, Some, None}
use Rattle.std.specs.Prelude.{slice_get, All, option_map, option_and_then}
use Rattle.std.specs.Option.{option_map_or}
use Rattle.std.proofs.lemmas.Option.{slice_get_within, get_or_from_slice_get}
use Rattle.room_wiring.specs.declared.tables.Tables.{Tables}
use Rattle.room_wiring.specs.declared.slot.Slot.{Slot}
use Rattle.room_wiring.specs.declared.names.ClassNames.{ClassNames}
use Rattle.room_wiring.specs.declared.names.PortNames.{PortNames}
use Rattle.room_wiring.specs.Slots.{slot_at, class_at, class_of}
use Rattle.room_wiring.specs.declared.wiring_names.class_names.ClassNumbers.{ClassNumbers}
use Rattle.room_wiring.specs.wiring_names.Lookup.{place_of, port_in, port_called, state_in, state_called, signal_in, signal_called, signal_table, port_of}
use Rattle.room_wiring.specs.wiring_names.Tables.{numbers_of_class}

-- what holds of all items holds of the one at a place
pub all_at : {A : Type 0} (P : A → Type 0) (xs : List A) (k : ℕ) (x : A) → All P xs → slice_get xs k ≡ Some x → P x
all_at P xs k x h e = subst P (get_or_from_slice_get xs k x x e) (h k x (slice_get_within xs k x e))

-- the class of a slot that there is
pub class_there : (t : Tables) (s : ℕ) (x : Slot) → slot_at t s ≡ Some x → class_of t s ≡ class_at t x.class
unfolding class_of
class_there t s x e = ap (option_and_then (λ (y : Slot). class_at t y.class)) e

pub no_class : (t : Tables) (s : ℕ) → ◌≡◌ {A = Option Slot} None (slot_at t s) → ◌≡◌ {A = Option ClassNumbers} None (option_map numbers_of_class (class_of t s))
unfolding class_of
no_class t s none = ap (λ (o : Option Slot). option_map numbers_of_class (option_and_then (λ (y : Slot). class_at t y.class) o)) none

port_at_class : (name : List ℕ) (co : Option ClassNames) (n : ClassNumbers) → Some n ≡ option_map numbers_of_class co → place_of n.ports name ≡ option_map_or (port_in name) co 0
port_at_class name None n e = absurd cc
port_at_class name (Some c) n e = let is : n ≡ numbers_of_class c = cc in ap (λ (m : ClassNumbers). place_of m.ports name) is

no_port_at_class : (name : List ℕ) (co : Option ClassNames) → ◌≡◌ {A = Option ClassNumbers} None (option_map numbers_of_class co) → 0 ≡ option_map_or (port_in name) co 0
no_port_at_class name None e = refl
no_port_at_class name (Some c) e = absurd cc

pub found_port : (t : Tables) (s : ℕ) (name : List ℕ) (n : ClassNumbers) → Some n ≡ option_map numbers_of_class (class_of t s) → place_of n.ports name ≡ port_called t s name
unfolding port_called
found_port t s name n e = port_at_class name (class_of t s) n e

pub no_port : (t : Tables) (s : ℕ) (name : List ℕ) → ◌≡◌ {A = Option ClassNumbers} None (option_map numbers_of_class (class_of t s)) → 0 ≡ port_called t s name
unfolding port_called
no_port t s name e = no_port_at_class name (class_of t s) e

state_at_class : (name : List ℕ) (co : Option ClassNames) (n : ClassNumbers) → Some n ≡ option_map numbers_of_class co → place_of n.states name ≡ option_map_or (state_in name) co 0
state_at_class name None n e = absurd cc
state_at_class name (Some c) n e = let is : n ≡ numbers_of_class c = cc in ap (λ (m : ClassNumbers). place_of m.states name) is

no_state_at_class : (name : List ℕ) (co : Option ClassNames) → ◌≡◌ {A = Option ClassNumbers} None (option_map numbers_of_class co) → 0 ≡ option_map_or (state_in name) co 0
no_state_at_class name None e = refl
no_state_at_class name (Some c) e = absurd cc

pub found_state : (t : Tables) (s : ℕ) (name : List ℕ) (n : ClassNumbers) → Some n ≡ option_map numbers_of_class (class_of t s) → place_of n.states name ≡ state_called t s name
unfolding state_called
found_state t s name n e = state_at_class name (class_of t s) n e

pub no_state : (t : Tables) (s : ℕ) (name : List ℕ) → ◌≡◌ {A = Option ClassNumbers} None (option_map numbers_of_class (class_of t s)) → 0 ≡ state_called t s name
unfolding state_called
no_state t s name e = no_state_at_class name (class_of t s) e

signal_at_port : (name : List ℕ) (po : Option PortNames) (n : List (List ℕ)) → Some n ≡ option_map signal_table po → place_of n name ≡ option_map_or (signal_in name) po 0
signal_at_port name None n e = absurd cc
signal_at_port name (Some p) n e = let is : n ≡ signal_table p = cc in ap (λ (m : List (List ℕ)). place_of m name) is

no_signal_at_port : (name : List ℕ) (po : Option PortNames) → ◌≡◌ {A = Option (List (List ℕ))} None (option_map signal_table po) → 0 ≡ option_map_or (signal_in name) po 0
no_signal_at_port name None e = refl
no_signal_at_port name (Some p) e = absurd cc

pub found_signal : (t : Tables) (s p : ℕ) (name : List ℕ) (n : List (List ℕ)) → Some n ≡ option_map signal_table (option_and_then (port_of p) (class_of t s)) → place_of n name ≡ signal_called t s p name
unfolding signal_called
found_signal t s p name n e = signal_at_port name (option_and_then (port_of p) (class_of t s)) n e

pub no_signal : (t : Tables) (s p : ℕ) (name : List ℕ) → ◌≡◌ {A = Option (List (List ℕ))} None (option_map signal_table (option_and_then (port_of p) (class_of t s))) → 0 ≡ signal_called t s p name
unfolding signal_called
no_signal t s p name e = no_signal_at_port name (option_and_then (port_of p) (class_of t s)) e
