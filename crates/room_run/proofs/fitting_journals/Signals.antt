-- Which signals two ports have in common, and what a message says where it goes.
-- `Carries`: each signal that the one port has, the other has under the same number. So where a place leads to a
-- port that has all that its own has, whatever is sent at it fits where it arrives. System messages of two kinds tell
-- whom a place leads to from then on: Import an import place and a home of one class, and Bound two service points of
-- one protocol.
use Rattle.std.proofs.Common.{◌≡◌, ℕ, zero, suc, ◌<◌, ◌≤◌, Bool, true, ◌||◌, length, Option, Some, None, slice_get, option_and_then, refl, sym, ap, ◌∙◌, subst, arith, inl, inr}
use Rattle.std.specs.Option.{option_map_or}
use Rattle.std.proofs.lemmas.Option.{same_Some, slice_get_within}
use Rattle.room_kinds.specs.Kinds.{number_of}
use Rattle.room_kinds.specs.declared.numbers.Endpoint.{Endpoint}
use Rattle.room_kinds.specs.declared.system.SysKind.{SysKind}
use Rattle.room_kinds.specs.declared.system.SysKind.TheVariants as kinds
use Rattle.room_wiring.specs.Places.{port_count}
use Rattle.room_wiring.specs.Slots.{class_at, class_of, port_at}
use Rattle.room_wiring.specs.WellNamed.{signals_of}
use Rattle.room_wiring.specs.declared.names.ClassNames.{ClassNames}
use Rattle.room_wiring.specs.declared.names.PortNames.{PortNames}
use Rattle.room_wiring.specs.declared.slot.Slot.{Slot}
use Rattle.room_wiring.specs.declared.tables.Tables.{Tables}
use Rattle.journal.specs.Fits.{HasSignal, FitsSignal}
use Rattle.actor_duties.specs.Messages.{FrameSignal, Created, Destroyed, Imported, Ended, Deported, Refused, Named, Unnamed, NameRefused, signal_number}
use Rattle.actor_duties.specs.Words.{class_number, is_sap, is_spp, protocol_of}
use Rattle.actor_world.specs.Turns.{all_kinds}
use Rattle.room_run.specs.fitting_journals.Places.{IsPlace, FitsPlace}

-- ---- ports

-- each signal of port p of slot s is one of port q of slot x
abbrev pub Carries : Tables → ℕ → ℕ → ℕ → ℕ → Type 0
Carries t s p x q = (signal : ℕ) → HasSignal t s p signal → HasSignal t x q signal

-- which places of which ports of which slots were linked
abbrev pub Linked : Type 1
Linked = ℕ → ℕ → ℕ → Type 0

-- a place to which actors may send from those of a port
abbrev pub LeadsTo : Tables → Linked → ℕ → ℕ → Endpoint → Type 0
LeadsTo t L s p e = FitsPlace t L 1 e × Carries t s p e.slot.0 e.port

-- two ports with the same signals
pub same_signals : (t : Tables) (s p x q : ℕ) (near far : PortNames) → port_at t s p ≡ Some near → port_at t x q ≡ Some far → signals_of near ≡ signals_of far → Carries t s p x q
same_signals t s p x q near far a b same signal h =
    let one : h.port ≡ near = same_Some h.port near (sym h.port_is ∙ a) in
    let many : length (signals_of h.port) ≡ length (signals_of far) = ap (λ (n : PortNames). length (signals_of n)) one ∙ ap length same in
    let known = h.known in
    record { port = far; port_is = b; known = omega (arith, many, known) }

-- ports of one number at slots of one class
pub same_class : (t : Tables) (s x p : ℕ) → class_of t s ≡ class_of t x → Carries t s p x p
unfolding port_at
same_class t s x p same signal h = record {
  port = h.port;
  port_is = sym (ap (λ (o : Option ClassNames). option_and_then (λ (c : ClassNames). slice_get c.ports p) o) same) ∙ h.port_is;
  known = h.known;
}

-- a class is told by its number
pub numbered_class : (t : Tables) (s x : ℕ) → class_number t s ≡ class_number t x → class_of t s ≡ class_of t x
unfolding class_of
numbered_class t s x same = by_number (slice_get t.slots s) ∙ ap (option_and_then (class_at t)) same ∙ sym (by_number (slice_get t.slots x))
  where
    by_number : (o : Option Slot) → option_and_then (λ (y : Slot). class_at t y.class) o ≡ option_and_then (class_at t) (option_map_or (λ (y : Slot). Some y.class) o None)
    by_number None = refl
    by_number (Some y) = refl

pub class_ports : (t : Tables) (s x : ℕ) → class_of t s ≡ class_of t x → port_count t s ≡ port_count t x
unfolding port_count
class_ports t s x same = ap (λ (o : Option ClassNames). option_map_or (λ (c : ClassNames). length c.ports) o 0) same

-- ---- service points

-- whether a port is a service point: a service access point or a service provision point
abbrev pub is_service_point : Tables → ℕ → ℕ → Bool
is_service_point t s p = is_sap t s p || is_spp t s p

-- a place of a service point of this protocol
pub record IsPointOf (t : Tables) (L : Linked) (protocol : ℕ) (e : Endpoint) : Type 0 where
  pub place : FitsPlace t L 0 e
  pub point : is_service_point t e.slot.0 e.port ≡ true
  pub protocol_is : protocol_of t e.slot.0 e.port ≡ protocol

-- ---- what messages say

-- what a system message of a kind says of its source and its target: Import, that they are of one class; Bound, that
-- actors may send from the target to the source
abbrev pub TiesBy : Tables → Linked → SysKind → Option Endpoint → Endpoint → Type 0
TiesBy t L kinds.Import (Some i) h = class_number t i.slot.0 ≡ class_number t h.slot.0
TiesBy t L kinds.Bound (Some peer) own = LeadsTo t L own.slot.0 own.port peer × IsPlace t L 1 own.slot.0 own.port own.place
TiesBy t L _ source target = Unit {0}

abbrev pub Ties : Tables → Linked → Option SysKind → Option Endpoint → Endpoint → Type 0
Ties t L None source target = ⊥
Ties t L (Some kind) source target = TiesBy t L kind source target

-- at priority 0 a message is of a kind of system messages, and at each other one its signal is one of the target's port
abbrev pub Says : Tables → Linked → ℕ → ℕ → Option Endpoint → Endpoint → Type 0
Says t L zero signal source target = Ties t L (slice_get all_kinds signal) source target
Says t L (suc prio) signal source target = HasSignal t target.slot.0 target.port signal

-- a kind whose messages say nothing of their source and target
abbrev pub TiesNothing : Tables → Linked → SysKind → Type 0
TiesNothing t L kind = (a b : Endpoint) → Says t L 0 (number_of kind) (Some a) b

pub says_worded : (t : Tables) (L : Linked) (prio signal : ℕ) (source : Option Endpoint) (target : Endpoint) → 1 ≤ prio → HasSignal t target.slot.0 target.port signal
    → Says t L prio signal source target
says_worded t L zero signal source target low h = absurd (omega (arith, low))
says_worded t L (suc prio) signal source target low h = h

-- what a message at the system's priority says
pub says_tied : (t : Tables) (L : Linked) (prio signal : ℕ) (source : Option Endpoint) (target : Endpoint) → prio ≡ 0 → Says t L prio signal source target
    → Ties t L (slice_get all_kinds signal) source target
says_tied t L prio signal source target e h = subst (λ (n : ℕ). Says t L n signal source target) e h

tied_kind : (t : Tables) (L : Linked) (signal : ℕ) (source : Option Endpoint) (target : Endpoint) (o : Option SysKind) → slice_get all_kinds signal ≡ o → Ties t L o source target → signal < 19
tied_kind t L signal source target None e h = absurd h
tied_kind t L signal source target (Some kind) e h = slice_get_within all_kinds signal kind e

-- so the signal fits
pub says_fit : (t : Tables) (L : Linked) (prio signal : ℕ) (source : Option Endpoint) (target : Endpoint) → Says t L prio signal source target → FitsSignal t prio target signal
says_fit t L zero signal source target h = inl (refl, tied_kind t L signal source target (slice_get all_kinds signal) refl h)
says_fit t L (suc prio) signal source target h = inr (omega arith, h)

-- the signals of `frame`
pub signal_low : (x : FrameSignal) → signal_number x < 9
signal_low Created = omega arith
signal_low Destroyed = omega arith
signal_low Imported = omega arith
signal_low Ended = omega arith
signal_low Deported = omega arith
signal_low Refused = omega arith
signal_low Named = omega arith
signal_low Unnamed = omega arith
signal_low NameRefused = omega arith
