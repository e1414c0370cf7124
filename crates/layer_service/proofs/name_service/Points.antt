-- A service provision point is a port of a slot that is there.
use Rattle.std.proofs.Common.{◌≡◌, ℕ, zero, suc, ◌<◌, true, false, List, [], ◌∷◌, length, Option, Some, None, refl, arith}
use Rattle.std.specs.Prelude.{slice_get, option_and_then}
use Rattle.std.specs.Option.{option_map_or}
use Rattle.room_wiring.specs.declared.tables.Tables.{Tables}
use Rattle.room_wiring.specs.declared.slot.Slot.{Slot}
use Rattle.room_wiring.specs.declared.names.ClassNames.{ClassNames}
use Rattle.room_wiring.specs.declared.names.PortNames.{PortNames}
use Rattle.room_wiring.specs.Slots.{slot_at, class_at, class_of}
use Rattle.room_wiring.specs.Places.{port_count}
use Rattle.actor_duties.specs.Words.{port_at, is_spp_kind, is_spp}

-- where a list has an item, the index is within it
there : {A : Type 0} (xs : List A) (i : ℕ) (x : A) → slice_get xs i ≡ Some x → i < length xs
there [] i x is = absurd cc
there (y ∷ ys) zero x is = omega arith
there (y ∷ ys) (suc i) x is = let lt = there ys i x is in omega (arith, lt)

-- the port of a service provision point
pub spp_port : (t : Tables) (s p : ℕ) → is_spp t s p ≡ true → p < port_count t s
unfolding is_spp port_at port_count
spp_port t s p is = go (class_of t s) is
  where
    port : (ports : List PortNames) (o : Option PortNames) → slice_get ports p ≡ o
        → option_map_or (λ (x : PortNames). is_spp_kind x.kind) o false ≡ true → p < length ports
    port ports None at is = absurd cc
    port ports (Some x) at is = there ports p x at

    go : (o : Option ClassNames)
        → option_map_or (λ (x : PortNames). is_spp_kind x.kind) (option_and_then (λ (c : ClassNames). slice_get c.ports p) o) false ≡ true
        → p < option_map_or (λ (c : ClassNames). length c.ports) o 0
    go None is = absurd cc
    go (Some c) is = port c.ports (slice_get c.ports p) refl is

-- its slot
pub spp_slot : (t : Tables) (s p : ℕ) → is_spp t s p ≡ true → s < length t.slots
unfolding is_spp port_at class_of
spp_slot t s p is = go (slot_at t s) refl is
  where
    go : (o : Option Slot) → slot_at t s ≡ o
        → option_map_or (λ (x : PortNames). is_spp_kind x.kind) (option_and_then (λ (c : ClassNames). slice_get c.ports p) (option_and_then (λ (x : Slot). class_at t x.class) o)) false ≡ true
        → s < length t.slots
    go None at is = absurd cc
    go (Some x) at is = there t.slots s x at
