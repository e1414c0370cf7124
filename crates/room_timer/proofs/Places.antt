-- Slots and ports that are found are there; and how many containers up a slot is fixed.
use Rattle.std.proofs.Common.{◌≡◌, ℕ, zero, suc, ◌-◌, ◌<◌, true, ◌&&◌, List, [], ◌∷◌, length, Option, Some, None, slice_get, sym, ap, arith}
use Rattle.std.specs.Prelude.{option_and_then}
use Rattle.std.specs.Option.{option_map_or}
use Rattle.room_wiring.specs.declared.names.ClassNames.{ClassNames}
use Rattle.room_wiring.specs.declared.names.PortNames.{PortNames}
use Rattle.room_wiring.specs.declared.slot.Slot.{Slot}
use Rattle.room_wiring.specs.declared.tables.Tables.{Tables}
use Rattle.room_wiring.specs.Slots.{slot_at, class_of, port_at}
use Rattle.room_wiring.specs.Places.{port_count}
use Rattle.actor_duties.specs.Words.{is_fixed, container_of}
use Rattle.actor_world.specs.Start.{is_fixed_up}

within : {A : Type 0} (xs : List A) (n : ℕ) (x : A) → slice_get xs n ≡ Some x → n < length xs
within [] n x h = absurd cc
within (y ∷ ys) zero x h = omega arith
within (y ∷ ys) (suc n) x h = let ih : n < length ys = within ys n x h in omega (arith, ih)

pub slot_there : (t : Tables) (s : ℕ) (x : Slot) → slot_at t s ≡ Some x → s < length t.slots
slot_there t s x h = within t.slots s x h

pub port_there : (t : Tables) (s p : ℕ) (x : PortNames) → port_at t s p ≡ Some x → p < port_count t s
unfolding port_at port_count
port_there t s p x h = go (class_of t s) h
  where
    go : (o : Option ClassNames) → option_and_then (λ (c : ClassNames). slice_get c.ports p) o ≡ Some x
        → p < option_map_or (λ (c : ClassNames). length c.ports) o 0
    go None k = absurd cc
    go (Some c) k = within c.ports p x k

pub fixed_above : (t : Tables) (up s : ℕ) → 0 < up
    → is_fixed_up t up s ≡ (is_fixed t s && option_map_or (λ c. is_fixed_up t (up - 1) c) (container_of t s) true)
fixed_above t zero s h = absurd (omega (arith, h))
fixed_above t (suc up) s h =
    let less : suc up - 1 ≡ up = omega arith in
    ap (λ (k : ℕ). is_fixed t s && option_map_or (λ c. is_fixed_up t k c) (container_of t s) true) (sym less)
