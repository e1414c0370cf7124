-- What has an owner is there.
use Rattle.std.proofs.Common.{◌≡◌, ℕ, zero, suc, ◌<◌, ◌==◌, Bool, true, false, length, Option, Some, None, option_and_then, refl, sym, subst, eqb-true, ⊎_elim}
use Rattle.std.specs.Option.{option_map_or}
use Rattle.std.proofs.lemmas.Bool.{or_cases}
use Rattle.std.proofs.lemmas.Option.{slice_get_within}
use Rattle.room_wiring.specs.declared.tables.Tables.{Tables}
use Rattle.room_wiring.specs.declared.slot.Slot.{Slot}
use Rattle.room_wiring.specs.Slots.{slot_at}
use Rattle.actor_duties.specs.Words.{is_own, is_optional, is_optional_kind, container_of, container_number}

-- a test of what an option holds
pub held_true : {A : Type 0} (f : A → Bool) (o : Option A) → option_map_or f o false ≡ true → (x : A) × (o ≡ Some x) × (f x ≡ true)
held_true f None h = absurd cc
held_true f (Some x) h = (x, refl, h)

-- a slot that has an owner is there
pub own_in_range : (t : Tables) (me s : ℕ) → is_own t me s ≡ true → s < length t.slots
unfolding is_own
own_in_range t me s h =
    let x = held_true (λ (x : Slot). x.owner.0 == me) (slot_at t s) h in slice_get_within t.slots s x.0 x.1
