-- The actor that is found in a slot.
use Rattle.std.proofs.Common.{◌≡◌, ℕ, Bool, true, false, cond, Option, Some, None, refl, ap}
use Rattle.room_kinds.specs.declared.numbers.SlotId.{SlotId}
use Rattle.room_kinds.specs.declared.numbers.Generation.{Generation}
use Rattle.room_wiring.specs.declared.tables.Tables.{Tables}
use Rattle.actor_duties.specs.State.{Lives}
use Rattle.actor_duties.specs.Words.{is_own}
use Rattle.frame_lives.specs.Known.{live_in}
use Rattle.controller_actors.specs.Steps.{IsLast}

-- a generation that is found lives
pub found : (l : Lives) (s : ℕ) (g : Generation) → live_in l s ≡ Some g → (l.lives s ≡ true) × (l.generation s ≡ g.0)
found l s g h = go (l.lives s) refl h
  where
    go : (b : Bool) → l.lives s ≡ b → cond {A = Option Generation} b (Some (record { 0 = l.generation s })) None ≡ Some g → (l.lives s ≡ true) × (l.generation s ≡ g.0)
    go true e k = let same : record { 0 = l.generation s } ≡ g = cc in (e, ap (λ (x : Generation). x.0) same)
    go false e k = absurd cc

-- where none is found, nobody lives
pub lost : (l : Lives) (s : ℕ) → live_in l s ≡ None → l.lives s ≡ false
lost l s h = go (l.lives s) refl h
  where
    go : (b : Bool) → l.lives s ≡ b → cond {A = Option Generation} b (Some (record { 0 = l.generation s })) None ≡ None → l.lives s ≡ false
    go true e k = absurd cc
    go false e k = e

-- and is the last there
pub found_last : (t : Tables) (me : ℕ) (l : Lives) (slot : SlotId) (g : Generation) → is_own t me slot.0 ≡ true → live_in l slot.0 ≡ Some g
    → IsLast t me l (record { slot = slot; generation = g })
found_last t me l slot g own h =
    let f = found l slot.0 g h in
    record {
      own = own;
      last = ap (λ (n : ℕ). record { slot = slot; generation = record { 0 = n } }) f.1;
      live = f.0;
    }
