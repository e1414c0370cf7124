-- Who is lent to whom at once: no place of a home has two peers.
-- The plugs of a home are the import places that hold it. The law `plugs_fit`: in every run of the world,
-- at every moment and each controller, of the plugs of a home at most one has a place of a port joined to an
-- end place, and none has where the home's own place is joined to something. And what an import place asks
-- for, holds or gives back, and what a plug holds, is an actor of a slot of the imported slot's class.
use Rattle.std.specs.Prelude.{◌≡◌, ℕ, true, false, List, Contains, Some}
use Rattle.room_kinds.specs.declared.numbers.Incarnation.{Incarnation}
use Rattle.room_wiring.specs.declared.tables.Tables.{Tables}
use Rattle.actor_merge.specs.Parties.{Line}
use Rattle.actor_merge.specs.World.{World, Placed}
use Rattle.actor_duties.specs.Words.{joined_at, is_end, is_joined, class_number}
use Rattle.actor_duties.specs.State.{Frame}
use Rattle.actor_world.specs.Behaviour.{Behaviour}
use Rattle.actor_world.specs.Body.{Body}
use Rattle.actor_world.specs.Directories.{IsOpen, AreOpen}
use Rattle.law_agreement.specs.Trails.{RunsTo}
use Rattle.law_agreement.specs.Imports.{home_of}

-- the plugs of homes fit: `one` of them alone has a place joined to an end place, and stands `apart` from
-- the home's own place there; what a place is tied to, and what a plug holds, is of the imported slot's class
pub record PlugsFit (t : Tables) (f : Frame) : Type 0 where
  pub one : (s p k : ℕ) (a b : Incarnation) → Contains (f.plugs s) a → Contains (f.plugs s) b
      → is_end (joined_at t a.slot.0 p k) ≡ true → is_end (joined_at t b.slot.0 p k) ≡ true → a ≡ b
  pub apart : (s p k : ℕ) (a : Incarnation) → Contains (f.plugs s) a → is_end (joined_at t a.slot.0 p k) ≡ true
      → is_joined (joined_at t s p k) ≡ false
  pub tied : (i : ℕ) (h : Incarnation) → home_of (f.places i) ≡ Some h → class_number t h.slot.0 ≡ class_number t i
  pub lent : (s : ℕ) (i : Incarnation) → Contains (f.plugs s) i → class_number t s ≡ class_number t i.slot.0

-- over every run of the world: at each controller the plugs of homes fit
abbrev pub RunsFitPlugs : Type 0 → Type 0
RunsFitPlugs M =
    (model : Behaviour M) (t : Tables) (lines : List Line) → IsOpen model → AreOpen lines
    → (xs : List Placed) (end : World (Body M)) → RunsTo model t lines xs end
    → (c : ℕ) → PlugsFit t (end.controllers c).body.frame
