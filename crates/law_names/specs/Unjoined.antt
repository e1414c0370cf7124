-- What the model joins has no name.
-- The law `joined_users_have_no_name`: at every moment of every run of the world, at each controller, a service
-- access point whose place the model joins is neither registered nor asks for a name. For `register` refuses
-- it, and no message names what didn't ask.
use Rattle.std.specs.Prelude.{◌≡◌, ℕ, true, List}
use Rattle.room_wiring.specs.declared.tables.Tables.{Tables}
use Rattle.actor_merge.specs.Parties.{Line}
use Rattle.actor_merge.specs.World.{World, Placed}
use Rattle.actor_duties.specs.Words.{is_sap, is_joined, joined_at}
use Rattle.actor_duties.specs.State.{Unnamed, Links}
use Rattle.actor_world.specs.Behaviour.{Behaviour}
use Rattle.actor_world.specs.Body.{Body}
use Rattle.actor_world.specs.Directories.{IsOpen, AreOpen}
use Rattle.law_agreement.specs.Trails.{RunsTo}

-- a service access point that the model joins has no name
abbrev pub JoinedAreUnnamed : Tables → Links → Type 0
JoinedAreUnnamed t l = (s p : ℕ) → is_sap t s p ≡ true → is_joined (joined_at t s p 0) ≡ true → l.registrations s p ≡ Unnamed

-- over every run of the world: it is so at each controller
abbrev pub RunsLeaveJoinedUnnamed : Type 0 → Type 0
RunsLeaveJoinedUnnamed M =
    (model : Behaviour M) (t : Tables) (lines : List Line) → IsOpen model → AreOpen lines
    → (xs : List Placed) (end : World (Body M)) → RunsTo model t lines xs end
    → (c : ℕ) → JoinedAreUnnamed t (end.controllers c).body.links
