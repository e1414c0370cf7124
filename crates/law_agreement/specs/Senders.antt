-- Who tells of an actor's life: the owner of its slot alone.
-- By Announce, PartMake and PartEnd a controller tells others of what comes up and goes down. The law
-- `owners_tell`: in every run of the world, what stands on a trail and tells of an actor's life tells
-- of a slot of the controller that the trail comes from. Premise: actors and lines send nothing at
-- priority 0, which is the system's.
use Rattle.std.specs.Prelude.{◌≡◌, ℕ, ◌==◌, List, slice_get, Contains, Option, Some, None, if◌then◌else◌}
use Rattle.room_kinds.specs.declared.message.Msg.{Msg}
use Rattle.room_kinds.specs.declared.numbers.Incarnation.{Incarnation}
use Rattle.room_kinds.specs.declared.numbers.Endpoint.{Endpoint}
use Rattle.room_kinds.specs.declared.system.SysKind.{SysKind}
use Rattle.room_kinds.specs.declared.system.SysKind.TheVariants as kinds
use Rattle.room_wiring.specs.declared.tables.Tables.{Tables}
use Rattle.actor_merge.specs.Parties.{Line}
use Rattle.actor_merge.specs.World.{World, Placed}
use Rattle.actor_duties.specs.Words.{whose, owner_of}
use Rattle.actor_world.specs.Behaviour.{Behaviour}
use Rattle.actor_world.specs.Body.{Body}
use Rattle.actor_world.specs.Turns.{all_kinds}
use Rattle.actor_world.specs.Directories.{IsOpen, AreOpen}
use Rattle.law_agreement.specs.Trails.{RunsTo, trail}

-- the actor whose life a message of this kind tells of
abbrev pub about_by : Option SysKind → Option Endpoint → Option Incarnation
about_by (Some kinds.Announce) (Some source) = Some (whose source)
about_by (Some kinds.PartMake) (Some source) = Some (whose source)
about_by (Some kinds.PartEnd) (Some source) = Some (whose source)
about_by _ _ = None

-- the actor whose life a message tells of, if it does
abbrev pub about : Msg → Option Incarnation
about m = if m.prio.0 == 0 then about_by (slice_get all_kinds m.signal) m.source else None

-- over every run of the world: what tells of an actor's life comes from the owner of its slot
abbrev pub OwnersTell : Type 0 → Type 0
OwnersTell M =
    (model : Behaviour M) (t : Tables) (lines : List Line) → IsOpen model → AreOpen lines
    → (xs : List Placed) (end : World (Body M)) → RunsTo model t lines xs end
    → (a b : ℕ) (m : Msg) (x : Incarnation) → Contains (trail end a b) m → about m ≡ Some x
    → owner_of t x.slot.0 ≡ a
