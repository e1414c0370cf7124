-- Which service points the messages on names name, and which way these messages go.
-- By Register and Withdraw a service point asks the name table of controller 0; by Bound, Ended and
-- NameReply the table tells a service point, of its peer or of itself.
-- The law `names_are_of_the_created`: in every run of the world what asks goes from the controller of
-- its service point to controller 0, and what tells from controller 0 to the controller of the point
-- that is told; and every endpoint that these messages name, or that stands in a name table, is of a
-- generation that was created in its slot. Premise: actors and lines send nothing at priority 0, which
-- is the system's.
use Rattle.std.specs.Prelude.{◌≡◌, ℕ, ◌≤◌, ◌==◌, List, slice_get, Contains, Option, Some, None, if◌then◌else◌}
use Rattle.room_kinds.specs.declared.message.Msg.{Msg}
use Rattle.room_kinds.specs.declared.numbers.Endpoint.{Endpoint}
use Rattle.room_kinds.specs.declared.system.SysKind.{SysKind}
use Rattle.room_kinds.specs.declared.system.SysKind.TheVariants as kinds
use Rattle.room_wiring.specs.declared.tables.Tables.{Tables}
use Rattle.actor_merge.specs.Parties.{Line}
use Rattle.actor_merge.specs.World.{World, Placed}
use Rattle.actor_duties.specs.Words.{owner_of}
use Rattle.actor_duties.specs.State.{User, Provider, Service, NameTable}
use Rattle.actor_world.specs.Behaviour.{Behaviour}
use Rattle.actor_world.specs.Body.{Body}
use Rattle.actor_world.specs.Turns.{all_kinds}
use Rattle.actor_world.specs.Agreed.{frame_at}
use Rattle.actor_world.specs.Directories.{IsOpen, AreOpen}
use Rattle.law_agreement.specs.Trails.{RunsTo, trail}

-- the service point that asks by a message of a kind from a source
abbrev pub asker_by : Option SysKind → Option Endpoint → Option Endpoint
asker_by (Some kinds.Register) source = source
asker_by (Some kinds.Withdraw) source = source
asker_by _ _ = None

-- the service point that asks the name table by a message, if it is a Register or a Withdraw
abbrev pub asker : Msg → Option Endpoint
asker m = if m.prio.0 == 0 then asker_by (slice_get all_kinds m.signal) m.source else None

-- the service point that is told by a message of a kind to a target
abbrev pub hearer_by : Option SysKind → Endpoint → Option Endpoint
hearer_by (Some kinds.Bound) target = Some target
hearer_by (Some kinds.Ended) target = Some target
hearer_by (Some kinds.NameReply) target = Some target
hearer_by _ _ = None

-- the service point that the name table tells by a message, if it is a Bound, an Ended or a NameReply
abbrev pub hearer : Msg → Option Endpoint
hearer m = if m.prio.0 == 0 then hearer_by (slice_get all_kinds m.signal) m.target else None

-- of whom a message of a kind from a source tells
abbrev pub told_of_by : Option SysKind → Option Endpoint → Option Endpoint
told_of_by (Some kinds.Bound) source = source
told_of_by (Some kinds.Ended) source = source
told_of_by (Some kinds.NameReply) source = source
told_of_by _ _ = None

-- of whom the name table tells by a message: of the peer of a link, or of the point itself
abbrev pub told_of : Msg → Option Endpoint
told_of m = if m.prio.0 == 0 then told_of_by (slice_get all_kinds m.signal) m.source else None

-- the last generation that was created in a slot, at the slot's owner
abbrev pub last_at : {M : Type 0} → Tables → World (Body M) → ℕ → ℕ
last_at t w s = (frame_at t w s).lives.generation s

-- an endpoint is of a generation that was created, where these were the last ones
abbrev pub IsCreated : (ℕ → ℕ) → Endpoint → Type 0
IsCreated last e = e.generation.0 ≤ last e.slot.0

-- a message from controller a to controller b, if it is on names, goes where such messages go, and names
-- what was created
pub record NamesTheCreated (t : Tables) (last : ℕ → ℕ) (a b : ℕ) (m : Msg) : Type 0 where
  pub asks : (e : Endpoint) → asker m ≡ Some e → (owner_of t e.slot.0 ≡ a) × (b ≡ 0) × IsCreated last e
  pub tells : (e : Endpoint) → hearer m ≡ Some e → (a ≡ 0) × (owner_of t e.slot.0 ≡ b) × IsCreated last e
  pub peers : (e : Endpoint) → told_of m ≡ Some e → IsCreated last e

-- what stands in a name table was created
pub record TableIsCreated (last : ℕ → ℕ) (table : NameTable) : Type 0 where
  pub users : (s : Service) (u : User) → Contains table s → Contains s.users u → IsCreated last u.at
  pub providers : (s : Service) (p : Provider) → Contains table s → s.provider ≡ Some p → IsCreated last p.at

-- over every run of the world: what is on its way on names goes where it should, and it and every table
-- name what was created
abbrev pub RunsNameTheCreated : Type 0 → Type 0
RunsNameTheCreated M =
    (model : Behaviour M) (t : Tables) (lines : List Line) → IsOpen model → AreOpen lines
    → (xs : List Placed) (end : World (Body M)) → RunsTo model t lines xs end
    → ((a b : ℕ) (m : Msg) → Contains (trail end a b) m → NamesTheCreated t (last_at t end) a b m)
    × ((c : ℕ) → TableIsCreated (last_at t end) (end.controllers c).body.table)
