-- What directories tell was so.
-- The law `directories_tell_created`: in every run of the world, a generation that a directory
-- tells was created before, by the owner of its slot. Premise beside that of `lives_once`: actors
-- and lines send nothing at priority 0, which is the system's.
use Rattle.std.specs.Prelude.{◌≡◌, ℕ, ◌≤◌, ◌<◌, ◌==◌, false, List, [], ◌∷◌, ◌++◌, length, slice_get, Some}
use Rattle.room_kinds.specs.declared.message.Msg.{Msg}
use Rattle.room_kinds.specs.declared.command.Command.{Command}
use Rattle.room_kinds.specs.declared.command.Command.TheVariants as commands
use Rattle.room_kinds.specs.declared.numbers.Incarnation.{Incarnation}
use Rattle.room_wiring.specs.declared.tables.Tables.{Tables}
use Rattle.actor_merge.specs.Parties.{Line}
use Rattle.actor_merge.specs.World.{World, Placed, start, Runs}
use Rattle.actor_merge.specs.Merge.{entries_of}
use Rattle.actor_duties.specs.Words.{incarnation, owner_of}
use Rattle.actor_world.specs.Behaviour.{Behaviour}
use Rattle.actor_world.specs.Body.{Body}
use Rattle.actor_world.specs.Start.{start_entries, plant_of}
use Rattle.actor_world.specs.Life.{IsModest, created}

-- commands that send nothing at the system level, priority 0
abbrev pub SendsOpenly : List Command → Type 0
SendsOpenly [] = Unit {0}
SendsOpenly (commands.Send p k signal payload prio ∷ cs) = ((prio.0 == 0) ≡ false) × SendsOpenly cs
SendsOpenly (commands.Defer ∷ cs) = SendsOpenly cs
SendsOpenly (commands.Recall ∷ cs) = SendsOpenly cs
SendsOpenly (commands.RecallAll ∷ cs) = SendsOpenly cs
SendsOpenly (commands.Frame c ∷ cs) = SendsOpenly cs
SendsOpenly (commands.Name c ∷ cs) = SendsOpenly cs

-- a behaviour whose actors send nothing at the system level
pub record IsOpen {M : Type 0} (model : Behaviour M) : Type 0 where
  pub begin : (x : Incarnation) → SendsOpenly (model.begin x).commands
  pub handle : (x : Incarnation) (machine : M) (m : Msg) → SendsOpenly (model.handle x machine m).commands

-- lines of which none is at the system level
abbrev pub AreOpen : List Line → Type 0
AreOpen lines = (i : ℕ) (l : Line) → slice_get lines i ≡ Some l → (l.message.prio.0 == 0) ≡ false

-- over every run of the world: a generation that a directory tells was created before, by its slot's owner
abbrev pub DirectoriesTellCreated : Type 0 → Type 0
DirectoriesTellCreated M =
    (model : Behaviour M) (t : Tables) (lines : List Line) → IsModest model → IsOpen model → AreOpen lines
    → (xs : List Placed) (end : World (Body M)) → Runs (plant_of model t lines) (start (plant_of model t lines)) xs end
    → (d s g : ℕ) → owner_of t s < length t.controllers → (end.controllers d).body.frame.told s ≡ g → 1 ≤ g
    → created (incarnation s g) (start_entries model t (owner_of t s) ++ entries_of (owner_of t s) xs) ≡ 1
