-- An actor alone, without ports.
use Rattle.std.specs.Prelude.{ℕ, List, [], ◌∷◌, None}
use Rattle.room_kinds.specs.declared.message.Msg.{Msg}
use Rattle.room_kinds.specs.declared.numbers.Incarnation.{Incarnation}
use Rattle.room_wiring.specs.declared.tables.Tables.{Tables}
use Rattle.room_kinds.specs.declared.structure.ReferenceKind.TheVariants.{Fixed}
use Rattle.room_wiring.specs.declared.slot.Partner.TheVariants.{Nobody}
use Rattle.room_kinds.specs.declared.structure.PortKind.TheVariants as ports
use Rattle.actor_merge.specs.Parties.{Line}
use Rattle.actor_merge.specs.World.{Placed}
use Rattle.actor_world.specs.Behaviour.{Behaviour}
use Rattle.worked_examples.specs.worlds.Writing.{slot, class, port, single_places, told_nobody, starts_alone, Step, unhandled, behaviour_of, IsComputed}

-- the wiring of the models
abbrev pub tables : Tables
tables = record {
  slots =
      slot 0 Fixed None 0 0 0
      ∷ [];
  controllers = [] ∷ [];
  classes =
      class (port ports.Frame None ∷ [])
      ∷ [];
  first_ports = 0 ∷ [];
  ports = single_places 1;
  partners =
      Nobody
      ∷ [];
  told = told_nobody 1 1;
}

-- nothing comes to it
abbrev step : Incarnation → ℕ → Msg → Step
step x s m = unhandled s

-- the behaviour of the actor
abbrev pub model : Behaviour ℕ
model = behaviour_of (λ x. 0) (λ x. []) step

-- ---- the start is all

-- the lines of the environment, each with its part
abbrev pub lines : List Line
lines = []

-- all other entries, by stamp and party
abbrev pub merge : List Placed
merge =
    []

-- the definitions give these journals
abbrev pub AloneIsComputed : Type 0
AloneIsComputed = IsComputed model tables lines (starts_alone ∷ []) merge
