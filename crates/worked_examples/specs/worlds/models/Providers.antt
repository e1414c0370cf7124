-- A user, in slot 1, and two providers, in the slots 2 and 3, which meet by a name. Nothing comes that they
-- wait for.
use Rattle.std.specs.Prelude.{ℕ, List, [], ◌∷◌, Some, None, replicate}
use Rattle.room_kinds.specs.declared.numbers.Incarnation.{Incarnation}
use Rattle.room_kinds.specs.declared.command.Command.{Command}
use Rattle.room_wiring.specs.declared.tables.Tables.{Tables}
use Rattle.room_kinds.specs.declared.structure.ReferenceKind.TheVariants.{Fixed}
use Rattle.room_wiring.specs.declared.slot.Partner.TheVariants.{Nobody}
use Rattle.room_kinds.specs.declared.structure.PortKind.TheVariants as ports
use Rattle.actor_world.specs.Behaviour.{Behaviour}
use Rattle.worked_examples.specs.worlds.Writing.{slot, class, port, span, told_nobody, chartless_top, unhandled, behaviour_of}

-- the wiring of the model
abbrev pub tables : Tables
tables = record {
  slots =
      slot 2 Fixed None 0 0 0
      ∷ slot 0 Fixed (Some (record { 0 = 0 })) 0 0 0
      ∷ slot 1 Fixed (Some (record { 0 = 0 })) 0 1 0
      ∷ slot 1 Fixed (Some (record { 0 = 0 })) 0 2 0
      ∷ [];
  controllers = [] ∷ [];
  classes =
      class (port ports.Frame None ∷ port ports.Sap (Some 0) ∷ [])
      ∷ class (port ports.Frame None ∷ port ports.Spp (Some 0) ∷ [])
      ∷ class (port ports.Frame None ∷ [])
      ∷ [];
  first_ports = 0 ∷ 1 ∷ 3 ∷ 5 ∷ [];
  ports =
      span 0 1
      ∷ span 1 1
      ∷ span 2 1
      ∷ span 3 1
      ∷ span 4 0
      ∷ span 4 1
      ∷ span 5 0
      ∷ [];
  partners = replicate 5 Nobody;
  told = told_nobody 4 1;
}

-- the behaviour of all actors, with the commands of each at its start
abbrev pub model_with : (Incarnation → List Command) → Behaviour ℕ
model_with initial = behaviour_of chartless_top initial (λ x s m. unhandled s)
