-- What the actors of a model may ask for.
use Rattle.std.specs.Prelude.{◌≡◌, ℕ, ◌==◌, Bool, true, false, not, List, Option, Some, slice_get}
use Rattle.std.specs.List.{list_all}
use Rattle.room_kinds.specs.declared.command.Command.{Command}
use Rattle.room_kinds.specs.declared.command.Command.TheVariants as commands
use Rattle.room_kinds.specs.declared.message.Msg.{Msg}
use Rattle.room_kinds.specs.declared.numbers.Incarnation.{Incarnation}
use Rattle.chart_run.specs.declared.chart_tables.tables.Tables.{Tables}
use Rattle.chart_behaviour.specs.chart_asks.Asking.{TablesAsk}
use Rattle.actor_world.specs.Behaviour.{Behaviour}

-- each command that an actor of a class may ask for passes a test
abbrev pub ClassesAsk : (Command → Bool) → List (Option Tables) → Type 0
ClassesAsk test classes = (c : ℕ) (v : Tables) → slice_get classes c ≡ Some (Some v) → TablesAsk test v

-- a behaviour whose actors ask only for what passes a test
pub record AsksOnly {M : Type 0} (test : Command → Bool) (model : Behaviour M) : Type 0 where
  pub begin : (x : Incarnation) → list_all test (model.begin x).commands ≡ true
  pub handle : (x : Incarnation) (machine : M) (m : Msg) → list_all test (model.handle x machine m).commands ≡ true

-- whether a command sends nothing at the system level, priority 0
abbrev pub is_open : Command → Bool
is_open (commands.Send p k signal payload prio) = not (prio.0 == 0)
is_open commands.Defer = true
is_open commands.Recall = true
is_open commands.RecallAll = true
is_open (commands.Frame c) = true
is_open (commands.Name c) = true

-- whether a command asks nothing of the frame service and the layer service
abbrev pub is_static : Command → Bool
is_static (commands.Send p k signal payload prio) = true
is_static commands.Defer = true
is_static commands.Recall = true
is_static commands.RecallAll = true
is_static (commands.Frame c) = false
is_static (commands.Name c) = false

-- a behaviour whose actors create, destroy and lend no actors and meet nobody by name
abbrev pub IsStatic : {M : Type 0} → Behaviour M → Type 0
IsStatic model = AsksOnly is_static model
