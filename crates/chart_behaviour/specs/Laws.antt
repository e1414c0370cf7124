-- The laws of the behaviour of charts.
use Rattle.std.specs.Prelude.{◌≡◌, Bool, List, Option, Some}
use Rattle.room_kinds.specs.declared.message.Msg.{Msg}
use Rattle.room_kinds.specs.declared.command.Command.{Command}
use Rattle.room_kinds.specs.declared.numbers.Incarnation.{Incarnation}
use Rattle.room_wiring.specs.declared.tables.Tables.{Tables as Wiring}
use Rattle.action_program.specs.declared.moment.Effects.{Effects}
use Rattle.chart_run.specs.declared.chart_tables.tables.Tables.{Tables}
use Rattle.chart_run.specs.declared.machine.Machine.{Machine}
use Rattle.chart_run.specs.declared.outcome.Outcome.{Outcome}
use Rattle.chart_run.specs.Machines.{Starts, Acts, standing_of, result_view}
use Rattle.actor_world.specs.Life.{IsModest}
use Rattle.actor_world.specs.Directories.{IsOpen}
use Rattle.chart_behaviour.specs.ModelCharts.{begins, handles, handling_of, behaviour_of}
use Rattle.chart_behaviour.specs.Asked.{ClassesAsk, AsksOnly, IsStatic, is_open, is_static}

-- a machine that starts is the actor that begins, with the same notes and commands
abbrev pub MachinesBegin : Type 0
MachinesBegin =
    (v : Tables) (x : Incarnation) (m : Machine) (effects : Effects) → Starts v x m effects
    → begins x (Some v) ≡ record { machine = Some (standing_of m); notes = effects.notes; commands = effects.commands }

-- a machine that handles a message is the actor that handles it, with the same result, notes and commands
abbrev pub MachinesHandle : Type 0
MachinesHandle =
    (v : Tables) (x : Incarnation) (old new : Machine) (m : Msg) (o : Outcome) → Acts v old new m o → old.me ≡ x
    → handles x m (Some v) (Some (standing_of old))
    ≡ record { machine = Some (standing_of new); result = handling_of (result_view o.result); notes = o.effects.notes; commands = o.effects.commands }

-- what actors note by themselves says nothing of lives
abbrev pub ChartsAreModest : Type 0
ChartsAreModest = (w : Wiring) (classes : List (Option Tables)) → IsModest (behaviour_of w classes)

-- actors ask for nothing but what the programs of their classes may ask for
abbrev pub ChartsAskOnly : Type 0
ChartsAskOnly = (w : Wiring) (classes : List (Option Tables)) (test : Command → Bool) → ClassesAsk test classes → AsksOnly test (behaviour_of w classes)

-- so where no program sends at the system level, no actor does
abbrev pub ChartsAreOpen : Type 0
ChartsAreOpen = (w : Wiring) (classes : List (Option Tables)) → ClassesAsk is_open classes → IsOpen (behaviour_of w classes)

-- and where no program asks the frame service or the layer service for anything, no actor does
abbrev pub ChartsAreStatic : Type 0
ChartsAreStatic = (w : Wiring) (classes : List (Option Tables)) → ClassesAsk is_static classes → IsStatic (behaviour_of w classes)
