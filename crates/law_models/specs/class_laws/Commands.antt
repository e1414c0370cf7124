-- What the actors of a class ask for: commands that the class can give.
-- `can_ask` is a test of a command as it is applied, with its numbers at hand. The law
-- `actors_ask_what_they_can`: no actor of a model without a fault asks for anything else, neither at its
-- start nor with any message.
use Rattle.std.specs.Prelude.{◌≡◌, ℕ, ◌+◌, Bool, true, false, ◌&&◌, nat_le, nat_lt, List, Option, Some, length, slice_get}
use Rattle.std.specs.List.{list_all}
use Rattle.std.specs.Option.{option_map_or}
use Rattle.room_kinds.specs.declared.command.Command.{Command}
use Rattle.room_kinds.specs.declared.command.Command.TheVariants as commands
use Rattle.room_kinds.specs.declared.command.FrameCommand.{FrameCommand}
use Rattle.room_kinds.specs.declared.command.FrameCommand.TheVariants as frames
use Rattle.room_kinds.specs.declared.command.NameCommand.{NameCommand}
use Rattle.room_kinds.specs.declared.command.NameCommand.TheVariants as names
use Rattle.room_kinds.specs.declared.message.Msg.{Msg}
use Rattle.room_kinds.specs.declared.numbers.Incarnation.{Incarnation}
use Rattle.room_kinds.specs.declared.structure.ReferenceKind.{ReferenceKind}
use Rattle.room_ast.specs.Trees.{ModelTree}
use Rattle.room_wiring.specs.declared.names.ClassNames.{ClassNames}
use Rattle.room_wiring.specs.declared.names.PortNames.{PortNames}
use Rattle.room_wiring.specs.declared.names.RefNames.{RefNames}
use Rattle.wiring_plan.specs.wiring_classes.Classes.{classes_of}
use Rattle.action_program.specs.declared.operator.FrameVerb.TheVariants as verbs
use Rattle.action_lang.specs.action_check.Faults.{can_send, takes_names, takes_verb, takes_import}
use Rattle.chart_model.specs.Chart.{Chart}
use Rattle.chart_run.specs.declared.chart_tables.tables.Tables.{Tables}
use Rattle.chart_reader.specs.model_charts.Charts.{HasCharts}
use Rattle.chart_compile.specs.chart_parts.Compiled.{Compiles}
use Rattle.chart_behaviour.specs.ModelCharts.{Actor, begins, handles}
use Rattle.law_models.specs.class_laws.Programs.{going, first_going}

-- whether a message of this number goes out at a port
abbrev pub goes_out : ℕ → PortNames → Bool
goes_out message x = nat_le (first_going x) message && nat_lt message (first_going x + length (going x))

-- whether an actor of a class can send this message at this port
abbrev pub can_send_at : ClassNames → ℕ → ℕ → Bool
can_send_at c port message = option_map_or (λ (x : PortNames). can_send x.kind && goes_out message x) (slice_get c.ports port) false

-- whether it can register this port under a service name
abbrev pub can_register : ClassNames → ℕ → Bool
can_register c port = option_map_or (λ (x : PortNames). takes_names x.kind) (slice_get c.ports port) false

-- whether it has a reference of a kind that serves
abbrev pub has_reference : (ReferenceKind → Bool) → ClassNames → ℕ → Bool
has_reference serves c reference = option_map_or (λ (x : RefNames). serves x.kind) (slice_get c.references reference) false

abbrev pub can_ask_frame : ClassNames → FrameCommand → Bool
can_ask_frame c (frames.Incarnate reference index) = has_reference (takes_verb verbs.Incarnate) c reference
can_ask_frame c (frames.Destroy reference index) = has_reference (takes_verb verbs.Destroy) c reference
can_ask_frame c (frames.Import reference index id) = has_reference takes_import c reference
can_ask_frame c (frames.Deport reference index) = has_reference (takes_verb verbs.Deport) c reference

abbrev pub can_ask_name : ClassNames → NameCommand → Bool
can_ask_name c (names.Register port name) = can_register c port
can_ask_name c (names.Withdraw port) = can_register c port

-- whether an actor of a class can ask for this: a send at a port of the class, of a message that goes out there, at a priority from 1 to 5; a request on a reference of the needed kind; a service name for a service point
abbrev pub can_ask : ClassNames → Command → Bool
can_ask c (commands.Send port place message payload prio) = can_send_at c port message && (nat_le 1 prio.0 && nat_le prio.0 5)
can_ask c commands.Defer = true
can_ask c commands.Recall = true
can_ask c commands.RecallAll = true
can_ask c (commands.Frame command) = can_ask_frame c command
can_ask c (commands.Name command) = can_ask_name c command

-- an actor with these tables asks for nothing but what its class can
pub record AsksWhatItCan (c : ClassNames) (v : Tables) : Type 0 where
  pub begin : (x : Incarnation) → list_all (can_ask c) (begins x (Some v)).commands ≡ true
  pub handle : (x : Incarnation) (m : Msg) (actor : Actor) → list_all (can_ask c) (handles x m (Some v) actor).commands ≡ true

-- over every model whose charts have no fault: so it is of tables that are compiled from the chart of a class
abbrev pub ActorsAskWhatTheyCan : Type 0
ActorsAskWhatTheyCan =
    (m : ModelTree) (charts : List (Option Chart)) → HasCharts m charts
    → (k : ℕ) (c : ClassNames) (chart : Chart) (v : Tables) → slice_get (classes_of m) k ≡ Some c → slice_get charts k ≡ Some (Some chart)
    → Compiles v chart → AsksWhatItCan c v
