-- The events of triggers, as a class knows them.
use Rattle.std.specs.Prelude.{ℕ, Bool, true, false, List, [], ◌∷◌, map, Option, Some, None, option_map, unwrap_or, is_some, if◌then◌else◌, codes}
use Rattle.std.specs.List.{list_all}
use Rattle.std.specs.Option.{option_map_or}
use Rattle.room_kinds.specs.declared.structure.PortKind.{PortKind}
use Rattle.room_kinds.specs.declared.structure.PortKind.TheVariants as ports
use Rattle.room_ast.specs.declared.chart.Event.{Event as EventTree}
use Rattle.room_ast.specs.declared.chart.EventMessage.{EventMessage}
use Rattle.room_ast.specs.declared.chart.EventMessage.TheVariants as messages
use Rattle.room_ast.specs.declared.chart.Trigger.{Trigger as TriggerTree}
use Rattle.room_ast.specs.declared.chart.Triggers.{Triggers}
use Rattle.room_ast.specs.declared.scope.Scope.{Scope}
use Rattle.room_ast.specs.declared.scope.ScopePort.{ScopePort}
use Rattle.room_ast.specs.Found.{found_port, found_received}
use Rattle.action_program.specs.Numbered.{ExprTree}
use Rattle.chart_model.specs.chart_plan.Plan.{Trigger}
use Rattle.chart_model.specs.Chart.{Event}
use Rattle.chart_trees.specs.chart_codes.Codes.{guard_of, guard_fits}

-- Whether messages can come in at such a port: an end port, a service access point, a service provision point, or frame.
abbrev pub takes_messages : PortKind → Bool
takes_messages ports.Frame = true
takes_messages ports.Relay = false
takes_messages ports.End = true
takes_messages ports.Internal = true
takes_messages ports.Sap = true
takes_messages ports.Spp = true

-- the name of the message of an event
abbrev pub message_name : EventMessage → List ℕ
message_name (messages.Named n) = n
message_name messages.Imported = codes "imported"

abbrev pub event_at : List ℕ → Option (ℕ × ScopePort) → Option Event
event_at message None = None
event_at message (Some p) = if takes_messages p.1.kind then option_map (λ s. record { port = p.0; signal = s.0 }) (found_received p.1 message) else None

-- An event by numbers, if the class has the port and the message comes in there.
abbrev pub event_in : Scope → EventTree → Option Event
event_in scope e = event_at (message_name e.message) (found_port scope e.port)

-- what stands for an event that isn't the class's
abbrev pub no_event : Event
no_event = record { port = 0; signal = 0 }

abbrev pub event_of : Scope → EventTree → Event
event_of scope e = unwrap_or (event_in scope e) no_event

abbrev pub event_fits : Scope → EventTree → Bool
event_fits scope e = is_some (event_in scope e)

-- ---- triggers

abbrev pub events : TriggerTree → List EventTree
events t = t.first ∷ t.others

abbrev pub trigger_of : Scope → TriggerTree → Trigger Event ExprTree
trigger_of scope t = record { events = map (event_of scope) (events t); guard = guard_of scope t.guard }

abbrev pub trigger_list : Option Triggers → List TriggerTree
trigger_list None = []
trigger_list (Some ts) = ts.first ∷ ts.others

abbrev pub triggers_of : Scope → Option Triggers → List (Trigger Event ExprTree)
triggers_of scope ts = map (trigger_of scope) (trigger_list ts)

-- whether each event of the triggers is the class's
abbrev pub events_fit : Scope → List TriggerTree → Bool
events_fit scope ts = list_all (λ (t : TriggerTree). list_all (event_fits scope) (events t)) ts

-- whether each guard is
abbrev pub guards_fit : Scope → List TriggerTree → Bool
guards_fit scope ts = list_all (λ (t : TriggerTree). guard_fits scope t.guard) ts
