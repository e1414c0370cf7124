-- How far reading has come.
use Rattle.std.specs.Prelude.{ℕ, Bool, true, false, ◌&&◌, List, Option, Some, None, if◌then◌else◌}
use Rattle.std.specs.List.{list_all}
use Rattle.room_ast.specs.declared.chart.Code.{Code}
use Rattle.room_ast.specs.declared.chart.Trigger.{Trigger}
use Rattle.room_ast.specs.declared.scope.Scope.{Scope}
use Rattle.chart_trees.specs.declared.chart_codes.marks.Marks.{Marks}
use Rattle.chart_trees.specs.chart_codes.Codes.{names_after, guard_fits}
use Rattle.chart_trees.specs.chart_codes.Events.{event_fits, events, events_fit, guards_fit}

-- Whether each event yet was the class's, and the service names yet, if each code was the class's.
pub record Progress : Type 0 where
  pub events_fit : Bool
  pub names : Option (List (List ℕ))

abbrev pub progress : Marks → List (List ℕ) → Progress
progress marks names = record { events_fit = marks.events_fit; names = if marks.codes_fit then Some names else None }

abbrev pub after_action : Scope → Progress → Option Code → Progress
after_action scope p code = record { events_fit = p.events_fit; names = names_after scope p.names code }

abbrev pub after_guard : Scope → Progress → Option Code → Progress
after_guard scope p code = record { events_fit = p.events_fit; names = if guard_fits scope code then p.names else None }

abbrev pub after_triggers : Scope → Progress → List Trigger → Progress
after_triggers scope p ts = record { events_fit = if events_fit scope ts then p.events_fit else false; names = if guards_fit scope ts then p.names else None }

-- ---- the marks alone

abbrev pub marks_after_guard : Scope → Marks → Option Code → Marks
marks_after_guard scope m code = record { events_fit = m.events_fit; codes_fit = m.codes_fit && guard_fits scope code }

abbrev pub marks_after_trigger : Scope → Marks → Trigger → Marks
marks_after_trigger scope m t = record { events_fit = m.events_fit && list_all (event_fits scope) (events t); codes_fit = m.codes_fit && guard_fits scope t.guard }
