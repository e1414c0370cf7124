use Rattle.std.proofs.Common.{◌≡◌, ◌∷◌, take, map}
use Rattle.std.specs.Prelude.{◌&&◌}
use Rattle.std.specs.List.{list_all}
use Rattle.chart_run.specs.chart_tables.Tables.{event_view}
use Rattle.chart_trees.specs.chart_codes.Events.{event_of, event_fits}
use Rattle.chart_trees.proofs.chart_codes.event.events.Given as goal

abbrev pub invariant-loop-other : goal.invariant-loop-other
invariant-loop-other l = record {
  items : map event_view l.found.items ≡ map (event_of l.scope) (l.trigger.first ∷ take l.other-index l.trigger.others);
  events : l.marks.events_fit ≡ (l.fn.marks.events_fit && list_all (event_fits l.scope) (l.trigger.first ∷ take l.other-index l.trigger.others));
  codes : l.marks.codes_fit ≡ l.fn.marks.codes_fit;
}
