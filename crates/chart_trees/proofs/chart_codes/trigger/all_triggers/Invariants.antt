use Rattle.std.proofs.Common.{◌≡◌, ◌∷◌, take, map}
use Rattle.std.specs.Prelude.{◌&&◌}
use Rattle.chart_run.specs.chart_tables.Tables.{trigger_view}
use Rattle.chart_trees.specs.chart_codes.Events.{trigger_of, events_fit, guards_fit}
use Rattle.chart_trees.proofs.chart_codes.trigger.all_triggers.Given as goal

abbrev pub invariant-loop-other : goal.invariant-loop-other
invariant-loop-other l = record {
  items : map trigger_view l.found.items ≡ map (trigger_of l.scope) (l.written.first ∷ take l.other-index l.written.others);
  events : l.marks.events_fit ≡ (l.fn.marks.events_fit && events_fit l.scope (l.written.first ∷ take l.other-index l.written.others));
  codes : l.marks.codes_fit ≡ (l.fn.marks.codes_fit && guards_fit l.scope (l.written.first ∷ take l.other-index l.written.others));
}
