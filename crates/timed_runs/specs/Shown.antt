-- A walk as the definitions see it.
use Rattle.timed_runs.specs.declared.walk.Walk.{Walk as Kept}
use Rattle.timed_runs.specs.Walks.{Walk}

abbrev pub shown : Kept → Walk
shown w = record {
  wiring = w.wiring.now;
  lines = w.lines.now;
  to = w.to;
  left = w.left;
  timers = w.timers;
  seen = w.seen.items;
  gone = w.gone.items;
  part = w.part.items;
}
