use Rattle.std.proofs.Common.{◌≡◌, length}
use Rattle.model_run.specs.run_start.Begun.{AllBegun}
use Rattle.model_run.proofs.run_start.start_all.Given as goal

abbrev pub invariant-loop-me : goal.invariant-loop-me
invariant-loop-me l = record {
  begun : AllBegun l.plant l.fuel l.controllers.items;
  count : length l.controllers.items ≡ l.me;
  end : l.me-end ≡ length l.plant.wiring.controllers;
}
