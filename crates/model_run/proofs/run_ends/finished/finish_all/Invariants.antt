use Rattle.std.proofs.Common.{reverse}
use Rattle.model_run.specs.run_ends.Told.{AreTold}
use Rattle.model_run.proofs.run_ends.finished.finish_all.Given as goal

abbrev pub invariant-loop-me : goal.invariant-loop-me
invariant-loop-me l = record {
  told : AreTold l.me l.fn.controllers.items (reverse l.controllers.items) l.journals.items l.left.items;
}
