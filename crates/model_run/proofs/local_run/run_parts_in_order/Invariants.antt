use Rattle.model_run.specs.part_source.Calls.{seen, StoodQuiet, Asked}
use Rattle.model_run.specs.run_loop.Runs.{StandsBetween}
use Rattle.model_run.proofs.run_loop.StepsLeft.{steps_left}
use Rattle.model_run.proofs.local_run.run_parts_in_order.Given as goal

abbrev pub invariant-loop-run : goal.invariant-loop-run
invariant-loop-run g l = record {
  stands : StandsBetween l.plant (g.S.PartSource.given l.source) (g.S.PartSource.stands_at l.source) l.fuel l.run;
  fits : g.S.PartSource.fits l.plant.wiring l.source;
  asked : Asked g.S.PartSource.goes_on (λ s js. StoodQuiet l.plant (g.S.PartSource.given s) l.fuel js) l.fn.source l.source (seen l.run.controllers.items l.run.environment);
}

abbrev pub decreases-loop-run : goal.decreases-loop-run
decreases-loop-run g l = steps_left l.fuel l.run
