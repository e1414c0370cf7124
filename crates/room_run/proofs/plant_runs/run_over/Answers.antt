use Rattle.room_run.proofs.Untimed.{has_run}
use Rattle.room_run.proofs.plant_runs.run_over.Goals as goal

pub returns : goal.returns
returns g c =
    let run = c.in_ok-journals.ensures in
    has_run c.args.plant.now c.args.lines.now c.args.fuel c.in_ok-journals.journals c.requires.plant_fits c.requires.lines_fit
    run.timed run.later run.plain c.look_through.ensures
