use Rattle.timed_runs.specs.Shown.{shown}
use Rattle.timed_runs.proofs.Answering.{first_given, first_part, first_fits, is_timed, is_later, is_run_where_plain}
use Rattle.timed_runs.proofs.timed_run.run_timed.Goals as goal

pub run_parts-requires-clause-first : goal.run_parts-requires-clause-first
run_parts-requires-clause-first g c κs lives = first_given c.args.plant.now.wiring c.args.lines.now (shown c.in_ok-source.source.walk) c.in_ok-source.ensures

pub run_parts-requires-clause-part : goal.run_parts-requires-clause-part
run_parts-requires-clause-part g c κs lives = first_part c.args.plant.now.wiring c.args.lines.now (shown c.in_ok-source.source.walk) c.in_ok-source.ensures

pub run_parts-requires-clause-fits : goal.run_parts-requires-clause-fits
run_parts-requires-clause-fits g c κs lives =
    first_fits c.args.plant.now.wiring c.args.lines.now (shown c.in_ok-source.source.walk) c.in_ok-source.ensures c.requires.fits

pub returns-clause-timed : goal.returns-clause-timed
returns-clause-timed g c =
    is_timed c.args.plant.now c.args.lines.now c.args.fuel c.in_ok-source.source c.run_parts.new.source c.in_ok-source.ensures
    c.run_parts.result c.run_parts.ensures.ran c.run_parts.ensures.asked c.requires.fits

pub returns-clause-later : goal.returns-clause-later
returns-clause-later g c =
    is_later c.args.plant.now c.args.lines.now c.args.fuel c.in_ok-source.source c.run_parts.new.source c.in_ok-source.ensures
    c.run_parts.result c.run_parts.ensures.ran c.run_parts.ensures.asked c.requires.fits

pub returns-clause-plain : goal.returns-clause-plain
returns-clause-plain g c =
    is_run_where_plain c.args.plant.now c.args.lines.now c.args.fuel c.in_ok-source.source c.run_parts.new.source c.in_ok-source.ensures
    c.run_parts.result c.run_parts.ensures.ran c.run_parts.ensures.asked
