use Rattle.timed_runs.specs.Shown.{shown}
use Rattle.timed_runs.proofs.Answering.{first_given, first_part, first_fits, is_timed, is_later, is_run_where_plain}
use Rattle.timed_runs.proofs.timed_run.run_timed_local.Goals as goal

pub run_parts_in_order-requires-clause-first : goal.run_parts_in_order-requires-clause-first
run_parts_in_order-requires-clause-first c = first_given c.args.plant.now.wiring c.args.lines.now (shown c.in_ok-source.source.walk) c.in_ok-source.ensures

pub run_parts_in_order-requires-clause-part : goal.run_parts_in_order-requires-clause-part
run_parts_in_order-requires-clause-part c = first_part c.args.plant.now.wiring c.args.lines.now (shown c.in_ok-source.source.walk) c.in_ok-source.ensures

pub run_parts_in_order-requires-clause-fits : goal.run_parts_in_order-requires-clause-fits
run_parts_in_order-requires-clause-fits c =
    first_fits c.args.plant.now.wiring c.args.lines.now (shown c.in_ok-source.source.walk) c.in_ok-source.ensures c.requires.fits

pub returns-clause-timed : goal.returns-clause-timed
returns-clause-timed c =
    is_timed c.args.plant.now c.args.lines.now c.args.fuel c.in_ok-source.source c.run_parts_in_order.new.source c.in_ok-source.ensures
    c.run_parts_in_order.result c.run_parts_in_order.ensures.ran c.run_parts_in_order.ensures.asked c.requires.fits

pub returns-clause-later : goal.returns-clause-later
returns-clause-later c =
    is_later c.args.plant.now c.args.lines.now c.args.fuel c.in_ok-source.source c.run_parts_in_order.new.source c.in_ok-source.ensures
    c.run_parts_in_order.result c.run_parts_in_order.ensures.ran c.run_parts_in_order.ensures.asked c.requires.fits

pub returns-clause-plain : goal.returns-clause-plain
returns-clause-plain c =
    is_run_where_plain c.args.plant.now c.args.lines.now c.args.fuel c.in_ok-source.source c.run_parts_in_order.new.source c.in_ok-source.ensures
    c.run_parts_in_order.result c.run_parts_in_order.ensures.ran c.run_parts_in_order.ensures.asked
