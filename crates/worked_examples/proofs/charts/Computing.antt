-- All definitions of charts, opened at once to compute with.
use Rattle.chart_model.specs.chart_plan.Handling.{first_of, holds, trigger_fits, triggers_fit, fits, enabled_after, enabled, chosen, runs, enter, enter_all, below, is_inside, runs_through, put, remember, leave, leave_all, border, arrive, follow, segments, chain, taken, handling, starting}
use Rattle.chart_model.specs.Acting.{handles_by, starts_by}
use Rattle.action_program.specs.Meaning.{carried, times}

-- names what unfolds in a computation
unfoldable pub computing : Unit {0}
unfolding first_of holds trigger_fits triggers_fit fits enabled_after enabled chosen runs enter enter_all below is_inside runs_through put remember leave leave_all border arrive follow segments chain taken handling starting handles_by starts_by carried times
computing = tt
