use Rattle.chart_behaviour.proofs.sends.Turning.{turns_send_within, starts_send_within}
use Rattle.chart_behaviour.proofs.sends.sends_are_within.Goals as goal

pub returns-clause-turns : goal.returns-clause-turns
returns-clause-turns g c = turns_send_within

pub returns-clause-starts : goal.returns-clause-starts
returns-clause-starts g c = starts_send_within
