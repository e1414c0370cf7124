use Rattle.chart_behaviour.proofs.Charts.{machines_begin, machines_handle}
use Rattle.chart_behaviour.proofs.machines_behave.Goals as goal

pub returns-clause-begin : goal.returns-clause-begin
returns-clause-begin c = machines_begin

pub returns-clause-handle : goal.returns-clause-handle
returns-clause-handle c = machines_handle
