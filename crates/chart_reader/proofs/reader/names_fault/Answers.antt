use Rattle.std.proofs.Common.{◌≡◌, IfOk, subst}
use Rattle.chart_model.specs.Chart.{Chart}
use Rattle.chart_reader.specs.Faults.{names_fault}
use Rattle.chart_reader.proofs.reader.names_fault.Goals as goal

pub returns : goal.returns
returns c = subst (λ (chart : Chart). IfOk c.indexed_fault.result (λ fault. fault ≡ names_fault chart)) c.in_ok-index.ensures c.indexed_fault.ensures
