use Rattle.law_agreement.proofs.Agreeing.{senders}
use Rattle.law_agreement.proofs.owners_tell.Goals as goal

pub returns : goal.returns
returns g c = λ model t lines clear clear_lines xs end r a b m x there h. senders model clear t lines clear_lines xs end r a b m x there h
