use Rattle.law_names.proofs.CreatedRuns.{runs_named, each_named, table_created}
use Rattle.law_names.specs.Created.{last_at}
use Rattle.law_names.proofs.registrations.names_are_of_the_created.Goals as goal

pub returns : goal.returns
returns g c = λ model t lines clear clear_lines xs end r.
    let inv = runs_named model clear t lines clear_lines xs end r in
    ((λ a b m there. each_named t end inv a b m there), (λ n. table_created t (last_at t end) (end.controllers n).body.table (inv.tables n)))
