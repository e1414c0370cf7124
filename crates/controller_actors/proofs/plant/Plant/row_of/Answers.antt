use Rattle.std.proofs.Common.{subst, sym, ◌∙◌, ◌<◌}
use Rattle.controller_actors.proofs.OwnRows.{row_is, rows_many}
use Rattle.controller_actors.proofs.plant.Plant.row_of.Goals as goal

pub row-requires : goal.row-requires
row-requires c =
    let p = c.args.self.now in
    subst (λ n. c.args.slot.0 < n) (sym (rows_many p.wiring p.rows p.in_rows)) c.requires

pub returns : goal.returns
returns c =
    let p = c.args.self.now in
    λ me own. c.row.ensures ∙ row_is p.wiring p.rows p.in_rows me c.args.slot.0 own
