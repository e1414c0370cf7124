use Rattle.std.proofs.Common.{sym, ◌∙◌}
use Rattle.frame_lives.proofs.Paging.{row_stands}
use Rattle.frame_lives.proofs.slot_lives.put.Goals as goal

pub returns-then-is_same : goal.returns-then-is_same
returns-then-is_same c =
    row_stands c.args.rows.now c.args.place c.args.row (sym c.item.ensures ∙ c.is_same.ensures.same c.if-is_same.true)
