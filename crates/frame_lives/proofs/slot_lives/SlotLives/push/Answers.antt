use Rattle.std.proofs.Common.{◌∷◌, [], ◌++◌, length, List, ap, ◌∙◌, arith}
use Rattle.frame_lives.specs.declared.row.Row.{Row}
use Rattle.frame_lives.proofs.Paging.{row_pushed, rows_many}
use Rattle.frame_lives.proofs.slot_lives.SlotLives.push.Goals as goal

pub overflow_add-self : goal.overflow_add-self
overflow_add-self c =
    let many = ap (λ (rows : List Row). length rows) c.self.view_is in
    let rows = rows_many c.self.inside.count c.self.inside.rows in
    omega (arith, c.requires, many, rows)

pub returns : goal.returns
returns c =
    row_pushed c.self.inside.count c.self.inside.rows c.put.new.rows c.args.row c.in_ok-put.ensures
    ∙ ap (λ (rows : List Row). rows ++ c.args.row ∷ []) c.self.view_is
