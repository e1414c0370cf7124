use Rattle.std.proofs.Common.{◌<◌, ◌≤◌, List, ap, subst, ◌∙◌}
use Rattle.frame_lives.specs.declared.row.Row.{Row}
use Rattle.frame_lives.specs.Shown.{row_of}
use Rattle.frame_lives.specs.Paged.{row_in}
use Rattle.frame_lives.proofs.Paging.{row_there, no_row_there}
use Rattle.frame_lives.proofs.slot_lives.SlotLives.row_at.Goals as goal

pub returns-then-from-self : goal.returns-then-from-self
returns-then-from-self c =
    let rows = c.self.inside.rows in
    c.item.ensures ∙ ap (row_in rows) c.from-then-from-self.ensures
    ∙ row_there c.self.inside.count rows c.args.slot.0 (subst (λ n. n < c.self.inside.count) c.from.ensures c.if-from-self.true)
    ∙ ap (λ (rows : List Row). row_of rows c.args.slot.0) c.self.view_is

pub returns-else-from-self : goal.returns-else-from-self
returns-else-from-self c =
    no_row_there c.self.inside.count c.self.inside.rows c.args.slot.0 (subst (λ n. c.self.inside.count ≤ n) c.from.ensures c.if-from-self.false)
    ∙ ap (λ (rows : List Row). row_of rows c.args.slot.0) c.self.view_is
