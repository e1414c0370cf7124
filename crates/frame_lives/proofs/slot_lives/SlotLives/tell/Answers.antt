use Rattle.std.proofs.Common.{rules, ◌≡◌}
use Rattle.actor_duties.specs.Words.{updated}
use Rattle.frame_lives.specs.declared.row.Row.{Row}
use Rattle.frame_lives.specs.Paged.{row_in}
use Rattle.frame_lives.proofs.Paging.{shown_told}
use Rattle.frame_lives.proofs.slot_lives.SlotLives.tell.Goals as goal

pub returns : goal.returns
returns c =
    let x = c.in_ok-row.row.now in
    let after : Row = record { generation = x.generation; lives = x.lives; told = c.args.generation } in
    let is : row_in (c.reach.follows.lender after) ≡ updated (row_in c.self.inside.rows) c.from.result after = search rules in
    shown_told c.self.inside.count c.self.inside.rows (c.reach.follows.lender after) c.args.self.now c.args.slot.0 c.from.result x c.args.generation c.self.view_is c.requires c.from.ensures
    c.in_ok-row.ensures.value is
