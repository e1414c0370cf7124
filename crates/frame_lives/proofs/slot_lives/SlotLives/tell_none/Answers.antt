use Rattle.std.proofs.Common.{refl}
use Rattle.frame_lives.specs.declared.row.Row.{Row}
use Rattle.frame_lives.specs.Shown.{no_row}
use Rattle.frame_lives.specs.Items.{with_item}
use Rattle.frame_lives.proofs.Items.{written_there}
use Rattle.frame_lives.proofs.Paging.{shown_told, stays_untold}
use Rattle.frame_lives.proofs.slot_lives.SlotLives.tell_none.Goals.{in-Some, in_default}
use Rattle.frame_lives.proofs.slot_lives.SlotLives.tell_none.Goals as goal

pub returns : goal.returns
returns c = elim c.match-get_mut.branch [
  | in-Some w ↦
      let rows = c.self.inside.rows in
      let x = w.in-Some.row.now in
      let after : Row = record { generation = x.generation; lives = x.lives; told = 0 } in
      rw w.self-inside-is
      (shown_told c.self.inside.count rows (with_item rows c.from.result after) c.args.self.now c.args.slot.0 c.from.result x 0 c.self.view_is c.requires c.from.ensures
      w.in-Some.ensures.value (written_there no_row rows c.from.result after (w.in-Some.ensures.there refl)))
  | in_default w ↦
      rw w.self-inside-is
      (stays_untold c.self.inside.count c.self.inside.rows c.args.self.now c.args.slot.0 c.from.result c.self.view_is c.requires c.from.ensures w.in_default.ensures.value)
]
