use Rattle.std.proofs.Common.{sym}
use Rattle.controller_actors.proofs.OwnRows.{own_none}
use Rattle.controller_actors.proofs.slot_rows.own_count.Goals as goal

pub loop-number-init : goal.loop-number-init
loop-number-init c = sym (own_none c.args.wiring.now c.args.me.0)
