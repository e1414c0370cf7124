use Rattle.std.proofs.Common.{sym}
use Rattle.room_verify.proofs.EndedLaw.{ends_first, ends_none}
use Rattle.room_verify.proofs.ends.ends_part.Goals as goal

pub returns-in-Some : goal.returns-in-Some
returns-in-Some c = ends_first c.args.lines.now c.in-Some.line.now c.is_message.result (sym c.in-Some.ensures.value) c.is_message.ensures

pub returns-in-None : goal.returns-in-None
returns-in-None c = ends_none c.args.lines.now (sym c.in-None.ensures.value)
