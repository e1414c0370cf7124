use Rattle.room_verify.proofs.CheckLaw.{begins_so}
use Rattle.room_verify.proofs.checks.begins_with_starts.Goals as goal

pub returns : goal.returns
returns c =
    begins_so c.args.starts.now c.args.journal.now c.split_at.result.0.now c.split_at.result.1.now c.same_entries.result c.are_events.result c.split_at.ensures.front c.split_at.ensures.back
    c.same_entries.ensures c.if-not-same_entries.false c.are_events.ensures
