use Rattle.room_verify.proofs.PromptLaw.{next_priority}
use Rattle.room_verify.proofs.promptness.first_early_turn.Goals as goal

pub loop-prio-preserved : goal.loop-prio-preserved
loop-prio-preserved c =
    next_priority c.args.journal.now c.args.c.0 c.loop-prio.prio c.loop-prio.first c.first_early-early.result c.sooner-first.result c.loop-prio.invariant c.first_early-early.ensures
    c.sooner-first.ensures
