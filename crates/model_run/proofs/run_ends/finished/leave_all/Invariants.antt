use Rattle.std.proofs.Common.{◌≡◌, ◌++◌, true, map, reverse, vec_len}
use Rattle.actor_world.specs.Journals.{left}
use Rattle.model_run.proofs.run_ends.finished.leave_all.Given as goal

abbrev pub invariant-loop-msg : goal.invariant-loop-msg
invariant-loop-msg l = l.all.items ++ map (left l.to.0 true) (reverse l.waiting.items) ≡ l.fn.all.items ++ map (left l.to.0 true) l.fn.waiting.items

abbrev pub decreases-loop-msg : goal.decreases-loop-msg
decreases-loop-msg l = vec_len l.waiting
