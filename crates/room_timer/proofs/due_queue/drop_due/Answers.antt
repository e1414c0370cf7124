use Rattle.std.proofs.Common.{List, ◌∙◌, ap}
use Rattle.room_kinds.specs.declared.numbers.Endpoint.{Endpoint}
use Rattle.room_timer.specs.declared.due_turn.DueTurn.{DueTurn}
use Rattle.room_timer.specs.Turns.{run_at}
use Rattle.room_timer.proofs.Order.{run_removed}
use Rattle.room_timer.proofs.due_queue.drop_due.Goals as goal

pub returns : goal.returns
returns c time =
    ap (λ (es : List (DueTurn × Endpoint)). run_at time es) c.remove.ensures.entries
    ∙ run_removed c.args.dues.now.entries c.args.due c.args.turn time
