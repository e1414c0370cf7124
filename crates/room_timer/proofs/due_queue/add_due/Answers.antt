use Rattle.std.proofs.Common.{List, ◌∙◌, ap}
use Rattle.room_kinds.specs.declared.numbers.Endpoint.{Endpoint}
use Rattle.room_timer.specs.declared.due_turn.DueTurn.{DueTurn}
use Rattle.room_timer.specs.Turns.{run_at}
use Rattle.room_timer.proofs.Order.{run_inserted}
use Rattle.room_timer.proofs.due_queue.add_due.Goals as goal

pub returns-clause-ok : goal.returns-clause-ok
returns-clause-ok c time =
    ap (λ (es : List (DueTurn × Endpoint)). run_at time es) c.in_ok-insert.ensures.entries
    ∙ run_inserted c.args.dues.now.entries c.args.timer.due c.args.turn c.args.timer.at c.insert.ensures.was_ordered c.requires time
