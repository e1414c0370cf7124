use Rattle.std.proofs.Common.{ℕ, List, sym, subst}
use Rattle.room_timer.specs.declared.timer.Timer.{Timer}
use Rattle.room_timer.specs.Turns.{IsInOrder}
use Rattle.room_timer.proofs.Order.{dropped}
use Rattle.room_timer.proofs.due_queue.DueQueue.take.Goals as goal

pub invariant_of-self-2 : goal.invariant_of-self-2
invariant_of-self-2 c = (
  subst (λ (ts : List (ℕ × Timer)). IsInOrder c.drop_due.new.dues.entries ts) (sym c.remove.ensures.entries)
      (dropped c.self.inside.dues.entries c.drop_due.new.dues.entries c.self.inside.timers.entries c.args.turn c.in_ok-timer.timer c.self.invariant.0
      (sym c.in_ok-timer.ensures.value) c.drop_due.ensures),
  c.remove.ensures.ordered,
)
