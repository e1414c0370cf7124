use Rattle.std.proofs.Common.{ℕ, not, List, sym, subst}
use Rattle.std.specs.Prelude.{filter}
use Rattle.std.specs.List.{list_any}
use Rattle.room_kinds.specs.declared.numbers.Endpoint.{Endpoint}
use Rattle.room_timer.specs.declared.due_turn.DueTurn.{DueTurn}
use Rattle.room_timer.specs.declared.timer.Timer.{Timer}
use Rattle.room_timer.specs.Timers.{is_down}
use Rattle.room_timer.specs.Turns.{IsInOrder}
use Rattle.room_timer.proofs.Order.{order_kept}
use Rattle.room_timer.proofs.due_queue.DueQueue.keep_outliving.Goals as goal

pub invariant_of-self : goal.invariant_of-self
invariant_of-self c = (
  subst (λ (es : List (DueTurn × Endpoint)). IsInOrder es c.keep_timers.new.timers.entries) (sym c.keep_dues.ensures)
      (subst (λ (ts : List (ℕ × Timer)). IsInOrder (filter (λ (e : DueTurn × Endpoint). not (list_any (is_down e.1) c.args.notes.now)) c.self.inside.dues.entries) ts) (sym c.keep_timers.ensures.kept)
      (order_kept (λ (a : Endpoint). not (list_any (is_down a) c.args.notes.now)) c.self.inside.dues.entries c.self.inside.timers.entries c.self.invariant.0)),
  c.keep_timers.ensures.ordered,
)
