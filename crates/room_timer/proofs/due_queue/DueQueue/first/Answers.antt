use Rattle.std.proofs.Common.{◌≡◌, ℕ, ◌≤◌, List, Some, None, subst, arith}
use Rattle.std.specs.Map.{values_of}
use Rattle.room_timer.specs.declared.timer.Timer.{Timer}
use Rattle.room_timer.specs.Timers.{due_by}
use Rattle.room_timer.specs.Turns.{IsDueTurn}
use Rattle.room_timer.proofs.Order.{due_first, not_yet_due, nothing_due}
use Rattle.room_timer.proofs.due_queue.DueQueue.first.Goals as goal

pub returns-in_default : goal.returns-in_default
returns-in_default c =
    subst (λ (ts : List (ℕ × Timer)). due_by c.args.until (values_of ts) ≡ None) c.self.view_is
    (nothing_due c.args.until c.self.inside.dues.entries c.self.inside.timers.entries c.self.invariant.0 c.in_default.ensures.variant.1)

pub returns-then-until-key : goal.returns-then-until-key
returns-then-until-key c =
    subst (λ (ts : List (ℕ × Timer)). due_by c.args.until (values_of ts) ≡ None) c.self.view_is
    (not_yet_due c.args.until c.self.inside.dues.entries c.self.inside.timers.entries c.in-Some.key.now c.self.invariant.0 c.in-Some.ensures.all_from
    c.if-until-key.true)

pub returns-else-until-key : goal.returns-else-until-key
returns-else-until-key c =
    subst (λ (ts : List (ℕ × Timer)). (due_by c.args.until (values_of ts) ≡ Some c.in-Some.key.now.due) × (c.in-Some.key.now.due ≤ c.args.until)
    × IsDueTurn ts c.in-Some.key.now.due c.in-Some.key.now.turn) c.self.view_is
    (due_first c.args.until c.self.inside.dues.entries c.self.inside.timers.entries c.in-Some.key.now c.in-Some.field-0-1.now c.self.invariant.0 c.self.invariant.1
    c.in-Some.ensures.first c.in-Some.ensures.all_from (omega (arith, c.if-until-key.false)))
