use Rattle.std.proofs.Common.{ℕ, ◌<◌, List, [], ◌∷◌, ◌++◌, ◌∙◌, sym, subst, ap}
use Rattle.std.specs.List.{AllByRecursion}
use Rattle.room_timer.specs.declared.timer.Timer.{Timer}
use Rattle.room_timer.specs.Turns.{IsInOrder}
use Rattle.room_timer.proofs.Order.{fresh, pushed, undone, inserted_last}
use Rattle.room_timer.proofs.due_queue.DueQueue.push.Goals as goal

pub add_due-requires : goal.add_due-requires
add_due-requires c =
    let below = subst (λ (ts : List (ℕ × Timer)). AllByRecursion (λ (e : ℕ × Timer). e.0 < c.args.turn) ts) (sym c.self.view_is) c.requires in
    fresh c.self.inside.dues.entries c.self.inside.timers.entries c.args.turn c.args.timer.due below c.self.invariant.0

pub invariant_of-self-in-Ok : goal.invariant_of-self-in-Ok
invariant_of-self-in-Ok c =
    let below = subst (λ (ts : List (ℕ × Timer)). AllByRecursion (λ (e : ℕ × Timer). e.0 < c.args.turn) ts) (sym c.self.view_is) c.requires in (
      subst (λ (ts : List (ℕ × Timer)). IsInOrder c.add_due.new.dues.entries ts)
          (sym (c.in-Ok.ensures.entries ∙ inserted_last c.self.inside.timers.entries c.args.turn c.args.timer below))
          (pushed c.self.inside.dues.entries c.add_due.new.dues.entries c.self.inside.timers.entries c.args.turn c.args.timer c.self.invariant.0
          c.in_ok-add_due.ensures.ok),
      c.insert.ensures.ordered,
    )

pub invariant_of-self-in-Err : goal.invariant_of-self-in-Err
invariant_of-self-in-Err c =
    let below = subst (λ (ts : List (ℕ × Timer)). AllByRecursion (λ (e : ℕ × Timer). e.0 < c.args.turn) ts) (sym c.self.view_is) c.requires in (
      subst (λ (ts : List (ℕ × Timer)). IsInOrder c.drop_due.new.dues.entries ts) (sym c.in-Err.ensures.err)
          (undone c.self.inside.dues.entries c.add_due.new.dues.entries c.drop_due.new.dues.entries c.self.inside.timers.entries c.args.turn c.args.timer
          c.self.invariant.0 below c.in_ok-add_due.ensures.ok c.drop_due.ensures),
      c.insert.ensures.ordered,
    )

pub returns-in-Ok-clause-ok : goal.returns-in-Ok-clause-ok
returns-in-Ok-clause-ok c =
    let below = subst (λ (ts : List (ℕ × Timer)). AllByRecursion (λ (e : ℕ × Timer). e.0 < c.args.turn) ts) (sym c.self.view_is) c.requires in
    c.in-Ok.ensures.entries ∙ inserted_last c.self.inside.timers.entries c.args.turn c.args.timer below
    ∙ ap (λ (ts : List (ℕ × Timer)). ts ++ (c.args.turn, c.args.timer) ∷ []) c.self.view_is
