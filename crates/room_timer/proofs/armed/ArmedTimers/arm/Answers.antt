use Rattle.std.proofs.Common.{◌≡◌, ℕ, ◌+◌, cond, List, [], ◌∷◌, ◌++◌, Some, ◌∙◌, sym, subst, ap, arith}
use Rattle.std.specs.BTreeMap.{get, is_at as is_key}
use Rattle.std.specs.Map.{lookup, values_of}
use Rattle.room_timer.specs.declared.place.Place.{Place}
use Rattle.room_timer.specs.declared.timer.Timer.{Timer}
use Rattle.room_timer.specs.Timers.{disarmed}
use Rattle.room_timer.specs.Turns.{IsPlaced, key_of, place_cmp, taken}
use Rattle.room_timer.proofs.Order.{last_taken}
use Rattle.room_timer.proofs.Placed.{placed_pushed, placed_again, armed_new, armed_again}
use Rattle.room_timer.proofs.armed.ArmedTimers.arm.Goals as goal

pub invariant_of-self-in-Ok-None : goal.invariant_of-self-in-Ok-None
invariant_of-self-in-Ok-None c =
    subst (λ (ts : List (ℕ × Timer)). IsPlaced (c.self.inside.next + 1) ts (λ at. get place_cmp c.insert.new.self (key_of at))) (sym c.in_ok-push.ensures.ok)
    (placed_pushed c.self.inside.next (c.self.inside.next + 1) c.self.inside.queue (λ at. get place_cmp c.self.inside.turns (key_of at))
    (λ at. get place_cmp c.insert.new.self (key_of at)) c.args.timer (omega arith) c.self.invariant
    (sym (ap (λ (k : Place). get place_cmp c.self.inside.turns k) c.key_of.ensures) ∙ sym c.in-Ok-None.ensures.old ∙ c.in-Ok-None.field-0-is)
    (λ a.
    subst (λ (k : Place). get place_cmp c.insert.new.self (key_of a)
    ≡ cond (is_key (place_cmp k) (key_of a)) (Some c.self.inside.next) (get place_cmp c.self.inside.turns (key_of a))) c.key_of.ensures
    (c.in-Ok-None.ensures.updates.0 (key_of a))))

pub invariant_of-self-in-Ok-Some : goal.invariant_of-self-in-Ok-Some
invariant_of-self-in-Ok-Some c =
    subst (λ (ts : List (ℕ × Timer)). IsPlaced (c.self.inside.next + 1) ts (λ at. get place_cmp c.insert.new.self (key_of at)))
    (sym (c.take.ensures.taken ∙ ap (λ (ts : List (ℕ × Timer)). taken c.in-Ok-Some.old ts) c.in_ok-push.ensures.ok))
    (placed_again c.self.inside.next (c.self.inside.next + 1) c.in-Ok-Some.old c.self.inside.queue (λ at. get place_cmp c.self.inside.turns (key_of at))
    (λ at. get place_cmp c.insert.new.self (key_of at)) c.args.timer (omega arith) c.self.invariant c.push.ensures.ordered
    (sym (ap (λ (k : Place). get place_cmp c.self.inside.turns k) c.key_of.ensures) ∙ sym c.in-Ok-Some.ensures.old ∙ c.in-Ok-Some.field-0-is)
    (λ a.
    subst (λ (k : Place). get place_cmp c.insert.new.self (key_of a)
    ≡ cond (is_key (place_cmp k) (key_of a)) (Some c.self.inside.next) (get place_cmp c.self.inside.turns (key_of a))) c.key_of.ensures
    (c.in-Ok-Some.ensures.updates.0 (key_of a))))

pub returns-in-Ok-None-clause-ok : goal.returns-in-Ok-None-clause-ok
returns-in-Ok-None-clause-ok c =
    ap (λ (ts : List (ℕ × Timer)). values_of ts) c.in_ok-push.ensures.ok
    ∙ armed_new c.self.inside.next c.self.inside.next (λ at. get place_cmp c.self.inside.turns (key_of at)) c.self.inside.queue c.args.timer c.self.invariant
    (sym (ap (λ (k : Place). get place_cmp c.self.inside.turns k) c.key_of.ensures) ∙ sym c.in-Ok-None.ensures.old ∙ c.in-Ok-None.field-0-is)
    ∙ ap (λ (ts : List (ℕ × Timer)). disarmed c.args.timer.at (values_of ts) ++ c.args.timer ∷ []) c.self.view_is

pub returns-in-Ok-Some-clause-ok : goal.returns-in-Ok-Some-clause-ok
returns-in-Ok-Some-clause-ok c =
    ap (λ (ts : List (ℕ × Timer)). values_of ts) (c.take.ensures.taken ∙ ap (λ (ts : List (ℕ × Timer)). taken c.in-Ok-Some.old ts) c.in_ok-push.ensures.ok)
    ∙ armed_again c.self.inside.next c.self.inside.next c.in-Ok-Some.old (λ at. get place_cmp c.self.inside.turns (key_of at)) c.self.inside.queue c.args.timer
    c.self.invariant
    (sym (ap (λ (k : Place). get place_cmp c.self.inside.turns k) c.key_of.ensures) ∙ sym c.in-Ok-Some.ensures.old ∙ c.in-Ok-Some.field-0-is)
    ∙ ap (λ (ts : List (ℕ × Timer)). disarmed c.args.timer.at (values_of ts) ++ c.args.timer ∷ []) c.self.view_is

pub invariant_of-self-in-Err : goal.invariant_of-self-in-Err
invariant_of-self-in-Err c =
    subst (λ (es : List (Place × ℕ)). IsPlaced c.self.inside.next c.take-in-Err.new.self (λ at. lookup (is_key (place_cmp (key_of at))) es)) (sym c.in-Err.ensures.err)
    (subst (λ (ts : List (ℕ × Timer)). IsPlaced c.self.inside.next ts (λ at. get place_cmp c.self.inside.turns (key_of at)))
    (sym (c.take-in-Err.ensures.taken ∙ ap (λ (ts : List (ℕ × Timer)). taken c.self.inside.next ts) c.in_ok-push.ensures.ok
    ∙ last_taken c.self.inside.queue c.self.inside.next c.args.timer c.self.invariant.below))
    c.self.invariant)

pub returns-in-Err-clause-err : goal.returns-in-Err-clause-err
returns-in-Err-clause-err c =
    c.take-in-Err.ensures.taken ∙ ap (λ (ts : List (ℕ × Timer)). taken c.self.inside.next ts) c.in_ok-push.ensures.ok
    ∙ last_taken c.self.inside.queue c.self.inside.next c.args.timer c.self.invariant.below ∙ c.self.view_is
