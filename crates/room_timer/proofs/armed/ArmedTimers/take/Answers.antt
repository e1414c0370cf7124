use Rattle.std.proofs.Common.{◌≡◌, ℕ, cond, List, None, ◌∙◌, sym, subst}
use Rattle.std.specs.BTreeMap.{get, is_at as is_key}
use Rattle.room_timer.specs.declared.place.Place.{Place}
use Rattle.room_timer.specs.declared.timer.Timer.{Timer}
use Rattle.room_timer.specs.Turns.{IsPlaced, key_of, place_cmp}
use Rattle.room_timer.proofs.Placed.{placed_taken, taken_none}
use Rattle.room_timer.proofs.armed.ArmedTimers.take.Goals as goal

pub invariant_of-self : goal.invariant_of-self
invariant_of-self c =
    subst (λ (ts : List (ℕ × Timer)). IsPlaced c.self.inside.next ts (λ at. get place_cmp c.remove.new.self (key_of at))) (sym c.take.ensures.taken)
    (placed_taken c.self.inside.next c.self.inside.queue (λ at. get place_cmp c.self.inside.turns (key_of at))
    (λ at. get place_cmp c.remove.new.self (key_of at)) c.args.turn c.in-Some.timer c.self.invariant c.take.ensures.ordered
    (sym c.in-Some.ensures.timer)
    (λ a.
    subst (λ (k : Place). get place_cmp c.remove.new.self (key_of a)
    ≡ cond (is_key (place_cmp k) (key_of a)) None (get place_cmp c.self.inside.turns (key_of a))) c.key_of.ensures
    (c.remove.ensures.updates.0 (key_of a))))

pub invariant_of-self-in_default : goal.invariant_of-self-in_default
invariant_of-self-in_default c =
    subst (λ (ts : List (ℕ × Timer)). IsPlaced c.self.inside.next ts (λ at. get place_cmp c.self.inside.turns (key_of at)))
    (sym (c.take.ensures.taken ∙ taken_none c.args.turn c.self.inside.queue (sym c.in_default.ensures.timer))) c.self.invariant
