use Rattle.std.proofs.Common.{ℕ, List, ◌∙◌, sym, subst, ap}
use Rattle.std.specs.BTreeMap.{get}
use Rattle.std.specs.Map.{values_of}
use Rattle.room_timer.specs.declared.place.Place.{Place}
use Rattle.room_timer.specs.declared.timer.Timer.{Timer}
use Rattle.room_timer.specs.Turns.{IsPlaced, key_of, place_cmp}
use Rattle.room_timer.proofs.Placed.{disarmed_taken, disarmed_none}
use Rattle.room_timer.proofs.armed.ArmedTimers.disarm.Goals as goal

pub returns-in-Some : goal.returns-in-Some
returns-in-Some c =
    ap (λ (ts : List (ℕ × Timer)). values_of ts) c.take.ensures
    ∙ disarmed_taken c.args.at c.self.inside.next (λ at. get place_cmp c.self.inside.turns (key_of at)) c.in-Some.turn c.args.self.now
    (subst (λ (ts : List (ℕ × Timer)). IsPlaced c.self.inside.next ts (λ at. get place_cmp c.self.inside.turns (key_of at))) c.self.view_is c.self.invariant)
    (sym (ap (λ (k : Place). get place_cmp c.self.inside.turns k) c.key_of.ensures) ∙ sym c.get.ensures.value ∙ sym c.copied.ensures ∙ c.in-Some.is)

pub returns-in_default : goal.returns-in_default
returns-in_default c =
    disarmed_none c.args.at c.self.inside.next (λ at. get place_cmp c.self.inside.turns (key_of at)) c.args.self.now
    (subst (λ (ts : List (ℕ × Timer)). IsPlaced c.self.inside.next ts (λ at. get place_cmp c.self.inside.turns (key_of at))) c.self.view_is c.self.invariant)
    (sym (ap (λ (k : Place). get place_cmp c.self.inside.turns k) c.key_of.ensures) ∙ sym c.get.ensures.value ∙ sym c.copied.ensures ∙ c.in_default.is)
