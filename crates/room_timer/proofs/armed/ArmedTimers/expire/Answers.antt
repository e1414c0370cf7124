use Rattle.std.proofs.Common.{◌≡◌, ℕ, List, None, ◌∙◌, refl, sym, subst}
use Rattle.std.specs.Map.{values_of}
use Rattle.room_timer.specs.declared.timer.Timer.{Timer}
use Rattle.room_timer.specs.Timers.{due_by}
use Rattle.room_timer.specs.Turns.{IsDueTurn}
use Rattle.room_timer.proofs.Placed.{from_earliest, expires, fewer, none_left}
use Rattle.room_timer.proofs.armed.ArmedTimers.expire.Goals as goal

pub loop-key-init : goal.loop-key-init
loop-key-init c = (refl, from_earliest c.args.time (values_of c.args.self.now) c.requires)

pub loop-key-smaller : goal.loop-key-smaller
loop-key-smaller c =
    let there = subst (λ (ts : List (ℕ × Timer)). IsDueTurn ts c.in-Some.key.due c.in-Some.key.turn) c.self.view_is c.in-Some.ensures.2 in
    fewer c.in-Some.key.turn c.in-Some.key.due there.0 c.loop-key.self c.take.new.self c.take.ensures there.1

pub loop-key-preserved : goal.loop-key-preserved
loop-key-preserved c =
    let there = subst (λ (ts : List (ℕ × Timer)). IsDueTurn ts c.in-Some.key.due c.in-Some.key.turn) c.self.view_is c.in-Some.ensures.2 in
    expires c.args.time c.in-Some.key.turn c.in-Some.key.due there.0 c.loop-key.self c.take.new.self c.args.self.now c.take.ensures there.1
    c.in-Some.ensures.1 c.loop-key.invariant

pub returns : goal.returns
returns c =
    sym (none_left c.args.time (values_of c.loop-key.self)
    (subst (λ (ts : List (ℕ × Timer)). due_by c.args.time (values_of ts) ≡ None) c.self.view_is c.in_default.ensures))
    ∙ c.loop-key.invariant.0
