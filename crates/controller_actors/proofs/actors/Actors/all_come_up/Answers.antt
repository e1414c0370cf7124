use Rattle.std.proofs.Common.{List, take, get_or, sym, subst}
use Rattle.std.proofs.lemmas.List.{take_more, take_all}
use Rattle.std.proofs.lemmas.List.Elements.{All-get_or}
use Rattle.room_kinds.specs.declared.numbers.Incarnation.{Incarnation}
use Rattle.actor_duties.specs.State.{Lives}
use Rattle.actor_world.specs.Turns.{all_begun}
use Rattle.controller_actors.specs.Plants.{model_of}
use Rattle.controller_actors.specs.Bodies.{lives_of}
use Rattle.controller_actors.specs.Steps.{IsLast, Moves}
use Rattle.controller_actors.proofs.Moving.{stays, more_begun}
use Rattle.controller_actors.proofs.actors.Actors.all_come_up.Goals as goal

abbrev no_one : Incarnation
no_one = record { slot = record { 0 = 0 }; generation = record { 0 = 0 } }

pub loop-who-init : goal.loop-who-init
loop-who-init c = (stays c.args.plant.now c.args.me.0 c.args.self.now c.args.output.now c.requires.has_slots, λ gone h. h)

pub come_up-requires-clause-has_slots : goal.come_up-requires-clause-has_slots
come_up-requires-clause-has_slots c = c.loop-who.invariant.0.has_slots

pub come_up-requires-clause-last : goal.come_up-requires-clause-last
come_up-requires-clause-last c =
    subst (λ (l : Lives). IsLast c.args.plant.now.wiring c.args.me.0 l (get_or c.args.made.now c.loop-who.who-index no_one)) (sym c.loop-who.invariant.0.lives)
    (All-get_or (IsLast c.args.plant.now.wiring c.args.me.0 (lives_of c.args.self.now)) c.args.made.now c.loop-who.who-index no_one c.loop-who-test.true c.requires.last)

pub loop-who-preserved : goal.loop-who-preserved
loop-who-preserved c =
    let p = c.args.plant.now in
    let me = c.args.me.0 in
    let made = c.args.made.now in
    let at = c.loop-who.who-index in
    let x = get_or made at no_one in (
      subst (λ (xs : List Incarnation). Moves (all_begun (model_of p) p.wiring me xs) p me c.args.self.now c.args.output.now c.come_up.new.self c.come_up.new.output)
          (sym (take_more made at no_one c.loop-who-test.true))
          (more_begun p me (take at made) x c.args.self.now c.loop-who.self c.come_up.new.self c.args.output.now c.loop-who.output c.come_up.new.output c.loop-who.invariant.0 c.in_ok-come_up.ensures.moves),
      λ gone h. c.in_ok-come_up.ensures.empty gone (c.loop-who.invariant.1 gone h),
    )

pub returns-clause-moves : goal.returns-clause-moves
returns-clause-moves c =
    let p = c.args.plant.now in
    let me = c.args.me.0 in
    let made = c.args.made.now in
    subst (λ (xs : List Incarnation). Moves (all_begun (model_of p) p.wiring me xs) p me c.args.self.now c.args.output.now c.loop-who.self c.loop-who.output)
    (take_all c.loop-who.who-index made c.loop-who-test.false) c.loop-who.invariant.0

pub returns-clause-empty : goal.returns-clause-empty
returns-clause-empty c = c.loop-who.invariant.1
