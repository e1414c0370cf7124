use Rattle.std.proofs.Common.{◌+◌, List, take, drop, get_or, sym, subst}
use Rattle.std.proofs.lemmas.List.{take_more, drop_more, take_all, drop_all}
use Rattle.std.proofs.lemmas.List.Elements.{All-get_or}
use Rattle.room_kinds.specs.declared.numbers.Incarnation.{Incarnation}
use Rattle.actor_world.specs.Turns.{all_gone}
use Rattle.controller_actors.specs.Bodies.{AreEmpty}
use Rattle.controller_actors.specs.Steps.{IsOwn, Moves}
use Rattle.controller_actors.proofs.Moving.{stays, more_gone}
use Rattle.controller_actors.proofs.actors.Actors.all_go_down.Goals as goal

abbrev no_one : Incarnation
no_one = record { slot = record { 0 = 0 }; generation = record { 0 = 0 } }

pub loop-who-init : goal.loop-who-init
loop-who-init c = (stays c.args.plant.now c.args.me.0 c.args.self.now c.args.output.now c.requires.has_slots, λ h. h)

pub go_down-requires-clause-has_slots : goal.go_down-requires-clause-has_slots
go_down-requires-clause-has_slots c = c.loop-who.invariant.0.has_slots

pub go_down-requires-clause-own : goal.go_down-requires-clause-own
go_down-requires-clause-own c =
    All-get_or (IsOwn c.args.plant.now.wiring c.args.me.0) c.args.ended.now c.loop-who.who-index no_one c.loop-who-test.true c.requires.own

pub loop-who-preserved : goal.loop-who-preserved
loop-who-preserved c =
    let p = c.args.plant.now in
    let me = c.args.me.0 in
    let ended = c.args.ended.now in
    let at = c.loop-who.who-index in
    let x = get_or ended at no_one in
    let old = c.args.self.now in (
      subst (λ (xs : List Incarnation). Moves (all_gone p.wiring me xs) p me old c.args.output.now c.go_down.new.self c.go_down.new.output)
          (sym (take_more ended at no_one c.loop-who-test.true))
          (more_gone p me (take at ended) x old c.loop-who.self c.go_down.new.self c.args.output.now c.loop-who.output c.go_down.new.output c.loop-who.invariant.0 c.in_ok-go_down.ensures.moves),
      λ h. c.in_ok-go_down.ensures.empty (drop (at + 1) ended)
          (subst (λ (xs : List Incarnation). AreEmpty p me xs c.loop-who.self) (drop_more ended at no_one c.loop-who-test.true) (c.loop-who.invariant.1 h)),
    )

pub returns-clause-moves : goal.returns-clause-moves
returns-clause-moves c =
    let p = c.args.plant.now in
    let me = c.args.me.0 in
    subst (λ (xs : List Incarnation). Moves (all_gone p.wiring me xs) p me c.args.self.now c.args.output.now c.loop-who.self c.loop-who.output)
    (take_all c.loop-who.who-index c.args.ended.now c.loop-who-test.false) c.loop-who.invariant.0

pub returns-clause-empty : goal.returns-clause-empty
returns-clause-empty c =
    λ h. subst (λ (xs : List Incarnation). AreEmpty c.args.plant.now c.args.me.0 xs c.loop-who.self) (drop_all c.loop-who.who-index c.args.ended.now c.loop-who-test.false) (c.loop-who.invariant.1 h)
