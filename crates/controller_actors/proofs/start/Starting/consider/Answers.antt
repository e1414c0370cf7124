use Rattle.std.proofs.Common.{◌≡◌, true, false, List, ◌++◌, sym, ap, ◌∙◌, subst}
use Rattle.std.proofs.lemmas.List.{append-nil}
use Rattle.room_kinds.specs.declared.numbers.Incarnation.{Incarnation}
use Rattle.controller_actors.specs.Bodies.{lives_of}
use Rattle.controller_actors.specs.Steps.{Starts, first_below}
use Rattle.controller_actors.proofs.Beginnings.{first_nobody, first_own, first_there}
use Rattle.controller_actors.proofs.Occupants.{found, lost, found_last}
use Rattle.controller_actors.proofs.start.Starting.consider.Goals as goal

pub returns-in_default : goal.returns-in_default
returns-in_default c =
    let p = c.args.plant.now in
    let me = c.args.me.0 in
    let s = c.args.slot.0 in
    let old = c.args.self.now in
    let xs = first_below p.wiring me s in
    let dead : (lives_of old.actors).lives s ≡ false = lost (lives_of old.actors) s (sym c.live.ensures ∙ c.in_default.is) in
    subst (λ (ys : List Incarnation). Starts p me ys old)
    (sym (append-nil xs) ∙ ap (λ (ys : List Incarnation). xs ++ ys) (sym (first_nobody p me (lives_of old.actors) c.requires.started.lives s dead))) c.requires.started

pub start_in-requires : goal.start_in-requires
start_in-requires c =
    let p = c.args.plant.now in
    let me = c.args.me.0 in
    let s = c.args.slot.0 in
    let l = lives_of c.args.self.now.actors in
    let there = sym c.live.ensures ∙ c.in-Some.is in
    let alive : l.lives s ≡ true = (found l s c.in-Some.generation there).0 in
    record {
      has_slots = c.requires.started.well.has_slots;
      last = found_last p.wiring me l c.args.slot c.in-Some.generation (first_own p me l c.requires.started.lives s alive) there;
    }

pub returns : goal.returns
returns c =
    let p = c.args.plant.now in
    let me = c.args.me.0 in
    let s = c.args.slot.0 in
    let old = c.args.self.now in
    let xs = first_below p.wiring me s in
    let alive : (lives_of old.actors).lives s ≡ true = (found (lives_of old.actors) s c.in-Some.generation (sym c.live.ensures ∙ c.in-Some.is)).0 in
    subst (λ (ys : List Incarnation). Starts p me (xs ++ ys) c.start_in.new.self)
    (sym (first_there p me (lives_of old.actors) c.requires.started.lives s alive)) (c.in_ok-start_in.ensures.on xs c.requires.started)
