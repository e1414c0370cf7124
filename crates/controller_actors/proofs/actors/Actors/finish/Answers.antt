use Rattle.std.proofs.Common.{List, ap, sym, subst}
use Rattle.room_kinds.specs.declared.numbers.Incarnation.{Incarnation}
use Rattle.actor_world.specs.Turns.{all_begun, all_gone}
use Rattle.controller_actors.specs.declared.actor_commands.output.Output.{Output}
use Rattle.controller_actors.specs.Plants.{model_of}
use Rattle.controller_actors.specs.Bodies.{AreEmpty}
use Rattle.controller_actors.specs.Steps.{Moves}
use Rattle.controller_actors.proofs.Finishing.{finishes}
use Rattle.controller_actors.proofs.actors.Actors.finish.Goals as goal

pub returns : goal.returns
returns c =
    let p = c.args.plant.now in
    let me = c.args.me.0 in
    let left = c.args.left in
    let old = c.args.self.now in
    let mid = c.all_come_up.new.self in
    let new = c.all_go_down.new.self in
    let first = c.in_ok-output.output in
    let one = c.all_come_up.new.output in
    let two = c.all_go_down.new.output in
    let h : Moves (all_begun (model_of p) p.wiring me left.made) p me old first mid one =
    subst (λ (xs : List Incarnation). Moves (all_begun (model_of p) p.wiring me xs) p me old first mid one) c.as_slice.ensures c.in_ok-all_come_up.ensures.moves in
    let k : Moves (all_gone p.wiring me left.ended) p me mid one new two =
    subst (λ (xs : List Incarnation). Moves (all_gone p.wiring me xs) p me mid one new two) c.as_slice-2.ensures c.in_ok-all_go_down.ensures.moves in
    let empty : AreEmpty p me left.ended mid = c.in_ok-all_come_up.ensures.empty left.ended c.requires.empty in
    finishes p me left c.args.sent old mid new first one two c.close.new.output c.into_turn_result.result
    (ap (λ (o : Output). o.messages) c.in_ok-output.ensures) (ap (λ (o : Output). o.notes) c.in_ok-output.ensures) (ap (λ (o : Output). o.back) c.in_ok-output.ensures) h k c.in_ok-close.ensures c.into_turn_result.ensures
    (c.in_ok-all_go_down.ensures.empty (subst (λ (xs : List Incarnation). AreEmpty p me xs mid) (sym c.as_slice-2.ensures) empty))
