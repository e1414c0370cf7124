use Rattle.std.proofs.Common.{arith, rules, ◌≡◌, ◌∙◌, ◌++◌, ◌∷◌, [], ap, List, Bor}
use Rattle.check_tables.specs.declared.class_tables.container.Container.{Container}
use Rattle.std.proofs.lemmas.Grind.{common_steps}
use Rattle.std.proofs.lemmas.List.{take_rest}
use Rattle.room_ast.specs.Trees.{ActorTree, actor_view, class_view}
use Rattle.room_ast.specs.declared.actor.StructureItem.{StructureItem}
use Rattle.room_ast.specs.declared.model.Class.{Class}
use Rattle.room_ast.specs.model_parts.Classes.{as_actor}
use Rattle.room_ast.specs.model_parts.Ports.{structure_of}
use Rattle.wiring_plan.specs.structure_plan.Plans.{actor_plan}
use Rattle.wiring_plan.proofs.structure_plan.Turns.{actor_turn}
use Rattle.wiring_plan.proofs.structure_plan.structure.actor_plans.Goals as goal
use Rattle.wiring_plan.proofs.structure_plan.structure.actor_plans.Goals.{in-Actor+in-len1-up+in_ok-actor_plan+in_ok-push, in_default}

pub loop-class-preserved : goal.loop-class-preserved
loop-class-preserved c =
    let actors = c.args.actors.now in
    elim c.match-class.branch [
      | in-Actor+in-len1-up+in_ok-actor_plan+in_ok-push w ↦
          let turn =
          actor_turn (λ o (a : ActorTree). actor_plan actors o (structure_of a)) c.args.classes.now c.loop-class.class-index c.class-item.result c.loop-class-test.true c.class-item.is (actor_view w.in-Actor.actor)
          (ap (λ (k : Class). as_actor (class_view k)) w.in-Actor.is) c.loop-class.left.now w.own-item.result w.in-len1-up.len_at_least w.own-item.is w.in_ok-actor_plan.field-0
          (w.in_ok-actor_plan.ensures ∙ ap (λ (is : List StructureItem). actor_plan actors w.own-item.result is) w.structure_items.ensures) c.loop-class.plans.items _ c.loop-class.invariant
          in
          let pushed : c.match-class.plans.items ≡ c.loop-class.plans.items ++ w.in_ok-actor_plan.field-0 ∷ [] = search rules in
          let behind = ap (λ (b : Bor (List Container)). b.now) w.left-is in
          rw (pushed, behind, take_rest c.loop-class.left.now 1) turn
      | in_default w ↦ grind (arith, common_steps)
    ]
