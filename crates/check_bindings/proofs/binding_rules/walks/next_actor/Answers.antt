use Rattle.std.proofs.Common.{◌∙◌, ap}
use Rattle.std.specs.List.{list_all}
use Rattle.room_ast.specs.Trees.{class_view, actor_view}
use Rattle.check_bindings.specs.binding_rules.Rules.{item_passes}
use Rattle.room_ast.specs.declared.model.Class.{Class}
use Rattle.room_ast.specs.model_parts.Classes.{as_actor}
use Rattle.check_bindings.specs.binding_rules.Walks.{binding_holds, layer_holds, actor_holds}
use Rattle.check_bindings.proofs.binding_rules.Steps.{behind_passed, behind_failed, behind_none}
use Rattle.check_bindings.proofs.binding_rules.walks.next_actor.Goals as goal

pub returns-then-items_hold : goal.returns-then-items_hold
returns-then-items_hold c =
    let own = c.in-Some.own.now in
    behind_passed (actor_holds c.args.rule c.args.actors.now) (as_actor (class_view c.args.class.now)) (actor_view c.in-Actor.actor) (ap (λ (k : Class). as_actor (class_view k)) c.in-Actor.is) c.args.actors.now c.args.number
    own c.items_hold.result c.in-Some.ensures.value (c.items_hold.ensures ∙ ap (list_all (item_passes (binding_holds c.args.rule c.args.actors.now own) (layer_holds c.args.rule c.args.actors.now own))) c.structure_items.ensures) c.if-items_hold.true

pub returns-else-items_hold : goal.returns-else-items_hold
returns-else-items_hold c =
    let own = c.in-Some.own.now in
    behind_failed (actor_holds c.args.rule c.args.actors.now) (as_actor (class_view c.args.class.now)) (actor_view c.in-Actor.actor) (ap (λ (k : Class). as_actor (class_view k)) c.in-Actor.is) c.args.actors.now c.args.number
    own c.items_hold.result c.in-Some.ensures.value (c.items_hold.ensures ∙ ap (list_all (item_passes (binding_holds c.args.rule c.args.actors.now own) (layer_holds c.args.rule c.args.actors.now own))) c.structure_items.ensures) c.if-items_hold.false

pub returns-in_default-class_at : goal.returns-in_default-class_at
returns-in_default-class_at c = behind_none (actor_holds c.args.rule c.args.actors.now) (as_actor (class_view c.args.class.now)) (actor_view c.in-Actor.actor) (ap (λ (k : Class). as_actor (class_view k)) c.in-Actor.is) c.args.actors.now c.args.number c.in_default-class_at.ensures.value
