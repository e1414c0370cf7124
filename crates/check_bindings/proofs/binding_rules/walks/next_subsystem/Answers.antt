use Rattle.std.proofs.Common.{◌∙◌, ap, List, map}
use Rattle.std.specs.List.{list_all}
use Rattle.room_ast.specs.Trees.{class_view, subsystem_view, subsystem_item_view}
use Rattle.room_ast.specs.declared.system.SubsystemItem.{SubsystemItem}
use Rattle.check_bindings.specs.binding_rules.Rules.{subsystem_item_passes}
use Rattle.room_ast.specs.declared.model.Class.{Class}
use Rattle.room_ast.specs.model_parts.Classes.{as_subsystem}
use Rattle.check_bindings.specs.binding_rules.Walks.{binding_holds, layer_holds, subsystem_holds}
use Rattle.check_bindings.proofs.binding_rules.Steps.{behind_passed, behind_failed, behind_none}
use Rattle.check_bindings.proofs.binding_rules.walks.next_subsystem.Goals as goal

pub returns-then-subsystem_items_hold : goal.returns-then-subsystem_items_hold
returns-then-subsystem_items_hold c =
    let own = c.in-Some.own.now in
    behind_passed (subsystem_holds c.args.rule c.args.actors.now) (as_subsystem (class_view c.args.class.now)) (subsystem_view c.in-Subsystem.subsystem) (ap (λ (k : Class). as_subsystem (class_view k)) c.in-Subsystem.is) c.args.subsystems.now c.args.number
    own c.subsystem_items_hold.result c.in-Some.ensures.value (c.subsystem_items_hold.ensures ∙ ap (λ (is : List SubsystemItem). list_all (subsystem_item_passes (binding_holds c.args.rule c.args.actors.now own) (layer_holds c.args.rule c.args.actors.now own)) (map subsystem_item_view is)) c.as_slice.ensures) c.if-subsystem_items_hold.true

pub returns-else-subsystem_items_hold : goal.returns-else-subsystem_items_hold
returns-else-subsystem_items_hold c =
    let own = c.in-Some.own.now in
    behind_failed (subsystem_holds c.args.rule c.args.actors.now) (as_subsystem (class_view c.args.class.now)) (subsystem_view c.in-Subsystem.subsystem) (ap (λ (k : Class). as_subsystem (class_view k)) c.in-Subsystem.is) c.args.subsystems.now c.args.number
    own c.subsystem_items_hold.result c.in-Some.ensures.value (c.subsystem_items_hold.ensures ∙ ap (λ (is : List SubsystemItem). list_all (subsystem_item_passes (binding_holds c.args.rule c.args.actors.now own) (layer_holds c.args.rule c.args.actors.now own)) (map subsystem_item_view is)) c.as_slice.ensures) c.if-subsystem_items_hold.false

pub returns-in_default-class_at : goal.returns-in_default-class_at
returns-in_default-class_at c = behind_none (subsystem_holds c.args.rule c.args.actors.now) (as_subsystem (class_view c.args.class.now)) (subsystem_view c.in-Subsystem.subsystem) (ap (λ (k : Class). as_subsystem (class_view k)) c.in-Subsystem.is) c.args.subsystems.now c.args.number c.in_default-class_at.ensures.value
