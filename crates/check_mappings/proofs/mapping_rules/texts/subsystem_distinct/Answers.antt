use Rattle.std.proofs.Common.{◌≡◌, ℕ, ◌<◌, map, ap, ◌∙◌, List}
use Rattle.std.proofs.lemmas.List.{take_all}
use Rattle.std.proofs.lemmas.List.Elements.{All-nil}
use Rattle.std.proofs.lemmas.Result.{IfOk-weaker}
use Rattle.name_tables.specs.distinct_names.Distinct.{is_distinct}
use Rattle.room_ast.specs.Trees.{subsystem_item_view}
use Rattle.room_ast.specs.declared.system.SubsystemItem.{SubsystemItem}
use Rattle.check_mappings.specs.mapping_rules.Rules.{mapped_texts}
use Rattle.check_mappings.specs.mapping_rules.TextTrees.{text_in}
use Rattle.check_mappings.proofs.mapping_rules.Paths.{items_next}
use Rattle.check_mappings.proofs.mapping_rules.texts.subsystem_distinct.Goals as goal

pub loop-item-preserved : goal.loop-item-preserved
loop-item-preserved c =
    items_next c.args.items.now c.loop-item.item-index c.item-item.result c.loop-item-test.true c.item-item.is c.loop-item.invariant c.in_ok-add_item_texts.ensures

pub returns : goal.returns
returns c =
    IfOk-weaker c.are_distinct.result (λ b. b ≡ is_distinct (map (text_in c.loop-item.texts) c.deref.result.now)) (λ b. b ≡ is_distinct (mapped_texts (map subsystem_item_view c.args.items.now)))
    (λ b h.
    h
    ∙ ap is_distinct
    (ap (map (text_in c.loop-item.texts)) c.deref.ensures.value ∙ c.loop-item.invariant.texts (All-nil (λ (n : ℕ). n < 1))
    ∙ ap (λ (x : List SubsystemItem). mapped_texts (map subsystem_item_view x)) (take_all c.loop-item.item-index c.args.items.now c.loop-item-test.false)))
    c.are_distinct.ensures
