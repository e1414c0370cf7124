use Rattle.std.proofs.Common.{◌∷◌, [], map, take}
use Rattle.room_ast.specs.Trees.{subsystem_item_view}
use Rattle.check_mappings.specs.mapping_rules.Rules.{mapped_texts}
use Rattle.check_mappings.specs.mapping_rules.TextTrees.{Adds}
use Rattle.check_mappings.proofs.mapping_rules.texts.subsystem_distinct.Given as goal

abbrev pub invariant-loop-item : goal.invariant-loop-item
invariant-loop-item l = Adds ([] ∷ []) l.texts [] l.mapped.items (mapped_texts (map subsystem_item_view (take l.item-index l.items)))
