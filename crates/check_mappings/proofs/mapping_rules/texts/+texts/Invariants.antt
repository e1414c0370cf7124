use Rattle.std.proofs.Common.{map, take}
use Rattle.room_ast.specs.MappingTree.{mapping_view, mappings_of}
use Rattle.check_mappings.specs.mapping_rules.Rules.{all_texts}
use Rattle.check_mappings.specs.mapping_rules.TextTrees.{text_in, Adds}
use Rattle.check_mappings.proofs.mapping_rules.texts.+texts.Given as goal

-- what was added so far
abbrev pub invariant-add_all_texts-loop-mapping : goal.invariant-add_all_texts-loop-mapping
invariant-add_all_texts-loop-mapping l =
    Adds l.fn.texts l.texts l.fn.mapped.items l.mapped.items (all_texts (text_in l.fn.texts l.before) (mappings_of (map mapping_view (take l.mapping-index l.mappings.items))))
