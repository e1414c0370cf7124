use Rattle.std.proofs.Common.{map, subst}
use Rattle.room_ast.specs.MappingTree.{MappingTree, mapping_step, mapping_view, mappings_of}
use Rattle.room_ast.specs.declared.system.Mapping.TheFolds.{fold_out-Mapping}
use Rattle.check_mappings.specs.mapping_rules.Rules.{all_texts}
use Rattle.check_mappings.specs.mapping_rules.TextTrees.{Adds}
use Rattle.check_mappings.proofs.mapping_rules.Paths.{adds_next}
use Rattle.check_mappings.proofs.mapping_rules.TextTrees.{adds_one, adds_none}
use Rattle.check_mappings.proofs.mapping_rules.texts.+texts.Goals.{add_texts-in-Some+in_ok-add_all_texts, add_texts-in_default}
use Rattle.check_mappings.proofs.mapping_rules.texts.+texts.Goals as goal

pub add_all_texts-loop-mapping-preserved : goal.add_all_texts-loop-mapping-preserved
add_all_texts-loop-mapping-preserved t c =
    adds_next c.args.before c.args.mappings.now.items c.loop-mapping.mapping-index c.mapping-item.result c.requires (rw c.deref-mapping-items.ensures.value at c.loop-mapping-test.true) (rw c.deref-mapping-items.ensures.value at c.mapping-item.is) c.loop-mapping.invariant
    c.in_ok-add_texts.ensures

pub add_texts-returns : goal.add_texts-returns
add_texts-returns t c =
    elim c.match-mapping.branch [
      | add_texts-in-Some+in_ok-add_all_texts w ↦
          rw (fold_out-Mapping MappingTree mapping_step c.args.mapping.now, w.in-Some.is, w.texts-is, c.in_ok-push.ensures.items, w.mapped-is)
          (adds_one _ _ c.in_ok-path.ensures
          (subst (λ t. Adds c.with_path.new.texts w.add_all_texts.new.texts c.args.mapped.now.items w.add_all_texts.new.mapped.items (all_texts t (mappings_of (map mapping_view w.in-Some.nested.items)))) c.in_ok-path.ensures.is w.in_ok-add_all_texts.ensures))
      | add_texts-in_default w ↦ rw (fold_out-Mapping MappingTree mapping_step c.args.mapping.now, w.in_default.is, w.texts-is, c.in_ok-push.ensures.items, w.mapped-is) (adds_one _ _ c.in_ok-path.ensures (adds_none _ _))
    ]
