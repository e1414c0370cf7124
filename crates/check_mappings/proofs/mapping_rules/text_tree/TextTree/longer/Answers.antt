use Rattle.std.proofs.Common.{◌<◌, subst, sym, length}
use Rattle.check_mappings.specs.mapping_rules.TextTrees.{all_texts}
use Rattle.check_mappings.proofs.mapping_rules.TextTrees.{is_tree, is_numbered}
use Rattle.check_mappings.proofs.mapping_rules.text_tree.TextTree.longer.Goals as goal

pub invariant_of-self-2 : goal.invariant_of-self-2
invariant_of-self-2 c =
    let known : c.args.text < length (all_texts c.self.inside.branches.keys) = subst (λ x. c.args.text < length x) (sym c.self.view_is) c.requires in
    is_tree c.self.inside.branches.keys c.insert_full.new.self.keys (record { above = c.args.text; byte = c.args.byte }) c.self.invariant known c.in_ok-place.ensures.keys

pub returns : goal.returns
returns c =
    let known : c.args.text < length (all_texts c.self.inside.branches.keys) = subst (λ x. c.args.text < length x) (sym c.self.view_is) c.requires in
    let k = c.in_ok-place.ensures.stored in
    rw (← c.self.view_is) (is_numbered c.self.inside.branches.keys c.insert_full.new.self.keys (record { above = c.args.text; byte = c.args.byte }) c.self.invariant known c.in_ok-place.ensures.keys c.in_ok-place.place k.0 k.1 k.2)
