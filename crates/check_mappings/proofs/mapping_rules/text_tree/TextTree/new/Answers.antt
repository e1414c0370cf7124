use Rattle.check_mappings.proofs.mapping_rules.TextTrees.{root_alone}
use Rattle.check_mappings.proofs.mapping_rules.text_tree.TextTree.new.Goals as goal

pub returns : goal.returns
returns c = rw c.new.ensures.empty root_alone
