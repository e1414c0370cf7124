use Rattle.check_mappings.proofs.mapping_rules.TextTrees.{Seen}
use Rattle.check_mappings.proofs.mapping_rules.text_tree.TextTree.are_distinct.Given as goal

abbrev pub invariant-loop-number : goal.invariant-loop-number
invariant-loop-number l = Seen l.self l.numbers l.number-index l.seen.keys
