use Rattle.std.proofs.Common.{◌++◌, take}
use Rattle.check_mappings.specs.mapping_rules.TextTrees.{text_in, Numbers}
use Rattle.check_mappings.proofs.mapping_rules.text_tree.TextTree.longer_by.Given as goal

abbrev pub invariant-loop-byte : goal.invariant-loop-byte
invariant-loop-byte l = Numbers l.fn.self l.self l.reached (text_in l.fn.self l.fn.text ++ take l.byte-index l.bytes)
