use Rattle.std.proofs.Common.{◌∷◌, ◌++◌, take}
use Rattle.std.specs.List.{flat_map}
use Rattle.check_mappings.specs.mapping_rules.Rules.{further}
use Rattle.check_mappings.specs.mapping_rules.TextTrees.{text_in, Numbers}
use Rattle.check_mappings.proofs.mapping_rules.texts.with_path.Given as goal

abbrev pub invariant-loop-segment : goal.invariant-loop-segment
invariant-loop-segment l = Numbers l.fn.texts l.texts l.reached (text_in l.fn.texts l.fn.before ++ flat_map further (l.path.first ∷ take l.segment-index l.segment-items))
