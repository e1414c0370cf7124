use Rattle.std.proofs.Common.{◌≡◌, take}
use Rattle.name_tables.specs.name_numbers.Names.{names_of}
use Rattle.chart_reader.proofs.chart_rules.names.choices_of.Given as goal

abbrev pub invariant-loop-choice : goal.invariant-loop-choice
invariant-loop-choice l = names_of l.names.items ≡ take l.choice-index l.choices
