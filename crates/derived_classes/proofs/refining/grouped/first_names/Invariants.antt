use Rattle.std.proofs.Common.{◌≡◌, ◌++◌, drop}
use Rattle.name_tables.specs.name_numbers.Names.{names_of}
use Rattle.derived_classes.specs.Grouping.{first_names}
use Rattle.derived_classes.specs.Views.{refining_views}
use Rattle.derived_classes.proofs.refining.grouped.first_names.Given as goal

abbrev pub invariant-loop-one : goal.invariant-loop-one
invariant-loop-one l = names_of l.names.items ++ first_names (refining_views (drop l.one-index l.pending)) ≡ first_names (refining_views l.pending)
