use Rattle.std.proofs.Common.{◌≡◌, ◌≤◌, take}
use Rattle.std.specs.Prelude.{count_by}
use Rattle.room_ast.specs.Trees.{class_view}
use Rattle.check_mappings.specs.count_rules.Counts.{is_counted}
use Rattle.check_mappings.proofs.count_rules.parts.counted.Given as goal

abbrev pub invariant-loop-class : goal.invariant-loop-class
invariant-loop-class l = (l.count ≤ l.class-index) × (l.count ≡ count_by (λ c. is_counted (class_view c)) (take l.class-index l.classes))
