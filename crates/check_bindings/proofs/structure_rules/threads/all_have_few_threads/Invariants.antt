use Rattle.std.proofs.Common.{◌≡◌, drop, map}
use Rattle.std.specs.List.{list_all}
use Rattle.room_ast.specs.Trees.{class_view}
use Rattle.check_bindings.specs.structure_rules.Threads.{has_few_threads}
use Rattle.check_bindings.proofs.structure_rules.threads.all_have_few_threads.Given as goal

abbrev pub invariant-loop-class : goal.invariant-loop-class
invariant-loop-class l = list_all has_few_threads (map class_view (drop l.class-index l.classes)) ≡ list_all has_few_threads (map class_view l.classes)
