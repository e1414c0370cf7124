use Rattle.std.proofs.Common.{◌≡◌, true, take, map}
use Rattle.std.specs.List.{list_all}
use Rattle.room_ast.specs.Trees.{class_view}
use Rattle.check_classes.specs.class_rules.Loops.{of_actor}
use Rattle.check_classes.specs.class_rules.Ends.{repeats_ports}
use Rattle.check_classes.proofs.class_rules.ends.all_repeat_ports.Given as goal

abbrev pub invariant-loop-class : goal.invariant-loop-class
invariant-loop-class l = list_all (of_actor repeats_ports) (map class_view (take l.class-index l.classes)) ≡ true
