use Rattle.std.proofs.Common.{◌≡◌, true, take, map}
use Rattle.std.specs.List.{list_all}
use Rattle.room_ast.specs.Trees.{class_view}
use Rattle.check_classes.specs.class_rules.Loops.{of_data}
use Rattle.check_classes.specs.class_rules.Names.{data_has_names}
use Rattle.check_classes.proofs.class_rules.names.all_have_field_names.Given as goal

abbrev pub invariant-loop-class : goal.invariant-loop-class
invariant-loop-class l = list_all (of_data data_has_names) (map class_view (take l.class-index l.classes)) ≡ true
