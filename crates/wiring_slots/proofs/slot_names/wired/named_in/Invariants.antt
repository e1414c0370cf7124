use Rattle.std.proofs.Common.{◌≡◌, drop, map}
use Rattle.room_ast.specs.Trees.{class_view}
use Rattle.wiring_slots.specs.slot_names.Found.{named_in}
use Rattle.wiring_slots.proofs.slot_names.wired.named_in.Given as goal

abbrev pub invariant-loop-class : goal.invariant-loop-class
invariant-loop-class l = named_in (map class_view (drop l.class-index l.classes)) l.left l.name ≡ named_in (map class_view l.classes) l.subsystems l.name
