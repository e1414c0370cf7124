use Rattle.std.proofs.Common.{[], List, refl}
use Rattle.room_kinds.specs.declared.numbers.Incarnation.{Incarnation}
use Rattle.frame_lives.specs.Items.{with_item}
use Rattle.frame_lives.proofs.Items.{written_there, stays_blank}
use Rattle.frame_service.proofs.frame_imports.import_places.Written.{plugs_changed}
use Rattle.frame_service.proofs.frame_imports.import_places.table.Imports.clear_plugs.Goals.{in-Some, in_default}
use Rattle.frame_service.proofs.frame_imports.import_places.table.Imports.clear_plugs.Goals as goal

pub returns : goal.returns
returns c =
    let places = c.self.inside.places in
    let plugs = c.self.inside.plugs in
    let change : List Incarnation → List Incarnation = λ xs. [] in
    elim c.match-get_mut.branch [
      | in-Some w ↦
          rw w.self-inside-is
          (plugs_changed c.args.self.now places plugs (with_item plugs c.from.result w.clear.new.self) c.args.slot.0 c.from.result w.in-Some.plugs.now w.clear.new.self change
          c.self.view_is c.from.ensures w.in-Some.ensures.value w.clear.ensures (written_there [] plugs c.from.result w.clear.new.self (w.in-Some.ensures.there refl)))
      | in_default w ↦
          rw w.self-inside-is
          (plugs_changed c.args.self.now places plugs plugs c.args.slot.0 c.from.result [] [] change
          c.self.view_is c.from.ensures w.in_default.ensures.value refl (stays_blank [] plugs c.from.result w.in_default.ensures.value))
    ]
