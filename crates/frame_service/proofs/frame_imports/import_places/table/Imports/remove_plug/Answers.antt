use Rattle.std.proofs.Common.{[], List, refl, not}
use Rattle.std.specs.Prelude.{filter}
use Rattle.room_kinds.specs.declared.numbers.Incarnation.{Incarnation}
use Rattle.actor_duties.specs.Words.{is_incarnation}
use Rattle.frame_lives.specs.Items.{with_item}
use Rattle.frame_lives.proofs.Items.{written_there, stays_blank}
use Rattle.frame_service.proofs.frame_imports.import_places.Written.{plugs_changed}
use Rattle.frame_service.proofs.frame_imports.import_places.table.Imports.remove_plug.Goals.{in-Some, in_default}
use Rattle.frame_service.proofs.frame_imports.import_places.table.Imports.remove_plug.Goals as goal

pub returns : goal.returns
returns c =
    let places = c.self.inside.places in
    let plugs = c.self.inside.plugs in
    let change : List Incarnation → List Incarnation = filter (λ (q : Incarnation). not (is_incarnation q c.args.plug)) in
    elim c.match-get_mut.branch [
      | in-Some w ↦
          rw w.self-inside-is
          (plugs_changed c.args.self.now places plugs (with_item plugs c.from.result w.remove.new.self) c.args.slot.0 c.from.result w.in-Some.plugs.now w.remove.new.self change
          c.self.view_is c.from.ensures w.in-Some.ensures.value w.remove.ensures (written_there [] plugs c.from.result w.remove.new.self (w.in-Some.ensures.there refl)))
      | in_default w ↦
          rw w.self-inside-is
          (plugs_changed c.args.self.now places plugs plugs c.args.slot.0 c.from.result [] [] change
          c.self.view_is c.from.ensures w.in_default.ensures.value refl (stays_blank [] plugs c.from.result w.in_default.ensures.value))
    ]
