use Rattle.std.proofs.Common.{refl}
use Rattle.frame_lives.specs.Items.{with_item}
use Rattle.frame_lives.proofs.Items.{written_there, stays_blank}
use Rattle.frame_service.specs.declared.frame_imports.import_places.place.ImportPlace.TheVariants.{Empty}
use Rattle.frame_service.proofs.frame_imports.import_places.Written.{place_written}
use Rattle.frame_service.proofs.frame_imports.import_places.table.Imports.empty_place.Goals.{in-Some, in_default}
use Rattle.frame_service.proofs.frame_imports.import_places.table.Imports.empty_place.Goals as goal

pub returns : goal.returns
returns c =
    let places = c.self.inside.places in
    let plugs = c.self.inside.plugs in
    elim c.match-get_mut.branch [
      | in-Some w ↦
          rw w.self-inside-is
          (place_written c.args.self.now places (with_item places c.from.result Empty) plugs c.args.slot.0 c.from.result Empty
          c.self.view_is c.from.ensures (written_there Empty places c.from.result Empty (w.in-Some.ensures.there refl)))
      | in_default w ↦
          rw w.self-inside-is
          (place_written c.args.self.now places places plugs c.args.slot.0 c.from.result Empty
          c.self.view_is c.from.ensures (stays_blank Empty places c.from.result w.in_default.ensures.value))
    ]
