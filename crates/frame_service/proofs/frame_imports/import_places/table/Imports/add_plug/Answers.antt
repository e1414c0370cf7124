use Rattle.std.proofs.Common.{◌∷◌, [], ◌++◌, List, refl}
use Rattle.room_kinds.specs.declared.numbers.Incarnation.{Incarnation}
use Rattle.frame_service.proofs.frame_imports.import_places.Written.{plugs_changed}
use Rattle.frame_service.proofs.frame_imports.import_places.table.Imports.add_plug.Goals as goal

pub returns : goal.returns
returns c =
    plugs_changed c.args.self.now c.self.inside.places c.self.inside.plugs (c.reach.follows.lender c.push.new.self) c.args.slot.0 c.from.result
    c.in_ok-plugs.plugs.now c.push.new.self (λ (xs : List Incarnation). xs ++ c.args.plug ∷ [])
    c.self.view_is c.from.ensures c.in_ok-plugs.ensures.value c.in_ok-push.ensures (c.reach.follows.holds c.push.new.self (rw c.in_ok-plugs.was refl))
