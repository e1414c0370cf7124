use Rattle.std.proofs.Common.{ap, arith}
use Rattle.wiring_places.specs.place_rules.Stretches.{side_number, take_more}
use Rattle.wiring_places.specs.binding_stretches.Taken.{taken_in}
use Rattle.wiring_places.proofs.binding_stretches.Growing.{left_after, take_here}
use Rattle.wiring_places.proofs.binding_stretches.taken.Taken.take_both.Goals as goal

pub take-requires : goal.take-requires
take-requires c =
    let b = c.args.binding in
    let after = left_after (taken_in c.args.self.now) b c.args.count in
    let at = ap (taken_in c.args.self.now) c.side_number.ensures in
    omega (arith, after, at, c.requires (side_number b.left))

pub take-requires-2 : goal.take-requires-2
take-requires-2 c =
    let b = c.args.binding in
    let right = side_number b.right in
    let before = taken_in c.args.self.now in
    let at = ap (taken_in c.take.new.self) c.side_number-2.ensures in
    let first = c.in_ok-take.ensures right in
    let left = ap (λ side. take_more before side c.args.count right) c.side_number.ensures in
    let after = take_here (take_more before (side_number b.left) c.args.count) right c.args.count in
    omega (arith, at, first, left, after, c.requires right)
