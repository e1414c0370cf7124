use Rattle.std.proofs.Common.{◌≡◌, ◌<◌, ◌≤◌, length, ap, arith}
use Rattle.std.proofs.lemmas.List.{length-map}
use Rattle.mail_seg.specs.Sides.{Side, side}
use Rattle.mail_seg.specs.Left.{lists_of}
use Rattle.mail_seg.proofs.LeftLemmas.{TookMore-one}
use Rattle.mail_seg.proofs.drain.drain.Goals as goal

pub loop-look-preserved : goal.loop-look-preserved
loop-look-preserved g c =
    let m = c.in-Some-take.m in
    let took = c.in-Some-take.ensures.took in
    let i = c.loop-look.invariant in
    let next : (side c.loop-look.own).next ≡ (side c.args.own.now).next = ap (λ (a : Side). a.next) i.side_is in
    let count : length (lists_of c.args.lists.now.items) ≡ length c.args.lists.now.items = length-map c.args.lists.now.items (λ v. v.items) in
    let below : m.from.0 < (side c.loop-look.own).next = took.1.from in
    let fits : (side c.args.own.now).next ≤ length c.args.lists.now.items = c.requires.lists in
    let same : length (lists_of c.loop-look.lists.items) ≡ length (lists_of c.args.lists.now.items) = i.count in
    TookMore-one m i took.0 (omega (arith, below, next, fits, same, count)) c.in_ok-put-in-Some-take.ensures
