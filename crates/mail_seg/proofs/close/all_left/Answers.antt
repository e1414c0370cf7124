use Rattle.std.proofs.Common.{◌≡◌, length, refl}
use Rattle.std.proofs.lemmas.Option.{slice_get_read}
use Rattle.mail_seg.specs.Left.{queues_of}
use Rattle.mail_seg.proofs.CloseLemmas.{long_of, box_of, answered}
use Rattle.mail_seg.proofs.close.all_left.Goals as goal
use Rattle.mail_seg.proofs.close.all_left.Goals.{After-index}
use Rattle.mail_seg.proofs.close.all_left.Given.{Over}

count : (g : Over) (c : After-index g) → c.index.result.now.parties ≡ length c.args.ends.items
count g c = (c.requires.tied.place 0 c.index.result.now (slice_get_read c.args.ends.items (length c.args.ends.items) 0 c.index.result.now refl c.requires.some c.index.ensures)).1

pub drain_all-requires-clause-long : goal.drain_all-requires-clause-long
drain_all-requires-clause-long g c =
    let d = (goal.at.drain_all-requires-clause-long g c).After-index in
    rw (count g d, c.in_ok-rows.ensures) (long_of c.args.ends.items c.requires.tied)

pub drain_all-requires-clause-boxes : goal.drain_all-requires-clause-boxes
drain_all-requires-clause-boxes g c =
    let d = (goal.at.drain_all-requires-clause-boxes g c).After-index in
    rw (count g d, c.in_ok-rows.ensures) (box_of c.args.ends.items c.requires.tied)

pub returns : goal.returns
returns g c =
    let d = (goal.at.returns g c).After-index in
    answered c.args.ends.items c.requires.tied c.index.result.now.parties (queues_of c.in_ok-rows.rows.items) c.drain_all.result
    (count g d) c.in_ok-rows.ensures c.drain_all.ensures.count c.drain_all.ensures.order c.drain_all.ensures.settled
