use Rattle.std.proofs.Common.{◌≡◌, ◌+◌, ◌*◌, subst, sym, map, slice_index, refl}
use Rattle.mail_seg.specs.Sides.{side}
use Rattle.mail_seg.specs.Wires.{IsWired, wiring}
use Rattle.mail_seg.specs.Ends.{sides_of, wiring_of}
use Rattle.mail_seg.proofs.EndLemmas.{within, pass_is, wiring-taken, log-taken}
use Rattle.mail_seg.proofs.ends.MailSeg.take_own.Goals as goal
use Rattle.mail_seg.proofs.ends.MailSeg.take_own.Given.{Over}
use Rattle.mail_seg.proofs.ends.MailSeg.take_own.Goals.{After-take_at}

pub take_at-requires-clause-takes : goal.take_at-requires-clause-takes
take_at-requires-clause-takes g c =
    let e = c.args.self.now in
    rw c.place-at.ensures ((pass_is e.party e.parties (sides_of e) e.wired e.party c.args.b c.requires.controller c.requires.in_range).own refl).0

wires : (g : Over) (c : After-take_at g) → wiring c.args.self.now.party c.args.self.now.parties (map side c.take_at.new.outlets.items) ≡ wiring_of c.args.self.now
wires g c =
    let e = c.args.self.now in
    wiring-taken e.party e.parties (sides_of e) e.wired (map side c.take_at.new.outlets.items) (e.party * 6 + c.args.b) c.take_at.result
    (within e.party e.parties (sides_of e) e.wired e.party c.args.b c.requires.controller c.requires.in_range)
    (rw c.place-at.ensures at c.take_at.ensures.took)

pub invariant_of-self-clause-wired : goal.invariant_of-self-clause-wired
invariant_of-self-clause-wired g c = subst IsWired (sym (wires g c)) c.args.self.now.wired

pub returns-clause-wiring : goal.returns-clause-wiring
returns-clause-wiring g c = wires g (goal.at.returns-clause-wiring g c).After-take_at

pub returns-clause-log : goal.returns-clause-log
returns-clause-log g c =
    let e = c.args.self.now in
    log-taken e.party e.parties (slice_index e.looks.items) (sides_of e) (map side c.take_at.new.outlets.items) c.args.b c.take_at.result e.wired c.requires.controller c.requires.in_range
    (rw c.place-at.ensures at c.take_at.ensures.took)
