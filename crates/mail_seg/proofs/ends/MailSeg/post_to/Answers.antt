use Rattle.std.proofs.Common.{◌≡◌, ◌+◌, ◌-◌, ◌*◌, subst, sym, map, slice_index, arith}
use Rattle.std.proofs.lemmas.Result.{on_ok_weaker}
use Rattle.mail_seg.specs.Sides.{side}
use Rattle.mail_seg.specs.Wires.{IsWired, wiring}
use Rattle.mail_seg.specs.Ends.{sides_of, wiring_of}
use Rattle.mail_seg.proofs.EndLemmas.{within, into, wiring-posted, log-posted}
use Rattle.mail_seg.proofs.ends.MailSeg.post_to.Goals as goal
use Rattle.mail_seg.proofs.ends.MailSeg.post_to.Given.{Over}
use Rattle.mail_seg.proofs.ends.MailSeg.post_to.Goals.{After-post_at}

pub post_at-requires-clause-into : goal.post_at-requires-clause-into
post_at-requires-clause-into g c =
    let e = c.args.self.now in
    rw (c.place-at.ensures, c.from.ensures) (into e.party e.parties (sides_of e) e.wired c.args.m c.requires.from c.requires.to c.requires.prio c.requires.level)

wires : (g : Over) (c : After-post_at g) → wiring c.args.self.now.party c.args.self.now.parties (map side c.post_at.new.outlets.items) ≡ wiring_of c.args.self.now
wires g c =
    let e = c.args.self.now in
    wiring-posted e.party e.parties (sides_of e) e.wired (map side c.post_at.new.outlets.items) (c.args.m.to.0 * 6 + (5 - c.args.m.prio.0)) c.args.m c.post_at.result
    (within e.party e.parties (sides_of e) e.wired c.args.m.to.0 (5 - c.args.m.prio.0) c.requires.to (omega arith))
    (rw (c.place-at.ensures, c.from.ensures) at c.post_at.ensures.ok) c.post_at.ensures.err

pub invariant_of-self-clause-wired : goal.invariant_of-self-clause-wired
invariant_of-self-clause-wired g c = subst IsWired (sym (wires g c)) c.args.self.now.wired

pub returns-clause-wiring : goal.returns-clause-wiring
returns-clause-wiring g c = wires g (goal.at.returns-clause-wiring g c).After-post_at

pub returns-clause-ok : goal.returns-clause-ok
returns-clause-ok g c =
    let e = c.args.self.now in
    on_ok_weaker c.post_at.result
    (λ h. log-posted e.party e.parties (slice_index e.looks.items) (sides_of e) (map side c.post_at.new.outlets.items) c.args.m e.wired c.requires.from c.requires.to c.requires.prio c.requires.level h)
    (rw (c.place-at.ensures, c.from.ensures) at c.post_at.ensures.ok)
