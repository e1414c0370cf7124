use Rattle.std.proofs.Common.{arith, ◌≡◌, ◌+◌, ◌<◌, ◌^◌, length, sym, subst, Some}
use Rattle.mail_core.specs.BoxLaws.{one_lane}
use Rattle.mail_core.specs.Local.{log_of}
use Rattle.mail_core.specs.EndLog.{taking}
use Rattle.mail_core.specs.Lanes.{IsFor}
use Rattle.mail_core.proofs.LocalTied.{IsTied-parties, StaysTied-take, StaysTied-look, IsTied-front, IsTied-empty, log_of-taken}
use Rattle.mail_core.proofs.ends.MailLocal.look.Goals as goal
use Rattle.mail_core.proofs.ends.MailLocal.look.Goals.{After-open-message, After-add_taken}

pub pop-found-requires-clause-sender : goal.pop-found-requires-clause-sender
pop-found-requires-clause-sender c = let t = IsTied-parties c.requires.tied in omega (arith, t.0, t.1, c.lane_in-lane.ensures.sender)

pub pop-found-requires-clause-receiver : goal.pop-found-requires-clause-receiver
pop-found-requires-clause-receiver c = (IsTied-parties c.requires.tied).0

pub returns-in_default-clause-none : goal.returns-in_default-clause-none
returns-in_default-clause-none c = record {
  own = λ p i.
      let same = one_lane c.args.self.now.parties c.args.b c.lane_in-lane.result.sender c.lane_in-lane.result.prio c.args.self.now.party p c.lane_in-lane.ensures i in
      IsTied-empty p c.requires.tied i.prio (rw (same.0, same.1) at c.in_default.ensures.none);
}

pub returns-in_default-clause-exact : goal.returns-in_default-clause-exact
returns-in_default-clause-exact c = λ s p i.
    let same = one_lane c.args.self.now.parties c.args.b c.lane_in-lane.result.sender c.lane_in-lane.result.prio s p c.lane_in-lane.ensures i in
    rw (same.0, same.1) at c.in_default.ensures.none

pub returns-in_default-clause-tied : goal.returns-in_default-clause-tied
unfolding taking
returns-in_default-clause-tied c = StaysTied-look c.args.b c.pop-found.ensures.parties c.in_default.ensures.same c.add_look.ensures

-- the front of the lane, as far as it was found
front : (c : After-open-message) → IsFor c.lane_in-lane.result.sender c.args.self.now.party c.lane_in-lane.result.prio c.in-Some.entry × (length ((log_of c.args.self.now).taken c.lane_in-lane.result.sender c.lane_in-lane.result.prio) + 1 < 2 ^ 63)
front c =
    let t = IsTied-parties c.requires.tied in
    IsTied-front c.lane_in-lane.result.sender c.lane_in-lane.result.prio c.in-Some.entry c.in-Some.ensures.some.0 c.requires.tied (omega (arith, t.0, t.1, c.lane_in-lane.ensures.sender)) c.lane_in-lane.ensures.prio c.in-Some.ensures.some.1

pub add_taken-requires-clause-short : goal.add_taken-requires-clause-short
add_taken-requires-clause-short c =
    subst (λ l. length (l.taken c.lane_in-lane.result.sender c.lane_in-lane.result.prio) + 1 < 2 ^ 63) (sym c.add_look.ensures) (front (goal.at.add_taken-requires-clause-short c).After-open-message).1

-- what the end did
logged : (c : After-add_taken) → IsFor c.lane_in-lane.result.sender c.args.self.now.party c.lane_in-lane.result.prio c.in-Some.entry → log_of c.add_taken.new.self ≡ taking (log_of c.args.self.now) c.args.b (Some c.in-Some.entry)
unfolding taking
logged c f =
    log_of-taken c.args.self.now c.add_look.new.self c.add_taken.new.self c.lane_in-lane.result.sender c.lane_in-lane.result.prio c.args.b c.in-Some.entry
    c.add_look.ensures (c.add_taken.ensures c.in-Some.entry c.open-message.ensures.copy) f.from f.prio

pub returns-clause-log : goal.returns-clause-log
returns-clause-log c = rw c.open-message.ensures.message (logged (goal.at.returns-clause-log c).After-add_taken (front (goal.at.returns-clause-log c).After-open-message).0)

pub returns-clause-some : goal.returns-clause-some
returns-clause-some c =
    let f = (front (goal.at.returns-clause-some c).After-open-message).0 in
    rw c.open-message.ensures.message record {
      to = f.to;
      from = omega (arith, f.from, c.lane_in-lane.ensures.sender);
      prio = omega (arith, f.prio, c.lane_in-lane.ensures.prio);
      lane = rw (f.from, f.prio) c.lane_in-lane.ensures;
    }

pub returns-clause-exact : goal.returns-clause-exact
returns-clause-exact c = λ s p i.
    let same = one_lane c.args.self.now.parties c.args.b c.lane_in-lane.result.sender c.lane_in-lane.result.prio s p c.lane_in-lane.ensures i in
    rw (c.open-message.ensures.message, c.pop-found.ensures.parties) (rw (same.0, same.1) at c.in-Some.ensures.front)

pub returns-clause-tied : goal.returns-clause-tied
returns-clause-tied c =
    let t = IsTied-parties c.requires.tied in
    StaysTied-take c.lane_in-lane.result.sender c.lane_in-lane.result.prio c.args.b c.in-Some.entry c.in-Some.ensures.some.0
    (omega (arith, t.0, t.1, c.lane_in-lane.ensures.sender)) c.lane_in-lane.ensures.prio c.pop-found.ensures.parties
    c.in-Some.ensures.some.1 c.in-Some.ensures.some.2 (logged (goal.at.returns-clause-tied c).After-add_taken (front (goal.at.returns-clause-tied c).After-open-message).0)
