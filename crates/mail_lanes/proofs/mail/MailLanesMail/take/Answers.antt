use Rattle.std.proofs.Common.{◌≡◌, Option, Some, None, IfNone, MatchOption, subst}
use Rattle.room_kinds.specs.declared.message.Msg.{Msg}
use Rattle.mail_core.specs.EndLog.{EndLog}
use Rattle.mail_core.specs.BoxLaws.{one_lane}
use Rattle.mail_lanes.specs.Ends.{log_of}
use Rattle.mail_lanes.proofs.mail.MailLanesMail.take.Goals as goal

if_none : {X Y : Type 0} (r : Option Msg) (P : Type 0) (Q : Msg → Type 0) → MatchOption r (P × X) Q → (X → Y) → IfNone r Y
if_none None P Q h f = f h.1
if_none (Some m) P Q h f = tt

pub returns-then-lane-self-clause-none : goal.returns-then-lane-self-clause-none
returns-then-lane-self-clause-none c =
    let log = log_of c.args.self.now in
    let looked = c.add_look.ensures.log in
    if_none c.take_own.new.found _ _ c.take_own.ensures.log (λ e. record {
      own = λ p i.
          let all : log.posted log.party c.lane_in-lane.result.prio ≡ log.taken log.party c.lane_in-lane.result.prio =
          subst (λ (l : EndLog). l.posted l.party c.lane_in-lane.result.prio ≡ l.taken l.party c.lane_in-lane.result.prio) looked e in
          subst (λ q. log.posted log.party q ≡ log.taken log.party q) (one_lane c.args.self.now.parties c.args.b c.lane_in-lane.result.sender c.lane_in-lane.result.prio log.party p c.lane_in-lane.ensures i).1 all;
    })
