use Rattle.std.proofs.Common.{◌≡◌, ◌-◌, Option, Some, None, IfNone, MatchOption, subst, arith}
use Rattle.room_kinds.specs.declared.message.Msg.{Msg}
use Rattle.mail_core.specs.EndLog.{EndLog}
use Rattle.mail_seg.specs.Ends.{log_of}
use Rattle.mail_seg.proofs.ends.MailSeg.take.Goals as goal

if_none : {X Y : Type 0} (r : Option Msg) (P : Type 0) (Q : Msg → Type 0) → MatchOption r (P × X) Q → (X → Y) → IfNone r Y
if_none None P Q h f = f h.1
if_none (Some m) P Q h f = tt

pub returns-clause-none : goal.returns-clause-none
returns-clause-none g c =
    let log = log_of c.args.self.now in
    if_none c.take_own.result _ _ c.take_own.ensures.log (λ e. record {
      own = λ p i.
          let prio : 5 - c.args.b ≡ p = omega (arith, i.number, i.prio) in
          subst (λ q. log.posted log.party q ≡ log.taken log.party q) prio (subst (λ (l : EndLog). l.posted l.party (5 - c.args.b) ≡ l.taken l.party (5 - c.args.b)) c.add_look.ensures.log e);
    })
