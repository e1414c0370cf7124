use Rattle.std.proofs.Common.{arith}
use Rattle.std.proofs.lemmas.Grind.{common_steps}
use Rattle.mail_core.specs.EndLog.{posting}
use Rattle.mail_core.proofs.LocalTied.{IsTied-parties, StaysTied-post}
use Rattle.mail_core.proofs.local_mail.MailLocalMail.post.Goals as goal

pub put-requires-clause-receiver : goal.put-requires-clause-receiver
put-requires-clause-receiver c = let t = IsTied-parties c.requires.tied in omega (arith, t.0, t.1, c.requires.to)

pub returns-clause-tied : goal.returns-clause-tied
unfolding posting
returns-clause-tied c =
    let t = IsTied-parties c.requires.tied in
    StaysTied-post c.args.m c.requires.from (omega (arith, t.0, t.1, c.requires.to)) c.requires.prio
    (omega (arith, c.if-posted_len-ge-LIMIT.false, c.posted_len.ensures))
    c.put.ensures.parties
    (rw c.in-Ok-new.ensures.ok at c.in_default-put.ensures.ok)
    (grind (arith, common_steps))
