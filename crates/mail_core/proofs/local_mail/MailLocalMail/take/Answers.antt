use Rattle.std.proofs.Common.{refl}
use Rattle.mail_core.specs.EndLog.{taking}
use Rattle.mail_core.proofs.LocalTied.{StaysTied-look}
use Rattle.mail_core.proofs.local_mail.MailLocalMail.take.Goals as goal

pub returns-clause-tied : goal.returns-clause-tied
unfolding taking
returns-clause-tied c = StaysTied-look c.args.b refl refl c.add_look.ensures
