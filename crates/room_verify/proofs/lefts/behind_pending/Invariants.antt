use Rattle.std.proofs.Common.{◌≡◌, true, length}
use Rattle.actor_world.specs.Journals.{left}
use Rattle.controller_mail.specs.MailState.{pending_of}
use Rattle.room_verify.proofs.LeftLaw.{Told}
use Rattle.room_verify.proofs.lefts.behind_pending.Given as goal

abbrev pub invariant-loop-i : goal.invariant-loop-i
invariant-loop-i l = record {
  same : Told (left l.c.0 true) (pending_of l.controller.mail.pending l.prio.0) l.told l.i;
  end : l.i-end ≡ length l.told;
}
