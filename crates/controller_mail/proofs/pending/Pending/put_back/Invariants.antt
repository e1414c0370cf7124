use Rattle.std.proofs.Common.{◌≡◌, All, vec_len}
use Rattle.actor_merge.specs.Parties.{put_back}
use Rattle.controller_mail.specs.MailState.{pending_of, HasPriority}
use Rattle.controller_mail.proofs.pending.Pending.put_back.Given as goal

abbrev pub invariant-loop-m : goal.invariant-loop-m
invariant-loop-m l = record {
  within : All HasPriority l.back.items;
  same : put_back l.back.items (pending_of l.self) ≡ put_back l.fn.back.items (pending_of l.fn.self);
}

abbrev pub decreases-loop-m : goal.decreases-loop-m
decreases-loop-m l = vec_len l.back
