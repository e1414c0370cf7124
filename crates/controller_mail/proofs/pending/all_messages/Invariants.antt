use Rattle.std.proofs.Common.{◌≡◌, ◌++◌, reverse, vec_len}
use Rattle.controller_mail.specs.MailState.{messages_in}
use Rattle.controller_mail.proofs.pending.all_messages.Given as goal

abbrev pub invariant-loop-list : goal.invariant-loop-list
invariant-loop-list l = l.all.items ++ messages_in (reverse l.lists.items) ≡ messages_in l.fn.lists.items

abbrev pub decreases-loop-list : goal.decreases-loop-list
decreases-loop-list l = vec_len l.lists
