use Rattle.std.proofs.Common.{ℕ, true, map, Some}
use Rattle.std.specs.List.{flat_map, range_with_len}
use Rattle.actor_world.specs.Journals.{left}
use Rattle.controller_mail.specs.MailState.{pending_of}
use Rattle.room_verify.specs.Lefts.{Strips}
use Rattle.room_verify.proofs.lefts.behind_waiting.Given as goal

abbrev pub invariant-loop-prio : goal.invariant-loop-prio
invariant-loop-prio l =
    Strips l.told (flat_map (λ (p : ℕ). map (left l.c.0 true) (pending_of l.controller.mail.pending p)) (range_with_len 0 l.prio)) (Some l.rest)
