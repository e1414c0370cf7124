use Rattle.std.proofs.Common.{ℕ, ◌++◌, false, map, Some}
use Rattle.std.specs.List.{flat_map, range_with_len}
use Rattle.actor_merge.specs.Mail.{lane}
use Rattle.actor_world.specs.Journals.{left}
use Rattle.room_verify.specs.Lanes.{lanes_in}
use Rattle.room_verify.specs.Lefts.{Strips}
use Rattle.room_verify.proofs.lefts.behind_senders.Given as goal

abbrev pub invariant-loop-sender : goal.invariant-loop-sender
invariant-loop-sender l =
    Strips l.told
    (map (left l.c.0 false) (lanes_in l.lanes (lane l.lanes.controllers l.c.0 l.prio.0))
    ++ flat_map (λ (s : ℕ). map (left l.c.0 false) (lanes_in l.lanes (lane s l.c.0 l.prio.0))) (range_with_len 0 l.sender)) (Some l.rest)
