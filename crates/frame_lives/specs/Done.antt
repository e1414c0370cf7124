-- What a duty leaves to the controller, as the rows say it.
use Rattle.std.specs.Prelude.{[], Some}
use Rattle.room_kinds.specs.declared.message.Msg.{Msg}
use Rattle.actor_duties.specs.Lives.{Lived}
use Rattle.frame_lives.specs.declared.done.DutyDone.{DutyDone}

-- what a Create leaves
abbrev pub done_of : Lived → DutyDone
done_of r = record { made = r.made; ended = r.ended; last = r.last }

-- an answer, and nothing else
abbrev pub only_answers : Msg → DutyDone
only_answers m = record { made = []; ended = []; last = Some m }
