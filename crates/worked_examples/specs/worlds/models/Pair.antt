-- Two actors in a third one: their ports 1 are joined, and the environment posts to port 2 of the first.
use Rattle.std.specs.Prelude.{ℕ, pos, ◌+ℤ◌, if◌then◌else◌, Bool, List, [], ◌∷◌, Some, None, replicate}
use Rattle.room_kinds.specs.declared.message.Msg.{Msg}
use Rattle.room_kinds.specs.declared.numbers.Incarnation.{Incarnation}
use Rattle.room_kinds.specs.declared.command.Command.TheVariants as commands
use Rattle.journal.specs.declared.entry.Entry.{Entry}
use Rattle.journal.specs.declared.entry.Entry.TheVariants as entry
use Rattle.room_wiring.specs.declared.tables.Tables.{Tables}
use Rattle.room_kinds.specs.declared.structure.ReferenceKind.TheVariants.{Fixed}
use Rattle.room_wiring.specs.declared.slot.Partner.TheVariants.{Nobody, End}
use Rattle.room_kinds.specs.declared.structure.PortKind.TheVariants as ports
use Rattle.actor_duties.specs.Words.{incarnation}
use Rattle.actor_world.specs.Behaviour.{Behaviour}
use Rattle.worked_examples.specs.worlds.Writing.{slot, class, port, single_places, told_nobody, Step, chartless_top, first_of, is_at, handled, behaviour_of}

-- the wiring of the model: the second actor's controller, how many controllers there are, and whom each
-- slot's owner tells of the slot, are the example's
abbrev pub tables : ℕ → ℕ → List (List Bool) → Tables
tables owner controllers told = record {
  slots =
      slot 2 Fixed None 0 0 0
      ∷ slot 0 Fixed (Some (record { 0 = 0 })) 0 0 0
      ∷ slot 1 Fixed (Some (record { 0 = 0 })) owner 1 0
      ∷ [];
  controllers = replicate controllers [];
  classes =
      class (port ports.Frame None ∷ port ports.End (Some 1) ∷ port ports.Internal (Some 0) ∷ [])
      ∷ class (port ports.Frame None ∷ port ports.End (Some 1) ∷ [])
      ∷ class (port ports.Frame None ∷ [])
      ∷ [];
  first_ports = 0 ∷ 1 ∷ 4 ∷ [];
  ports = single_places 6;
  partners =
      Nobody
      ∷ Nobody
      ∷ End (record { 0 = 2 }) 1 0
      ∷ Nobody
      ∷ Nobody
      ∷ End (record { 0 = 1 }) 1 0
      ∷ [];
  told = told;
}

-- all three on one controller
abbrev pub on_one_controller : Tables
on_one_controller = tables 0 1 (told_nobody 3 1)

-- and how its journal begins
abbrev pub starts : List Entry
starts = entry.Start (incarnation 0 1) 65535 [] ∷ entry.Start (incarnation 1 1) 0 [] ∷ entry.Start (incarnation 2 1) 0 [] ∷ []

-- what the actors do: at a `kick` at port 2 the first sends `ping` (signal 0) with 1, and the second answers
-- a number with `pong` (1) and the next one
abbrev step : Incarnation → ℕ → Msg → Step
step x s m =
    if is_at 1 2 m then handled 0 (commands.Send 1 None 0 (pos 1 ∷ []) (record { 0 = 3 }) ∷ [])
    else if is_at 2 1 m then handled 0 (commands.Send 1 None 1 ((first_of m.payload +ℤ pos 1) ∷ []) (record { 0 = 3 }) ∷ [])
    else handled 0 []

-- the behaviour of actors that send each other a number
abbrev pub model : Behaviour ℕ
model = behaviour_of chartless_top (λ x. []) step
