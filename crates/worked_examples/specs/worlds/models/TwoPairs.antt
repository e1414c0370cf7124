-- Two pairs of actors, each on a controller of its own, which send each other a number.
use Rattle.std.specs.Prelude.{ℕ, pos, ◌==◌, ◌||◌, ◌+ℤ◌, if◌then◌else◌, List, [], ◌∷◌, Some, None}
use Rattle.room_kinds.specs.declared.message.Msg.{Msg}
use Rattle.room_kinds.specs.declared.numbers.Incarnation.{Incarnation}
use Rattle.room_kinds.specs.declared.command.Command.TheVariants as commands
use Rattle.journal.specs.declared.entry.Entry.{Entry}
use Rattle.journal.specs.declared.entry.Entry.TheVariants as entry
use Rattle.room_wiring.specs.declared.tables.Tables.{Tables}
use Rattle.room_kinds.specs.declared.structure.ReferenceKind.TheVariants.{Fixed}
use Rattle.room_wiring.specs.declared.slot.Partner.TheVariants.{Nobody, End}
use Rattle.room_kinds.specs.declared.structure.PortKind.TheVariants as ports
use Rattle.actor_duties.specs.Words.{incarnation}
use Rattle.actor_world.specs.Behaviour.{Behaviour}
use Rattle.worked_examples.specs.worlds.Writing.{slot, class, port, single_places, told_nobody, Step, first_of, is_at, handled, behaviour_of}

-- the wiring of the model, with the controller of each pair
abbrev pub tables : ℕ → ℕ → Tables
tables first second = record {
  slots =
      slot 2 Fixed None first 0 0
      ∷ slot 0 Fixed (Some (record { 0 = 0 })) first 0 0
      ∷ slot 1 Fixed (Some (record { 0 = 0 })) first 1 0
      ∷ slot 2 Fixed None second 1 0
      ∷ slot 0 Fixed (Some (record { 0 = 3 })) second 0 0
      ∷ slot 1 Fixed (Some (record { 0 = 3 })) second 1 0
      ∷ [];
  controllers = [] ∷ [] ∷ [];
  classes =
      class (port ports.Frame None ∷ port ports.End (Some 1) ∷ port ports.Internal (Some 0) ∷ [])
      ∷ class (port ports.Frame None ∷ port ports.End (Some 1) ∷ [])
      ∷ class (port ports.Frame None ∷ [])
      ∷ [];
  first_ports = 0 ∷ 1 ∷ 4 ∷ 6 ∷ 7 ∷ 10 ∷ [];
  ports = single_places 12;
  partners =
      Nobody
      ∷ Nobody
      ∷ End (record { 0 = 2 }) 1 0
      ∷ Nobody
      ∷ Nobody
      ∷ End (record { 0 = 1 }) 1 0
      ∷ Nobody
      ∷ Nobody
      ∷ End (record { 0 = 5 }) 1 0
      ∷ Nobody
      ∷ Nobody
      ∷ End (record { 0 = 4 }) 1 0
      ∷ [];
  told = told_nobody 6 2;
}

-- how the journal of the first pair's controller begins
abbrev pub first_starts : List Entry
first_starts = entry.Start (incarnation 0 1) 65535 [] ∷ entry.Start (incarnation 1 1) 0 [] ∷ entry.Start (incarnation 2 1) 0 [] ∷ []

-- how that of the second pair's begins
abbrev pub second_starts : List Entry
second_starts = entry.Start (incarnation 3 1) 65535 [] ∷ entry.Start (incarnation 4 1) 0 [] ∷ entry.Start (incarnation 5 1) 0 [] ∷ []

-- what the actors do: at a `kick` at port 2 the first of a pair sends 1, and the second answers a number
-- with the next one
abbrev step : Incarnation → ℕ → Msg → Step
step x s m =
    if (is_at 1 2 m) || (is_at 4 2 m) then handled 0 (commands.Send 1 None 0 (pos 1 ∷ []) (record { 0 = 3 }) ∷ [])
    else if (is_at 2 1 m) || (is_at 5 1 m) then handled 0 (commands.Send 1 None 1 ((first_of m.payload +ℤ pos 1) ∷ []) (record { 0 = 3 }) ∷ [])
    else handled 0 []

-- the behaviour of all actors
abbrev pub model : Behaviour ℕ
model = behaviour_of (λ x. if (x.slot.0 == 0) || (x.slot.0 == 3) then 65535 else 0) (λ x. []) step
