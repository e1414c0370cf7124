-- An actor with two optional ones, which it makes and destroys: each is joined to a place of its port 2.
use Rattle.std.specs.Prelude.{ℕ, pos, ◌==◌, ◌&&◌, if◌then◌else◌, Bool, List, [], ◌∷◌, Some, None, replicate}
use Rattle.room_kinds.specs.declared.message.Msg.{Msg}
use Rattle.room_kinds.specs.declared.numbers.Incarnation.{Incarnation}
use Rattle.room_kinds.specs.declared.command.Command.TheVariants as commands
use Rattle.room_kinds.specs.declared.command.FrameCommand.TheVariants as frame
use Rattle.room_wiring.specs.declared.tables.Tables.{Tables}
use Rattle.room_kinds.specs.declared.structure.ReferenceKind.TheVariants.{Fixed, Optional}
use Rattle.room_wiring.specs.declared.slot.Partner.TheVariants.{Nobody, End}
use Rattle.room_kinds.specs.declared.structure.PortKind.TheVariants as ports
use Rattle.actor_world.specs.Behaviour.{Behaviour}
use Rattle.worked_examples.specs.worlds.Writing.{slot, class, port, span, told_nobody, Step, first_of, is_at, handled, behaviour_of}

-- the wiring of the model: the optional actors' controller, how many controllers there are, and whom each
-- slot's owner tells of the slot, are the example's
abbrev pub tables : ℕ → ℕ → List (List Bool) → Tables
tables owner controllers told = record {
  slots =
      slot 1 Fixed None 0 0 0
      ∷ slot 0 Optional (Some (record { 0 = 0 })) owner 0 0
      ∷ slot 0 Optional (Some (record { 0 = 0 })) owner 0 1
      ∷ [];
  controllers = replicate controllers [];
  classes =
      class (port ports.Frame None ∷ port ports.End (Some 0) ∷ [])
      ∷ class (port ports.Frame None ∷ port ports.Internal (Some 0) ∷ port ports.Internal (Some 0) ∷ [])
      ∷ [];
  first_ports = 0 ∷ 3 ∷ 5 ∷ [];
  ports =
      span 0 1
      ∷ span 1 1
      ∷ span 2 2
      ∷ span 4 1
      ∷ span 5 1
      ∷ span 6 1
      ∷ span 7 1
      ∷ [];
  partners =
      Nobody
      ∷ Nobody
      ∷ End (record { 0 = 1 }) 1 0
      ∷ End (record { 0 = 2 }) 1 0
      ∷ Nobody
      ∷ End (record { 0 = 0 }) 2 0
      ∷ Nobody
      ∷ End (record { 0 = 0 }) 2 1
      ∷ [];
  told = told;
}

-- all on one controller
abbrev pub on_one_controller : Tables
on_one_controller = tables 0 1 (told_nobody 3 1)

-- what the actors do: the top actor takes `make` (signal 0), `swap` (1) and `late` (2) at port 1, and
-- all else without a command
abbrev step : Incarnation → ℕ → Msg → Step
step x s m =
    if is_at 0 1 m && (m.signal == 0) then handled 0 (commands.Frame (frame.Incarnate 0 (first_of m.payload)) ∷ [])
    else if is_at 0 1 m && (m.signal == 1)
    then handled 0 (commands.Send 2 (Some (pos 0)) 3 [] (record { 0 = 3 }) ∷ commands.Frame (frame.Destroy 0 (pos 0)) ∷ commands.Frame (frame.Incarnate 0 (pos 0)) ∷ [])
    else if is_at 0 1 m
    then handled 0 (commands.Frame (frame.Destroy 0 (pos 0)) ∷ commands.Send 2 (Some (pos 0)) 3 [] (record { 0 = 3 }) ∷ [])
    else handled 0 []

-- the behaviour of all actors: each is in state 0 from its initial transition on
abbrev pub model : Behaviour ℕ
model = behaviour_of (λ x. 0) (λ x. []) step
