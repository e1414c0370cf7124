-- A slot on a body of the world's definitions, and how its actor begins and handles messages there.
use Rattle.std.specs.Prelude.{◌≡◌, ℕ, Bool, false, List, [], ◌∷◌, ◌++◌, All, Option, Some, None}
use Rattle.room_kinds.specs.declared.message.Msg.{Msg}
use Rattle.room_kinds.specs.declared.note.Note.{Note}
use Rattle.room_kinds.specs.declared.note.Note.TheVariants as notes
use Rattle.room_kinds.specs.declared.command.Command.{Command}
use Rattle.room_kinds.specs.declared.numbers.Incarnation.{Incarnation}
use Rattle.room_wiring.specs.declared.tables.Tables.{Tables as Wiring}
use Rattle.actor_merge.specs.Parties.{Treated}
use Rattle.actor_duties.specs.Words.{updated}
use Rattle.actor_duties.specs.State.{Frame, Links}
use Rattle.actor_world.specs.Behaviour.{Begun, Outcome}
use Rattle.actor_world.specs.Body.{Body, Doing as WorldDoing, apply_all}
use Rattle.actor_world.specs.Turns.{moved, handled_as, treated}
use Rattle.chart_run.specs.declared.chart_tables.tables.Tables.{Tables}
use Rattle.chart_behaviour.specs.ModelCharts.{Actor, begins, handles, state_number}
use Rattle.controller_actors.specs.declared.actor_commands.output.Output.{Output}
use Rattle.controller_mail.specs.MailState.{IsForActors}
use Rattle.controller_mail.specs.declared.mail_queues.TurnResult.{TurnResult}
use Rattle.controller_actors.specs.actor_commands.Doings.{HasApplied}
use Rattle.controller_actors.specs.declared.actor_slots.actor_slot.ActorSlot.{ActorSlot}
use Rattle.controller_actors.specs.actor_slots.Occupants.{HasTables, IsOf, actor_of, actor_in}

-- what stands in a slot is this incarnation, fits the tables of its class, and keeps messages of the six
-- priorities
pub record SlotFits (x : Incarnation) (o : Option Tables) (s : ActorSlot) : Type 0 where
  pub of : IsOf x s.occupant
  pub tables : HasTables o s.occupant
  pub kept : All IsForActors s.deferred

-- a body with this state of the frame service, these links, and this in a slot
abbrev pub slot_body : Frame → Links → Body Actor → ℕ → ActorSlot → Body Actor
slot_body f l b slot s =
    record b { frame = f; links = l; machines = updated b.machines slot (actor_in s.occupant); deferred = updated b.deferred slot s.deferred }

-- what a turn made of its message, with the body that it left
abbrev pub treated_on : TurnResult → Body Actor → Treated (Body Actor)
treated_on done body = record { body = body; sent = done.sent; back = done.back; did = done.did; notes = done.notes }

-- the commands of an actor were applied, from what was put out before to what was then, and from one state
-- of the services to another
pub record Works (t : Wiring) (me : ℕ) (f : Frame) (l : Links) (f' : Frame) (l' : Links) (x : Incarnation) (m : Option Msg) (cs : List Command) (old new : ActorSlot) (first last : Output) : Type 0 where
  pub occupant : new.occupant ≡ old.occupant
  pub applied : HasApplied t me f l f' l' x m cs old.deferred first new.deferred last

-- a turn in which an actor's machine did this with a message
abbrev pub turned : Wiring → ℕ → Body Actor → Incarnation → Msg → Outcome Actor → Treated (Body Actor)
turned t me b x m r = treated (moved t me b x m r) (handled_as r.result x (state_number r.machine))

-- the actor of a slot handled a message, whatever else the body has
pub record SlotTurns (t : Wiring) (me : ℕ) (f : Frame) (l : Links) (f' : Frame) (l' : Links) (x : Incarnation) (m : Msg) (o : Option Tables) (old new : ActorSlot) (done : TurnResult) : Type 0 where
  pub stood : actor_in old.occupant ≡ Some (actor_of old.occupant)
  pub turn : (b : Body Actor) → turned t me (slot_body f l b x.slot.0 old) x m (handles x m o (actor_of old.occupant)) ≡ treated_on done (slot_body f' l' b x.slot.0 new)
  pub lives : f'.lives ≡ f.lives
  pub fits : SlotFits x o new
  pub back : All IsForActors done.back

-- an actor begins
abbrev pub entered : Wiring → ℕ → Incarnation → Begun Actor → WorldDoing Actor → WorldDoing Actor
entered t me x new d =
    apply_all t me x None new.commands (record d {
      body = record d.body { machines = updated d.body.machines x.slot.0 (Some new.machine) };
      notes = new.notes;
      kept = false;
    })

-- the actor of a slot began, whatever else the body has, on top of what was sent and came back before: its
-- state has this number
pub record SlotBegins (t : Wiring) (me : ℕ) (f : Frame) (l : Links) (f' : Frame) (l' : Links) (x : Incarnation) (o : Option Tables) (old new : ActorSlot) (first last : Output) (number : ℕ) : Type 0 where
  pub kept : Bool
  pub doing : (b : Body Actor) (notes : List Note) (held : Bool)
      → entered t me x (begins x o) (record { body = slot_body f l b x.slot.0 old; sent = first.messages; back = first.back; notes = notes; kept = held })
      ≡ record { body = slot_body f' l' b x.slot.0 new; sent = last.messages; back = last.back; notes = last.notes; kept = kept }
  pub state : number ≡ state_number (begins x o).machine
  pub lives : f'.lives ≡ f.lives
  pub fits : SlotFits x o new

-- an actor comes up: nothing is kept in its slot, and its note `up` goes before those of its start
abbrev pub risen : Wiring → ℕ → Incarnation → Begun Actor → WorldDoing Actor → WorldDoing Actor
risen t me x new d =
    apply_all t me x None new.commands (record d {
      body = record d.body {
        machines = updated d.body.machines x.slot.0 (Some new.machine);
        deferred = updated d.body.deferred x.slot.0 [];
      };
      notes = d.notes ++ (notes.Up x (state_number new.machine) ∷ new.notes);
      kept = false;
    })

-- the actor of a slot came up, whatever else the body has, on top of what was put out before
pub record SlotComesUp (t : Wiring) (me : ℕ) (f : Frame) (l : Links) (f' : Frame) (l' : Links) (x : Incarnation) (o : Option Tables) (old new : ActorSlot) (first last : Output) : Type 0 where
  pub kept : Bool
  pub doing : (b : Body Actor) (held : Bool)
      → risen t me x (begins x o) (record { body = slot_body f l b x.slot.0 old; sent = first.messages; back = first.back; notes = first.notes; kept = held })
      ≡ record { body = slot_body f' l' b x.slot.0 new; sent = last.messages; back = last.back; notes = last.notes; kept = kept }
  pub lives : f'.lives ≡ f.lives
  pub fits : SlotFits x o new
  pub back : All IsForActors first.back → All IsForActors last.back
