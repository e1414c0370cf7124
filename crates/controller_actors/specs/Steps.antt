-- What the actors of a controller do, step by step.
use Rattle.std.specs.Prelude.{◌≡◌, ℕ, ◌&&◌, Bool, true, List, [], ◌∷◌, ◌++◌, All, Option, map, filter, if◌then◌else◌}
use Rattle.std.specs.List.{range_with_len}
use Rattle.std.specs.Option.{option_map_or}
use Rattle.room_kinds.specs.declared.message.Msg.{Msg}
use Rattle.room_kinds.specs.declared.note.Note.{Note}
use Rattle.room_kinds.specs.declared.numbers.Incarnation.{Incarnation}
use Rattle.room_wiring.specs.declared.tables.Tables.{Tables as Wiring}
use Rattle.actor_duties.specs.Words.{incarnation, is_own}
use Rattle.actor_duties.specs.Lives.{last_of}
use Rattle.actor_duties.specs.State.{Lives}
use Rattle.actor_world.specs.Start.{Starting as WorldStarting, all_started, first_body, first_lives, lives_from_start}
use Rattle.actor_world.specs.Body.{Doing}
use Rattle.actor_world.specs.Turns.{dispatched, doing}
use Rattle.chart_behaviour.specs.ModelCharts.{Actor, begins, state_number, tables_at}
use Rattle.controller_mail.specs.MailState.{IsForActors, with_body}
use Rattle.controller_mail.specs.declared.mail_queues.TurnResult.{TurnResult}
use Rattle.controller_actors.specs.declared.actor_commands.output.Output.{Output}
use Rattle.controller_actors.specs.actor_slots.Slots.{entered}
use Rattle.controller_actors.specs.declared.plant.Plant.{Plant}
use Rattle.controller_actors.specs.declared.actors.Actors.{Actors}
use Rattle.controller_actors.specs.declared.start.Starting.{Starting}
use Rattle.controller_actors.specs.Plants.{model_of}
use Rattle.controller_actors.specs.Bodies.{AreEmpty, HasSlots, IsWell, body_of, done_of, lives_of}

-- where nobody stood, nobody does
abbrev pub StayEmpty : Plant → ℕ → Actors → Actors → Type 0
StayEmpty plant me old new = (gone : List Incarnation) → AreEmpty plant me gone old → AreEmpty plant me gone new

-- nor in the slot of an incarnation that has ended
abbrev pub IsVacated : Plant → ℕ → Incarnation → Actors → Actors → Type 0
IsVacated plant me x old new = (rest : List Incarnation) → AreEmpty plant me (x ∷ rest) old → AreEmpty plant me rest new

-- the actor of the message's slot handled it, or nobody stands there
pub record Dispatches (plant : Plant) (me : ℕ) (m : Msg) (old new : Actors) (done : TurnResult) : Type 0 where
  pub turn : dispatched (model_of plant) plant.wiring me (body_of plant me old) m ((body_of plant me old).machines m.target.slot.0) ≡ with_body (done_of done) (body_of plant me new)
  pub well : IsWell plant me new
  pub back : All IsForActors done.back

-- the actor of a slot began, on top of what was sent and came back before: its state has this number
pub record ActorsBegin (plant : Plant) (me slot : ℕ) (old new : Actors) (first last : Output) (number : ℕ) : Type 0 where
  pub kept : Bool
  pub doing : (notes : List Note) (held : Bool)
      → let x = last_of (lives_of old) slot in
      entered plant.wiring me x (begins x (tables_at plant.wiring plant.tables.items slot)) (record { body = body_of plant me old; sent = first.messages; back = first.back; notes = notes; kept = held })
      ≡ record { body = body_of plant me new; sent = last.messages; back = last.back; notes = last.notes; kept = kept }
  pub state : number ≡ state_number (begins (last_of (lives_of old) slot) (tables_at plant.wiring plant.tables.items slot)).machine
  pub has_slots : HasSlots plant me new
  pub lives : lives_of new ≡ lives_of old
  pub empty : StayEmpty plant me old new

-- an incarnation in a slot that controller me owns
abbrev pub IsOwn : Wiring → ℕ → Incarnation → Type 0
IsOwn t me x = is_own t me x.slot.0 ≡ true

-- one that lives there
pub record IsLast (t : Wiring) (me : ℕ) (l : Lives) (x : Incarnation) : Type 0 where
  pub own : IsOwn t me x
  pub last : last_of l x.slot.0 ≡ x
  pub live : l.lives x.slot.0 ≡ true

-- what is done by actors, with what was put out so far
abbrev pub doing_of : Plant → ℕ → Actors → Output → Bool → Doing Actor
doing_of p me a o kept = record { body = body_of p me a; sent = o.messages; back = o.back; notes = o.notes; kept = kept }

-- a step of the definitions, done by actors: no incarnation is made or ends in it
pub record Moves (step : Doing Actor → Doing Actor) (plant : Plant) (me : ℕ) (old : Actors) (before : Output) (new : Actors) (after : Output) : Type 0 where
  pub on : (held : Bool) → (kept : Bool) × (step (doing_of plant me old before held) ≡ doing_of plant me new after kept)
  pub has_slots : HasSlots plant me new
  pub lives : lives_of new ≡ lives_of old
  pub back : All IsForActors before.back → All IsForActors after.back

-- the last message is sent, if there is one
pub record Closes (before after : Output) (last : Option Msg) : Type 0 where
  pub messages : after.messages ≡ option_map_or (λ (m : Msg). before.messages ++ m ∷ []) last before.messages
  pub notes : after.notes ≡ before.notes
  pub back : after.back ≡ before.back

-- before any actor of a controller has started
abbrev pub unstarted : Wiring → ℕ → WorldStarting Actor
unstarted t me = record { doing = doing (first_body t me); entries = [] }

-- these actors of a controller have started, in order
pub record Starts (plant : Plant) (me : ℕ) (xs : List Incarnation) (s : Starting) : Type 0 where
  pub notes : List Note
  pub kept : Bool
  pub started : all_started (model_of plant) plant.wiring me xs (unstarted plant.wiring me)
      ≡ record { doing = record { body = body_of plant me s.actors; sent = s.output.messages; back = s.output.back; notes = notes; kept = kept }; entries = s.entries }
  pub well : IsWell plant me s.actors
  pub lives : lives_of s.actors ≡ first_lives plant.wiring me

-- the actor of a slot has started after these
pub record StartsIn (plant : Plant) (me slot : ℕ) (old new : Starting) : Type 0 where
  pub on : (xs : List Incarnation) → Starts plant me xs old → Starts plant me (xs ++ last_of (lives_of old.actors) slot ∷ []) new

-- whether an actor lives in a slot from the start
abbrev pub is_first : Wiring → ℕ → ℕ → Bool
is_first t me s = is_own t me s && lives_from_start t s

-- the actors that live from the start in the slots below a number
unfoldable pub first_below : Wiring → ℕ → ℕ → List Incarnation
first_below t me n = map (λ s. incarnation s 1) (filter (is_first t me) (range_with_len 0 n))

-- the one in a slot, if it does
abbrev pub first_in : Wiring → ℕ → ℕ → List Incarnation
first_in t me s = if is_first t me s then incarnation s 1 ∷ [] else []
