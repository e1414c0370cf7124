-- Which body of the world's definitions the actors of a controller are.
use Rattle.std.specs.Prelude.{◌≡◌, ℕ, ◌==◌, Bool, false, List, [], length, slice_index_or, if◌then◌else◌}
use Rattle.std.specs.List.{list_any}
use Rattle.room_kinds.specs.declared.numbers.Incarnation.{Incarnation}
use Rattle.room_wiring.specs.declared.tables.Tables.{Tables as Wiring}
use Rattle.actor_duties.specs.State.{Lives}
use Rattle.actor_duties.specs.Words.{is_own}
use Rattle.actor_duties.specs.Lives.{last_of}
use Rattle.actor_world.specs.Body.{Body}
use Rattle.chart_behaviour.specs.ModelCharts.{Actor, tables_at}
use Rattle.controller_mail.specs.MailState.{TurnDone}
use Rattle.controller_mail.specs.declared.mail_queues.TurnResult.{TurnResult}
use Rattle.frame_service.specs.State.{frame_in}
use Rattle.controller_actors.specs.declared.actor_slots.occupant.Occupant.TheVariants as occupants
use Rattle.controller_actors.specs.declared.actor_slots.actor_slot.ActorSlot.{ActorSlot}
use Rattle.controller_actors.specs.actor_slots.Occupants.{actor_in}
use Rattle.controller_actors.specs.actor_slots.Slots.{SlotFits}
use Rattle.controller_actors.specs.declared.plant.Plant.{Plant}
use Rattle.controller_actors.specs.declared.actors.Actors.{Actors}
use Rattle.controller_actors.specs.Served.{Serves, links_in}
use Rattle.controller_actors.specs.Rows.{own_below}

-- a slot where nobody stands
abbrev pub vacant : ActorSlot
vacant = record { occupant = occupants.Nobody; deferred = [] }

-- what stands in a slot, by the rows of the slots that controller me owns; nobody in any other slot
unfoldable pub slot_at : Wiring → ℕ → List ActorSlot → ℕ → ActorSlot
slot_at t me slots s = if is_own t me s then slice_index_or slots (own_below t me s) vacant else vacant

-- the body that these actors are
unfoldable pub body_of : Plant → ℕ → Actors → Body Actor
body_of plant me actors = record {
  frame = frame_in actors.services.frame;
  links = links_in actors.services;
  table = actors.table;
  machines = λ s. actor_in (slot_at plant.wiring me actors.slots.items s).occupant;
  deferred = λ s. (slot_at plant.wiring me actors.slots.items s).deferred;
}

-- who lives, and in which generation
abbrev pub lives_of : Actors → Lives
lives_of actors = (frame_in actors.services.frame).lives

-- the services are those of controller me of this plant, each of its own slots has a row, and what stands
-- in a slot is the incarnation that lives there or lived there last, with a machine of its class
pub record HasSlots (plant : Plant) (me : ℕ) (actors : Actors) : Type 0 where
  pub serves : Serves plant.wiring me actors.services
  pub each : (s : ℕ) → SlotFits (last_of (lives_of actors) s) (tables_at plant.wiring plant.tables.items s) (slot_at plant.wiring me actors.slots.items s)
  pub count : length actors.slots.items ≡ own_below plant.wiring me (length plant.wiring.slots)

-- whether an incarnation is one of this slot
abbrev pub is_in : ℕ → Incarnation → Bool
is_in s x = x.slot.0 == s

-- nobody stands in a slot where nobody lives, but in the slots of these, which have just ended
abbrev pub AreEmpty : Plant → ℕ → List Incarnation → Actors → Type 0
AreEmpty plant me gone actors =
    (s : ℕ) → (lives_of actors).lives s ≡ false → list_any (is_in s) gone ≡ false
    → (slot_at plant.wiring me actors.slots.items s).occupant ≡ occupants.Nobody

-- the actors are those of controller me of this plant, and nobody stands where nobody lives
pub record IsWell (plant : Plant) (me : ℕ) (actors : Actors) : Type 0 where
  pub has_slots : HasSlots plant me actors
  pub empty : AreEmpty plant me [] actors

-- what a turn made of its message, but the body
abbrev pub done_of : TurnResult → TurnDone
done_of done = record { sent = done.sent; back = done.back; did = done.did; notes = done.notes }
