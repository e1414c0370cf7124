-- A controller between two calls.
-- `Begins`: it has just started. `Goes`: these entries were added to its journal, and they are its
-- own replay from the state before to the state after, whatever lines the environment posts.
-- `EndGoes`: what its end of the mailboxes posted and took meanwhile is, lane by lane, what these
-- entries give and take.
use Rattle.std.specs.Prelude.{◌≡◌, ℕ, ◌<◌, ◌++◌, false, List, length, slice_get}
use Rattle.std.specs.Option.{option_map_or}
use Rattle.room_kinds.specs.declared.numbers.ControllerId.{ControllerId}
use Rattle.journal.specs.declared.entry.Entry.{Entry}
use Rattle.mail_core.specs.EndLog.{EndLog}
use Rattle.actor_merge.specs.Mail.{lane, given, taken}
use Rattle.actor_merge.specs.Parties.{State, Line, Replays, Plant as RunPlant}
use Rattle.actor_world.specs.Body.{Body}
use Rattle.actor_world.specs.Start.{plant_of, first_state, start_entries}
use Rattle.chart_behaviour.specs.ModelCharts.{Actor}
use Rattle.controller_mail.specs.MailState.{state_of}
use Rattle.controller_mail.specs.Within.{WaitsWithin}
use Rattle.controller_actors.specs.Plants.{model_of}
use Rattle.controller_actors.specs.Bodies.{IsWell, body_of}
use Rattle.controller_actors.specs.declared.plant.Plant.{Plant}
use Rattle.controller.specs.View.{Controller}

-- what a run of the plant over these lines is made of
abbrev pub run_plant : Plant → List Line → RunPlant (Body Actor)
run_plant plant lines = plant_of (model_of plant) plant.wiring lines

-- the controller's state, as the world's definitions see it
abbrev pub state_in : Plant → Controller → State (Body Actor)
state_in plant k = state_of k.mail (body_of plant k.me.0 k.actors)

-- the state of the controller of this number among these; where there is none, that of the start
abbrev pub state_at : Plant → List Controller → ℕ → State (Body Actor)
state_at plant ks c = option_map_or (λ (k : Controller). state_in plant k) (slice_get ks c) (first_state (model_of plant) plant.wiring c)

-- the controller is one of this plant, and what waits to be posted goes to controllers that there are; one
-- that has failed answers want of memory alone
pub record IsOf (plant : Plant) (k : Controller) : Type 0 where
  pub me : k.me.0 < length plant.wiring.controllers
  pub well : k.failed ≡ false → IsWell plant k.me.0 k.actors
  pub waits : k.failed ≡ false → WaitsWithin (length plant.wiring.controllers) k.mail

-- the controller has just started
pub record Begins (plant : Plant) (me : ControllerId) (fuel : ℕ) (k : Controller) : Type 0 where
  pub me_is : k.me ≡ me
  pub fuel_is : k.fuel ≡ fuel
  pub works : k.failed ≡ false
  pub journal : k.mail.journal ≡ start_entries (model_of plant) plant.wiring me.0
  pub state : state_in plant k ≡ first_state (model_of plant) plant.wiring me.0

-- these entries were added to the controller's journal, and they are its own replay from the state
-- before to the state after, whatever lines the environment posts
pub record Goes (plant : Plant) (old new : Controller) (es : List Entry) : Type 0 where
  pub me : new.me ≡ old.me
  pub fuel : new.fuel ≡ old.fuel
  pub works : new.failed ≡ false
  pub journal : new.mail.journal ≡ old.mail.journal ++ es
  pub replays : (lines : List Line) → Replays (run_plant plant lines) old.me.0 (state_in plant old) es (state_in plant new)

-- what the end of party c posted and took meanwhile, lane by lane, are the posts and fetches of these
-- entries
pub record EndGoes (c : ℕ) (old new : EndLog) (es : List Entry) : Type 0 where
  pub party : new.party ≡ old.party
  pub parties : new.parties ≡ old.parties
  pub posted : (r p : ℕ) → new.posted r p ≡ old.posted r p ++ given (lane c r p) c es
  pub took : (s p : ℕ) → new.taken s p ≡ old.taken s p ++ taken (lane s c p) c es
