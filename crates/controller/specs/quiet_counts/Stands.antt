-- The world that the journals of all parties leave.
-- `StandsAt`: controllers and the environment stand as in a world, and what they posted to each
-- lane is what was fetched from it and then what is in it now. In each such world `has_message`
-- and `is_quiet` are true exactly where a controller has a message, and where all is quiet.
use Rattle.std.specs.Prelude.{◌≡◌, ℕ, List, [], ◌∷◌, ◌++◌, map, length, slice_get, slice_index_or, Some}
use Rattle.journal.specs.declared.entry.Entry.{Entry}
use Rattle.actor_merge.specs.Mail.{Lane, given, taken}
use Rattle.actor_merge.specs.World.{World}
use Rattle.actor_world.specs.Body.{Body}
use Rattle.chart_behaviour.specs.ModelCharts.{Actor}
use Rattle.controller_mail.specs.MailState.{EnvironmentState}
use Rattle.controller_actors.specs.declared.plant.Plant.{Plant}
use Rattle.controller.specs.Controllers.{state_in}
use Rattle.controller.specs.View.{Controller}

-- the journals of all parties in order of number: the environment is the party after the last controller
abbrev pub journals : List Controller → EnvironmentState → List (List Entry)
journals ks env = map (λ (k : Controller). k.mail.journal) ks ++ env.journal ∷ []

-- the journal of a party; one that isn't there has an empty journal
abbrev pub journal_at : List Controller → EnvironmentState → ℕ → List Entry
journal_at ks env party = slice_index_or (journals ks env) party []

-- there is a controller for each number, in order, and each stands as it is in this world; and what the
-- parties posted to each lane is what was fetched from it and then what is in it now
pub record StandsAt (plant : Plant) (ks : List Controller) (env : EnvironmentState) (w : World (Body Actor)) : Type 0 where
  pub count : length ks ≡ length plant.wiring.controllers
  pub me : (c : ℕ) (k : Controller) → slice_get ks c ≡ Some k → k.me.0 ≡ c
  pub states : (c : ℕ) (k : Controller) → slice_get ks c ≡ Some k → w.controllers c ≡ state_in plant k
  pub lanes : (l : Lane) → given l l.sender (journal_at ks env l.sender) ≡ taken l l.receiver (journal_at ks env l.receiver) ++ w.lanes l
