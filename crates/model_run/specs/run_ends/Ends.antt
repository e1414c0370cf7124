-- When a run has ended.
-- A run may end where nothing waits, when no lines are left, or where the lines of a part were all
-- posted and each controller for which a message waits has taken as many turns as the fuel allows.
use Rattle.std.specs.Prelude.{◌≡◌, ℕ, ◌≤◌, Bool, true, false, List, [], ◌++◌, length, slice_get, Some}
use Rattle.std.specs.List.{list_any}
use Rattle.actor_merge.specs.Parties.{Environment}
use Rattle.actor_world.specs.Journals.{Item, lines_of, last_part}
use Rattle.controller_mail.specs.MailState.{EnvironmentState, has_messages}
use Rattle.controller_actors.specs.declared.plant.Plant.{Plant}
use Rattle.controller.specs.View.{Controller}
use Rattle.model_run.specs.run_rounds.LineParts.{GoneTo}
use Rattle.model_run.specs.run_so_far.SoFar.{RunSoFar}

-- a message waits for a controller's turn
abbrev pub waits : Controller → Bool
waits k = list_any has_messages k.mail.pending

-- Controllers and an environment at the end of a run over these items, all of which were posted or are `settle`.
-- The run is done, and nothing waits. Or it is spent: the last line posted is of the last part, a message waits
-- for some controller, and each controller for which one waits has taken as many turns as the fuel allows.
pub record IsAtEnd (plant : Plant) (gone : List Item) (fuel : ℕ) (ks : List Controller) (env : EnvironmentState) (done : Bool) : Type 0 where
  -- the environment as the world has it; the clock of the other may have caught up already
  pub v : Environment
  pub posted : v.posted ≡ length env.journal
  pub so_far : RunSoFar plant gone fuel ks v env.journal
  pub part : ℕ
  pub cut : GoneTo gone (length env.journal) part
  pub outboxes : (c : ℕ) (k : Controller) → slice_get ks c ≡ Some k → k.mail.outbox ≡ []
  pub quiet : done ≡ true → (c : ℕ) (k : Controller) → slice_get ks c ≡ Some k → waits k ≡ false
  pub last : done ≡ false → (rest : List Item) → part ≡ last_part (lines_of (gone ++ rest)) (length env.journal)
  pub spent : done ≡ false → (c : ℕ) (k : Controller) → slice_get ks c ≡ Some k → waits k ≡ true → fuel ≤ k.mail.turns
  pub busy : done ≡ false → (c : ℕ) × (k : Controller) × (slice_get ks c ≡ Some k) × (waits k ≡ true)
