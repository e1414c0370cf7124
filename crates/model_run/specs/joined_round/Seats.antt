-- Controllers in seats, each with its end of the mail.
use Rattle.std.specs.Prelude.{◌≡◌, ℕ, ◌+◌, ◌<◌, List, map, length, slice_index_or}
use Rattle.mail_core.specs.EndLog.{EndLog}
use Rattle.mail_core.specs.Tied.{IsTied, StaysTied}
use Rattle.controller_actors.specs.declared.plant.Plant.{Plant}
use Rattle.controller.specs.Controllers.{IsOf}
use Rattle.controller.specs.View.{Controller}
use Rattle.model_run.specs.declared.joined_round.seat.Seat.{Seat}
use Rattle.model_run.specs.run_worker.Works.{Works}

-- what stood at each place of a list became what stands there now
pub record Each {S : Type 0} (R : S → S → Type 0) (olds news : List S) : Type 0 where
  pub count : length news ≡ length olds
  pub each : (i : ℕ) (d : S) → i < length olds → R (slice_index_or olds i d) (slice_index_or news i d)

-- the controller is one of the plant, and the end is its own
pub record CanWork {E : Type 0} (log : E → EndLog) (tied : Unit {0} → List E → Type 0) (plant : Plant) (s : Seat E) : Type 0 where
  pub of : IsOf plant s.controller
  pub number : s.number ≡ s.controller.me.0
  pub party : (log s.end).party ≡ s.controller.me.0
  pub parties : (log s.end).parties ≡ length plant.wiring.controllers + 1
  pub together : IsTied tied (log s.end).party tt s.end

-- the controller worked with its end, which still belongs to the ends with which it was tied
pub record HasWorked {E : Type 0} (log : E → EndLog) (tied : Unit {0} → List E → Type 0) (plant : Plant) (old new : Seat E) : Type 0 where
  pub works : Works plant old.controller new.controller (log old.end) (log new.end)
  pub of : IsOf plant new.controller
  pub stays : StaysTied tied (log old.end).party tt tt old.end new.end

-- each controller sits with its end, under its number
pub record AreSeated {E : Type 0} (ks : List Controller) (ends : List E) (seats : List (Seat E)) : Type 0 where
  pub controllers : map (λ (s : Seat E). s.controller) seats ≡ ks
  pub ends_are : map (λ (s : Seat E). s.end) seats ≡ ends
  pub numbers : (i : ℕ) (d : Seat E) → i < length seats → (slice_index_or seats i d).number ≡ i
