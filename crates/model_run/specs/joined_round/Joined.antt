-- What all controllers do in a round.
use Rattle.std.specs.Prelude.{◌≡◌, ℕ, ◌<◌, ◌≤◌, ◌⊎◌, false, List, [], length, slice_get, slice_index_or, Option, Some}
use Rattle.std.specs.List.{list_any}
use Rattle.room_kinds.specs.declared.message.Msg.{Msg}
use Rattle.journal.specs.declared.entry.Entry.{Entry}
use Rattle.mail_core.specs.EndLog.{EndLog}
use Rattle.mail_core.specs.Lanes.{log_at}
use Rattle.mail_core.specs.SetUp.{IsLeft}
use Rattle.controller_mail.specs.MailState.{has_messages}
use Rattle.model_run.specs.run_rounds.OneByOne.{StepsBelow}
use Rattle.model_run.specs.run_rounds.Rounds.{OnlyTurns}
use Rattle.controller_actors.specs.declared.plant.Plant.{Plant}
use Rattle.controller.specs.Controllers.{IsOf, Goes}
use Rattle.controller.specs.Calls.{FetchesLeft}
use Rattle.controller.specs.View.{Controller}
use Rattle.model_run.specs.run_worker.Works.{Works}

-- a controller of each number, in order
pub record AllStand (plant : Plant) (ks : List Controller) : Type 0 where
  pub count : length ks ≡ length plant.wiring.controllers
  pub me : (c : ℕ) (k : Controller) → slice_get ks c ≡ Some k → k.me.0 ≡ c
  pub of : (c : ℕ) (k : Controller) → slice_get ks c ≡ Some k → IsOf plant k

-- nothing was done, since no message waits for a turn or the fuel is spent
pub record StandsStill (old new : Controller) : Type 0 where
  pub same : new ≡ old
  pub why : (list_any has_messages old.mail.pending ≡ false) ⊎ (old.fuel ≤ old.mail.turns)

-- a turn, or none where the controller stands still
pub record LastTurn (plant : Plant) (old new : Controller) : Type 0 where
  pub entries : List Entry
  pub goes : Goes plant old new entries
  pub only : OnlyTurns entries
  pub fuelled : old.mail.turns ≤ old.fuel → new.mail.turns ≤ old.fuel
  pub went : (old.mail.turns < new.mail.turns) ⊎ StandsStill old new

-- ready for a turn
pub record IsReady (plant : Plant) (k : Controller) : Type 0 where
  pub of : IsOf plant k
  pub works : k.failed ≡ false
  pub posted : k.mail.outbox ≡ []

-- the controller that stands there becomes another one
abbrev pub Changes : (Controller → Controller → Type 0) → Option Controller → Option Controller → Type 0
Changes R o o' = (k : Controller) → o ≡ Some k → (k' : Controller) × (o' ≡ Some k') × R k k'

-- the controller of a number, and what its end did
abbrev pub Seat : Type 0
Seat = Option Controller × EndLog

abbrev pub seat : List Controller → List EndLog → ℕ → Seat
seat ks logs c = (slice_get ks c, log_at logs c)

abbrev pub WorkedAt : Plant → ℕ → Seat → Seat → Type 0
WorkedAt plant c x x' = Changes (λ k k'. Works plant k k' x.1 x'.1 × IsOf plant k') x.0 x'.0

-- each controller worked with its end, and no other end did anything
pub record HaveWorked (plant : Plant) (olds : List Controller) (logs : List EndLog) (mids : List Controller) (logs' : List EndLog) : Type 0 where
  pub steps : StepsBelow (WorkedAt plant) (length olds) (seat olds logs) (seat mids logs')
  pub count : length mids ≡ length olds
  pub parties : length logs' ≡ length logs

-- what was left for a controller was fetched
abbrev pub FetchedAt : Plant → List (List Msg) → ℕ → Option Controller → Option Controller → Type 0
FetchedAt plant left c o o' = Changes (λ k k'. FetchesLeft plant k k' (slice_index_or left c []) × IsOf plant k') o o'

abbrev pub TurnedAt : Plant → ℕ → Option Controller → Option Controller → Type 0
TurnedAt plant c o o' = Changes (λ k k'. LastTurn plant k k' × IsOf plant k') o o'

-- each controller stands at its number
abbrev pub AreInOrder : List Controller → Type 0
AreInOrder ks = (c : ℕ) (k : Controller) → slice_get ks c ≡ Some k → k.me.0 ≡ c

-- controllers of the plant that have nothing left to post
abbrev pub HavePosted : Plant → List Controller → Type 0
HavePosted plant ks = (c : ℕ) (k : Controller) → slice_get ks c ≡ Some k → IsOf plant k × (k.mail.outbox ≡ [])

-- what was left at the ends was fetched, by each controller in order, and then each took a turn or none
pub record AreJoined (plant : Plant) (olds news : List Controller) (logs : List EndLog) : Type 0 where
  pub fetched : List Controller
  pub answer : List (List Msg)
  pub left : IsLeft logs answer
  pub fetches : StepsBelow (FetchedAt plant answer) (length olds) (slice_get olds) (slice_get fetched)
  pub turns : StepsBelow (TurnedAt plant) (length olds) (slice_get fetched) (slice_get news)
  pub count : length news ≡ length olds

-- a controller in a round: it worked, fetched what was left for it, and took a turn or none
pub record Joined (plant : Plant) (old new : Controller) (log log' : EndLog) (left : List Msg) : Type 0 where
  pub worked : Controller
  pub fetched : Controller
  pub works : Works plant old worked log log'
  pub fetches : FetchesLeft plant worked fetched left
  pub turn : LastTurn plant fetched new
  pub of : IsOf plant new

-- all controllers in a round, where the ends had done this before and that after it, and so much was left
pub record RoundDone (plant : Plant) (olds news : List Controller) (logs logs' : List EndLog) (answer : List (List Msg)) : Type 0 where
  pub count : length news ≡ length olds
  pub parties : length logs' ≡ length logs
  pub others : (party : ℕ) → length plant.wiring.controllers ≤ party → log_at logs' party ≡ log_at logs party
  pub left : IsLeft logs' answer
  pub each : (c : ℕ) → c < length plant.wiring.controllers
      → Changes (λ k k'. Joined plant k k' (log_at logs c) (log_at logs' c) (slice_index_or answer c [])) (slice_get olds c) (slice_get news c)
