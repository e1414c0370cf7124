-- What the parties do in a round of a run, each by itself, and that it is a round of the world. In a
-- round each controller works with its end of the mail, then fetches what is left in the mail, and then
-- takes a turn or none.
-- `AreParts` says of each party by itself what it does in a round. The law `parts_are_a_round`:
-- then the journals are a round of the world, after which no lane holds a message.
use Rattle.std.specs.Prelude.{◌≡◌, ℕ, ◌+◌, ◌<◌, ◌≤◌, ◌⊎◌, true, false, List, [], ◌∷◌, ◌++◌, length, slice_index_or}
use Rattle.room_kinds.specs.declared.message.Msg.{Msg}
use Rattle.room_kinds.specs.declared.numbers.Stamp.{Stamp}
use Rattle.journal.specs.declared.entry.Entry.{Entry}
use Rattle.journal.specs.declared.entry.Entry.TheVariants as entry
use Rattle.mail_core.specs.EndLog.{EndLog}
use Rattle.mail_core.specs.Lanes.{log_at}
use Rattle.mail_core.specs.SetUp.{IsLeft}
use Rattle.actor_merge.specs.Mail.{Lane, lane, given, taken}
use Rattle.actor_merge.specs.Parties.{State, Plant, begins, Replays}
use Rattle.actor_merge.specs.World.{World, IsQuiet}
use Rattle.actor_merge.specs.Merge.{EnvironmentGoes, IsRound}
use Rattle.actor_world.specs.Journals.{is_turn}
use Rattle.controller.specs.Calls.{PostsWithin}

-- what an entry fetches comes from one of so many controllers or from the environment, at one of six
-- priorities
abbrev pub IsFetchWithin : ℕ → Entry → Type 0
IsFetchWithin n (entry.Start who state notes) = Unit {0}
IsFetchWithin n (entry.Fetch stamp m) = (m.from.0 < n + 1) × (m.prio.0 < 6)
IsFetchWithin n (entry.Turn stamp from sent did notes) = Unit {0}
IsFetchWithin n (entry.Post stamp m) = Unit {0}

abbrev pub FetchesWithin : ℕ → List Entry → Type 0
FetchesWithin n [] = Unit {0}
FetchesWithin n (e ∷ es) = IsFetchWithin n e × FetchesWithin n es

-- what an entry posts is above the system level, priority 0
abbrev pub IsPostAbove : Entry → Type 0
IsPostAbove (entry.Start who state notes) = Unit {0}
IsPostAbove (entry.Fetch stamp m) = Unit {0}
IsPostAbove (entry.Turn stamp from sent did notes) = Unit {0}
IsPostAbove (entry.Post stamp m) = 1 ≤ m.prio.0

abbrev pub PostsAbove : List Entry → Type 0
PostsAbove [] = Unit {0}
PostsAbove (e ∷ es) = IsPostAbove e × PostsAbove es

-- these entries fetch these messages, one each, in order
abbrev pub Fetched : List Msg → List Entry → Type 0
Fetched [] [] = Unit {0}
Fetched [] (e ∷ es) = ⊥
Fetched (m ∷ ms) [] = ⊥
Fetched (m ∷ ms) (e ∷ es) = ((s : Stamp) × (e ≡ entry.Fetch s m)) × Fetched ms es

-- each of these entries is a turn
abbrev pub OnlyTurns : List Entry → Type 0
OnlyTurns [] = Unit {0}
OnlyTurns (e ∷ es) = (is_turn e ≡ true) × OnlyTurns es

-- what the end of party c has posted and taken are the posts and fetches of these entries
pub record EndDid (c : ℕ) (log : EndLog) (es : List Entry) : Type 0 where
  pub posted : (r p : ℕ) → log.posted r p ≡ given (lane c r p) c es
  pub took : (s p : ℕ) → log.taken s p ≡ taken (lane s c p) c es

-- controller c in a round among n controllers: what it worked with its end, the fetches of what was left
-- for it, and its last turn
pub record Joins {B : Type 0} (plant : Plant B) (c : ℕ) (s end : State B) (log : EndLog) (left : List Msg) (es : List Entry) : Type 0 where
  pub works : List Entry
  pub fetches : List Entry
  pub turned : List Entry
  pub is : es ≡ works ++ (fetches ++ turned)
  pub replays : Replays plant c s es end
  pub did : EndDid c log works
  pub within : FetchesWithin plant.controllers works
  pub fetched : Fetched left fetches
  pub turns : OnlyTurns turned

-- all parties in a round, where no lane holds a message before or after it
pub record AreParts {B : Type 0} (plant : Plant B) (w after : World B) (es : ℕ → List Entry) (logs : List EndLog) (answer : List (List Msg)) : Type 0 where
  pub parties : length logs ≡ plant.controllers + 1
  pub left : IsLeft logs answer
  pub controllers : (c : ℕ) → c < plant.controllers → Joins plant c (w.controllers c) (after.controllers c) (log_at logs c) (slice_index_or answer c []) (es c)
  pub environment : EnvironmentGoes plant w (es plant.controllers) after.environment
  pub did : EndDid plant.controllers (log_at logs plant.controllers) (es plant.controllers)
  pub nobody : (party : ℕ) → plant.controllers < party → es party ≡ []
  pub within : (party : ℕ) → PostsWithin plant.controllers (es party)
  pub quiet : begins plant w.environment.posted ≡ true → (es plant.controllers ≡ []) ⊎ IsQuiet plant w
  pub one_part : (line : ℕ) → w.environment.posted < line → line < w.environment.posted + length (es plant.controllers) → begins plant line ≡ false
  pub empty_before : (l : Lane) → w.lanes l ≡ []
  pub empty_after : (l : Lane) → after.lanes l ≡ []

-- they are a round of the world
abbrev pub PartsAreARound : Type 0 → Type 0
PartsAreARound B =
    (plant : Plant B) (w after : World B) (es : ℕ → List Entry) (logs : List EndLog) (answer : List (List Msg))
    → AreParts plant w after es logs answer → IsRound plant w es after
