-- The merge of the parties' journals by stamp and party, and the law that it is a run of the world.
-- The merge of journals (`IsMerge`) is the list of all their entries, ordered by stamp and then by
-- party. It is a relation: nothing is sorted.
-- `IsRound` is what the parties' journals of a round say, each by itself: each controller's
-- journal is its own replay, the environment's is its own, and per lane what stood there and was
-- posted is what was fetched and what is left. If the environment begins a later part, all is
-- quiet before, and what it posts in a round is of one part. Nothing here speaks of an order
-- between parties.
-- The law `merge_is_a_run`: the journals of a round have a merge, and each merge of them is one
-- run of the world, to a world that is the same to every party. The converse, `runs_project`: in
-- each run of the world each controller's entries are its own replay, and each lane is a queue.
-- Both hold over any kind of body and any `treat`.
use Rattle.std.specs.Prelude.{◌≡◌, ℕ, ◌+◌, length, true, false, ◌<◌, ◌==◌, ◌⊎◌, List, [], ◌∷◌, ◌++◌, if◌then◌else◌}
use Rattle.journal.specs.declared.entry.Entry.{Entry}
use Rattle.journal.specs.declared.entry.Entry.TheVariants as entry
use Rattle.actor_merge.specs.Mail.{Lane, stamp_of, taken, given}
use Rattle.actor_merge.specs.Parties.{State, Environment, Plant, begins, Replays, EnvironmentReplays}
use Rattle.actor_merge.specs.World.{World, Placed, Runs, IsQuiet, caught_up}

-- an earlier stamp goes first, and at one stamp the lower party
abbrev pub IsBefore : Placed → Placed → Type 0
IsBefore x y = (stamp_of x.entry < stamp_of y.entry) ⊎ ((stamp_of x.entry ≡ stamp_of y.entry) × (x.party < y.party))

-- an entry goes before all of these
abbrev pub IsBeforeAll : Placed → List Placed → Type 0
IsBeforeAll x [] = Unit {0}
IsBeforeAll x (y ∷ ys) = IsBefore x y × IsBeforeAll x ys

-- entries by stamp and then by party
abbrev pub InOrder : List Placed → Type 0
InOrder [] = Unit {0}
InOrder (x ∷ xs) = IsBeforeAll x xs × InOrder xs

-- the entries of one party
abbrev pub entries_of : ℕ → List Placed → List Entry
entries_of party [] = []
entries_of party (x ∷ xs) = if party == x.party then x.entry ∷ entries_of party xs else entries_of party xs

-- the merge of journals: all entries of each, ordered by stamp and then by party
pub record IsMerge (journals : ℕ → List Entry) (merge : List Placed) : Type 0 where
  pub ordered : InOrder merge
  pub whole : (party : ℕ) → entries_of party merge ≡ journals party

-- the environment's entries from this world on; before its first line of a later part its clock
-- catches up
abbrev pub EnvironmentGoes : {B : Type 0} → Plant B → World B → List Entry → Environment → Type 0
EnvironmentGoes plant w [] end = end ≡ w.environment
EnvironmentGoes plant w (e ∷ es) end = EnvironmentReplays plant (caught_up plant w) (e ∷ es) end

-- what the parties' own journals of a round say of the worlds before and after it, each by itself
pub record IsRound {B : Type 0} (plant : Plant B) (w : World B) (journals : ℕ → List Entry) (after : World B) : Type 0 where
  -- each controller's journal is its own replay
  pub controllers : (c : ℕ) → c < plant.controllers → Replays plant c (w.controllers c) (journals c) (after.controllers c)
  pub environment : EnvironmentGoes plant w (journals plant.controllers) after.environment
  pub nobody : (party : ℕ) → plant.controllers < party → journals party ≡ []
  -- per lane, what stood there and was given is what was taken and what is left
  pub lanes : (l : Lane) → w.lanes l ++ given l l.sender (journals l.sender) ≡ taken l l.receiver (journals l.receiver) ++ after.lanes l
  -- if the environment begins a later part, then all is quiet before the round
  pub quiet : begins plant w.environment.posted ≡ true → (journals plant.controllers ≡ []) ⊎ IsQuiet plant w
  -- and what it posts in a round is of one part
  pub one_part : (line : ℕ) → w.environment.posted < line → line < w.environment.posted + length (journals plant.controllers) → begins plant line ≡ false

-- two worlds that are the same to every party
pub record IsSame {B : Type 0} (plant : Plant B) (w v : World B) : Type 0 where
  pub controllers : (c : ℕ) → c < plant.controllers → w.controllers c ≡ v.controllers c
  pub environment : w.environment ≡ v.environment
  pub lanes : (l : Lane) → w.lanes l ≡ v.lanes l

-- the stamps rise, from above this one
abbrev pub Rising : ℕ → List Entry → Type 0
Rising k [] = Unit {0}
Rising k (e ∷ es) = (k < stamp_of e) × Rising (stamp_of e) es

-- a posted message carries its entry's stamp, and a fetched one was posted before
abbrev pub IsStamped : Entry → Type 0
IsStamped (entry.Start who state notes) = Unit {0}
IsStamped (entry.Fetch stamp m) = m.stamp.0 < stamp.0
IsStamped (entry.Turn stamp from sent did notes) = Unit {0}
IsStamped (entry.Post stamp m) = m.stamp.0 ≡ stamp.0

-- the same of all of these entries
abbrev pub AllStamped : List Entry → Type 0
AllStamped [] = Unit {0}
AllStamped (e ∷ es) = IsStamped e × AllStamped es

-- in a replay stamps rise above the clock before it, and each fetch is stamped above its post
abbrev pub ReplaysRise : Type 0 → Type 0
ReplaysRise B =
    (plant : Plant B) (c : ℕ) (s : State B) (es : List Entry) (end : State B)
    → Replays plant c s es end → Rising s.clock es × AllStamped es

-- the journals of a round have a merge
abbrev pub MergeExists : Type 0 → Type 0
MergeExists B =
    (plant : Plant B) (w : World B) (journals : ℕ → List Entry) (after : World B)
    → IsRound plant w journals after → (merge : List Placed) × IsMerge journals merge

-- THE MERGE LAW: where the journals are a round, their merge is one run of the world
abbrev pub MergeIsARun : Type 0 → Type 0
MergeIsARun B =
    (plant : Plant B) (w : World B) (journals : ℕ → List Entry) (after : World B) (merge : List Placed)
    → IsRound plant w journals after → IsMerge journals merge → (end : World B) × Runs plant w merge end × IsSame plant end after

-- a run seen by each party: each controller's entries are its own replay, and each lane is a queue
pub record Projects {B : Type 0} (plant : Plant B) (w : World B) (xs : List Placed) (end : World B) : Type 0 where
  pub controllers : (c : ℕ) → c < plant.controllers → Replays plant c (w.controllers c) (entries_of c xs) (end.controllers c)
  pub lanes : (l : Lane) → w.lanes l ++ given l l.sender (entries_of l.sender xs) ≡ taken l l.receiver (entries_of l.receiver xs) ++ end.lanes l

-- the converse: every run is such replays and queues
abbrev pub RunsProject : Type 0 → Type 0
RunsProject B = (plant : Plant B) (w : World B) (xs : List Placed) (end : World B) → Runs plant w xs end → Projects plant w xs end
