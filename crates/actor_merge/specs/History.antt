-- Histories: journals that grow round by round, and stay one run of the world.
-- `IsLawful`: merged, the journals are one run from the start to this world. `IsHistory`: the
-- journals so far, in the middle of a part. The law `history_goes_on`: nothing done is a history;
-- a history and one more round are a history; and each history is lawful. This is what a run keeps
-- from one round to the next.
use Rattle.std.specs.Prelude.{◌≡◌, ℕ, ◌≤◌, true, ◌⊎◌, List, [], ◌∷◌, ◌++◌}
use Rattle.journal.specs.declared.entry.Entry.{Entry}
use Rattle.actor_merge.specs.Mail.{stamp_of}
use Rattle.actor_merge.specs.Parties.{Plant, begins}
use Rattle.actor_merge.specs.World.{World, Placed, start, Runs, IsQuiet, latest_of}
use Rattle.actor_merge.specs.Merge.{IsMerge, IsSame, IsRound}

-- each entry's stamp is at most this one
abbrev pub AllAtMost : ℕ → List Placed → Type 0
AllAtMost k [] = Unit {0}
AllAtMost k (x ∷ xs) = (stamp_of x.entry ≤ k) × AllAtMost k xs

-- lawful: merged by stamp and party, these journals are one run from the start to this world, whose
-- greatest clock no stamp exceeds
pub record IsLawful {B : Type 0} (plant : Plant B) (journals : ℕ → List Entry) (w : World B) : Type 0 where
  pub merge : List Placed
  pub is : IsMerge journals merge
  pub end : World B
  pub run : Runs plant (start plant) merge end
  pub same : IsSame plant end w
  pub bound : AllAtMost (latest_of plant w) merge

-- the journals so far, in the middle of a part: those of the earlier parts are lawful, and those of
-- this part are replays from where it began, which was quiet unless nothing was before
pub record IsHistory {B : Type 0} (plant : Plant B) (journals : ℕ → List Entry) (w : World B) : Type 0 where
  pub before : ℕ → List Entry
  pub began : World B
  pub lawful : IsLawful plant before began
  pub part : ℕ → List Entry
  pub round : IsRound plant began part w
  pub whole : (party : ℕ) → journals party ≡ before party ++ part party
  pub first : ((begins plant began.environment.posted ≡ true) × IsQuiet plant began) ⊎ ((party : ℕ) → before party ≡ [])

-- nothing happened yet
abbrev pub StartIsHistory : Type 0 → Type 0
StartIsHistory B = (plant : Plant B) → IsHistory plant (λ p. []) (start plant)

-- a history goes on by the journals of one more round
abbrev pub HistoryGoesOn : Type 0 → Type 0
HistoryGoesOn B =
    (plant : Plant B) (journals more : ℕ → List Entry) (w after : World B)
    → IsHistory plant journals w → IsRound plant w more after → IsHistory plant (λ p. journals p ++ more p) after

-- each history is lawful
abbrev pub HistoryIsLawful : Type 0 → Type 0
HistoryIsLawful B = (plant : Plant B) (journals : ℕ → List Entry) (w : World B) → IsHistory plant journals w → IsLawful plant journals w
