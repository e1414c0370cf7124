-- The merge of journals by stamp and party: where stamps rise there is one, and there is no other.
use Rattle.std.specs.Prelude.{◌≡◌, ℕ, ◌≤◌, List, [], ◌∷◌}
use Rattle.journal.specs.declared.entry.Entry.{Entry}
use Rattle.actor_merge.specs.Mail.{stamp_of}
use Rattle.actor_merge.specs.World.{Placed}
use Rattle.actor_merge.specs.Merge.{Rising, IsMerge}

-- each stamp is above the one before it
abbrev pub Rise : List Entry → Type 0
Rise [] = Unit {0}
Rise (e ∷ es) = Rising (stamp_of e) es

-- two merges of the same journals are one
abbrev pub MergesAreOne : Type 0
MergesAreOne = (journals : ℕ → List Entry) (xs ys : List Placed) → IsMerge journals xs → IsMerge journals ys → xs ≡ ys

-- journals of so many parties, in each of which stamps rise, have a merge; its first stamp may be 0
abbrev pub RisenJournalsMerge : Type 0
RisenJournalsMerge =
    (count : ℕ) (journals : ℕ → List Entry) → ((party : ℕ) → Rise (journals party))
    → ((party : ℕ) → count ≤ party → journals party ≡ []) → (merge : List Placed) × IsMerge journals merge
