-- Prompt turns, told by counts.
use Rattle.std.specs.Prelude.{◌≡◌, ℕ, ◌+◌, ◌<◌, ◌≤◌, ◌==◌, ◌&&◌, ◌||◌, min, nat_le, not, ◌⊎◌, Bool, true, List, length, take, slice_get, Option, Some, None, if◌then◌else◌}
use Rattle.journal.specs.declared.entry.Entry.{Entry}
use Rattle.journal.specs.declared.entry.Entry.TheVariants as entry
use Rattle.journal.specs.declared.entry.Journals.{Journals}
use Rattle.actor_merge.specs.Mail.{lane, given, taken, stamp_of}
use Rattle.actor_world.specs.Journals.{is_turn, fetches_since}
use Rattle.model_run.specs.run_ends.Runs.{journal_of}
use Rattle.room_verify.specs.declared.promptness.EarlyTurn.{EarlyTurn}
use Rattle.room_verify.specs.declared.promptness.OwnCounts.{OwnCounts}

-- after these entries controller c has fetched as many messages as it sent itself at a priority, or 64 since its last turn
abbrev pub MayByCounts : ℕ → ℕ → List Entry → Type 0
MayByCounts c p before =
    (length (given (lane c c p) c before) ≡ length (taken (lane c c p) c before)) ⊎ (64 ≤ fetches_since p 0 before)

-- and this at each of so many priorities
abbrev pub MayByAllCounts : ℕ → ℕ → List Entry → Type 0
MayByAllCounts c priorities before = (p : ℕ) → p < priorities → MayByCounts c p before

-- a turn stands at this place of a journal
abbrev pub TurnAt : List Entry → ℕ → Type 0
TurnAt journal i = (e : Entry) × (slice_get journal i ≡ Some e) × (is_turn e ≡ true)

-- the place of the first turn of a journal that isn't allowed after what stands before it, if there is one
abbrev pub FirstAgainst : (List Entry → Type 0) → List Entry → Option ℕ → Type 0
FirstAgainst Allowed journal None = (i : ℕ) → TurnAt journal i → Allowed (take i journal)
FirstAgainst Allowed journal (Some i) =
    TurnAt journal i × (Allowed (take i journal) → ⊥) × ((k : ℕ) → k < i → TurnAt journal k → Allowed (take k journal))

-- the lesser of two places, if there are any
abbrev pub sooner : Option ℕ → Option ℕ → Option ℕ
sooner None other = other
sooner (Some place) None = Some place
sooner (Some place) (Some other) = Some (min place other)

-- a controller took none of its turns too early
abbrev pub IsPromptByCounts : Journals → ℕ → Type 0
IsPromptByCounts j c = FirstAgainst (MayByAllCounts c 6) (journal_of j c) None

-- the first turn that a controller took too early has this stamp
pub record IsFirstEarly (j : Journals) (c stamp : ℕ) : Type 0 where
  pub place : ℕ
  pub e : Entry
  pub there : slice_get (journal_of j c) place ≡ Some e
  pub stamped : stamp ≡ stamp_of e
  pub first : FirstAgainst (MayByAllCounts c 6) (journal_of j c) (Some place)

-- the first turn that was taken too early, by controller and then in order, if one was
abbrev pub FirstUnprompt : Journals → Option EarlyTurn → Type 0
FirstUnprompt j None = (c : ℕ) → c < length j.controllers → IsPromptByCounts j c
FirstUnprompt j (Some turn) =
    (turn.controller.0 < length j.controllers) × IsFirstEarly j turn.controller.0 turn.stamp.0
    × ((lower : ℕ) → lower < turn.controller.0 → IsPromptByCounts j lower)

-- ---- the counts

abbrev pub no_counts : OwnCounts
no_counts = record { given = 0; taken = 0; since = 0 }

abbrev pub may_by_counts : OwnCounts → Bool
may_by_counts k = (k.given == k.taken) || nat_le 64 k.since

-- after a message from this party was fetched at a priority
abbrev pub after_fetch : ℕ → ℕ → ℕ → ℕ → OwnCounts → OwnCounts
after_fetch c p from at k =
    if at == p then record k { taken = if from == c then k.taken + 1 else k.taken; since = k.since + 1 } else k

-- after a message to this party was posted at a priority
abbrev pub after_post : ℕ → ℕ → ℕ → ℕ → OwnCounts → OwnCounts
after_post c p to at k = if (at == p) && (to == c) then record k { given = k.given + 1 } else k

-- after one entry more of controller c, for this priority
abbrev pub counts_after : ℕ → ℕ → OwnCounts → Entry → OwnCounts
counts_after c p k (entry.Start who state notes) = k
counts_after c p k (entry.Turn stamp from sent did notes) = record k { since = 0 }
counts_after c p k (entry.Fetch stamp m) = after_fetch c p m.from.0 m.prio.0 k
counts_after c p k (entry.Post stamp m) = after_post c p m.to.0 m.prio.0 k

-- whether an entry is a turn that may not be taken
abbrev pub is_early : OwnCounts → Entry → Bool
is_early k e = is_turn e && not (may_by_counts k)

-- these are the counts of the first so many entries of a journal
pub record Counts (journal : List Entry) (c p i : ℕ) (k : OwnCounts) : Type 0 where
  pub given_is : k.given ≡ length (given (lane c c p) c (take i journal))
  pub taken_is : k.taken ≡ length (taken (lane c c p) c (take i journal))
  pub since_is : k.since ≡ fetches_since p 0 (take i journal)
  pub few_given : k.given ≤ i
  pub few_taken : k.taken ≤ i
  pub few_since : k.since ≤ i
