-- The timers see what happened, one entry after another.
use Rattle.std.specs.Prelude.{◌≡◌, ℕ, ◌+◌, List, length, Some, None}
use Rattle.journal.specs.declared.entry.Entry.{Entry}
use Rattle.room_wiring.specs.declared.tables.Tables.{Tables}
use Rattle.actor_merge.specs.World.{Placed}
use Rattle.room_timer.specs.Timers.{Timers, saw}
use Rattle.room_timer.specs.Expansion.{saw_all}
use Rattle.timed_runs.specs.Unseen.{entry_at, stamp_at, earliest_of, seen_more, Sees}

-- one entry is the earliest that wasn't seen: it was seen, and the timers are those after it
pub record SeesOne (t : Tables) (journals : ℕ → List Entry) (old new : List ℕ) (before after : Timers) : Type 0 where
  pub stamp : ℕ
  pub party : ℕ
  pub entry : Entry
  pub first : earliest_of (stamp_at journals old) (length t.controllers + 1) ≡ Some (stamp, party)
  pub there : entry_at journals old party ≡ Some entry
  pub counts : new ≡ seen_more old party
  pub timers : after ≡ saw t before party entry

-- no entry is left to see, and nothing has changed
pub record SeesNone (t : Tables) (journals : ℕ → List Entry) (old new : List ℕ) (before after : Timers) : Type 0 where
  pub none : earliest_of (stamp_at journals old) (length t.controllers + 1) ≡ None
  pub counts : new ≡ old
  pub timers : after ≡ before

-- all entries were seen, and the timers are those after them
pub record SeesAll (t : Tables) (journals : ℕ → List Entry) (old new : List ℕ) (before after : Timers) : Type 0 where
  pub found : List Placed
  pub sees : Sees (length t.controllers + 1) journals old found new
  pub timers : after ≡ saw_all t before found
