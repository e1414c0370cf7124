-- What journals say of stamps.
-- A stamp is a time of its party's logical clock (Lamport 1978). The actors that live from the start
-- begin at 0; all else comes later.
use Rattle.std.specs.Prelude.{ℕ, Bool, true, false, List, [], ◌∷◌, filter}
use Rattle.journal.specs.declared.entry.Entry.{Entry}
use Rattle.journal.specs.declared.entry.Entry.TheVariants as entry
use Rattle.actor_merge.specs.Mail.{stamp_of}
use Rattle.actor_merge.specs.Merge.{Rising, AllStamped}

-- whether an entry is something that happened, and not a start
abbrev pub is_event : Entry → Bool
is_event (entry.Start who state notes) = false
is_event (entry.Fetch stamp m) = true
is_event (entry.Turn stamp from sent did notes) = true
is_event (entry.Post stamp m) = true

-- what happened, without the starts
abbrev pub events : List Entry → List Entry
events es = filter is_event es

-- each stamp is above the one before it
abbrev pub Rise : List Entry → Type 0
Rise [] = Unit {0}
Rise (e ∷ es) = Rising (stamp_of e) es

-- what the journals say of stamps
pub record StampsAreKept (journals : ℕ → List Entry) : Type 0 where
  -- what happens to a party is stamped later than all before
  pub rise : (party : ℕ) → Rise (events (journals party))
  -- a message carries the stamp of its post, and its fetch is stamped later
  pub stamped : (party : ℕ) → AllStamped (journals party)
