-- What happened since one looked last, in the order of the merge: by stamp, and at one stamp the lower party first.
-- Of each party so many entries of its journal were seen. The entries behind them are seen one after another, the
-- earliest first. It is told by what the parties' next entries are, and nothing is sorted.
use Rattle.std.specs.Prelude.{◌≡◌, ℕ, zero, suc, ◌+◌, nat_lt, ◌==◌, set, List, [], ◌∷◌, length, slice_get, slice_index_or, Option, Some, None, option_map, option_and_then, if◌then◌else◌}
use Rattle.journal.specs.declared.entry.Entry.{Entry}
use Rattle.room_wiring.specs.declared.tables.Tables.{Tables}
use Rattle.actor_merge.specs.Mail.{stamp_of}
use Rattle.actor_merge.specs.World.{Placed}
use Rattle.model_run.specs.part_source.Calls.{Seen}

-- the journal of a party; the environment is the party after the last controller
abbrev pub journal_at : Tables → Seen → ℕ → List Entry
journal_at t js party =
    if nat_lt party (length t.controllers) then slice_index_or js.controllers party []
    else if party == length t.controllers then js.environment
    else []

-- a party's entry behind those that were seen of it
abbrev pub entry_at : (ℕ → List Entry) → List ℕ → ℕ → Option Entry
entry_at journals counts party = option_and_then (λ count. slice_get (journals party) count) (slice_get counts party)

-- when it happened
abbrev pub stamp_at : (ℕ → List Entry) → List ℕ → ℕ → Option ℕ
stamp_at journals counts party = option_map stamp_of (entry_at journals counts party)

-- the earlier of the first stamp of parties before this one, with the party that it is of, and of this one's stamp
abbrev pub earlier : Option (ℕ × ℕ) → ℕ → Option ℕ → Option (ℕ × ℕ)
earlier first party None = first
earlier None party (Some stamp) = Some (stamp, party)
earlier (Some first) party (Some stamp) = if nat_lt stamp first.0 then Some (stamp, party) else Some first

-- the earliest stamp of so many parties; of parties with one stamp, the lowest
abbrev pub earliest_of : (ℕ → Option ℕ) → ℕ → Option (ℕ × ℕ)
earliest_of stamps zero = None
earliest_of stamps (suc party) = earlier (earliest_of stamps party) party (stamps party)

-- one entry more of a party was seen
abbrev pub seen_more : List ℕ → ℕ → List ℕ
seen_more counts party = set counts party (slice_index_or counts party 0 + 1)

-- these entries of so many parties are seen, one after another, until none is left
pub data Sees (parties : ℕ) (journals : ℕ → List Entry) : List ℕ → List Placed → List ℕ → Type 0 where
  nothing : (counts : List ℕ) → earliest_of (stamp_at journals counts) parties ≡ None → Sees parties journals counts [] counts
  one_more : (counts after : List ℕ) (stamp party : ℕ) (e : Entry) (xs : List Placed)
      → earliest_of (stamp_at journals counts) parties ≡ Some (stamp, party) → entry_at journals counts party ≡ Some e
      → Sees parties journals (seen_more counts party) xs after
      → Sees parties journals counts (record { party = party; entry = e } ∷ xs) after
