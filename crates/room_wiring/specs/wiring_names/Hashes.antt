-- Maps from hashes of paths to slots.
use Rattle.std.specs.Prelude.{◌≡◌, ℕ, List, Some, None, map, nat_eq, position, if◌then◌else◌}
use Rattle.indexmap.specs.IndexMap.{IndexMap, get}
use Rattle.name_tables.specs.name_index.Places.{earlier_or}
use Rattle.room_wiring.specs.declared.tables.Tables.{Tables}
use Rattle.room_wiring.specs.declared.slot.Slot.{Slot}
use Rattle.room_wiring.specs.Paths.{hash_of}

-- the hashes of the slots' paths
abbrev pub path_hashes : Tables → List ℕ
path_hashes t = map (λ (x : Slot). hash_of x.path) t.slots

-- each hash has the first place at which it stands in the list, and no other hash has one
abbrev pub FindsFirst : {S : Type 0} → IndexMap ℕ ℕ S → List ℕ → Type 0
FindsFirst m hashes = (hash : ℕ) → get nat_eq m hash ≡ position (nat_eq hash) hashes

-- the hash has the place, unless it had one, and every other hash has what it had
abbrev pub NotesFirst : {S : Type 0} → IndexMap ℕ ℕ S → IndexMap ℕ ℕ S → ℕ → ℕ → Type 0
NotesFirst old new hash place =
    (q : ℕ) → get nat_eq new q ≡ earlier_or (get nat_eq old q) (if nat_eq q hash then Some place else None)
