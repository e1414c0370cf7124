-- Journals in which a fetch is told by the post that it names.
-- A party is a controller or the environment, which has the number after the last controller.
use Rattle.std.specs.Prelude.{◌≡◌, ℕ, ◌+◌, max, ◌==◌, nat_lt, if◌then◌else◌, List, [], ◌∷◌, Option, Some, None, length, slice_index_or}
use Rattle.std.specs.List.{flat_map}
use Rattle.room_kinds.specs.declared.message.Msg.{Msg}
use Rattle.journal.specs.declared.entry.Entry.{Entry}
use Rattle.journal.specs.declared.entry.Entry.TheVariants as entries
use Rattle.journal.specs.declared.entry.Journals.{Journals}

-- the journal of a party; nothing where there is no such party
abbrev pub journal_of : Journals → ℕ → List Entry
journal_of j party =
    if nat_lt party (length j.controllers) then slice_index_or j.controllers party []
    else if◌then◌else◌ (nat_lt (length j.controllers) party) [] j.environment

-- the message, if any, that an entry posts at this stamp
abbrev pub posted_by : ℕ → Entry → List Msg
posted_by sent (entries.Start who state notes) = []
posted_by sent (entries.Fetch stamp m) = []
posted_by sent (entries.Turn stamp from taken did notes) = []
posted_by sent (entries.Post stamp m) = if stamp.0 == sent then m ∷ [] else []

-- the messages that a journal posts at this stamp, in its order
abbrev pub posted_at : ℕ → List Entry → List Msg
posted_at sent es = flat_map (posted_by sent) es

-- the stamp of an entry, if it is a fetch
abbrev pub fetched_at : Entry → Option ℕ
fetched_at (entries.Start who state notes) = None
fetched_at (entries.Fetch stamp m) = Some stamp.0
fetched_at (entries.Turn stamp from sent did notes) = None
fetched_at (entries.Post stamp m) = None

-- the stamp of a fetch directly after one at `before`, of a message posted at `sent`
abbrev pub next_fetch : ℕ → ℕ → ℕ
next_fetch before sent = max before sent + 1

-- directly after a fetch, if there is one before it, a fetch has the next stamp
abbrev pub Follows : Option ℕ → ℕ → ℕ → Type 0
Follows None stamp sent = Unit {0}
Follows (Some before) stamp sent = stamp ≡ next_fetch before sent

-- the message is that of the only post of its sender with its stamp
abbrev pub IsPosted : Journals → Msg → Type 0
IsPosted j m = posted_at m.stamp.0 (journal_of j m.from.0) ≡ m ∷ []

-- the message is the one that was posted, and the fetch follows the entry before it
pub record IsTiedFetch (j : Journals) (before : Option ℕ) (stamp : ℕ) (m : Msg) : Type 0 where
  pub posted : IsPosted j m
  pub follows : Follows before stamp m.stamp.0

-- an entry directly after one that was fetched at `before`, if it was a fetch
abbrev pub IsTiedEntry : Journals → Option ℕ → Entry → Type 0
IsTiedEntry j before (entries.Start who state notes) = Unit {0}
IsTiedEntry j before (entries.Fetch stamp m) = IsTiedFetch j before stamp.0 m
IsTiedEntry j before (entries.Turn stamp from sent did notes) = Unit {0}
IsTiedEntry j before (entries.Post stamp m) = Unit {0}

-- entries one after another
abbrev pub AreTied : Journals → Option ℕ → List Entry → Type 0
AreTied j before [] = Unit {0}
AreTied j before (e ∷ es) = IsTiedEntry j before e × AreTied j (fetched_at e) es

-- each fetch of each party is tied to a post
pub record Tied (j : Journals) : Type 0 where
  pub entries : (party : ℕ) → AreTied j None (journal_of j party)
