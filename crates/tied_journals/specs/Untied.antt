-- The first fetch of journals that is tied to no post.
use Rattle.std.specs.Prelude.{◌≡◌, ℕ, ◌%◌, ◌<◌, List, ◌∷◌, ◌++◌, Option, None, fold}
use Rattle.room_kinds.specs.declared.message.Msg.{Msg}
use Rattle.room_kinds.specs.declared.numbers.ControllerId.{ControllerId}
use Rattle.room_kinds.specs.declared.numbers.Stamp.{Stamp}
use Rattle.journal.specs.declared.entry.Entry.{Entry}
use Rattle.journal.specs.declared.entry.Entry.TheVariants as entries
use Rattle.journal.specs.declared.entry.Journals.{Journals}
use Rattle.tied_journals.specs.Tied.{journal_of, fetched_at, IsTiedFetch, AreTied}

-- the stamp of the last of these entries, if it is a fetch
abbrev pub last_fetched : Option ℕ → List Entry → Option ℕ
last_fetched before es = fold (λ (b : Option ℕ) (e : Entry). fetched_at e) before es

-- this entry is a fetch with this stamp that is tied to no post
pub record IsUntied (j : Journals) (before : Option ℕ) (e : Entry) (stamp : Stamp) : Type 0 where
  pub message : Msg
  pub is : e ≡ entries.Fetch stamp message
  pub untied : IsTiedFetch j before stamp.0 message → ⊥

-- in these entries the first fetch that is tied to no post has this stamp
pub record IsFirstUntiedIn (j : Journals) (before : Option ℕ) (es : List Entry) (stamp : Stamp) : Type 0 where
  pub front : List Entry
  pub entry : Entry
  pub behind : List Entry
  pub stands : es ≡ front ++ entry ∷ behind
  pub tied : AreTied j before front
  pub untied : IsUntied j (last_fetched before front) entry stamp

-- a party's number as a controller's: no wiring has more than 255 controllers
abbrev pub party_number : ℕ → ControllerId
party_number party = record { 0 = party % 256 }

-- the first fetch that is tied to no post, by party and then in order of its journal
pub record IsFirstUntied (j : Journals) (c : ControllerId) (stamp : Stamp) : Type 0 where
  pub party : ℕ
  pub number : c ≡ party_number party
  pub first : IsFirstUntiedIn j None (journal_of j party) stamp
  pub earlier : (p : ℕ) → p < party → AreTied j None (journal_of j p)
