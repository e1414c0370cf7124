-- The posts of each party by their stamps, as a table tells them.
use Rattle.std.specs.Prelude.{◌≡◌, ℕ, nat_eq, List, [], ◌∷◌, ◌++◌, Option, Some, None, option_map}
use Rattle.std.specs.HashMap.{get}
use Rattle.room_kinds.specs.declared.message.Msg.{Msg}
use Rattle.journal.specs.declared.entry.Entry.{Entry}
use Rattle.journal.specs.declared.entry.Journals.{Journals}
use Rattle.tied_journals.specs.declared.tables.Posted.{Posted}
use Rattle.tied_journals.specs.declared.tables.Posted.TheVariants as posted
use Rattle.tied_journals.specs.declared.tables.PartyPosts.{PartyPosts}
use Rattle.tied_journals.specs.declared.tables.Posts.{Posts}
use Rattle.tied_journals.specs.Tied.{journal_of, posted_at}

-- what a table keeps of the posts of one stamp: whether there is one, and its message where it is alone
abbrev pub kept_of : List Msg → Option (Option Msg)
kept_of [] = None
kept_of (m ∷ []) = Some (Some m)
kept_of (m ∷ n ∷ ms) = Some None

-- the same after one more post
abbrev pub with_post : Option (Option Msg) → Msg → Option (Option Msg)
with_post None m = Some (Some m)
with_post (Some kept) m = Some None

-- the same after more posts
abbrev pub with_posts : Option (Option Msg) → List Msg → Option (Option Msg)
with_posts kept [] = kept
with_posts kept (m ∷ ms) = with_posts (with_post kept m) ms

-- the message of the only post
abbrev pub only_of : Option (Option Msg) → Option Msg
only_of None = None
only_of (Some kept) = kept

abbrev pub kept_in : Posted → Option Msg
kept_in (posted.Once m) = Some m.now
kept_in posted.Often = None

-- what the table of a party keeps of a stamp
unfoldable pub kept_at : PartyPosts → ℕ → Option (Option Msg)
kept_at table sent = option_map kept_in (get nat_eq table.by_stamp sent)

-- the table of the posts of this journal
abbrev pub IsTableOf : PartyPosts → List Entry → Type 0
IsTableOf table es = (sent : ℕ) → kept_at table sent ≡ kept_of (posted_at sent es)

-- tables of journals, one by one
abbrev pub AreTablesOf : List PartyPosts → List (List Entry) → Type 0
AreTablesOf [] [] = Unit {0}
AreTablesOf [] (es ∷ ess) = ⊥
AreTablesOf (p ∷ ps) [] = ⊥
AreTablesOf (p ∷ ps) (es ∷ ess) = IsTableOf p es × AreTablesOf ps ess

-- the journals of all parties, the environment's last
abbrev pub journals_by_party : Journals → List (List Entry)
journals_by_party j = j.controllers ++ j.environment ∷ []

-- the message of the only post of a party at a stamp
abbrev pub only_post : Journals → ℕ → ℕ → Option Msg
only_post j party sent = only_of (kept_of (posted_at sent (journal_of j party)))

-- the tables of the posts of these journals
abbrev pub ArePostsOf : Posts → Journals → Type 0
ArePostsOf posts j = AreTablesOf posts.parties.items (journals_by_party j)
