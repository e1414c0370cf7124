-- Journals whose entries stand where they belong.
-- There is a journal for each controller. What a controller fetches is for it and comes from a party; what a
-- party posts names the party and the time of its post; the environment posts and does nothing else. What is
-- left stands under its receiver, at one of the six priorities, in the order in which texts tell it.
-- These are points of the definition of journals that fit a wiring (`Fits` of `journal`), and they hold of
-- every run, whatever its plant and its lines.
use Rattle.std.specs.Prelude.{◌≡◌, ℕ, ◌≤◌, ◌<◌, List, All, Some, length, map, slice_get}
use Rattle.std.specs.List.Sorted.{IsNonDecreasing}
use Rattle.room_kinds.specs.declared.message.Msg.{Msg}
use Rattle.journal.specs.Fits.{IsParty, left_rank}
use Rattle.journal.specs.declared.entry.Entry.{Entry}
use Rattle.journal.specs.declared.entry.Entry.TheVariants as entry
use Rattle.journal.specs.declared.entry.Journals.{Journals}
use Rattle.journal.specs.declared.entry.Left.{Left}
use Rattle.room_wiring.specs.declared.tables.Tables.{Tables}
use Rattle.inject_reader.specs.declared.inject_lines.accepted.Line.{Line}
use Rattle.controller_actors.specs.declared.plant.Plant.{Plant}
use Rattle.model_run.specs.run_ends.Runs.{IsRun}

-- what an entry fetches is for this controller
abbrev pub IsFetchedBy : ℕ → Entry → Type 0
IsFetchedBy c (entry.Fetch stamp m) = m.to.0 ≡ c
IsFetchedBy c (entry.Start who state notes) = Unit {0}
IsFetchedBy c (entry.Turn stamp from sent did notes) = Unit {0}
IsFetchedBy c (entry.Post stamp m) = Unit {0}

-- what an entry posts names this party as its sender and the entry's stamp
abbrev pub IsPostedBy : ℕ → Entry → Type 0
IsPostedBy party (entry.Post stamp m) = (m.from.0 ≡ party) × (m.stamp.0 ≡ stamp.0)
IsPostedBy party (entry.Start who state notes) = Unit {0}
IsPostedBy party (entry.Fetch stamp m) = Unit {0}
IsPostedBy party (entry.Turn stamp from sent did notes) = Unit {0}

-- the message that an entry fetches, and the one whose turn it tells, come from a party
abbrev pub ComesFromParty : Tables → Entry → Type 0
ComesFromParty t (entry.Fetch stamp m) = IsParty t m.from.0
ComesFromParty t (entry.Turn stamp from sent did notes) = IsParty t from.0
ComesFromParty t (entry.Start who state notes) = Unit {0}
ComesFromParty t (entry.Post stamp m) = Unit {0}

-- an entry posts
abbrev pub IsPost : Entry → Type 0
IsPost (entry.Post stamp m) = Unit {0}
IsPost (entry.Start who state notes) = ⊥
IsPost (entry.Fetch stamp m) = ⊥
IsPost (entry.Turn stamp from sent did notes) = ⊥

-- a message is left to its receiver, at one of the six priorities, and comes from a party
pub record IsLeftInPlace (t : Tables) (l : Left) : Type 0 where
  pub receiver : l.msg.to.0 ≡ l.to.0
  pub controller : l.to.0 < length t.controllers
  pub sender : IsParty t l.msg.from.0
  pub priority : l.msg.prio.0 ≤ 5

-- what is so of the journal of each controller
abbrev pub OfControllers : Journals → (ℕ → Entry → Type 0) → Type 0
OfControllers j P = (c : ℕ) (es : List Entry) → slice_get j.controllers c ≡ Some es → All (P c) es

-- journals whose entries stand where they belong
pub record AreInPlace (t : Tables) (j : Journals) : Type 0 where
  -- there is one journal for each controller
  pub one_each : length j.controllers ≡ length t.controllers
  -- a controller fetches what is sent to it
  pub fetched_by_receiver : OfControllers j IsFetchedBy
  -- from a party
  pub sent_by_parties : OfControllers j (λ c. ComesFromParty t)
  -- what a controller posts names it as its sender, and carries the stamp of its post
  pub posted_by_sender : OfControllers j IsPostedBy
  -- the environment's journal has posts alone, and they name the environment
  pub environment_posts : All IsPost j.environment
  pub environment_is_sender : All (IsPostedBy (length t.controllers)) j.environment
  -- what is left is left to its receiver
  pub left : All (IsLeftInPlace t) j.left
  -- by receiver, what is pending before what is in lanes, by priority and by sender
  pub left_in_order : IsNonDecreasing (map (left_rank t) j.left)

-- the journals of every run are
abbrev pub RunsAreInPlace : Type 0
RunsAreInPlace = (plant : Plant) (lines : List Line) (fuel : ℕ) (j : Journals) → IsRun plant lines fuel j → AreInPlace plant.wiring j
