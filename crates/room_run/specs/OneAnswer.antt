-- A call has one answer, besides want of memory and what failed reads and writes leave open.
-- Where the shelf tells the texts that the words name and no read of them failed, at most one refusal
-- holds of them, and none where an answer does. So where they are accepted, and no write failed
-- either, the call ends as done, spent, or for want of memory; or with the verdict that journals aren't lawful.
use Rattle.std.specs.Prelude.{◌≡◌, ◌⊎◌, ℕ, List, Option, Some, None}
use Rattle.room_outside.specs.Shown.{Shown}
use Rattle.room_outside.specs.Faults.{Rose}
use Rattle.room_wiring.specs.declared.tables.Tables.{Tables}
use Rattle.inject_reader.specs.declared.inject_lines.accepted.Advances.{Advances}
use Rattle.inject_reader.specs.declared.inject_lines.accepted.Advances.TheVariants.{Taken, Refused}
use Rattle.inject_reader.specs.declared.inject_lines.accepted.Line.{Line}
use Rattle.journal.specs.declared.entry.Journals.{Journals}
use Rattle.room_run.specs.Words.{Files, Record, Judged, Asked, Check, Tree, Run, Convert, Verify, Show, Made, asked_by}
use Rattle.room_run.specs.MadeShelf.{made_files, made_shelf}
use Rattle.room_run.specs.Models.{IsSound}
use Rattle.room_run.specs.Conversions.{HasJournals, HasTiedJournals}
use Rattle.room_run.specs.Causes.{IsInjections, RoseAt, Causes, status_of}
use Rattle.room_run.specs.Outcome.{Answers, Streams, Outcome}
use Rattle.room_run.specs.declared.model_fault.ModelFault.TheVariants as faults
use Rattle.room_run.specs.declared.refusal.Refusal.{Refusal}
use Rattle.room_run.specs.declared.refusal.Refusal.TheVariants as refusals
use Rattle.room_run.specs.declared.status.Status.{Status}
use Rattle.room_run.specs.declared.status.Status.TheVariants as statuses

-- the shelf tells the text under a name, and no read of it failed in the call
pub record IsRead (before after : Shown) (name : List ℕ) : Type 0 where
  pub text : List ℕ
  pub told : before.text name ≡ Some text
  pub unfailed : RoseAt before after name → ⊥

-- so it is of each file that the words name
abbrev pub AreRead : Shown → Shown → Option Asked → Type 0
AreRead before after None = Unit {0}
AreRead before after (Some (Check name)) = IsRead before after name
AreRead before after (Some (Tree name)) = IsRead before after name
AreRead before after (Some (Run files fuel)) = IsRead before after files.model × IsRead before after files.injections
AreRead before after (Some (Convert files)) = IsRead before after files.model × IsRead before after files.journals
AreRead before after (Some (Verify files fuel)) =
    IsRead before after files.run.model × IsRead before after files.run.injections × IsRead before after files.journals
AreRead before after (Some (Show files at)) =
    IsRead before after files.run.model × IsRead before after files.run.injections × IsRead before after files.journals
AreRead before after (Some (Made actors)) = Unit {0}

-- want of memory
abbrev pub IsMemory : Refusal → Type 0
IsMemory why = status_of why ≡ statuses.Memory

-- a text has no tree; nothing is said of the line that is told
abbrev pub IsSyntax : Refusal → Type 0
IsSyntax why = (line : ℕ) × (why ≡ refusals.Model (faults.Syntax line))

-- no journals have a text; nothing is said of the offset that is told
abbrev pub IsMalformed : Refusal → Type 0
IsMalformed why = (offset : ℕ) × (why ≡ refusals.JournalsMalformed offset)

-- two refusals are one, but for the line of a text that has no tree, and the offset in one that has no journals
abbrev pub SameRefusal : Refusal → Refusal → Type 0
SameRefusal why other = (why ≡ other) ⊎ ((IsSyntax why × IsSyntax other) ⊎ (IsMalformed why × IsMalformed other))

-- the words ask for something, and for no run
abbrev pub AskForNoRun : Option Asked → Type 0
AskForNoRun None = ⊥
AskForNoRun (Some (Check name)) = Unit {0}
AskForNoRun (Some (Tree name)) = Unit {0}
AskForNoRun (Some (Run files fuel)) = ⊥
AskForNoRun (Some (Convert files)) = Unit {0}
AskForNoRun (Some (Verify files fuel)) = Unit {0}
AskForNoRun (Some (Show files at)) = Unit {0}
AskForNoRun (Some (Made actors)) = ⊥

-- besides want of memory at most one refusal holds of these words, and none where they have an answer; and `check`,
-- `tree`, `convert`, `verify` and `show` have one answer, with one text
pub record HasOneAnswer (before after : Shown) (words : List (List ℕ)) : Type 0 where
  pub refused_once : (why other : Refusal) → Causes before after words why → Causes before after words other
      → IsMemory why ⊎ (IsMemory other ⊎ SameRefusal why other)
  pub answered : (why : Refusal) (text : List ℕ) (status : Status) → Causes before after words why → Answers before words text status → IsMemory why
  pub answered_once : AskForNoRun (asked_by words) → (text other : List ℕ) (status also : Status) → Answers before words text status
      → Answers before words other also → (text ≡ other) × (status ≡ also)

-- over every shelf that tells the texts that the words name, where no read of them failed
abbrev pub CallsHaveOneAnswer : Type 0
CallsHaveOneAnswer = (before after : Shown) (words : List (List ℕ)) → AreRead before after (asked_by words) → HasOneAnswer before after words

-- the text under a name is that of a model which keeps all rules and has no fault, with this wiring
pub record HasModel (shelf : Shown) (name : List ℕ) (wiring : Tables) : Type 0 where
  pub text : List ℕ
  pub told : shelf.text name ≡ Some text
  pub sound : IsSound text wiring

-- the texts of two files are those of such a model, and of injections over its names, which may move virtual time on where such lines are taken
pub record HasFiles (advances : Advances) (shelf : Shown) (files : Files) : Type 0 where
  pub wiring : Tables
  pub lines : List Line
  pub model : HasModel shelf files.model wiring
  pub text : List ℕ
  pub told : shelf.text files.injections ≡ Some text
  pub injections : IsInjections advances wiring text lines

-- the texts of two files are those of such a model, and of tied journals over its names
pub record HasRecord (shelf : Shown) (files : Record) : Type 0 where
  pub wiring : Tables
  pub read : Journals
  pub model : HasModel shelf files.model wiring
  pub text : List ℕ
  pub told : shelf.text files.journals ≡ Some text
  pub journals : HasTiedJournals wiring text read

-- and the text of a third is that of journals over its names
pub record HasJudged (shelf : Shown) (files : Judged) : Type 0 where
  pub run : HasFiles Refused shelf files.run
  pub text : List ℕ
  pub told : shelf.text files.journals ≡ Some text
  pub read : Journals
  pub journals : HasJournals run.wiring text read

-- the words ask for something, and the texts that they name are accepted
abbrev pub AreAccepted : Shown → Option Asked → Type 0
AreAccepted shelf None = ⊥
AreAccepted shelf (Some (Check name)) = (wiring : Tables) × HasModel shelf name wiring
AreAccepted shelf (Some (Tree name)) = (wiring : Tables) × HasModel shelf name wiring
AreAccepted shelf (Some (Run files fuel)) = HasFiles Taken shelf files
AreAccepted shelf (Some (Convert files)) = HasRecord shelf files
AreAccepted shelf (Some (Verify files fuel)) = HasJudged shelf files
AreAccepted shelf (Some (Show files at)) = HasJudged shelf files
AreAccepted shelf (Some (Made actors)) = HasFiles Taken (made_shelf actors) made_files

-- no write failed in the call
pub record NoneFailed (streams : Streams) : Type 0 where
  pub out : Rose streams.out_before.faults streams.out_after.faults → ⊥
  pub notes : Rose streams.notes_before.faults streams.notes_after.faults → ⊥

-- the words ask for a verdict, or for the system at a stamp, for which one may be told
abbrev pub AskForVerdict : Option Asked → Type 0
AskForVerdict None = ⊥
AskForVerdict (Some (Check name)) = ⊥
AskForVerdict (Some (Tree name)) = ⊥
AskForVerdict (Some (Run files fuel)) = ⊥
AskForVerdict (Some (Convert files)) = ⊥
AskForVerdict (Some (Verify files fuel)) = Unit {0}
AskForVerdict (Some (Show files at)) = Unit {0}
AskForVerdict (Some (Made actors)) = ⊥

-- done, spent, want of memory, or, where a verdict is asked for, that journals aren't lawful
abbrev pub IsEnd : Option Asked → Status → Type 0
IsEnd asked status =
    (status ≡ statuses.Done) ⊎ ((status ≡ statuses.Spent) ⊎ ((status ≡ statuses.Memory) ⊎ (AskForVerdict asked × (status ≡ statuses.Unlawful))))

-- over every call in which no read of a named file and no write failed, and whose texts are accepted
abbrev pub AcceptedCallsEnd : Type 0
AcceptedCallsEnd =
    (before after : Shown) (words : List (List ℕ)) (streams : Streams) (status : Status) → AreAccepted before (asked_by words)
    → AreRead before after (asked_by words) → NoneFailed streams → Outcome before after words streams status → IsEnd (asked_by words) status
