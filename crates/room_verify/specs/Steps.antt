-- What a reader of journals asks of them, entry by entry: whether they lead from the start of a model to a world.
-- `Steps`: an entry of a party happens in a world, where it may, and is the entry that stands there. `Reaches`: the
-- first entries of the merge of all journals lead to a world, each of them where it may happen.
use Rattle.std.specs.Prelude.{◌≡◌, ℕ, ◌<◌, true, nat_lt, List, ◌++◌, length, Some, if◌then◌else◌}
use Rattle.std.specs.List.{AllByRecursion}
use Rattle.journal.specs.declared.entry.Entry.{Entry}
use Rattle.journal.specs.declared.entry.Journals.{Journals}
use Rattle.room_wiring.specs.declared.tables.Tables.{Tables}
use Rattle.actor_merge.specs.Mail.{Event, event_of}
use Rattle.actor_merge.specs.Parties.{Line, Plant}
use Rattle.actor_merge.specs.World.{World, Placed, start, happens, IsReady, Runs}
use Rattle.actor_merge.specs.Merge.{IsMerge}
use Rattle.actor_world.specs.Behaviour.{Behaviour}
use Rattle.actor_world.specs.Body.{Body}
use Rattle.actor_world.specs.Start.{plant_of, start_entries}
use Rattle.law_merges.specs.Merges.{Rise}
use Rattle.law_runs.specs.Stamps.{is_event, events}
use Rattle.model_run.specs.run_ends.Runs.{journal_of}

-- an event of a party happens in a world: it may there, it makes this entry, and it leads to this world
pub record Happens {B : Type 0} (plant : Plant B) (w : World B) (party : ℕ) (event : Event) (e : Entry) (next : World B) : Type 0 where
  pub ready : IsReady plant w party
  pub does : happens plant w party event ≡ Some (next, e)

-- it doesn't, whatever entry it were to make
abbrev pub IsBarred : {B : Type 0} → Plant B → World B → ℕ → Event → Type 0
IsBarred {B} plant w party event = (e : Entry) (next : World B) → Happens plant w party event e next → ⊥

-- an entry of a party happens in a world: the event that it names does, and the entry is the one that it makes
abbrev pub Steps : {B : Type 0} → Plant B → World B → ℕ → Entry → World B → Type 0
Steps plant w party e next = Happens plant w party (event_of e) e next

-- it doesn't
abbrev pub IsRefused : {B : Type 0} → Plant B → World B → ℕ → Entry → Type 0
IsRefused {B} plant w party e = (next : World B) → Steps plant w party e next → ⊥

-- a controller's journal begins with the entries of its start, and no start stands behind them
pub record HasStarts {M : Type 0} (model : Behaviour M) (t : Tables) (c : ℕ) (journal : List Entry) : Type 0 where
  pub after : List Entry
  pub is : journal ≡ start_entries model t c ++ after
  pub only : AllByRecursion (λ (e : Entry). is_event e ≡ true) after

-- what happened to a party by its journal: of a controller's all but the starts, of the environment's all
abbrev pub happened : Journals → ℕ → List Entry
happened j party = if nat_lt party (length j.controllers) then events (journal_of j party) else journal_of j party

-- of the merge of the journals, whose stamps rise and which begin with their controllers' starts, the entries in
-- front lead to this world, and these are behind them
pub record Reaches {M : Type 0} (model : Behaviour M) (t : Tables) (lines : List Line) (j : Journals) (front behind : List Placed) (w : World (Body M)) : Type 0 where
  pub ordered : (party : ℕ) → Rise (happened j party)
  pub started : (c : ℕ) → c < length t.controllers → HasStarts model t c (journal_of j c)
  pub is : IsMerge (happened j) (front ++ behind)
  pub run : Runs (plant_of model t lines) (start (plant_of model t lines)) front w
