-- What is so of every world that a run of a model leads to, in the middle of it too (`Stands`), and what all
-- controllers agree on wherever it is quiet. The model keeps all rules, these are its wiring, which has no
-- fault, and tables that are compiled from its charts, which have none (`HasModel`); and the lines of the
-- environment send nothing at priority 0, as none that is accepted does. There are no other premises.
use Rattle.std.specs.Prelude.{◌≡◌, ℕ, ◌≤◌, ◌<◌, List, ◌∷◌, ◌++◌, length, Option, Some, None}
use Rattle.room_kinds.specs.declared.note.Note.{Note}
use Rattle.room_kinds.specs.declared.numbers.ControllerId.{ControllerId}
use Rattle.room_kinds.specs.declared.numbers.Incarnation.{Incarnation}
use Rattle.room_kinds.specs.declared.numbers.Stamp.{Stamp}
use Rattle.journal.specs.declared.entry.Did.{Did}
use Rattle.journal.specs.declared.entry.Entry.{Entry}
use Rattle.journal.specs.declared.entry.Entry.TheVariants as entry
use Rattle.room_ast.specs.Trees.{ModelTree}
use Rattle.room_wiring.specs.declared.tables.Tables.{Tables}
use Rattle.structure_check.specs.List.{all_rules}
use Rattle.structure_check.specs.Rules.{first_broken}
use Rattle.binding_expand.specs.Faults.{HasNoFault}
use Rattle.binding_expand.specs.Wirings.{IsWiringOf}
use Rattle.chart_model.specs.Chart.{Chart}
use Rattle.chart_run.specs.declared.chart_tables.tables.Tables.{Tables as ChartTables}
use Rattle.chart_reader.specs.model_charts.Charts.{HasCharts}
use Rattle.chart_behaviour.specs.ModelCharts.{Actor, behaviour_of}
use Rattle.actor_merge.specs.Merge.{entries_of}
use Rattle.actor_merge.specs.Parties.{Line, Taken, next_of}
use Rattle.actor_merge.specs.World.{World, Placed, IsQuiet}
use Rattle.actor_duties.specs.Words.{incarnation, owner_of}
use Rattle.actor_world.specs.Agreed.{IsAgreed}
use Rattle.actor_world.specs.Behaviour.{Behaviour}
use Rattle.actor_world.specs.Body.{Body}
use Rattle.actor_world.specs.Directories.{AreOpen}
use Rattle.actor_world.specs.Life.{TellsLives, IsFor, actor_of, created, destroyed}
use Rattle.actor_world.specs.Start.{plant_of, start_entries}
use Rattle.actor_world.specs.world_laws.OnePlace.{StandsOnce}
use Rattle.law_agreement.specs.Settled.{LivesAgree}
use Rattle.law_agreement.specs.Trails.{RunsTo}
use Rattle.law_models.specs.settled_models.Agreeing.{AreCompiled}

-- the wiring and the tables are those of some model that keeps all rules and has no fault
pub record HasModel (t : Tables) (classes : List (Option ChartTables)) : Type 0 where
  pub model : ModelTree
  pub keeps : first_broken all_rules model ≡ None
  pub wired : IsWiringOf model t
  pub flawless : HasNoFault model
  pub charts : List (Option Chart)
  pub faultless : HasCharts model charts
  pub compiled : AreCompiled classes charts

-- a controller's journal after these entries of all parties
abbrev pub journal_after : {M : Type 0} → Behaviour M → Tables → ℕ → List Placed → List Entry
journal_after model t c xs = start_entries model t c ++ entries_of c xs

-- what a controller dispatched after these entries was for this incarnation: its next message, named by sender
-- and stamp, means whoever stands in the incarnation's slot, or its generation; and the incarnation lived then,
-- had its create entry before, and no destroy entry
pub record WasFor {M : Type 0} (model : Behaviour M) (t : Tables) (lines : List Line) (before : List Placed) (c : ℕ) (from : ControllerId) (sent : Stamp) (x : Incarnation) : Type 0 where
  pub world : World (Body M)
  pub reached : RunsTo model t lines before world
  pub taken : Taken
  pub next : next_of (world.controllers c).pending ≡ Some taken
  pub sender : taken.message.from ≡ from
  pub stamp : taken.message.stamp ≡ sent
  pub meant : IsFor taken.message x (world.controllers c).body.frame.lives
  pub once_created : created x (journal_after model t c before) ≡ 1
  pub not_destroyed : destroyed x (journal_after model t c before) ≡ 0

-- what is so of the world that a run leads to by these entries
pub record Stands {M : Type 0} (model : Behaviour M) (t : Tables) (lines : List Line) (xs : List Placed) (w : World (Body M)) : Type 0 where
  -- an incarnation that lives or has lived has exactly one create entry, and exactly one destroy entry if it lives no more; every other has neither; and both stand in the journal of its slot's owner
  pub lives : (c : ℕ) → c < length t.controllers → (x : Incarnation) → TellsLives t c (w.controllers c).body.frame.lives x (journal_after model t c xs)
  -- each message was dispatched to whom it was for
  pub dispatches : (before after : List Placed) (c : ℕ) (stamp : Stamp) (from : ControllerId) (sent : Stamp) (what : Did) (ns : List Note) (x : Incarnation)
      → c < length t.controllers → xs ≡ before ++ record { party = c; entry = entry.Turn stamp from sent what ns } ∷ after → actor_of what ≡ Some x
      → WasFor model t lines before c from sent x
  -- a generation that a directory tells was created, by the owner of its slot
  pub directories : (d s g : ℕ) → (w.controllers d).body.frame.told s ≡ g → 1 ≤ g → created (incarnation s g) (journal_after model t (owner_of t s) xs) ≡ 1
  -- a fetched message is in one place alone: pending, deferred by one live incarnation, or done with
  pub places : StandsOnce model t lines xs w

-- over every model, and every run of it so far
abbrev pub ModelWorldsStand : Type 0
ModelWorldsStand =
    (t : Tables) (classes : List (Option ChartTables)) (lines : List Line) → HasModel t classes → AreOpen lines
    → (xs : List Placed) (w : World (Body Actor)) → RunsTo (behaviour_of t classes) t lines xs w → Stands (behaviour_of t classes) t lines xs w

-- and where that is quiet, all controllers agree on which actors live
abbrev pub QuietModelWorldsAgree : Type 0
QuietModelWorldsAgree =
    (t : Tables) (classes : List (Option ChartTables)) (lines : List Line) → HasModel t classes → AreOpen lines
    → (xs : List Placed) (w : World (Body Actor)) → RunsTo (behaviour_of t classes) t lines xs w
    → IsQuiet (plant_of (behaviour_of t classes) t lines) w → LivesAgree t w

-- and on imports, on who is linked by name, and on peers
abbrev pub QuietModelWorldsAreAgreed : Type 0
QuietModelWorldsAreAgreed =
    (t : Tables) (classes : List (Option ChartTables)) (lines : List Line) → HasModel t classes → AreOpen lines
    → (xs : List Placed) (w : World (Body Actor)) → RunsTo (behaviour_of t classes) t lines xs w
    → IsQuiet (plant_of (behaviour_of t classes) t lines) w → IsAgreed t w
