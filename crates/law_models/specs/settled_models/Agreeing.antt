-- In the world that the journals of a done run of a model lead to, all controllers agree on which actors
-- live (`LivesAgree`). The model keeps all rules, these are its wiring, which has no fault, its charts, and
-- the tables that are compiled from them; the lines of the environment send nothing at priority 0, as none
-- that is accepted does; and the slots are numbered depth first, as those of every model are.
use Rattle.std.specs.Prelude.{◌≡◌, ℕ, List, Option, Some, None, slice_get}
use Rattle.journal.specs.declared.entry.Entry.{Entry}
use Rattle.journal.specs.declared.entry.Left.{Left}
use Rattle.room_ast.specs.Trees.{ModelTree}
use Rattle.room_wiring.specs.declared.tables.Tables.{Tables}
use Rattle.structure_check.specs.List.{all_rules}
use Rattle.structure_check.specs.Rules.{first_broken}
use Rattle.chart_model.specs.Chart.{Chart}
use Rattle.chart_run.specs.declared.chart_tables.tables.Tables.{Tables as ChartTables}
use Rattle.chart_reader.specs.model_charts.Charts.{HasCharts}
use Rattle.chart_compile.specs.chart_parts.Compiled.{Compiles}
use Rattle.chart_behaviour.specs.ModelCharts.{Actor, behaviour_of}
use Rattle.binding_expand.specs.Wirings.{IsWiringOf}
use Rattle.service_messages.specs.slot_runs.Runs.{IsDepthFirst}
use Rattle.binding_expand.specs.Faults.{HasNoFault}
use Rattle.actor_merge.specs.Parties.{Line}
use Rattle.actor_merge.specs.World.{World}
use Rattle.actor_world.specs.Body.{Body}
use Rattle.actor_world.specs.Start.{plant_of}
use Rattle.actor_world.specs.Directories.{AreOpen}
use Rattle.actor_world.specs.Journals.{IsLawfulRun, IsDone}
use Rattle.law_agreement.specs.Settled.{LivesAgree}

-- each class that has tables has a chart from which they are compiled
abbrev pub AreCompiled : List (Option ChartTables) → List (Option Chart) → Type 0
AreCompiled classes charts =
    (c : ℕ) (v : ChartTables) → slice_get classes c ≡ Some (Some v) → (chart : Chart) × (slice_get charts c ≡ Some (Some chart)) × Compiles v chart

-- over every model and every lawful run of it that is done
abbrev pub ModelRunsAgree : Type 0
ModelRunsAgree =
    (m : ModelTree) (t : Tables) (charts : List (Option Chart)) (classes : List (Option ChartTables)) (lines : List Line)
    → first_broken all_rules m ≡ None → IsWiringOf m t → HasNoFault m → HasCharts m charts → AreCompiled classes charts → AreOpen lines → IsDepthFirst t
    → (fuel : ℕ) (journals : ℕ → List Entry) (left_over : List Left) (unposted : List ℕ) (w : World (Body Actor))
    → IsLawfulRun (behaviour_of t classes) t lines fuel journals left_over w
    → IsDone (plant_of (behaviour_of t classes) t lines) w left_over unposted → LivesAgree t w
