-- What code sees of the controllers of a replay, and what comes of a look at a stamp; and what is so of all that is shown.
use Rattle.std.specs.Prelude.{◌≡◌, ℕ, List, [], Option}
use Rattle.std.specs.Option.{option_map_or}
use Rattle.journal.specs.declared.entry.Journals.{Journals}
use Rattle.room_wiring.specs.declared.tables.Tables.{Tables}
use Rattle.actor_world.specs.Behaviour.{Behaviour}
use Rattle.actor_world.specs.Body.{Body}
use Rattle.actor_world.specs.Journals.{Item}
use Rattle.chart_model.specs.Chart.{Chart}
use Rattle.chart_behaviour.specs.ModelCharts.{Actor, state_number}
use Rattle.controller_actors.specs.Bodies.{body_of}
use Rattle.controller_actors.specs.Plants.{model_of}
use Rattle.controller_actors.specs.Seen.{attributes_of}
use Rattle.controller_actors.specs.declared.plant.Plant.{Plant}
use Rattle.inject_reader.specs.declared.inject_lines.accepted.Line.{Line}
use Rattle.law_charts.specs.Charts.{ShowCharts, behaviour_by_charts, number_of}
use Rattle.law_charts.specs.Charts as by_charts
use Rattle.model_run.specs.part_posts.Items.{items_of}
use Rattle.model_run.specs.run_ends.Runs.{IsRun}
use Rattle.room_show.specs.declared.snapshot.Snapshot.{Snapshot}
use Rattle.room_verify.specs.Shown.{Observer, IsShown, IsUnshown}
use Rattle.room_verify.specs.declared.showing.Seen.{Seen}
use Rattle.room_verify.specs.declared.showing.Seen.TheVariants as seen
use Rattle.room_verify.specs.declared.verdict.Verdict.{Verdict}
use Rattle.room_verify.specs.declared.view.Look.{Look}

-- what the actors of a plant show
abbrev pub actors_observer : Observer Actor
actors_observer = record { state = state_number; attributes = attributes_of }

-- what actors by the charts of their classes show
abbrev pub charts_observer : Observer by_charts.Actor
charts_observer = record {
  state = number_of;
  attributes = λ (a : by_charts.Actor). option_map_or (λ (x : by_charts.ChartActor). x.at.vars) a [];
}

-- the body that is looked at
abbrev pub body_at : Look → Body Actor
body_at v = body_of v.plant.now v.me.0 v.actors.now

-- what came of a look at journals at a stamp: a snapshot, or the verdict that is told in its place
abbrev pub CameToSee : Plant → List Line → Journals → ℕ → Seen → Type 0
CameToSee plant lines j at (seen.Shown snapshot) =
    IsShown (model_of plant) plant.wiring (items_of plant.wiring lines) j at actors_observer snapshot
CameToSee plant lines j at (seen.Unlawful verdict) =
    IsUnshown (model_of plant) plant.wiring (items_of plant.wiring lines) j at verdict

-- what is shown over the tables of a plant is what is shown over the charts that they show
abbrev pub ShowsAreByCharts : Type 0
ShowsAreByCharts =
    (plant : Plant) (charts : List (Option Chart)) (lines : List Line) (j : Journals) (at : ℕ) (snapshot : Snapshot) → ShowCharts plant.tables.items charts
    → IsShown (model_of plant) plant.wiring (items_of plant.wiring lines) j at actors_observer snapshot
    → IsShown (behaviour_by_charts plant.wiring charts) plant.wiring (items_of plant.wiring lines) j at charts_observer snapshot

-- at a stamp one snapshot is shown at most
abbrev pub OneIsShown : Type 0 → Type 0
OneIsShown M =
    (model : Behaviour M) (t : Tables) (items : List Item) (j : Journals) (at : ℕ) (o : Observer M) (a b : Snapshot)
    → IsShown model t items j at o a → IsShown model t items j at o b → a ≡ b

-- where a snapshot is shown, no verdict is told in its place
abbrev pub ShownOrUnlawful : Type 0 → Type 0
ShownOrUnlawful M =
    (model : Behaviour M) (t : Tables) (items : List Item) (j : Journals) (at : ℕ) (o : Observer M) (snapshot : Snapshot) (v : Verdict)
    → IsShown model t items j at o snapshot → IsUnshown model t items j at v → ⊥

-- where journals are those of a run and nothing is stamped later, the run leads to the world that is shown
abbrev pub RunsLeadToShown : Type 0
RunsLeadToShown =
    (plant : Plant) (lines : List Line) (fuel : ℕ) (j : Journals) (at : ℕ) (snapshot : Snapshot)
    → (h : IsShown (model_of plant) plant.wiring (items_of plant.wiring lines) j at actors_observer snapshot) → h.behind ≡ []
    → IsRun plant lines fuel j → (run : IsRun plant lines fuel j) × (run.world ≡ h.w)
