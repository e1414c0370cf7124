-- One run, party by party: what happened to it, and what its journal has besides.
use Rattle.std.proofs.Common.{◌≡◌, ℕ, ◌<◌, List, [], ◌++◌, length, refl, sym, ap, ◌∙◌, subst, ◌⊎◌, inl, inr}
use Rattle.std.specs.List.{AllByRecursion as Each}
use Rattle.journal.specs.declared.entry.Entry.{Entry}
use Rattle.journal.specs.declared.entry.Journals.{Journals}
use Rattle.inject_reader.specs.declared.inject_lines.accepted.Line.{Line}
use Rattle.actor_merge.specs.Mail.{Lane, given, taken}
use Rattle.actor_merge.specs.Parties.{Line as Posted, Plant as RunPlant, Replays}
use Rattle.actor_world.specs.Behaviour.{Behaviour}
use Rattle.actor_world.specs.Body.{Body}
use Rattle.actor_world.specs.Journals.{lines_of}
use Rattle.actor_world.specs.Start.{first_state, start_entries, plant_of}
use Rattle.chart_behaviour.specs.ModelCharts.{Actor}
use Rattle.controller_actors.specs.Plants.{model_of}
use Rattle.controller_actors.specs.declared.plant.Plant.{Plant}
use Rattle.model_run.specs.part_posts.Items.{items_of}
use Rattle.model_run.specs.run_ends.Runs.{journal_of, IsRun}
use Rattle.law_runs.proofs.Lines.{PostsLines, all_posts}
use Rattle.law_runs.proofs.Party as parties
use Rattle.law_runs.proofs.Stamps.{IsFrom}
use Rattle.law_runs.proofs.run_texts.Party.{did, nobody, outside}
use Rattle.law_runs.specs.run_journals.InPlace.{IsPost}

module _ (plant : Plant) (lines : List Line) (fuel : ℕ) (j : Journals) (run : IsRun plant lines fuel j) where
  abbrev pub n : ℕ
  n = length plant.wiring.controllers

  abbrev pub model : Behaviour Actor
  model = model_of plant

  abbrev pub posted_lines : List Posted
  posted_lines = lines_of (items_of plant.wiring lines)

  abbrev pub plan : RunPlant (Body Actor)
  plan = plant_of (model_of plant) plant.wiring (lines_of (items_of plant.wiring lines))

  abbrev pub happened : ℕ → List Entry
  happened party = did plant lines fuel j run party

  pub own : (c : ℕ) → c < length plant.wiring.controllers → journal_of j c ≡ start_entries (model_of plant) plant.wiring c ++ did plant lines fuel j run c
  own c below = parties.own (model_of plant) plant.wiring (lines_of (items_of plant.wiring lines)) fuel (journal_of j) j.left run.world run.lawful (nobody plant lines fuel j run) c below

  pub replay : (c : ℕ) → c < length plant.wiring.controllers
      → Replays (plant_of (model_of plant) plant.wiring (lines_of (items_of plant.wiring lines))) c (first_state (model_of plant) plant.wiring c) (did plant lines fuel j run c) (run.lawful.run.end.controllers c)
  replay c below = parties.replay (model_of plant) plant.wiring (lines_of (items_of plant.wiring lines)) fuel (journal_of j) j.left run.world run.lawful (nobody plant lines fuel j run) c below

  pub queue : (l : Lane) → given l l.sender (did plant lines fuel j run l.sender) ≡ taken l l.receiver (did plant lines fuel j run l.receiver) ++ run.world.lanes l
  queue l = parties.queue (model_of plant) plant.wiring (lines_of (items_of plant.wiring lines)) fuel (journal_of j) j.left run.world run.lawful (nobody plant lines fuel j run) l

  pub from_own : (p : ℕ) → Each (IsFrom p) (did plant lines fuel j run p)
  from_own p = parties.from_own (model_of plant) plant.wiring (lines_of (items_of plant.wiring lines)) fuel (journal_of j) j.left run.world run.lawful (nobody plant lines fuel j run) p

  -- the environment posts alone
  pub environment_posts : Each IsPost j.environment
  environment_posts =
      subst (Each IsPost) (run.lawful.run.is.whole (length plant.wiring.controllers) ∙ sym run.lawful.environment ∙ outside plant lines fuel j run)
      (all_posts (plant_of (model_of plant) plant.wiring (lines_of (items_of plant.wiring lines))) IsPost (λ stamp m. tt) (did plant lines fuel j run (length plant.wiring.controllers)) 0 run.world.environment.posted
      (parties.environment_lines (model_of plant) plant.wiring (lines_of (items_of plant.wiring lines)) fuel (journal_of j) j.left run.world run.lawful (nobody plant lines fuel j run)))
