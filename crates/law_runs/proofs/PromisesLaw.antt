-- The journals of every run keep their promises.
use Rattle.std.proofs.Common.{◌≡◌, ℕ, ◌<◌, ◌≤◌, nat_lt, Bool, true, if◌then◌else◌, List, [], ◌++◌, length, slice_index_or, refl, sym, ap, ◌∙◌, subst, lt-ltb, le-ltb, arith}
use Rattle.journal.specs.declared.entry.Entry.{Entry}
use Rattle.journal.specs.declared.entry.Journals.{Journals}
use Rattle.inject_reader.specs.declared.inject_lines.accepted.Line.{Line as Asked}
use Rattle.actor_merge.specs.Parties.{Line, Plant as RunPlant, State}
use Rattle.actor_world.specs.Behaviour.{Behaviour}
use Rattle.actor_world.specs.Body.{Body}
use Rattle.actor_world.specs.Journals.{lines_of, IsDone}
use Rattle.actor_world.specs.Life.{IsModest, IncarnationsLiveOnce, ReplaysTellLives, DispatchesAsMeant}
use Rattle.actor_world.specs.Start.{start_entries, first_state, plant_of}
use Rattle.actor_world.specs.world_laws.Deferrals.{KeptByDeferrer}
use Rattle.actor_world.specs.world_laws.OnePlace.{RunsStandOnce}
use Rattle.actor_world.specs.world_laws.Whereabouts.{TellsDefers, FetchedAddsUp}
use Rattle.actor_world.proofs.LivesLaw.{once_each, tells_each}
use Rattle.actor_world.proofs.RunsLaw.{as_meant}
use Rattle.actor_world.proofs.world_laws.Adding.{adds_up}
use Rattle.actor_world.proofs.world_laws.Owning.{kept_by_deferrer}
use Rattle.actor_world.proofs.world_laws.Standing.{run_adds, run_stands}
use Rattle.law_runs.proofs.bounded_growth.Raised.{raised_by_one}
use Rattle.chart_behaviour.specs.ModelCharts.{Actor}
use Rattle.chart_behaviour.proofs.Charts.{are_modest}
use Rattle.chart_behaviour.proofs.chart_defers.Defers.{tell_defers}
use Rattle.controller_actors.specs.Plants.{model_of}
use Rattle.controller_actors.specs.declared.plant.Plant.{Plant}
use Rattle.model_run.specs.part_posts.Items.{items_of}
use Rattle.model_run.specs.run_ends.Runs.{journal_of, IsRun}
use Rattle.law_runs.specs.Lives.{LivesAreKept}
use Rattle.law_runs.specs.Mail.{MailIsKept}
use Rattle.law_runs.specs.Promises.{NothingIsLeft, RunPromises}
use Rattle.law_runs.specs.Turns.{TurnsAreKept, turns_in}
use Rattle.law_runs.proofs.Asked.{in_order, all_asked}
use Rattle.law_runs.proofs.Fuel.{turns_taken, starts_turn_none}
use Rattle.law_runs.proofs.Generations.{turns-append}
use Rattle.law_runs.proofs.KeptTurns.{turns_are_kept, all_had_turns}
use Rattle.law_runs.proofs.Lines.{PostsLines}
use Rattle.law_runs.proofs.LivesLaw.{lives_are_kept}
use Rattle.law_runs.proofs.MailLaw.{mail_is_kept, stamps_are_kept, all_is_fetched}
use Rattle.law_runs.proofs.Party.{happened, own, replay, environment_lines}
use Rattle.law_runs.proofs.Starts.{start_entries_start}

-- the laws of the world that these promises rest on, at actors with charts
means_law : DispatchesAsMeant Actor
means_law model t lines c s next stamp from sent what ns x h d = as_meant model t lines c s next stamp from sent what ns x h d

lives_law : IncarnationsLiveOnce Actor
lives_law model t lines c modest before s r = once_each model t lines c modest before s r

tells_law : ReplaysTellLives Actor
tells_law model t lines c modest es s r x = tells_each model t lines c modest es s r x

adds_law : FetchedAddsUp Actor
adds_law model t lines c modest tells es end r = adds_up model t lines c modest tells es end r

keepers_law : KeptByDeferrer Actor
keepers_law model t lines c modest tells es end r x live m = kept_by_deferrer model t lines c modest tells es end r x live m

stands_law : RunsStandOnce Actor
stands_law model t lines modest tells xs end r = ((λ c below. run_adds model t lines modest tells xs end r c below), run_stands model t lines modest tells xs end r)

module _ (plant : Plant) (lines : List Asked) (fuel : ℕ) (j : Journals) (run : IsRun plant lines fuel j) where
  abbrev n : ℕ
  n = length plant.wiring.controllers

  abbrev model : Behaviour Actor
  model = model_of plant

  abbrev posted_lines : List Line
  posted_lines = lines_of (items_of plant.wiring lines)

  abbrev plan : RunPlant (Body Actor)
  plan = plant_of model plant.wiring posted_lines

  abbrev js : ℕ → List Entry
  js = journal_of j

  modest : IsModest model
  modest = are_modest plant.wiring plant.tables.items

  tells : TellsDefers model
  tells = tell_defers plant.wiring plant.tables.items

  nobody : (party : ℕ) → length plant.wiring.controllers < party → journal_of j party ≡ []
  nobody party above =
      let count = run.count in
      ap (λ (b : Bool). if b then slice_index_or j.controllers party [] else if nat_lt (length j.controllers) party then [] else j.environment)
      (le-ltb party (length j.controllers) (omega (arith, count, above)))
      ∙ ap (λ (b : Bool). if b then [] else j.environment) (lt-ltb (length j.controllers) party (omega (arith, count, above)))

  outside : journal_of j n ≡ j.environment
  outside =
      let count = run.count in
      ap (λ (b : Bool). if b then slice_index_or j.controllers n [] else if nat_lt (length j.controllers) n then [] else j.environment)
      (le-ltb n (length j.controllers) (omega (arith, count)))
      ∙ ap (λ (b : Bool). if b then [] else j.environment) (le-ltb (length j.controllers) n (omega (arith, count)))

  below_n : (c : ℕ) → c < length j.controllers → c < n
  below_n c below = let count = run.count in omega (arith, count, below)

  mail : MailIsKept (length j.controllers) (journal_of j)
  mail = subst (λ (k : ℕ). MailIsKept k (journal_of j)) (sym run.count)
      (mail_is_kept model plant.wiring posted_lines fuel (journal_of j) j.left run.world run.lawful nobody modest tells stands_law)

  lives : LivesAreKept plant.wiring (length j.controllers) (journal_of j)
  lives = subst (λ (k : ℕ). LivesAreKept plant.wiring k (journal_of j)) (sym run.count)
      (lives_are_kept model plant.wiring posted_lines fuel (journal_of j) j.left run.world run.lawful nobody modest
      (λ t me f kind m s. raised_by_one t me f kind m s) lives_law tells_law)

  turns : (c : ℕ) → c < length j.controllers → TurnsAreKept (journal_of j c)
  turns c below =
      turns_are_kept model plant.wiring posted_lines fuel (journal_of j) j.left run.world run.lawful nobody modest tells keepers_law adds_law stands_law means_law c (below_n c below)

  fuelled : (c : ℕ) → c < length j.controllers → turns_in (journal_of j c) ≤ fuel
  fuelled c below =
      let here = below_n c below in
      let starts = start_entries model plant.wiring c in
      let es = happened model plant.wiring posted_lines fuel (journal_of j) j.left run.world run.lawful nobody c in
      let end = run.lawful.run.end.controllers c in
      let is : turns_in (journal_of j c) ≡ turns_in (start_entries model plant.wiring c ++ happened model plant.wiring posted_lines fuel (journal_of j) j.left run.world run.lawful nobody c) =
      ap turns_in (own model plant.wiring posted_lines fuel (journal_of j) j.left run.world run.lawful nobody c here) in
      let sum = turns-append (start_entries model plant.wiring c) (happened model plant.wiring posted_lines fuel (journal_of j) j.left run.world run.lawful nobody c) in
      let none = starts_turn_none (start_entries model plant.wiring c) (start_entries_start model plant.wiring c) in
      let took = turns_taken plan c (happened model plant.wiring posted_lines fuel (journal_of j) j.left run.world run.lawful nobody c) (first_state model plant.wiring c) (run.lawful.run.end.controllers c)
      (replay model plant.wiring posted_lines fuel (journal_of j) j.left run.world run.lawful nobody c here) in
      let same : (run.lawful.run.end.controllers c).turns ≡ (run.world.controllers c).turns = ap (λ (s : State (Body Actor)). s.turns) (run.lawful.run.same.controllers c here) in
      let within = run.lawful.fuelled c here in
      omega (arith, is, sum, none, took, same, within)

  posts : PostsLines plan 0 j.environment run.world.environment.posted
  posts =
      subst (λ (z : List Entry). PostsLines plan 0 z run.world.environment.posted)
      (run.lawful.run.is.whole n ∙ sym run.lawful.environment ∙ outside)
      (environment_lines model plant.wiring posted_lines fuel (journal_of j) j.left run.world run.lawful nobody)

  done : j.done ≡ true → NothingIsLeft plant lines j
  done is =
      let d : IsDone plan run.world j.left j.unposted = run.ended.is_done is in
      record {
        all_posted = all_asked plan plant.wiring lines refl j.environment run.world.environment.posted posts d.all_posted;
        all_fetched = all_is_fetched model plant.wiring posted_lines fuel (journal_of j) j.left run.world run.lawful nobody d.quiet;
        all_had_turns = λ c below.
            all_had_turns model plant.wiring posted_lines fuel (journal_of j) j.left run.world run.lawful nobody modest tells keepers_law adds_law stands_law means_law c (below_n c below) d.quiet;
        none_left = d.none_left;
        none_unposted = d.none_unposted;
      }

  pub promises : RunPromises plant lines fuel j
  promises = record {
    mail = mail;
    stamps = stamps_are_kept model plant.wiring posted_lines fuel (journal_of j) j.left run.world run.lawful nobody;
    lives = lives;
    turns = turns;
    fuelled = fuelled;
    lines_in_order = in_order plan plant.wiring lines refl j.environment run.world.environment.posted posts;
    done = done;
  }
