-- The journals of every run are tied.
use Rattle.std.proofs.Common.{◌≡◌, ℕ, ◌<◌, List, [], ◌++◌, None, length, refl, sym, ap, ◌∙◌, subst, ◌⊎◌, inl, inr}
use Rattle.std.specs.List.{Contains}
use Rattle.std.proofs.lemmas.Bool.{cases_order}
use Rattle.std.proofs.lemmas.List.Elements.{Contains-append_right}
use Rattle.room_kinds.specs.declared.message.Msg.{Msg}
use Rattle.room_kinds.specs.declared.numbers.Stamp.{Stamp}
use Rattle.journal.specs.declared.entry.Entry.{Entry}
use Rattle.journal.specs.declared.entry.Entry.TheVariants as entry
use Rattle.journal.specs.declared.entry.Journals.{Journals}
use Rattle.inject_reader.specs.declared.inject_lines.accepted.Line.{Line}
use Rattle.actor_world.specs.Journals.{lines_of}
use Rattle.actor_world.specs.world_laws.Whereabouts.{fetched}
use Rattle.actor_world.specs.Start.{first_state, start_entries, plant_of}
use Rattle.controller_actors.specs.Plants.{model_of}
use Rattle.controller_actors.specs.declared.plant.Plant.{Plant}
use Rattle.model_run.specs.part_posts.Items.{items_of}
use Rattle.model_run.specs.run_ends.Runs.{journal_of, IsRun}
use Rattle.law_runs.specs.Promises.{RunPromises}
use Rattle.law_runs.proofs.PromisesLaw.{promises}
use Rattle.law_runs.proofs.Starts.{start_entries_start}
use Rattle.law_runs.proofs.run_texts.Party.{did, nobody, outside}
use Rattle.tied_journals.specs.Tied.{IsPosted, AreTied, Tied}
use Rattle.law_runs.proofs.run_journals.OnePost.{entry_fetched, only_post}
use Rattle.law_runs.proofs.run_journals.InARow.{EachPosted, replay_tied, starts_tied, posts_tied}
use Rattle.law_runs.proofs.run_journals.OneRun.{own, replay, environment_posts}

module _ (plant : Plant) (lines : List Line) (fuel : ℕ) (j : Journals) (run : IsRun plant lines fuel j) where
  -- each fetched message is that of the only post of its sender with its stamp
  pub fetched_is_posted : (party : ℕ) (m : Msg) → Contains (fetched (journal_of j party)) m → IsPosted j m
  fetched_is_posted party m there =
      let p : RunPromises plant lines fuel j = promises plant lines fuel j run in
      only_post (journal_of j m.from.0) (p.stamps.rise m.from.0) (p.stamps.stamped m.from.0) m (p.mail.fetched_was_posted party m there).1

  was_posted : (party : ℕ) → EachPosted j (journal_of j party)
  was_posted party stamp m there = fetched_is_posted party m (entry_fetched (journal_of j party) stamp m there)

  each : (party : ℕ) → AreTied j None (journal_of j party)
  each party = go (cases_order party (length plant.wiring.controllers))
    where
      inside : party < length plant.wiring.controllers → AreTied j None (journal_of j party)
      inside below =
          let starts : List Entry = start_entries (model_of plant) plant.wiring party in
          let whole = own plant lines fuel j run party below in
          subst (AreTied j None) (sym whole)
          (starts_tied j starts (did plant lines fuel j run party) (start_entries_start (model_of plant) plant.wiring party)
          (replay_tied (plant_of (model_of plant) plant.wiring (lines_of (items_of plant.wiring lines))) party j (did plant lines fuel j run party) None
          (first_state (model_of plant) plant.wiring party) (run.lawful.run.end.controllers party) (replay plant lines fuel j run party below) tt
          (λ stamp m there. was_posted party stamp m
          (subst (λ (z : List Entry). Contains z (entry.Fetch stamp m)) (sym whole) (Contains-append_right starts (did plant lines fuel j run party) (entry.Fetch stamp m) there)))))

      go : (party ≡ length plant.wiring.controllers) ⊎ ((party < length plant.wiring.controllers) ⊎ (length plant.wiring.controllers < party)) → AreTied j None (journal_of j party)
      go (inl same) =
          subst (AreTied j None) (sym (outside plant lines fuel j run) ∙ ap (journal_of j) (sym same))
          (posts_tied j None j.environment (environment_posts plant lines fuel j run))
      go (inr (inl below)) = inside below
      go (inr (inr above)) = subst (AreTied j None) (sym (nobody plant lines fuel j run party above)) tt

pub tied : (plant : Plant) (lines : List Line) (fuel : ℕ) (j : Journals) → IsRun plant lines fuel j → Tied j
tied plant lines fuel j run = record { entries = each plant lines fuel j run }
