-- What controllers post goes to controllers.
use Rattle.std.proofs.Common.{◌≡◌, ℕ, zero, suc, ◌+◌, ◌<◌, ◌≤◌, List, [], ◌∷◌, ◌++◌, length, slice_get, Some, refl, sym, ap, ◌∙◌, subst, arith, ⊎_elim, ◌⊎◌, inl, inr}
use Rattle.std.specs.List.{AllByRecursion as Each, Contains}
use Rattle.std.proofs.lemmas.List.Elements.{All-from_recursion}
use Rattle.std.proofs.lemmas.Option.{slice_get_within}
use Rattle.std.proofs.lemmas.Bool.{cases_order}
use Rattle.room_kinds.specs.declared.message.Msg.{Msg}
use Rattle.room_wiring.specs.declared.tables.Tables.{Tables}
use Rattle.journal.specs.Fits.{IsParty}
use Rattle.journal.specs.declared.entry.Entry.{Entry}
use Rattle.journal.specs.declared.entry.Entry.TheVariants as entry
use Rattle.journal.specs.declared.entry.Journals.{Journals}
use Rattle.inject_reader.specs.declared.inject_lines.accepted.Line.{Line as Asked}
use Rattle.inject_reader.specs.declared.inject_lines.accepted.What.{What}
use Rattle.inject_reader.specs.declared.inject_lines.accepted.What.TheVariants as whats
use Rattle.actor_merge.specs.Parties.{Line, Plant as RunPlant}
use Rattle.actor_world.specs.Journals.{lines_from, lines_of}
use Rattle.actor_world.specs.Start.{first_state, start_entries, plant_of}
use Rattle.actor_world.specs.world_laws.Whereabouts.{fetched}
use Rattle.chart_behaviour.specs.sends.Sends.{OwnersAreThere, is_ranked}
use Rattle.chart_behaviour.proofs.sends.Turning.{starts_send_within}
use Rattle.chart_behaviour.specs.Asked.{ClassesAsk, AsksOnly}
use Rattle.chart_behaviour.proofs.Charts.{asks_only, are_modest}
use Rattle.chart_behaviour.proofs.chart_defers.Defers.{tell_defers}
use Rattle.controller_actors.specs.Plants.{model_of}
use Rattle.controller_actors.specs.declared.plant.Plant.{Plant}
use Rattle.controller_mail.specs.Within.{IsWithin, IsAnswerable}
use Rattle.model_run.specs.part_posts.Items.{item_of, items_of}
use Rattle.model_run.specs.run_ends.Runs.{journal_of, IsRun}
use Rattle.law_runs.specs.Mail.{posts, posted}
use Rattle.law_runs.proofs.Lines.{PostsLines}
use Rattle.law_runs.proofs.Party.{fetched_is, posted_is, environment_lines}
use Rattle.law_runs.proofs.PromisesLaw.{promises}
use Rattle.law_runs.proofs.Starts.{AllStarts, start_entries_start}
use Rattle.law_runs.proofs.run_texts.Party.{did, nobody}
use Rattle.law_runs.specs.run_journals.InPlace.{OfControllers}
use Rattle.law_runs.specs.run_journals.Outside.{WhatNames, LinesName}
use Rattle.law_runs.specs.run_journals.Reaching.{ReachesController, NamesReceiver}
use Rattle.law_runs.proofs.run_journals.Entries.{each_fetched}
use Rattle.law_runs.proofs.run_journals.InPlaceLaw.{known, of_each}
use Rattle.law_runs.proofs.run_journals.OnePost.{none_in, first_or_later}
use Rattle.law_runs.proofs.run_journals.OneRun.{own, replay}
use Rattle.law_runs.proofs.run_journals.Reaching.{PostsWithin, AllAnswerable, posts_within}

-- ---- lines have a priority from 1 on

abbrev IsAbove : Msg → Type 0
IsAbove m = 1 ≤ m.prio.0

lines_above : (t : Tables) (lines : List Asked) (part : ℕ) → LinesName t lines → Each (λ (l : Line). IsAbove l.message) (lines_from part (items_of t lines))
lines_above t [] part h = tt
lines_above t (x ∷ lines) part h = go x.what h.0 (λ p. lines_above t lines p h.1)
  where
    go : (what : What) → WhatNames t what → ((p : ℕ) → Each (λ (l : Line). IsAbove l.message) (lines_from p (items_of t lines)))
        → Each (λ (l : Line). IsAbove l.message) (lines_from part (item_of t x.number what ∷ items_of t lines))
    go whats.Settle f rest = rest (part + 1)
    go (whats.Advance time) f rest = rest (part + 1)
    go (whats.Message target signal payload prio) f rest = (f.worded, rest part)

line_above : (ls : List Line) (i : ℕ) (l : Line) → Each (λ (l : Line). IsAbove l.message) ls → slice_get ls i ≡ Some l → IsAbove l.message
line_above [] i l h e = absurd cc
line_above (x ∷ ls) zero l h e = let same : x ≡ l = cc in subst (λ (z : Line). IsAbove z.message) same h.0
line_above (x ∷ ls) (suc i) l h e = line_above ls i l h.1 e

posts_above : {B : Type 0} (plant : RunPlant B) (es : List Entry) (at end : ℕ) → Each (λ (l : Line). IsAbove l.message) plant.lines
    → PostsLines plant at es end → Each IsAbove (posted es)
posts_above plant [] at end h p = tt
posts_above plant (e ∷ es) at end h p =
    subst (λ (z : Entry). Each IsAbove (posted (z ∷ es))) (sym p.0.is) (line_above plant.lines at p.0.line h p.0.there, posts_above plant es (at + 1) end h p.1)

each_has : {X : Type 0} (P : X → Type 0) (xs : List X) (x : X) → Each P xs → Contains xs x → P x
each_has P [] x h there = absurd (none_in x there)
each_has P (y ∷ ys) x h there = ⊎_elim (λ same. subst P same h.0) (λ later. each_has P ys x h.1 later) (first_or_later y ys x there)

starts_first : (t : Tables) (starts es : List Entry) → AllStarts starts → Each (NamesReceiver t) es → Each (NamesReceiver t) (starts ++ es)
starts_first t [] es a h = h
starts_first t (entry.Start who state notes ∷ starts) es a h = (tt, starts_first t starts es a.1 h)
starts_first t (entry.Fetch stamp m ∷ starts) es a h = absurd a.0
starts_first t (entry.Turn stamp from sent did notes ∷ starts) es a h = absurd a.0
starts_first t (entry.Post stamp m ∷ starts) es a h = absurd a.0

names_each : (t : Tables) (es : List Entry) → Each (PostsWithin (length t.controllers)) es → Each (NamesReceiver t) es
names_each t [] p = tt
names_each t (entry.Start who state notes ∷ es) p = (tt, names_each t es p.1)
names_each t (entry.Turn stamp from sent did notes ∷ es) p = (tt, names_each t es p.1)
names_each t (entry.Fetch stamp m ∷ es) p = (tt, names_each t es p.1)
names_each t (entry.Post stamp m ∷ es) p =
    let low : m.prio.0 < 6 = p.0.1 in (record { controller = p.0.0; priority = omega (arith, low) }, names_each t es p.1)

module _ (plant : Plant) (lines : List Asked) (owners : OwnersAreThere plant.wiring) (classes : ClassesAsk is_ranked plant.tables.items) (fit : LinesName plant.wiring lines)
    (fuel : ℕ) (j : Journals) (run : IsRun plant lines fuel j) where
  asks : AsksOnly is_ranked (model_of plant)
  asks = asks_only plant.wiring plant.tables.items is_ranked classes

  -- what is fetched at the system's level comes from a controller
  answer : (c : ℕ) (m : Msg) → Contains (fetched (journal_of j c)) m → IsAnswerable (length plant.wiring.controllers) m
  answer c m there low = go (cases_order m.from.0 (length plant.wiring.controllers))
    where
      posted_there : Contains (posted (journal_of j m.from.0)) m
      posted_there = ((promises plant lines fuel j run).mail.fetched_was_posted c m there).1

      party : IsParty plant.wiring m.from.0
      party = known plant lines fuel j run c m there

      from_outside : m.from.0 ≡ length plant.wiring.controllers → 1 ≤ m.prio.0
      from_outside same =
          each_has IsAbove (posted (did plant lines fuel j run (length plant.wiring.controllers))) m
          (posts_above (plant_of (model_of plant) plant.wiring (lines_of (items_of plant.wiring lines))) (did plant lines fuel j run (length plant.wiring.controllers)) 0 run.world.environment.posted
          (lines_above plant.wiring lines 1 fit)
          (environment_lines (model_of plant) plant.wiring (lines_of (items_of plant.wiring lines)) fuel (journal_of j) j.left run.world run.lawful (nobody plant lines fuel j run)))
          (subst (λ (z : List Msg). Contains z m)
          (ap (λ (z : ℕ). posted (journal_of j z)) same
          ∙ posted_is (model_of plant) plant.wiring (lines_of (items_of plant.wiring lines)) fuel (journal_of j) j.left run.world run.lawful (nobody plant lines fuel j run) (length plant.wiring.controllers))
          posted_there)

      go : (m.from.0 ≡ length plant.wiring.controllers) ⊎ ((m.from.0 < length plant.wiring.controllers) ⊎ (length plant.wiring.controllers < m.from.0)) → m.from.0 < length plant.wiring.controllers
      go (inl same) = let some = from_outside same in absurd (omega (arith, some, low))
      go (inr (inl below)) = below
      go (inr (inr above)) = let k : m.from.0 ≤ length plant.wiring.controllers = party.known in absurd (omega (arith, k, above))

  module _ (c : ℕ) (below : c < length plant.wiring.controllers) where
    same_fetched : fetched (journal_of j c) ≡ fetched (did plant lines fuel j run c)
    same_fetched = fetched_is (model_of plant) plant.wiring (lines_of (items_of plant.wiring lines)) fuel (journal_of j) j.left run.world run.lawful (nobody plant lines fuel j run) c

    posts_here : Each (PostsWithin (length plant.wiring.controllers)) (did plant lines fuel j run c)
    posts_here =
        posts_within (model_of plant) asks (are_modest plant.wiring plant.tables.items) (tell_defers plant.wiring plant.tables.items) plant.wiring owners
        (lines_of (items_of plant.wiring lines)) c below (did plant lines fuel j run c) [] (first_state (model_of plant) plant.wiring c) (run.lawful.run.end.controllers c) refl
        (replay plant lines fuel j run c below) (λ m none. absurd (none_in m none))
        (λ m there. answer c m (subst (λ (z : List Msg). Contains z m) (sym same_fetched) there))
        (starts_send_within (model_of plant) plant.wiring c asks owners below)

    named : Each (NamesReceiver plant.wiring) (journal_of j c)
    named =
        subst (Each (NamesReceiver plant.wiring)) (sym (own plant lines fuel j run c below))
        (starts_first plant.wiring (start_entries (model_of plant) plant.wiring c) (did plant lines fuel j run c) (start_entries_start (model_of plant) plant.wiring c)
        (names_each plant.wiring (did plant lines fuel j run c) posts_here))

pub reach : (plant : Plant) (lines : List Asked) → OwnersAreThere plant.wiring → ClassesAsk is_ranked plant.tables.items → LinesName plant.wiring lines
    → (fuel : ℕ) (j : Journals) → IsRun plant lines fuel j → OfControllers j (λ c. NamesReceiver plant.wiring)
reach plant lines owners classes fit fuel j run =
    of_each plant lines fuel j run (λ c. NamesReceiver plant.wiring)
    (λ c below. let count = run.count in named plant lines owners classes fit fuel j run c (omega (arith, count, below)))
