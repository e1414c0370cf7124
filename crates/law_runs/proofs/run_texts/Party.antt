-- What the lines of a run's journals tell of each party.
use Rattle.std.proofs.Common.{◌≡◌, ℕ, ◌<◌, ◌≤◌, nat_lt, Bool, true, if◌then◌else◌, cond, List, [], ◌∷◌, ◌++◌, map, filter, length, slice_index_or, Some, refl, sym, ap, ◌∙◌, subst, lt-ltb, le-ltb, arith, ◌⊎◌, inl, inr}
use Rattle.std.specs.Prelude.{decimal}
use Rattle.std.specs.List.{Contains}
use Rattle.std.proofs.lemmas.Bool.{cases_eq, cases_order, ne_eqb, eq-eqb}
use Rattle.std.proofs.lemmas.List.Elements.{filter-append}
use Rattle.room_kinds.specs.declared.message.Msg.{Msg}
use Rattle.journal.specs.declared.entry.Entry.{Entry}
use Rattle.journal.specs.declared.entry.Entry.TheVariants as entry
use Rattle.journal.specs.declared.entry.Journals.{Journals}
use Rattle.room_wiring.specs.declared.tables.Tables.{Tables}
use Rattle.inject_reader.specs.declared.inject_lines.accepted.Line.{Line as Asked}
use Rattle.actor_merge.specs.Mail.{event_of}
use Rattle.actor_merge.specs.Parties.{State, Environment, Plant as RunPlant}
use Rattle.actor_merge.specs.World.{World, Placed, start, Runs, controller_does, environment_does}
use Rattle.actor_merge.specs.Merge.{entries_of}
use Rattle.actor_merge.proofs.Back.{Happened, controller, environment, happened}
use Rattle.actor_world.specs.Body.{Body}
use Rattle.actor_world.specs.Journals.{lines_of}
use Rattle.actor_world.specs.Start.{start_entries, plant_of}
use Rattle.actor_world.specs.world_laws.Whereabouts.{fetched}
use Rattle.chart_behaviour.specs.ModelCharts.{Actor}
use Rattle.controller_actors.specs.Plants.{model_of}
use Rattle.controller_actors.specs.declared.plant.Plant.{Plant}
use Rattle.model_run.specs.part_posts.Items.{items_of}
use Rattle.model_run.specs.run_ends.Runs.{journal_of, IsRun}
use Rattle.law_runs.specs.Mail.{posted}
use Rattle.law_runs.specs.Stamps.{is_event}
use Rattle.law_runs.proofs.Named.{nothing_in, in_head, in_tail}
use Rattle.law_runs.proofs.Party.{whole, fetched_is}
use Rattle.law_runs.proofs.PromisesLaw.{promises}
use Rattle.law_runs.proofs.run_texts.Rows.{Told, Fetched, Turned, Posted, word, told}
use Rattle.law_runs.proofs.run_texts.Told.{AllHappened}

-- entries of which none is a start
abbrev AllHappen : List Entry → Type 0
AllHappen [] = Unit {0}
AllHappen (e ∷ es) = (is_event e ≡ true) × AllHappen es

-- nobody starts in a run
module _ {B : Type 0} (plant : RunPlant B) where
  controller_event : (w : World B) (c : ℕ) (s : State B) (e : Entry) → controller_does plant w c (event_of e) ≡ Some (s, e)
      → is_event e ≡ true
  controller_event w c s (entry.Start who state ns) h = absurd cc
  controller_event w c s (entry.Fetch stamp m) h = refl
  controller_event w c s (entry.Turn stamp from sent did ns) h = refl
  controller_event w c s (entry.Post stamp m) h = refl

  environment_event : (w : World B) (v : Environment) (e : Entry) → environment_does plant w (event_of e) ≡ Some (v, e) → is_event e ≡ true
  environment_event w v (entry.Start who state ns) h = absurd cc
  environment_event w v (entry.Fetch stamp m) h = refl
  environment_event w v (entry.Turn stamp from sent did ns) h = refl
  environment_event w v (entry.Post stamp m) h = refl

  step_event : (w next : World B) (x : Placed) → Happened plant w x next → is_event x.entry ≡ true
  step_event w next x (controller below s does same) = controller_event w x.party s x.entry does
  step_event w next x (environment is v does same) = environment_event w v x.entry does

  run_events : (party : ℕ) (xs : List Placed) (w end : World B) → Runs plant w xs end → AllHappen (entries_of party xs)
  run_events party [] w end r = tt
  run_events party (x ∷ xs) w end r =
      go (cases_eq party x.party) (step_event w r.0 x (happened plant w x r.0 r.2)) (run_events party xs r.0 end r.3)
    where
      go : (party ≡ x.party) ⊎ (party ≡ x.party → ⊥) → is_event x.entry ≡ true → AllHappen (entries_of party xs)
          → AllHappen (entries_of party (x ∷ xs))
      go (inl own) first rest = rw (eq-eqb party x.party own) (first, rest)
      go (inr other) first rest = rw (ne_eqb party x.party other) rest

-- what is known of each fetched message, of entries that happened
all_happened_of : (P : Msg → Type 0) (es : List Entry) → AllHappen es → ((m : Msg) → Contains (fetched es) m → P m) → AllHappened P es
all_happened_of P [] h k = tt
all_happened_of P (entry.Start who state ns ∷ es) h k = absurd cc
all_happened_of P (entry.Fetch stamp m ∷ es) h k = (k m (in_head m (fetched es)), all_happened_of P es h.1 (λ x c. k x (in_tail m (fetched es) x c)))
all_happened_of P (entry.Turn stamp from sent did ns ∷ es) h k = all_happened_of P es h.1 k
all_happened_of P (entry.Post stamp m ∷ es) h k = all_happened_of P es h.1 k

told_append : (t : Tables) (a b : List Entry) → told t (a ++ b) ≡ told t a ++ told t b
told_append t [] b = refl
told_append t (entry.Start who state ns ∷ a) b = told_append t a b
told_append t (entry.Fetch stamp m ∷ a) b = let rest = told_append t a b in λ i. Fetched (word t m) ∷ rest i
told_append t (entry.Turn stamp from sent did ns ∷ a) b = let rest = told_append t a b in λ i. Turned ∷ rest i
told_append t (entry.Post stamp m ∷ a) b = let rest = told_append t a b in λ i. Posted (decimal stamp.0) (decimal m.prio.0) ∷ rest i

-- ---- one run

module _ (plant : Plant) (lines : List Asked) (fuel : ℕ) (j : Journals) (run : IsRun plant lines fuel j) where
  abbrev n : ℕ
  n = length plant.wiring.controllers

  abbrev pub plan : RunPlant (Body Actor)
  plan = plant_of (model_of plant) plant.wiring (lines_of (items_of plant.wiring lines))

  -- what happened to a party
  abbrev pub did : ℕ → List Entry
  did party = entries_of party run.lawful.run.merge

  -- the starts in a party's journal
  abbrev pub starts : ℕ → List Entry
  starts party = if nat_lt party n then start_entries (model_of plant) plant.wiring party else []

  pub nobody : (party : ℕ) → length plant.wiring.controllers < party → journal_of j party ≡ []
  nobody party above =
      let count = run.count in
      ap (λ (b : Bool). if b then slice_index_or j.controllers party [] else if nat_lt (length j.controllers) party then [] else j.environment)
      (le-ltb party (length j.controllers) (omega (arith, count, above)))
      ∙ ap (λ (b : Bool). if b then [] else j.environment) (lt-ltb (length j.controllers) party (omega (arith, count, above)))

  pub outside : journal_of j n ≡ j.environment
  outside =
      let count = run.count in
      ap (λ (b : Bool). if b then slice_index_or j.controllers n [] else if nat_lt (length j.controllers) n then [] else j.environment)
      (le-ltb n (length j.controllers) (omega (arith, count)))
      ∙ ap (λ (b : Bool). if b then [] else j.environment) (le-ltb (length j.controllers) n (omega (arith, count)))

  pub inside : (c : ℕ) → c < n → journal_of j c ≡ slice_index_or j.controllers c []
  inside c below =
      let count = run.count in
      ap (λ (b : Bool). if b then slice_index_or j.controllers c [] else if nat_lt (length j.controllers) c then [] else j.environment)
      (lt-ltb c (length j.controllers) (omega (arith, count, below)))

  -- a journal is the starts and then what happened
  pub journal_is : (party : ℕ) → journal_of j party ≡ starts party ++ did party
  journal_is party =
      whole (model_of plant) plant.wiring (lines_of (items_of plant.wiring lines)) fuel (journal_of j) j.left run.world run.lawful nobody party

  all_happened : (party : ℕ) → AllHappen (did party)
  all_happened party = run_events plan party run.lawful.run.merge (start plan) run.lawful.run.end run.lawful.run.run

  -- who is told as a message's sender is a party
  pub is_party : (party : ℕ) (m : Msg) → Contains (fetched (journal_of j party)) m → m.from.0 ≤ n
  is_party party m h = go (cases_order m.from.0 n)
    where
      was_posted : Contains (posted (journal_of j m.from.0)) m
      was_posted = ((promises plant lines fuel j run).mail.fetched_was_posted party m h).1

      go : (m.from.0 ≡ n) ⊎ ((m.from.0 < n) ⊎ (n < m.from.0)) → m.from.0 ≤ n
      go (inl same) = omega (arith, same)
      go (inr (inl below)) = omega (arith, below)
      go (inr (inr above)) = absurd (nothing_in m (subst (λ (z : List Entry). Contains (posted z) m) (nobody m.from.0 above) was_posted))

  -- what happened, with what is known of each fetched message
  pub happened_with : (P : Msg → Type 0) (party : ℕ) → ((m : Msg) → Contains (fetched (journal_of j party)) m → P m) → AllHappened P (did party)
  happened_with P party known = all_happened_of P (did party) (all_happened party) (λ m h. known m (here m h))
    where
      here : (m : Msg) → Contains (fetched (did party)) m → Contains (fetched (journal_of j party)) m
      here m h =
          subst (λ (z : List Msg). Contains z m)
          (sym (fetched_is (model_of plant) plant.wiring (lines_of (items_of plant.wiring lines)) fuel (journal_of j) j.left run.world run.lawful nobody party)) h

  -- what its journal tells is what is told of the starts, and then of what happened
  pub told_is : (party : ℕ) → told plant.wiring (journal_of j party) ≡ told plant.wiring (starts party) ++ told plant.wiring (did party)
  told_is party = ap (told plant.wiring) (journal_is party) ∙ told_append plant.wiring (starts party) (did party)
