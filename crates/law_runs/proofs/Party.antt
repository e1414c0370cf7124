-- A lawful run, party by party.
use Rattle.std.proofs.Common.{◌≡◌, ℕ, ◌<◌, nat_lt, Bool, true, false, if◌then◌else◌, List, [], ◌∷◌, ◌++◌, length, refl, sym, ap, ◌∙◌, subst, lt-ltb, le-ltb, arith, ◌⊎◌, inl, inr}
use Rattle.std.specs.List.{AllByRecursion}
use Rattle.std.proofs.lemmas.Bool.{cases_order}
use Rattle.room_kinds.specs.declared.message.Msg.{Msg}
use Rattle.journal.specs.declared.entry.Entry.{Entry}
use Rattle.journal.specs.declared.entry.Left.{Left}
use Rattle.room_wiring.specs.declared.tables.Tables.{Tables}
use Rattle.actor_merge.specs.Mail.{Lane, taken, given}
use Rattle.actor_merge.specs.Parties.{Line, Plant, Replays}
use Rattle.actor_merge.specs.World.{World, Placed, start}
use Rattle.actor_merge.specs.Merge.{IsStamped, AllStamped, entries_of, Projects}
use Rattle.actor_merge.proofs.Back.{run_projects}
use Rattle.actor_merge.proofs.Steps.{replays_stamped}
use Rattle.actor_world.specs.Behaviour.{Behaviour}
use Rattle.actor_world.specs.Body.{Body}
use Rattle.actor_world.specs.Start.{start_entries, first_state, plant_of}
use Rattle.actor_world.specs.Journals.{IsLawfulRun}
use Rattle.actor_world.specs.world_laws.Whereabouts.{fetched}
use Rattle.law_runs.specs.Mail.{posted}
use Rattle.law_runs.proofs.Starts.{AllStarts, start_entries_start, fetched_after, posted_after}
use Rattle.law_runs.proofs.Lines.{PostsLines, environment_posts, nobody_else, all_posts}
use Rattle.law_runs.proofs.Stamps.{IsFrom, replay_from}

module _ {M : Type 0} (model : Behaviour M) (t : Tables) (lines : List Line) (fuel : ℕ) (journals : ℕ → List Entry) (left_over : List Left) (w : World (Body M))
    (lawful : IsLawfulRun model t lines fuel journals left_over w) (nobody : (party : ℕ) → length t.controllers < party → journals party ≡ []) where
  abbrev pub n : ℕ
  n = length t.controllers

  abbrev pub plan : Plant (Body M)
  plan = plant_of model t lines

  abbrev pub merge : List Placed
  merge = lawful.run.merge

  -- what happened to a party
  abbrev pub happened : ℕ → List Entry
  happened party = entries_of party merge

  abbrev pub starts : ℕ → List Entry
  starts party = if nat_lt party n then start_entries model t party else []

  pub starts_start : (party : ℕ) → AllStarts (starts party)
  starts_start party = go (nat_lt party n)
    where
      go : (b : Bool) → AllStarts (if b then start_entries model t party else [])
      go true = start_entries_start model t party
      go false = tt

  pub own : (c : ℕ) → c < n → journals c ≡ start_entries model t c ++ happened c
  own c below = lawful.begins c below ∙ ap (λ (z : List Entry). start_entries model t c ++ z) (sym (lawful.run.is.whole c))

  pub nothing : (party : ℕ) → n < party → happened party ≡ []
  nothing party above = nobody_else plan party above merge (start plan) lawful.run.end lawful.run.run

  pub whole : (party : ℕ) → journals party ≡ starts party ++ happened party
  whole party = go (cases_order party n)
    where
      go : (party ≡ n) ⊎ ((party < n) ⊎ (n < party)) → journals party ≡ starts party ++ happened party
      go (inr (inl below)) = own party below ∙ ap (λ (b : Bool). (if b then start_entries model t party else []) ++ happened party) (sym (lt-ltb party n below))
      go (inl same) =
          ap journals same ∙ lawful.environment ∙ sym (lawful.run.is.whole n) ∙ ap happened (sym same)
          ∙ ap (λ (b : Bool). (if b then start_entries model t party else []) ++ happened party) (sym (le-ltb party n (omega (arith, same))))
      go (inr (inr above)) =
          nobody party above ∙ sym (nothing party above)
          ∙ ap (λ (b : Bool). (if b then start_entries model t party else []) ++ happened party) (sym (le-ltb party n (omega (arith, above))))

  pub fetched_is : (party : ℕ) → fetched (journals party) ≡ fetched (happened party)
  fetched_is party = ap fetched (whole party) ∙ fetched_after (starts party) (happened party) (starts_start party)

  pub posted_is : (party : ℕ) → posted (journals party) ≡ posted (happened party)
  posted_is party = ap posted (whole party) ∙ posted_after (starts party) (happened party) (starts_start party)

  projects : Projects plan (start plan) merge lawful.run.end
  projects = run_projects plan (start plan) merge lawful.run.end lawful.run.run

  -- each controller's entries are its own replay
  pub replay : (c : ℕ) → c < n → Replays plan c (first_state model t c) (happened c) (lawful.run.end.controllers c)
  replay c below = projects.controllers c below

  -- each lane is a queue
  pub queue : (l : Lane) → given l l.sender (happened l.sender) ≡ taken l l.receiver (happened l.receiver) ++ w.lanes l
  queue l = projects.lanes l ∙ ap (λ (z : List Msg). taken l l.receiver (happened l.receiver) ++ z) (lawful.run.same.lanes l)

  -- the environment posts its lines
  pub environment_lines : PostsLines plan 0 (happened n) w.environment.posted
  environment_lines =
      subst (PostsLines plan 0 (happened n)) (ap (λ (z : _). z.posted) lawful.run.same.environment)
      (environment_posts plan merge (start plan) lawful.run.end lawful.run.run)

  -- what holds of each entry of a party
  of_each : (Q : ℕ → Entry → Type 0) → ((c : ℕ) → c < n → AllByRecursion (Q c) (happened c)) → AllByRecursion (Q n) (happened n)
      → (party : ℕ) → AllByRecursion (Q party) (happened party)
  of_each Q controllers outside party = go (cases_order party n)
    where
      go : (party ≡ n) ⊎ ((party < n) ⊎ (n < party)) → AllByRecursion (Q party) (happened party)
      go (inr (inl below)) = controllers party below
      go (inl same) = subst (λ (z : ℕ). AllByRecursion (Q z) (happened z)) (sym same) outside
      go (inr (inr above)) = subst (AllByRecursion (Q party)) (sym (nothing party above)) tt

  all_stamped_of : (es : List Entry) → AllStamped es → AllByRecursion IsStamped es
  all_stamped_of [] h = tt
  all_stamped_of (e ∷ es) h = (h.0, all_stamped_of es h.1)

  all_stamped : (es : List Entry) → AllByRecursion IsStamped es → AllStamped es
  all_stamped [] h = tt
  all_stamped (e ∷ es) h = (h.0, all_stamped es h.1)

  pub stamped : (party : ℕ) → AllStamped (happened party)
  stamped party =
      all_stamped (happened party)
      (of_each (λ (z : ℕ). IsStamped)
      (λ c below. all_stamped_of (happened c) (replays_stamped plan c (first_state model t c) (happened c) (lawful.run.end.controllers c) (replay c below)))
      (all_posts plan IsStamped (λ stamp m. refl) (happened n) 0 w.environment.posted environment_lines)
      party)

  pub from_own : (party : ℕ) → AllByRecursion (IsFrom party) (happened party)
  from_own =
      of_each IsFrom
      (λ c below. replay_from plan c (first_state model t c) (happened c) (lawful.run.end.controllers c) (replay c below))
      (all_posts plan (IsFrom n) (λ stamp m. refl) (happened n) 0 w.environment.posted environment_lines)
