-- The journals of every run are in place.
use Rattle.std.proofs.Common.{◌≡◌, ℕ, zero, suc, ◌+◌, ◌<◌, ◌≤◌, ◌==◌, nat_le, nat_lt, Bool, true, false, not, if◌then◌else◌, List, [], ◌∷◌, ◌++◌, Option, Some, length, map, slice_get, slice_index_or, refl, sym, ap, ◌∙◌, subst, eq-eqb, eqb-true, leb-true, le-leb, lt-ltb, arith, ◌⊎◌, inl, inr}
use Rattle.std.specs.List.{AllByRecursion as Each, All, Contains, flat_map, range_with_len}
use Rattle.std.specs.List.Sorted.{IsNonDecreasing}
use Rattle.std.specs.Prelude.{unwrap_or}
use Rattle.std.proofs.lemmas.Bool.{cases_order}
use Rattle.std.proofs.lemmas.Option.{slice_get_within, unwrap_or-slice_get}
use Rattle.std.proofs.lemmas.List.Elements.{All-from_recursion}
use Rattle.room_kinds.specs.declared.message.Msg.{Msg}
use Rattle.room_wiring.specs.declared.tables.Tables.{Tables}
use Rattle.journal.specs.Fits.{IsParty, left_rank}
use Rattle.journal.specs.declared.entry.Entry.{Entry}
use Rattle.journal.specs.declared.entry.Journals.{Journals}
use Rattle.journal.specs.declared.entry.Left.{Left}
use Rattle.inject_reader.specs.declared.inject_lines.accepted.Line.{Line}
use Rattle.actor_merge.specs.Mail.{lane, taken, given}
use Rattle.actor_merge.specs.Parties.{Plant as RunPlant, State}
use Rattle.actor_merge.specs.World.{World}
use Rattle.actor_world.specs.Body.{Body}
use Rattle.actor_world.specs.Journals.{lines_of, priorities, left, left_for, left_of}
use Rattle.actor_world.specs.Start.{first_state, plant_of}
use Rattle.actor_world.specs.world_laws.Counting.{count, of_priority}
use Rattle.actor_world.specs.world_laws.Whereabouts.{fetched, AddsUp, done_with}
use Rattle.actor_world.proofs.world_laws.Adding.{adds_up}
use Rattle.chart_behaviour.specs.ModelCharts.{Actor}
use Rattle.chart_behaviour.proofs.Charts.{are_modest}
use Rattle.chart_behaviour.proofs.chart_defers.Defers.{tell_defers}
use Rattle.controller_actors.specs.Plants.{model_of}
use Rattle.controller_actors.specs.declared.plant.Plant.{Plant}
use Rattle.model_run.specs.part_posts.Items.{items_of}
use Rattle.model_run.specs.run_ends.Runs.{journal_of, IsRun}
use Rattle.law_runs.specs.Mail.{posted}
use Rattle.law_runs.specs.Promises.{RunPromises}
use Rattle.law_runs.proofs.Party.{fetched_is}
use Rattle.law_runs.proofs.PromisesLaw.{promises}
use Rattle.law_runs.proofs.run_texts.Party.{did, nobody, outside}
use Rattle.law_runs.specs.run_journals.InPlace.{IsFetchedBy, IsPostedBy, ComesFromParty, IsPost, IsLeftInPlace, OfControllers, AreInPlace}
use Rattle.law_runs.proofs.run_journals.Climbing.{left_climbs}
use Rattle.law_runs.proofs.run_journals.Entries.{each_fetched, fetched_by, posted_by, from_parties}
use Rattle.law_runs.proofs.run_journals.OnePost.{none_in}
use Rattle.law_runs.proofs.run_journals.OneRun.{replay, queue, from_own, environment_posts}
use Rattle.law_runs.proofs.run_journals.Waiting.{GoesBy, none_counted, all_counted, given_goes, each_behind, each_weaker}

pub each_append : {X : Type 0} (P : X → Type 0) (xs ys : List X) → Each P xs → Each P ys → Each P (xs ++ ys)
each_append P [] ys h k = k
each_append P (x ∷ xs) ys h k = (h.0, each_append P xs ys h.1 k)

pub each_flat : {X Y : Type 0} (P : Y → Type 0) (Q : X → Type 0) (f : X → List Y) → ((x : X) → Q x → Each P (f x)) → (xs : List X) → Each Q xs → Each P (flat_map f xs)
each_flat P Q f h [] q = tt
each_flat P Q f h (x ∷ xs) q = each_append P (f x) (flat_map f xs) (h x q.0) (each_flat P Q f h xs q.1)

pub each_map : {X Y : Type 0} (P : Y → Type 0) (Q : X → Type 0) (f : X → Y) → ((x : X) → Q x → P (f x)) → (xs : List X) → Each Q xs → Each P (map f xs)
each_map P Q f h [] q = tt
each_map P Q f h (x ∷ xs) q = (h x q.0, each_map P Q f h xs q.1)

-- the numbers of a range are below its end
pub below_end : (n at k : ℕ) → at + k ≤ n → Each (λ (i : ℕ). i < n) (range_with_len at k)
below_end n at zero l = tt
below_end n at (suc k) l = (omega (arith, l), below_end n (at + 1) k (omega (arith, l)))

-- two facts of each at once
each_and : {X : Type 0} (P Q : X → Type 0) (xs : List X) → Each P xs → Each Q xs → Each (λ x. P x × Q x) xs
each_and P Q [] h k = tt
each_and P Q (x ∷ xs) h k = ((h.0, k.0), each_and P Q xs h.1 k.1)

module _ (plant : Plant) (lines : List Line) (fuel : ℕ) (j : Journals) (run : IsRun plant lines fuel j) where
  abbrev t : Tables
  t = plant.wiring

  abbrev js : ℕ → List Entry
  js = journal_of j

  abbrev w : World (Body Actor)
  w = run.world

  kept : RunPromises plant lines fuel j
  kept = promises plant lines fuel j run

  -- ---- the journals of controllers

  pub known : (party : ℕ) (m : Msg) → Contains (fetched (journal_of j party)) m → IsParty plant.wiring m.from.0
  known party m there = go (cases_order m.from.0 (length plant.wiring.controllers))
    where
      posted_there : Contains (posted (journal_of j m.from.0)) m
      posted_there = (kept.mail.fetched_was_posted party m there).1

      go : (m.from.0 ≡ length plant.wiring.controllers) ⊎ ((m.from.0 < length plant.wiring.controllers) ⊎ (length plant.wiring.controllers < m.from.0)) → IsParty plant.wiring m.from.0
      go (inl same) = record { known = omega (arith, same) }
      go (inr (inl below)) = record { known = omega (arith, below) }
      go (inr (inr above)) = absurd (none_in m (subst (λ (z : List Entry). Contains (posted z) m) (nobody plant lines fuel j run m.from.0 above) posted_there))

  pub journal_is : (c : ℕ) (es : List Entry) → slice_get j.controllers c ≡ Some es → journal_of j c ≡ es
  journal_is c es there =
      ap (λ (b : Bool). if b then slice_index_or j.controllers c [] else if nat_lt (length j.controllers) c then [] else j.environment)
      (lt-ltb c (length j.controllers) (slice_get_within j.controllers c es there))
      ∙ sym (unwrap_or-slice_get j.controllers c []) ∙ ap (λ (o : Option (List Entry)). unwrap_or o []) there

  pub of_each : (P : ℕ → Entry → Type 0) → ((c : ℕ) → c < length j.controllers → Each (P c) (journal_of j c)) → OfControllers j P
  of_each P h c es there =
      All-from_recursion (P c) es (subst (Each (P c)) (journal_is c es there) (h c (slice_get_within j.controllers c es there)))

  fetched_here : OfControllers j IsFetchedBy
  fetched_here = of_each IsFetchedBy (λ c below. fetched_by c (journal_of j c) (λ m there. (kept.mail.fetched_was_posted c m there).0))

  posted_here : OfControllers j IsPostedBy
  posted_here = of_each IsPostedBy (λ c below. posted_by c (journal_of j c) (kept.stamps.stamped c) (kept.mail.names_sender c))

  parties : OfControllers j (λ c. ComesFromParty plant.wiring)
  parties = of_each (λ c. ComesFromParty plant.wiring) (λ c below. from_parties plant.wiring (journal_of j c) (kept.turns c below) (known c) [] (journal_of j c) refl)

  -- ---- the environment's

  environment_sends : Each (IsPostedBy (length plant.wiring.controllers)) j.environment
  environment_sends =
      subst (Each (IsPostedBy (length plant.wiring.controllers))) (outside plant lines fuel j run)
      (posted_by (length plant.wiring.controllers) (journal_of j (length plant.wiring.controllers)) (kept.stamps.stamped (length plant.wiring.controllers)) (kept.mail.names_sender (length plant.wiring.controllers)))

  -- ---- what is left

  module _ (c : ℕ) (below : c < length plant.wiring.controllers) where
    pub adds : AddsUp plant.wiring (fetched (did plant lines fuel j run c)) (run.world.controllers c)
        (done_with (plant_of (model_of plant) plant.wiring (lines_of (items_of plant.wiring lines))) plant.wiring c (first_state (model_of plant) plant.wiring c) (did plant lines fuel j run c))
    adds =
        subst (λ (s : State (Body Actor)). AddsUp plant.wiring (fetched (did plant lines fuel j run c)) s
        (done_with (plant_of (model_of plant) plant.wiring (lines_of (items_of plant.wiring lines))) plant.wiring c (first_state (model_of plant) plant.wiring c) (did plant lines fuel j run c)))
        (run.lawful.run.same.controllers c below)
        (adds_up (model_of plant) plant.wiring (lines_of (items_of plant.wiring lines)) c (are_modest plant.wiring plant.tables.items) (tell_defers plant.wiring plant.tables.items)
        (did plant lines fuel j run c) (run.lawful.run.end.controllers c) (replay plant lines fuel j run c below))

    -- what is so of all that was fetched is so of all that is pending
    pending_ok : (ok : Msg → Bool) → ((m : Msg) → Contains (fetched (journal_of j c)) m → ok m ≡ true) → (p : ℕ) → Each (λ (m : Msg). ok m ≡ true) ((run.world.controllers c).pending p)
    pending_ok ok h p =
        let same : fetched (journal_of j c) ≡ fetched (did plant lines fuel j run c) =
        fetched_is (model_of plant) plant.wiring (lines_of (items_of plant.wiring lines)) fuel (journal_of j) j.left run.world run.lawful (nobody plant lines fuel j run) c in
        let none : count (of_priority p (λ (m : Msg). not (ok m))) (fetched (did plant lines fuel j run c)) ≡ 0 =
        subst (λ (z : List Msg). count (of_priority p (λ (m : Msg). not (ok m))) z ≡ 0) same
        (none_counted p ok (fetched (journal_of j c)) (each_fetched (λ (m : Msg). ok m ≡ true) (fetched (journal_of j c)) h)) in
        let sum = adds.counts (λ (m : Msg). not (ok m)) p in
        all_counted p ok ((run.world.controllers c).pending p) (adds.ranked p) (omega (arith, none, sum))

    pending_in_place : (p : ℕ) → p < 6 → Each (λ (m : Msg). IsLeftInPlace plant.wiring (left c true m)) ((run.world.controllers c).pending p)
    pending_in_place p low =
        each_weaker (λ (m : Msg). ((m.to.0 == c) ≡ true) × ((nat_le m.from.0 (length plant.wiring.controllers) ≡ true) × (m.prio.0 ≡ p))) (λ (m : Msg). IsLeftInPlace plant.wiring (left c true m))
        (λ m k.
        let priority : m.prio.0 ≡ p = k.1.1 in
        record {
          receiver = eqb-true m.to.0 c k.0;
          controller = below;
          sender = record { known = leb-true m.from.0 (length plant.wiring.controllers) k.1.0 };
          priority = omega (arith, priority, low);
        })
        ((run.world.controllers c).pending p)
        (each_and (λ (m : Msg). (m.to.0 == c) ≡ true) (λ (m : Msg). (nat_le m.from.0 (length plant.wiring.controllers) ≡ true) × (m.prio.0 ≡ p)) ((run.world.controllers c).pending p)
        (pending_ok (λ (m : Msg). m.to.0 == c) (λ m there. eq-eqb m.to.0 c (kept.mail.fetched_was_posted c m there).0) p)
        (each_and (λ (m : Msg). nat_le m.from.0 (length plant.wiring.controllers) ≡ true) (λ (m : Msg). m.prio.0 ≡ p) ((run.world.controllers c).pending p)
        (pending_ok (λ (m : Msg). nat_le m.from.0 (length plant.wiring.controllers)) (λ m there. le-leb m.from.0 (length plant.wiring.controllers) (known c m there).known) p)
        (adds.ranked p)))

  lane_goes : (s c p : ℕ) → Each (GoesBy (lane s c p)) (run.world.lanes (lane s c p))
  lane_goes s c p =
      each_behind (GoesBy (lane s c p)) (taken (lane s c p) c (did plant lines fuel j run c)) (run.world.lanes (lane s c p))
      (subst (Each (GoesBy (lane s c p))) (queue plant lines fuel j run (lane s c p)) (given_goes (lane s c p) (did plant lines fuel j run s) (from_own plant lines fuel j run s)))

  lane_in_place : (c s p : ℕ) → c < length plant.wiring.controllers → s ≤ length plant.wiring.controllers → p < 6
      → Each (λ (m : Msg). IsLeftInPlace plant.wiring (left c false m)) (run.world.lanes (lane s c p))
  lane_in_place c s p below known low =
      each_weaker (GoesBy (lane s c p)) (λ (m : Msg). IsLeftInPlace plant.wiring (left c false m))
      (λ m g.
      let from : m.from.0 ≡ s = g.sender in
      let priority : m.prio.0 ≡ p = g.priority in
      record {
        receiver = g.receiver;
        controller = below;
        sender = record { known = omega (arith, from, known) };
        priority = omega (arith, priority, low);
      })
      (run.world.lanes (lane s c p)) (lane_goes s c p)

  abbrev all_waiting : ℕ → List Left
  all_waiting c = flat_map (λ p. map (left c true) ((run.world.controllers c).pending p)) priorities

  abbrev all_travelling : ℕ → List Left
  all_travelling c =
      flat_map (λ p. flat_map (λ s. map (left c false) (run.world.lanes (lane s c p))) (length plant.wiring.controllers ∷ range_with_len 0 (length plant.wiring.controllers))) priorities

  waiting_for_one : (c : ℕ) → c < length plant.wiring.controllers → Each (IsLeftInPlace plant.wiring) (all_waiting c)
  waiting_for_one c below =
      each_flat (IsLeftInPlace plant.wiring) (λ (p : ℕ). p < 6) (λ p. map (left c true) ((run.world.controllers c).pending p))
      (λ p low. each_map (IsLeftInPlace plant.wiring) (λ (m : Msg). IsLeftInPlace plant.wiring (left c true m)) (left c true) (λ m h. h) ((run.world.controllers c).pending p) (pending_in_place c below p low))
      priorities (below_end 6 0 6 (omega arith))

  senders : Each (λ (s : ℕ). s ≤ length plant.wiring.controllers) (length plant.wiring.controllers ∷ range_with_len 0 (length plant.wiring.controllers))
  senders = (
    omega arith,
    each_weaker (λ (s : ℕ). s < length plant.wiring.controllers) (λ (s : ℕ). s ≤ length plant.wiring.controllers) (λ s h. omega (arith, h)) (range_with_len 0 (length plant.wiring.controllers))
        (below_end (length plant.wiring.controllers) 0 (length plant.wiring.controllers) (omega arith)),
  )

  travelling_for_one : (c : ℕ) → c < length plant.wiring.controllers → Each (IsLeftInPlace plant.wiring) (all_travelling c)
  travelling_for_one c below =
      each_flat (IsLeftInPlace plant.wiring) (λ (p : ℕ). p < 6)
      (λ p. flat_map (λ s. map (left c false) (run.world.lanes (lane s c p))) (length plant.wiring.controllers ∷ range_with_len 0 (length plant.wiring.controllers)))
      (λ p low.
      each_flat (IsLeftInPlace plant.wiring) (λ (s : ℕ). s ≤ length plant.wiring.controllers) (λ s. map (left c false) (run.world.lanes (lane s c p)))
      (λ s known. each_map (IsLeftInPlace plant.wiring) (λ (m : Msg). IsLeftInPlace plant.wiring (left c false m)) (left c false) (λ m h. h) (run.world.lanes (lane s c p)) (lane_in_place c s p below known low))
      (length plant.wiring.controllers ∷ range_with_len 0 (length plant.wiring.controllers)) senders)
      priorities (below_end 6 0 6 (omega arith))

  left_for_one : (c : ℕ) → c < length plant.wiring.controllers → Each (IsLeftInPlace plant.wiring)
      (left_for (plant_of (model_of plant) plant.wiring (lines_of (items_of plant.wiring lines))) run.world c)
  left_for_one c below = each_append (IsLeftInPlace plant.wiring) (all_waiting c) (all_travelling c) (waiting_for_one c below) (travelling_for_one c below)

  all_left : Each (IsLeftInPlace plant.wiring) (left_of (plant_of (model_of plant) plant.wiring (lines_of (items_of plant.wiring lines))) run.world)
  all_left =
      each_flat (IsLeftInPlace plant.wiring) (λ (c : ℕ). c < length plant.wiring.controllers)
      (left_for (plant_of (model_of plant) plant.wiring (lines_of (items_of plant.wiring lines))) run.world) left_for_one
      (range_with_len 0 (length plant.wiring.controllers)) (below_end (length plant.wiring.controllers) 0 (length plant.wiring.controllers) (omega arith))

  pub placed : AreInPlace plant.wiring j
  placed = record {
    one_each = run.count;
    fetched_by_receiver = fetched_here;
    sent_by_parties = parties;
    posted_by_sender = posted_here;
    environment_posts = All-from_recursion IsPost j.environment (environment_posts plant lines fuel j run);
    environment_is_sender = All-from_recursion (IsPostedBy (length plant.wiring.controllers)) j.environment environment_sends;
    left = All-from_recursion (IsLeftInPlace plant.wiring) j.left (subst (Each (IsLeftInPlace plant.wiring)) (sym run.lawful.left_is) all_left);
    left_in_order =
        subst (λ (z : List Left). IsNonDecreasing (map (left_rank plant.wiring) z)) (sym run.lawful.left_is)
        (left_climbs plant.wiring (plant_of (model_of plant) plant.wiring (lines_of (items_of plant.wiring lines))) refl run.world
        (λ c p below. (adds c below).ranked p)
        (λ s c p. each_weaker (GoesBy (lane s c p)) (λ (m : Msg). (m.from.0 ≡ s) × (m.prio.0 ≡ p)) (λ m g. (g.sender, g.priority)) (run.world.lanes (lane s c p)) (lane_goes s c p)));
  }

pub in_place : (plant : Plant) (lines : List Line) (fuel : ℕ) (j : Journals) → IsRun plant lines fuel j → AreInPlace plant.wiring j
in_place plant lines fuel j run = placed plant lines fuel j run
