-- Journals of a run of a plant that fits, over lines that fit, fit the wiring.
use Rattle.std.proofs.Common.{◌≡◌, ℕ, zero, suc, ◌<◌, Bool, true, false, not, if◌then◌else◌, List, [], ◌∷◌, ◌++◌, length, map, slice_get, slice_index_or, Option, Some, None, refl, sym, ap, ◌∙◌, subst, arith, ◌⊎◌, inl, inr}
use Rattle.std.specs.List.{AllByRecursion as Each, All, Contains, flat_map, range_with_len}
use Rattle.std.proofs.lemmas.Bool.{cases_order}
use Rattle.std.proofs.lemmas.List.Elements.{All-from_recursion, recursion_from_All, All-contains}
use Rattle.room_kinds.specs.declared.message.Msg.{Msg}
use Rattle.room_kinds.specs.declared.numbers.Endpoint.{Endpoint}
use Rattle.room_wiring.specs.declared.tables.Tables.{Tables}
use Rattle.journal.specs.Fits.{FitsEndpoint, FitsSource, FitsMessage, FitsDid, FitsEntry, FitsEnvironment, FitsLeft, Fits}
use Rattle.journal.specs.declared.entry.Did.{Did}
use Rattle.journal.specs.declared.entry.Did.TheVariants as outcomes
use Rattle.journal.specs.declared.entry.Entry.{Entry}
use Rattle.journal.specs.declared.entry.Entry.TheVariants as entry
use Rattle.journal.specs.declared.entry.Journals.{Journals}
use Rattle.journal.specs.declared.entry.Left.{Left}
use Rattle.inject_reader.specs.declared.inject_lines.accepted.Line.{Line}
use Rattle.actor_merge.specs.Mail.{Lane, lane, is_lane, given, taken}
use Rattle.actor_world.specs.Journals.{lines_of, priorities, left, left_for, left_of}
use Rattle.actor_world.specs.Start.{plant_of}
use Rattle.actor_world.specs.world_laws.Counting.{count, of_priority}
use Rattle.actor_world.specs.world_laws.Whereabouts.{fetched}
use Rattle.controller_actors.specs.Plants.{model_of}
use Rattle.controller_actors.specs.declared.plant.Plant.{Plant}
use Rattle.model_run.specs.part_posts.Items.{items_of}
use Rattle.model_run.specs.run_ends.Runs.{journal_of, IsRun}
use Rattle.law_runs.specs.Mail.{posted}
use Rattle.law_runs.proofs.Party.{fetched_is, posted_is}
use Rattle.law_runs.proofs.PromisesLaw.{promises}
use Rattle.law_runs.proofs.run_texts.Party.{did, nobody, outside}
use Rattle.law_runs.specs.run_journals.InPlace.{IsFetchedBy, IsPostedBy, ComesFromParty, IsLeftInPlace}
use Rattle.law_runs.specs.run_journals.Reaching.{NamesReceiver}
use Rattle.law_runs.proofs.run_journals.Entries.{each_fetched}
use Rattle.law_runs.proofs.run_journals.InPlaceLaw.{adds, journal_is, each_flat, each_map, each_append, below_end}
use Rattle.law_runs.proofs.run_journals.OnePost.{none_in, as_first, as_later}
use Rattle.law_runs.proofs.run_journals.OneRun.{queue}
use Rattle.law_runs.proofs.run_journals.Waiting.{all_counted, each_behind, each_weaker}
use Rattle.inject_reader.specs.Fitting.{LinesFit}
use Rattle.room_run.specs.fitting_plants.Plants.{PlantFits}
use Rattle.room_run.specs.fitting_journals.Fitting.{JournalsInPlace, FittingRunsAreInPlace, FittingJournalsFit}
use Rattle.room_run.specs.fitting_journals.Actors.{FitsActor, TellsOfActors}
use Rattle.room_run.specs.fitting_journals.Places.{WasLinked, FitsPlace, SourceFits, FitsNobody, NamesItsPlaces}
use Rattle.room_run.specs.fitting_journals.Signals.{NamesSignal}
use Rattle.room_run.proofs.fitting_journals.Testing.{passes, passed, is_fit, none_counted_at}

-- ---- entries

-- the messages of an entry fit
abbrev MessageFits : Tables → Entry → Type 0
MessageFits t (entry.Fetch stamp m) = FitsMessage t m
MessageFits t (entry.Post stamp m) = FitsMessage t m
MessageFits t (entry.Start who state notes) = Unit {0}
MessageFits t (entry.Turn stamp from sent did notes) = Unit {0}

-- what a turn did, by whom it was for
did_fits : (t : Tables) (did : Did) → FitsActor t did → FitsNobody t did → FitsDid t did
did_fits t outcomes.Duty a n = tt
did_fits t (outcomes.Handled who state) a n = a
did_fits t (outcomes.Deferred who state) a n = a
did_fits t (outcomes.Unhandled who state) a n = a
did_fits t (outcomes.Stale target) a n = a
did_fits t (outcomes.Empty target) a n = n

one_fits : (t : Tables) (j : Journals) (c : ℕ) (e : Entry) → IsFetchedBy c e → ComesFromParty t e → IsPostedBy c e → TellsOfActors t e → NamesItsPlaces t j e → MessageFits t e → FitsEntry t c e
one_fits t j c (entry.Start who state notes) f p o a n m = a
one_fits t j c (entry.Fetch stamp x) f p o a n m = (f, m)
one_fits t j c (entry.Turn stamp from sent did notes) f p o a n m = (p, did_fits t did a.0 n, a.1)
one_fits t j c (entry.Post stamp x) f p o a n m = record { message = m; own = o.0; stamped = o.1 }

messages_fit : (t : Tables) (es : List Entry) → ((m : Msg) → Contains (fetched es) m → FitsMessage t m) → ((m : Msg) → Contains (posted es) m → FitsMessage t m)
    → Each (MessageFits t) es
messages_fit t [] f p = tt
messages_fit t (entry.Start who state notes ∷ es) f p = (tt, messages_fit t es f p)
messages_fit t (entry.Turn stamp from sent did notes ∷ es) f p = (tt, messages_fit t es f p)
messages_fit t (entry.Fetch stamp m ∷ es) f p = (f m (as_first m (fetched es)), messages_fit t es (λ x there. f x (as_later m (fetched es) x there)) p)
messages_fit t (entry.Post stamp m ∷ es) f p = (p m (as_first m (posted es)), messages_fit t es f (λ x there. p x (as_later m (posted es) x there)))

-- a place of a port is one of a port of a slot
place_fits : (t : Tables) (linked : ℕ → ℕ → ℕ → Type 0) (prio : ℕ) (e : Endpoint) → FitsPlace t linked prio e → FitsEndpoint t e
place_fits t linked prio e h = record { slot = h.slot; port = h.port }

source_fits : (t : Tables) (linked : ℕ → ℕ → ℕ → Type 0) (prio : ℕ) (o : Option Endpoint) → SourceFits t linked prio o → FitsSource t o
source_fits t linked prio None h = tt
source_fits t linked prio (Some e) h = place_fits t linked prio e h

-- what a controller posts fits
posts_fit : (t : Tables) (j : Journals) (c : ℕ) → c < length t.controllers → (es : List Entry) → Each (IsPostedBy c) es → Each (NamesReceiver t) es → Each (NamesItsPlaces t j) es
    → Each (NamesSignal t) es → Each (FitsMessage t) (posted es)
posts_fit t j c below [] o r p n = tt
posts_fit t j c below (entry.Start who state notes ∷ es) o r p n = posts_fit t j c below es o.1 r.1 p.1 n.1
posts_fit t j c below (entry.Turn stamp from sent did notes ∷ es) o r p n = posts_fit t j c below es o.1 r.1 p.1 n.1
posts_fit t j c below (entry.Fetch stamp m ∷ es) o r p n = posts_fit t j c below es o.1 r.1 p.1 n.1
posts_fit t j c below (entry.Post stamp m ∷ es) o r p n =
    let own : m.from.0 ≡ c = o.0.0 in (
      record {
        from = record { known = omega (arith, own, below) };
        to = r.0.controller;
        source = source_fits t (WasLinked j) m.prio.0 m.source p.0.source;
        target = place_fits t (WasLinked j) m.prio.0 m.target p.0.target;
        signal = n.0;
      },
      posts_fit t j c below es o.1 r.1 p.1 n.1,
    )

-- what the environment posts
outside_fits : (t : Tables) (es : List Entry) → Each (FitsEnvironment t) es → Each (FitsMessage t) (posted es)
outside_fits t [] h = tt
outside_fits t (entry.Start who state notes ∷ es) h = absurd h.0
outside_fits t (entry.Turn stamp from sent did notes ∷ es) h = absurd h.0
outside_fits t (entry.Fetch stamp m ∷ es) h = absurd h.0
outside_fits t (entry.Post stamp m ∷ es) h = (h.0.message, outside_fits t es h.1)

-- what goes by a lane was posted
given_fits : (P : Msg → Type 0) (l : Lane) (party : ℕ) (es : List Entry) → Each P (posted es) → Each P (given l party es)
given_fits P l party [] h = tt
given_fits P l party (entry.Start who state notes ∷ es) h = given_fits P l party es h
given_fits P l party (entry.Turn stamp from sent did notes ∷ es) h = given_fits P l party es h
given_fits P l party (entry.Fetch stamp m ∷ es) h = given_fits P l party es h
given_fits P l party (entry.Post stamp m ∷ es) h = go (is_lane l (lane party m.to.0 m.prio.0)) (given_fits P l party es h.1)
  where
    go : (b : Bool) → Each P (given l party es) → Each P ((if b then m ∷ [] else []) ++ given l party es)
    go true rest = (h.0, rest)
    go false rest = rest

each_has : {X : Type 0} (P : X → Type 0) (xs : List X) (x : X) → Each P xs → Contains xs x → P x
each_has P xs x h there = All-contains P xs x (All-from_recursion P xs h) there

missing : {X : Type 0} (xs : List X) (c : ℕ) → c < length xs → slice_get xs c ≡ None → ⊥
missing [] c b e = omega (arith, b)
missing (x ∷ xs) zero b e = absurd cc
missing (x ∷ xs) (suc c) b e = missing xs c (omega (arith, b)) e

module _ (law : FittingRunsAreInPlace) (plant : Plant) (lines : List Line) (fuel : ℕ) (j : Journals) (fits : PlantFits plant) (fit : LinesFit plant.wiring lines)
    (run : IsRun plant lines fuel j) where
  so_far : JournalsInPlace plant.wiring j
  so_far = law plant lines fuel j fits fit run

  -- the journal of a controller stands among them
  stands : (c : ℕ) → c < length plant.wiring.controllers → slice_get j.controllers c ≡ Some (journal_of j c)
  stands c below = go (slice_get j.controllers c) refl
    where
      within : c < length j.controllers
      within = let count = run.count in omega (arith, count, below)

      go : (o : Option (List Entry)) → slice_get j.controllers c ≡ o → slice_get j.controllers c ≡ Some (journal_of j c)
      go None e = absurd (missing j.controllers c within e)
      go (Some es) e = e ∙ ap Some (sym (journal_is plant lines fuel j run c es e))

  of_one : (P : ℕ → Entry → Type 0) → ((c : ℕ) (es : List Entry) → slice_get j.controllers c ≡ Some es → All (P c) es)
      → (c : ℕ) → c < length plant.wiring.controllers → Each (P c) (journal_of j c)
  of_one P h c below = recursion_from_All (P c) (journal_of j c) (h c (journal_of j c) (stands c below))

  posted_fit : (party : ℕ) (m : Msg) → Contains (posted (journal_of j party)) m → FitsMessage plant.wiring m
  posted_fit party m there = go (cases_order party (length plant.wiring.controllers))
    where
      go : (party ≡ length plant.wiring.controllers) ⊎ ((party < length plant.wiring.controllers) ⊎ (length plant.wiring.controllers < party)) → FitsMessage plant.wiring m
      go (inl same) =
          each_has (FitsMessage plant.wiring) (posted j.environment) m
          (outside_fits plant.wiring j.environment (recursion_from_All (FitsEnvironment plant.wiring) j.environment so_far.environment))
          (subst (λ (z : List Entry). Contains (posted z) m) (ap (journal_of j) same ∙ outside plant lines fuel j run) there)
      go (inr (inl below)) =
          each_has (FitsMessage plant.wiring) (posted (journal_of j party)) m
          (posts_fit plant.wiring j party below (journal_of j party) (of_one IsPostedBy so_far.in_place.posted_by_sender party below)
          (of_one (λ c. NamesReceiver plant.wiring) so_far.receivers party below) (of_one (λ c. NamesItsPlaces plant.wiring j) so_far.places party below)
          (of_one (λ c. NamesSignal plant.wiring) so_far.signals party below)) there
      go (inr (inr above)) = absurd (none_in m (subst (λ (z : List Entry). Contains (posted z) m) (nobody plant lines fuel j run party above) there))

  fetched_fit : (party : ℕ) (m : Msg) → Contains (fetched (journal_of j party)) m → FitsMessage plant.wiring m
  fetched_fit party m there = posted_fit m.from.0 m ((promises plant lines fuel j run).mail.fetched_was_posted party m there).1

  entries_fit : (c : ℕ) (es : List Entry) → slice_get j.controllers c ≡ Some es → All (FitsEntry plant.wiring c) es
  entries_fit c es there k d low =
      let same : journal_of j c ≡ es = journal_is plant lines fuel j run c es there in
      let messages : All (MessageFits plant.wiring) es =
      All-from_recursion (MessageFits plant.wiring) es (messages_fit plant.wiring es
      (λ m h. fetched_fit c m (subst (λ (z : List Entry). Contains (fetched z) m) (sym same) h))
      (λ m h. posted_fit c m (subst (λ (z : List Entry). Contains (posted z) m) (sym same) h))) in
      one_fits plant.wiring j c (slice_index_or es k d) (so_far.in_place.fetched_by_receiver c es there k d low) (so_far.in_place.sent_by_parties c es there k d low)
      (so_far.in_place.posted_by_sender c es there k d low) (so_far.actors c es there k d low) (so_far.places c es there k d low) (messages k d low)

  -- ---- what is left

  module _ (c : ℕ) (below : c < length plant.wiring.controllers) where
    pending_fit : (p : ℕ) → p < 6 → Each (FitsMessage plant.wiring) ((run.world.controllers c).pending p)
    pending_fit p low =
        let same : fetched (journal_of j c) ≡ fetched (did plant lines fuel j run c) =
        fetched_is (model_of plant) plant.wiring (lines_of (items_of plant.wiring lines)) fuel (journal_of j) j.left run.world run.lawful (nobody plant lines fuel j run) c in
        let none : count (of_priority p (λ (m : Msg). not (is_fit plant.wiring m))) (fetched (did plant lines fuel j run c)) ≡ 0 =
        none_counted_at p (is_fit plant.wiring) (fetched (did plant lines fuel j run c))
        (each_fetched (λ (m : Msg). m.prio.0 ≡ p → is_fit plant.wiring m ≡ true) (fetched (did plant lines fuel j run c))
        (λ m there e. passes plant.wiring m (fetched_fit c m (subst (λ (z : List Msg). Contains z m) (sym same) there)) (omega (arith, e, low)))) in
        let all = adds plant lines fuel j run c below in
        let sum = all.counts (λ (m : Msg). not (is_fit plant.wiring m)) p in
        each_weaker (λ (m : Msg). is_fit plant.wiring m ≡ true) (FitsMessage plant.wiring) (passed plant.wiring) ((run.world.controllers c).pending p)
        (all_counted p (is_fit plant.wiring) ((run.world.controllers c).pending p) (all.ranked p) (omega (arith, none, sum)))

  lane_fits : (s c p : ℕ) → Each (FitsMessage plant.wiring) (run.world.lanes (lane s c p))
  lane_fits s c p =
      let same : posted (journal_of j s) ≡ posted (did plant lines fuel j run s) =
      posted_is (model_of plant) plant.wiring (lines_of (items_of plant.wiring lines)) fuel (journal_of j) j.left run.world run.lawful (nobody plant lines fuel j run) s in
      each_behind (FitsMessage plant.wiring) (taken (lane s c p) c (did plant lines fuel j run c)) (run.world.lanes (lane s c p))
      (subst (Each (FitsMessage plant.wiring)) (queue plant lines fuel j run (lane s c p))
      (given_fits (FitsMessage plant.wiring) (lane s c p) s (did plant lines fuel j run s)
      (each_fetched (FitsMessage plant.wiring) (posted (did plant lines fuel j run s)) (λ m there. posted_fit s m (subst (λ (z : List Msg). Contains z m) (sym same) there)))))

  abbrev LeftFits : Left → Type 0
  LeftFits l = FitsMessage plant.wiring l.msg

  waiting_fit : (c : ℕ) → c < length plant.wiring.controllers → Each LeftFits (flat_map (λ p. map (left c true) ((run.world.controllers c).pending p)) priorities)
  waiting_fit c below =
      each_flat LeftFits (λ (p : ℕ). p < 6) (λ p. map (left c true) ((run.world.controllers c).pending p))
      (λ p low. each_map LeftFits (FitsMessage plant.wiring) (left c true) (λ m h. h) ((run.world.controllers c).pending p) (pending_fit c below p low))
      priorities (below_end 6 0 6 (omega arith))

  of_all : {X : Type 0} (P : X → Type 0) → ((x : X) → P x) → (xs : List X) → Each P xs
  of_all P h [] = tt
  of_all P h (x ∷ xs) = (h x, of_all P h xs)

  travelling_fit : (c : ℕ) → Each LeftFits
      (flat_map (λ p. flat_map (λ s. map (left c false) (run.world.lanes (lane s c p))) (length plant.wiring.controllers ∷ range_with_len 0 (length plant.wiring.controllers))) priorities)
  travelling_fit c =
      each_flat LeftFits (λ (p : ℕ). Unit {0})
      (λ p. flat_map (λ s. map (left c false) (run.world.lanes (lane s c p))) (length plant.wiring.controllers ∷ range_with_len 0 (length plant.wiring.controllers)))
      (λ p u.
      each_flat LeftFits (λ (s : ℕ). Unit {0}) (λ s. map (left c false) (run.world.lanes (lane s c p)))
      (λ s v. each_map LeftFits (FitsMessage plant.wiring) (left c false) (λ m h. h) (run.world.lanes (lane s c p)) (lane_fits s c p))
      (length plant.wiring.controllers ∷ range_with_len 0 (length plant.wiring.controllers))
      (of_all (λ (s : ℕ). Unit {0}) (λ s. tt) (length plant.wiring.controllers ∷ range_with_len 0 (length plant.wiring.controllers))))
      priorities (of_all (λ (p : ℕ). Unit {0}) (λ p. tt) priorities)

  all_left : Each LeftFits (left_of (plant_of (model_of plant) plant.wiring (lines_of (items_of plant.wiring lines))) run.world)
  all_left =
      each_flat LeftFits (λ (c : ℕ). c < length plant.wiring.controllers)
      (left_for (plant_of (model_of plant) plant.wiring (lines_of (items_of plant.wiring lines))) run.world)
      (λ c below. each_append LeftFits (flat_map (λ p. map (left c true) ((run.world.controllers c).pending p)) priorities)
      (flat_map (λ p. flat_map (λ s. map (left c false) (run.world.lanes (lane s c p))) (length plant.wiring.controllers ∷ range_with_len 0 (length plant.wiring.controllers))) priorities)
      (waiting_fit c below) (travelling_fit c))
      (range_with_len 0 (length plant.wiring.controllers)) (below_end (length plant.wiring.controllers) 0 (length plant.wiring.controllers) (omega arith))

  left_fits : All (FitsLeft plant.wiring) j.left
  left_fits k d low =
      let message : All LeftFits j.left = All-from_recursion LeftFits j.left (subst (Each LeftFits) (sym run.lawful.left_is) all_left) in
      let place : IsLeftInPlace plant.wiring (slice_index_or j.left k d) = so_far.in_place.left k d low in
      record { message = message k d low; receiver = place.receiver; priority = place.priority }

  pub fitted : Fits plant.wiring j
  fitted = record {
    journals = run.count;
    entries = entries_fit;
    environment = so_far.environment;
    left = left_fits;
    left_in_order = so_far.in_place.left_in_order;
  }

pub journals_fit : FittingRunsAreInPlace → FittingJournalsFit
journals_fit law plant lines fuel j fits fit run = fitted law plant lines fuel j fits fit run
