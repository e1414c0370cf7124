-- Two runs of a plant over lines whose journals have one text are one.
use Rattle.std.proofs.Common.{◌≡◌, ℕ, zero, suc, ◌+◌, ◌<◌, ◌≤◌, Bool, true, false, List, [], ◌∷◌, ◌++◌, map, drop, length, slice_index_or, refl, sym, ap, ap₂, ◌∙◌, arith, ◌⊎◌, inl, inr}
use Rattle.std.specs.List.{flat_map, range_with_len}
use Rattle.std.proofs.lemmas.Bool.{cases_order}
use lib.Seq.{ext_get_or}
use Rattle.room_kinds.specs.declared.message.Msg.{Msg}
use Rattle.journal.specs.declared.entry.Entry.{Entry}
use Rattle.journal.specs.declared.entry.Left.{Left}
use Rattle.journal.specs.declared.entry.Journals.{Journals}
use Rattle.tied_journals.specs.Tied.{IsPosted}
use Rattle.tied_journals.specs.Text.{tied_text_of}
use Rattle.room_wiring.specs.declared.tables.Tables.{Tables}
use Rattle.room_wiring.specs.Consistent.{IsConsistent}
use Rattle.room_wiring.specs.WellNamed.{IsWellNamed}
use Rattle.inject_reader.specs.declared.inject_lines.accepted.Line.{Line as Asked}
use Rattle.actor_merge.specs.Mail.{Lane, lane, Fetch, event_of}
use Rattle.actor_merge.specs.Parties.{State, Environment, Plant as RunPlant}
use Rattle.actor_merge.specs.World.{World, Placed, start, IsQuiet}
use Rattle.actor_merge.specs.Merge.{entries_of}
use Rattle.actor_world.specs.Body.{Body}
use Rattle.actor_world.specs.Journals.{priorities, left, left_for, left_of, last_part, unposted_from}
use Rattle.chart_behaviour.specs.ModelCharts.{Actor}
use Rattle.controller_actors.specs.declared.plant.Plant.{Plant}
use Rattle.model_run.specs.part_posts.Items.{items_of}
use Rattle.model_run.specs.run_ends.Runs.{journal_of, IsRun}
use Rattle.law_runs.specs.run_texts.Texts.{AtSixPriorities}
use Rattle.law_runs.proofs.run_texts.OneRun.{one_run}
use Rattle.law_runs.proofs.run_texts.Rows.{told, SameTold, same_told}
use Rattle.law_runs.proofs.run_texts.Told.{OneFetch, same_sender, same_sent, same_priority, same_events}
use Rattle.law_runs.proofs.run_texts.Party.{plan, did, starts, nobody, outside, inside, is_party, journal_is, happened_with, told_is}
use Rattle.law_runs.proofs.run_texts.InTime.{posts_in_time}
use Rattle.law_runs.proofs.run_journals.OneRun.{environment_posts}
use Rattle.law_runs.proofs.run_journals.TiedLaw.{fetched_is_posted}

told_at : (t : Tables) (ess fss : List (List Entry)) (c : ℕ) → SameTold t ess fss
    → told t (slice_index_or ess c []) ≡ told t (slice_index_or fss c [])
told_at t [] [] c h = refl
told_at t [] (fs ∷ fss) c h = absurd h
told_at t (es ∷ ess) [] c h = absurd h
told_at t (es ∷ ess) (fs ∷ fss) zero h = h.0
told_at t (es ∷ ess) (fs ∷ fss) (suc c) h = told_at t ess fss c h.1

same_front : {A : Type 0} (xs a b : List A) → xs ++ a ≡ xs ++ b → a ≡ b
same_front [] a b e = e
same_front (x ∷ xs) a b e = same_front xs a b (ap (drop 1) e)

-- ---- what is left in worlds that are the same

flat_map_same : {A C : Type 0} (f g : A → List C) → ((x : A) → f x ≡ g x) → (xs : List A) → flat_map f xs ≡ flat_map g xs
flat_map_same f g h [] = refl
flat_map_same f g h (x ∷ xs) = ap₂ (λ (a b : List _). a ++ b) (h x) (flat_map_same f g h xs)

flat_map_below : {C : Type 0} (f g : ℕ → List C) (n : ℕ) → ((c : ℕ) → c < n → f c ≡ g c) → (k a : ℕ) → a + k ≤ n
    → flat_map f (range_with_len a k) ≡ flat_map g (range_with_len a k)
flat_map_below f g n h zero a within = refl
flat_map_below f g n h (suc k) a within =
    ap₂ (λ (x y : List _). x ++ y) (h a (omega arith)) (flat_map_below f g n h k (a + 1) (omega arith))

module _ {B : Type 0} (plant : RunPlant B) (w v : World B) (controllers : (c : ℕ) → c < plant.controllers → w.controllers c ≡ v.controllers c)
    (lanes : (l : Lane) → w.lanes l ≡ v.lanes l) where
  left_for_same : (c : ℕ) → c < plant.controllers → left_for plant w c ≡ left_for plant v c
  left_for_same c below =
      ap₂ (λ (a b : List Left). a ++ b)
      (ap (λ (s : State B). flat_map (λ p. map (left c true) (s.pending p)) priorities) (controllers c below))
      (flat_map_same _ _ (λ p. flat_map_same _ _ (λ s. ap (map (left c false)) (lanes (lane s c p))) (plant.controllers ∷ range_with_len 0 plant.controllers)) priorities)

  pub left_same : left_of plant w ≡ left_of plant v
  left_same = flat_map_below (left_for plant w) (left_for plant v) plant.controllers left_for_same plant.controllers 0 (omega arith)

  pub still_quiet : IsQuiet plant w → IsQuiet plant v
  still_quiet q = record {
    lanes = λ l. sym (lanes l) ∙ q.lanes l;
    pending = λ c p below. ap (λ (s : State B). s.pending p) (sym (controllers c below)) ∙ q.pending c p below;
    outbox = λ c below. ap (λ (s : State B). s.outbox) (sym (controllers c below)) ∙ q.outbox c below;
  }

-- ---- two runs

module _ (plant : Plant) (lines : List Asked) (fuel other_fuel : ℕ) (i j : Journals) (a : IsRun plant lines fuel i) (b : IsRun plant lines other_fuel j)
    (consistent : IsConsistent plant.wiring) (named : IsWellNamed plant.wiring) (i_six : AtSixPriorities i) (j_six : AtSixPriorities j)
    (short : length (tied_text_of plant.wiring j) < 18446744073709551616) (one_text : tied_text_of plant.wiring i ≡ tied_text_of plant.wiring j) where
  abbrev t : Tables
  t = plant.wiring

  abbrev p : RunPlant (Body Actor)
  p = plan plant lines fuel i a

  abbrev n : ℕ
  n = length plant.wiring.controllers

  same_length : length i.controllers ≡ length j.controllers
  same_length = a.count ∙ sym b.count

  all_told : SameTold t i.controllers j.controllers × (told t i.environment ≡ told t j.environment)
  all_told =
      same_told t named i j same_length (environment_posts plant lines fuel i a) (environment_posts plant lines other_fuel j b) one_text

  journals_told : (party : ℕ) → told t (journal_of i party) ≡ told t (journal_of j party)
  journals_told party = go (cases_order party n)
    where
      go : (party ≡ n) ⊎ ((party < n) ⊎ (n < party)) → told t (journal_of i party) ≡ told t (journal_of j party)
      go (inl is) =
          ap (told t) (ap (journal_of i) is ∙ outside plant lines fuel i a) ∙ all_told.1
          ∙ ap (told t) (sym (ap (journal_of j) is ∙ outside plant lines other_fuel j b))
      go (inr (inl below)) =
          ap (told t) (inside plant lines fuel i a party below) ∙ told_at t i.controllers j.controllers party all_told.0
          ∙ ap (told t) (sym (inside plant lines other_fuel j b party below))
      go (inr (inr above)) = ap (told t) (nobody plant lines fuel i a party above ∙ sym (nobody plant lines other_fuel j b party above))

  -- what is known of a fetched message
  abbrev Known : Journals → Msg → Type 0
  Known x m = (m.from.0 ≤ n) × (m.prio.0 ≤ 5) × IsPosted x m

  one_fetch : OneFetch t (Known i) (Known j)
  one_fetch m k h l e =
      let from : m.from.0 ≡ k.from.0 = same_sender t m k consistent.controllers_numbered h.0 l.0 e in
      ap₂ Fetch from
      (same_priority t m k (journal_of i m.from.0) (journal_of j k.from.0) (journals_told m.from.0 ∙ ap (λ (p : ℕ). told t (journal_of j p)) from)
      h.2 l.2 (posts_in_time plant lines other_fuel j b short k.from.0) h.1 l.1 (same_sent t m k e))

  same_did : (party : ℕ) → map event_of (did plant lines fuel i a party) ≡ map event_of (did plant lines other_fuel j b party)
  same_did party =
      same_events t (Known i) (Known j) one_fetch (did plant lines fuel i a party) (did plant lines other_fuel j b party)
      (happened_with plant lines fuel i a (Known i) party (λ m h. (is_party plant lines fuel i a party m h, i_six party m h, fetched_is_posted plant lines fuel i a party m h)))
      (happened_with plant lines other_fuel j b (Known j) party (λ m h. (is_party plant lines other_fuel j b party m h, j_six party m h, fetched_is_posted plant lines other_fuel j b party m h)))
      (same_front (told t (starts plant lines fuel i a party)) _ _
      (sym (told_is plant lines fuel i a party) ∙ journals_told party ∙ told_is plant lines other_fuel j b party))

  merged : (a.lawful.run.merge ≡ b.lawful.run.merge) × (a.lawful.run.end ≡ b.lawful.run.end)
  merged =
      one_run p a.lawful.run.merge b.lawful.run.merge (start p) a.lawful.run.end b.lawful.run.end a.lawful.run.is.ordered b.lawful.run.is.ordered
      a.lawful.run.run b.lawful.run.run same_did

  journals_same : (party : ℕ) → journal_of i party ≡ journal_of j party
  journals_same party =
      journal_is plant lines fuel i a party ∙ ap (λ (z : List Placed). starts plant lines fuel i a party ++ entries_of party z) merged.0
      ∙ sym (journal_is plant lines other_fuel j b party)

  controllers_same : i.controllers ≡ j.controllers
  controllers_same =
      let count = a.count in
      ext_get_or [] i.controllers j.controllers same_length
      (λ c below.
      let inner : c < n = omega (arith, count, below) in
      sym (inside plant lines fuel i a c inner) ∙ journals_same c ∙ inside plant lines other_fuel j b c inner)

  environment_same : i.environment ≡ j.environment
  environment_same = sym (outside plant lines fuel i a) ∙ journals_same n ∙ outside plant lines other_fuel j b

  worlds : (c : ℕ) → c < p.controllers → a.world.controllers c ≡ b.world.controllers c
  worlds c below =
      sym (a.lawful.run.same.controllers c below) ∙ ap (λ (z : World (Body Actor)). z.controllers c) merged.1 ∙ b.lawful.run.same.controllers c below

  lanes : (l : Lane) → a.world.lanes l ≡ b.world.lanes l
  lanes l = sym (a.lawful.run.same.lanes l) ∙ ap (λ (z : World (Body Actor)). z.lanes l) merged.1 ∙ b.lawful.run.same.lanes l

  environments : a.world.environment ≡ b.world.environment
  environments = sym a.lawful.run.same.environment ∙ ap (λ (z : World (Body Actor)). z.environment) merged.1 ∙ b.lawful.run.same.environment

  left_is_same : i.left ≡ j.left
  left_is_same = a.lawful.left_is ∙ left_same p a.world b.world worlds lanes ∙ sym b.lawful.left_is

  ended : (x : Bool) → i.done ≡ x → (y : Bool) → j.done ≡ y → (i.unposted ≡ j.unposted) × (i.done ≡ j.done)
  ended true e true f = ((a.ended.is_done e).none_unposted ∙ sym (b.ended.is_done f).none_unposted, e ∙ sym f)
  ended true e false f = absurd ((b.ended.is_stopped f).busy (still_quiet p a.world b.world worlds lanes (a.ended.is_done e).quiet))
  ended false e true f =
      absurd ((a.ended.is_stopped e).busy (still_quiet p b.world a.world (λ c below. sym (worlds c below)) (λ l. sym (lanes l)) (b.ended.is_done f).quiet))
  ended false e false f = (
    (a.ended.is_stopped e).unposted_is
        ∙ ap (λ (v : Environment). unposted_from (last_part p.lines v.posted) (items_of t lines)) environments ∙ sym (b.ended.is_stopped f).unposted_is,
    e ∙ sym f,
  )

  pub one_journal : i ≡ j
  one_journal =
      let end = ended i.done refl j.done refl in
      λ k. record { controllers = controllers_same k; environment = environment_same k; left = left_is_same k; unposted = end.0 k; done = end.1 k }
