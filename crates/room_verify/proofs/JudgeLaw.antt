-- The verdict on journals whose stamps rise, which begin with their starts, or whose merge leads to where a replay stands.
use Rattle.std.proofs.Common.{◌≡◌, ℕ, ◌+◌, ◌<◌, ◌≤◌, nat_lt, Bool, true, false, if◌then◌else◌, List, [], ◌∷◌, ◌++◌, map, take, drop, length, slice_index, slice_index_or, Some, None, refl, sym, ap, ◌∙◌, subst, arith, append-nil, ◌⊎◌, inl, inr}
use Rattle.std.specs.List.{range_with_len}
use Rattle.std.proofs.lemmas.Bool.{cases_lt, lt-ltb, le-ltb}
use Rattle.std.proofs.lemmas.List.{drop_at, length-map, length_push, get_or_at, get_or-map, get_or_append_left}
use Rattle.std.proofs.lemmas.List.FromFn.{length-map-range_with_len, get_or-map-range_with_len}
use Rattle.room_kinds.specs.declared.numbers.ControllerId.{ControllerId}
use Rattle.room_kinds.specs.declared.numbers.Stamp.{Stamp}
use Rattle.journal.specs.declared.entry.Entry.{Entry}
use Rattle.journal.specs.declared.entry.Journals.{Journals}
use Rattle.room_wiring.specs.declared.tables.Tables.{Tables}
use Rattle.actor_merge.specs.World.{World, Placed, start}
use Rattle.actor_merge.specs.Merge.{IsMerge, entries_of}
use Rattle.actor_world.specs.Behaviour.{Behaviour}
use Rattle.actor_world.specs.Body.{Body}
use Rattle.actor_world.specs.Journals.{Item, lines_of, left_of, IsEnded}
use Rattle.actor_world.specs.Start.{plant_of, start_entries}
use Rattle.chart_behaviour.specs.ModelCharts.{Actor}
use Rattle.inject_reader.specs.declared.inject_lines.accepted.Line.{Line}
use Rattle.controller_actors.specs.Plants.{model_of}
use Rattle.controller_actors.specs.declared.plant.Plant.{Plant}
use Rattle.law_merges.specs.Merges.{Rise}
use Rattle.law_merges.proofs.Rise.{risen_merge}
use Rattle.law_merges.proofs.Bounds.{run_bounded}
use Rattle.law_runs.specs.Stamps.{events}
use Rattle.model_run.specs.part_posts.Items.{items_of}
use Rattle.model_run.specs.run_ends.Runs.{journal_of}
use Rattle.room_verify.specs.Checks.{BeginsWithStarts, IsInOrder, LowestWithout}
use Rattle.room_verify.specs.Heads.{left_of_party}
use Rattle.room_verify.specs.Merging.{RefusedAt, HasPassed, passed_at_start}
use Rattle.room_verify.specs.Promptness.{FirstUnprompt}
use Rattle.room_verify.specs.Steps.{happened, HasStarts, Reaches}
use Rattle.room_verify.specs.Verdicts.{LeadsTo, Leaves, KeepsToFuel, Ends, IsLawful, IsVerdict, out_of_order, wrong_start, refused, wrong_left, beyond_fuel, not_ended, not_prompt, lawful}
use Rattle.room_verify.specs.Worlds.{plan, world_in, Replays}
use Rattle.room_verify.specs.declared.promptness.EarlyTurn.{EarlyTurn}
use Rattle.room_verify.specs.declared.replay.Replay.{Replay}
use Rattle.room_verify.specs.declared.verdict.Verdict.TheVariants as verdicts
use Rattle.room_verify.proofs.TurnLaw.{after_starts, none_early, all_prompt, early_cut, early_turn, early_may_not, prompt_before}

-- ---- the verdict at the end of the merge

module _ {M : Type 0} (model : Behaviour M) (t : Tables) (items : List Item) (fuel : ℕ) (j : Journals) (merge : List Placed) (w : World (Body M))
    (count : length j.controllers ≡ length t.controllers) (r : Reaches model t (lines_of items) j merge [] w) where
  leads : LeadsTo model t items fuel j w
  leads = record { merge = merge; reaches = r }

  pub left_else : (j.left ≡ left_of (plant_of model t (lines_of items)) w → ⊥) → IsVerdict model t items fuel j verdicts.Left
  left_else faulty = wrong_left w leads faulty

  module _ (left : j.left ≡ left_of (plant_of model t (lines_of items)) w) where
    leaves : Leaves model t items fuel j w
    leaves = record { leads = leads; left = left }

    pub turned_more : (c : ControllerId) → LowestWithout (λ k. (w.controllers k).turns ≤ fuel) (length t.controllers) (Some c)
        → IsVerdict model t items fuel j (verdicts.Fuel c)
    turned_more c h = beyond_fuel c w h.0 leaves (more (cases_lt fuel (w.controllers c.0).turns)) h.2
      where
        more : (fuel < (w.controllers c.0).turns) ⊎ ((w.controllers c.0).turns ≤ fuel) → fuel < (w.controllers c.0).turns
        more (inl less) = less
        more (inr low) = absurd (h.1 low)

    module _ (fuelled : (c : ℕ) → c < length t.controllers → (w.controllers c).turns ≤ fuel) where
      keeps : KeepsToFuel model t items fuel j w
      keeps = record { leaves = leaves; fuelled = fuelled }

      pub ended_else : (IsEnded (plant_of model t (lines_of items)) items fuel w j.left j.unposted j.done → ⊥) → IsVerdict model t items fuel j verdicts.Ended
      ended_else faulty = not_ended w keeps faulty

      module _ (ended : IsEnded (plant_of model t (lines_of items)) items fuel w j.left j.unposted j.done) where
        ends : Ends model t items fuel j w
        ends = record { keeps = keeps; ended = ended }

        pub turned_early : (turn : EarlyTurn) → FirstUnprompt j (Some turn) → IsVerdict model t items fuel j (verdicts.Prompt turn.controller turn.stamp)
        turned_early turn h =
            let below : turn.controller.0 < length t.controllers = subst (λ (k : ℕ). turn.controller.0 < k) count h.0 in
            not_prompt turn.controller turn.stamp (take h.1.place (journal_of j turn.controller.0)) (drop (h.1.place + 1) (journal_of j turn.controller.0)) h.1.e w below
            h.1.stamped ends
            (early_cut model t items j merge w count r turn.controller.0 below turn.stamp.0 h.1)
            (early_turn model t items j merge w count r turn.controller.0 below turn.stamp.0 h.1)
            (early_may_not model t items j merge w count r turn.controller.0 below turn.stamp.0 h.1)
            (prompt_before model t items j merge w count r turn.controller.0 below turn.stamp.0 h.1)
            (λ lower low. all_prompt model t items j merge w count r lower (omega (arith, low, below)) (h.2 lower low))

        last_of_all : happened j (length t.controllers) ≡ journal_of j (length t.controllers)
        last_of_all =
            let off : nat_lt (length t.controllers) (length j.controllers) ≡ false = le-ltb (length t.controllers) (length j.controllers) (omega (arith, count)) in
            ap (λ (b : Bool). if b then events (journal_of j (length t.controllers)) else journal_of j (length t.controllers)) off

        is_lawful : FirstUnprompt j None → IsLawful model t items fuel j
        is_lawful none = record {
          count = count;
          run = record {
            world = w;
            lawful = record {
              events = happened j;
              begins = λ c below.
                  (r.started c below).is
                  ∙ ap (λ (z : List Entry). start_entries model t c ++ z) (sym (after_starts model t j count c below (r.started c below)));
              environment = sym last_of_all;
              run = record {
                merge = merge;
                is = subst (λ (z : List Placed). IsMerge (happened j) z) (append-nil merge) r.is;
                end = w;
                run = r.run;
                same = record { controllers = λ c below. refl; environment = refl; lanes = λ l. refl };
                bound = run_bounded (plant_of model t (lines_of items)) (start (plant_of model t (lines_of items))) merge w r.run;
              };
              fuelled = fuelled;
              left_is = left;
            };
            ended = ended;
          };
          prompt = record {
            at_turns = λ c p before after e below low there turn.
                none_early model t items j merge w count r c below (none c (subst (λ (k : ℕ). c < k) (sym count) below)) before after e there turn p low;
          };
        }

        pub all_well : FirstUnprompt j None → IsVerdict model t items fuel j verdicts.Lawful
        all_well none = lawful (is_lawful none)

-- ---- the verdict before the merge

module _ {M : Type 0} (model : Behaviour M) (t : Tables) (items : List Item) (fuel : ℕ) (j : Journals) (count : length j.controllers ≡ length t.controllers) where
  pub order_else : (party : ControllerId) → LowestWithout (IsInOrder j) (length j.controllers + 1) (Some party) → IsVerdict model t items fuel j (verdicts.Order party)
  order_else party h = let low = h.0 in out_of_order party (omega (arith, low, count)) h.1 h.2

  -- nothing happened to a party that isn't there
  nobody : (p : ℕ) → length t.controllers + 1 ≤ p → happened j p ≡ []
  nobody p beyond =
      let off : nat_lt p (length j.controllers) ≡ false = le-ltb p (length j.controllers) (omega (arith, count, beyond)) in
      let above : nat_lt (length j.controllers) p ≡ true = lt-ltb (length j.controllers) p (omega (arith, count, beyond)) in
      rw (off, above) refl

  module _ (ordered : LowestWithout (IsInOrder j) (length j.controllers + 1) None) where
    pub all_rise : (party : ℕ) → Rise (happened j party)
    all_rise party = go (cases_lt party (length j.controllers + 1))
      where
        go : (party < length j.controllers + 1) ⊎ (length j.controllers + 1 ≤ party) → Rise (happened j party)
        go (inl below) = ordered party below
        go (inr beyond) = subst Rise (sym (nobody party (omega (arith, beyond, count)))) tt

    module _ (starts : List (List Entry)) (made : starts ≡ map (start_entries model t) (range_with_len 0 (length t.controllers))) where
      start_at : (c : ℕ) → c < length t.controllers → slice_index_or starts c [] ≡ start_entries model t c
      start_at c below =
          ap (λ (z : List (List Entry)). slice_index_or z c []) made
          ∙ get_or-map-range_with_len (start_entries model t) 0 (length t.controllers) c c [] below (omega arith)

      begins_right : (c : ℕ) → c < length t.controllers → BeginsWithStarts (slice_index_or starts c []) (journal_of j c) → HasStarts model t c (journal_of j c)
      begins_right c below h = record {
        after = h.after;
        is = h.is ∙ ap (λ (z : List Entry). z ++ h.after) (start_at c below);
        only = h.only;
      }

      begins_back : (c : ℕ) → c < length t.controllers → HasStarts model t c (journal_of j c) → BeginsWithStarts (slice_index_or starts c []) (journal_of j c)
      begins_back c below h = record {
        after = h.after;
        is = h.is ∙ ap (λ (z : List Entry). z ++ h.after) (sym (start_at c below));
        only = h.only;
      }

      pub start_else : (c : ControllerId) → LowestWithout (λ k. BeginsWithStarts (slice_index_or starts k []) (journal_of j k)) (length j.controllers) (Some c)
          → IsVerdict model t items fuel j (verdicts.Start c)
      start_else c h =
          let low = h.0 in
          let below : c.0 < length t.controllers = omega (arith, low, count) in
          wrong_start c below (λ is. h.1 (begins_back c.0 below is)) all_rise (λ k less. begins_right k (omega (arith, less, below)) (h.2 k less))

      module _ (begun : LowestWithout (λ k. BeginsWithStarts (slice_index_or starts k []) (journal_of j k)) (length j.controllers) None) where
        all_started : (c : ℕ) → c < length t.controllers → HasStarts model t c (journal_of j c)
        all_started c below = begins_right c below (begun c (omega (arith, below, count)))

        pub merged : (merge : List Placed) × IsMerge (happened j) merge
        merged = risen_merge (length t.controllers + 1) (happened j) all_rise nobody

        pub at_start : Reaches model t (lines_of items) j [] merged.0 (start (plant_of model t (lines_of items)))
        at_start = record { ordered = all_rise; started = all_started; is = merged.1; run = refl }

        -- what is passed of each journal is its start
        starts_count : length starts ≡ length t.controllers
        starts_count = ap (λ (z : List (List Entry)). length z) made ∙ length-map-range_with_len (start_entries model t) 0 (length t.controllers)

        pub passed_count : length (passed_at_start starts) ≡ length t.controllers + 1
        passed_count = length_push (map (λ (es : List Entry). length es) starts) 0 ∙ ap (λ (k : ℕ). k + 1) (length-map starts (λ (es : List Entry). length es) ∙ starts_count)

        passed_own : (c : ℕ) → c < length t.controllers → slice_index (passed_at_start starts) c ≡ length (start_entries model t c)
        passed_own c below =
            get_or_append_left (map (λ (es : List Entry). length es) starts) (0 ∷ []) 0 c (omega (arith, below, starts_count, length-map starts (λ (es : List Entry). length es)))
            ∙ get_or-map (λ (es : List Entry). length es) starts c [] 0 (omega (arith, below, starts_count))
            ∙ ap (λ (es : List Entry). length es) (start_at c below)

        passed_last : slice_index (passed_at_start starts) (length t.controllers) ≡ 0
        passed_last =
            get_or_at (map (λ (es : List Entry). length es) starts) 0 [] 0 (length t.controllers) (length-map starts (λ (es : List Entry). length es) ∙ starts_count)

        pub left_at_start : (party : ℕ) → party < length t.controllers + 1 → entries_of party merged.0 ≡ left_of_party j (passed_at_start starts) party
        left_at_start party low = go (cases_lt party (length t.controllers))
          where
            go : (party < length t.controllers) ⊎ (length t.controllers ≤ party) → entries_of party merged.0 ≡ left_of_party j (passed_at_start starts) party
            go (inl below) =
                let s = all_started party below in
                let there : nat_lt party (length j.controllers) ≡ true = lt-ltb party (length j.controllers) (omega (arith, count, below)) in
                merged.1.whole party
                ∙ after_starts model t j count party below s
                ∙ sym (ap (λ (k : ℕ). drop k (journal_of j party)) (passed_own party below) ∙ ap (drop (length (start_entries model t party))) s.is
                ∙ drop_at (start_entries model t party) s.after (length (start_entries model t party)) refl)
            go (inr last) =
                let same : party ≡ length t.controllers = omega (arith, low, last) in
                let off : nat_lt party (length j.controllers) ≡ false = le-ltb party (length j.controllers) (omega (arith, count, last)) in
                merged.1.whole party ∙ ap (λ (b : Bool). if b then events (journal_of j party) else journal_of j party) off
                ∙ sym (ap (λ (k : ℕ). drop (slice_index (passed_at_start starts) k) (journal_of j party)) same
                ∙ ap (λ (k : ℕ). drop k (journal_of j party)) passed_last)

-- ---- a replay

module _ (plant : Plant) (lines : List Line) (fuel : ℕ) (j : Journals) (count : length j.controllers ≡ length plant.wiring.controllers) where
  -- where stamps rise and all begin with their starts, no entry has happened at the start of a replay
  pub passed_nothing : (starts : List (List Entry)) → starts ≡ map (start_entries (model_of plant) plant.wiring) (range_with_len 0 (length plant.wiring.controllers))
      → LowestWithout (IsInOrder j) (length j.controllers + 1) None
      → LowestWithout (λ k. BeginsWithStarts (slice_index_or starts k []) (journal_of j k)) (length j.controllers) None
      → (r : Replay) → world_in plant r ≡ start (plan plant lines) → Replays plant lines r → (passed : List ℕ) → passed ≡ passed_at_start starts
      → (h : HasPassed plant lines j passed r) × (h.front ≡ [])
  passed_nothing starts made ordered begun r world replays passed is =
      let model : Behaviour Actor = model_of plant in
      let t : Tables = plant.wiring in
      let behind : List Placed = (merged model t (items_of plant.wiring lines) fuel j count ordered starts made begun).0 in (
        record {
          front = [];
          behind = behind;
          reaches =
              subst (λ (w : World (Body Actor)). Reaches (model_of plant) plant.wiring (lines_of (items_of plant.wiring lines)) j [] behind w) (sym world)
              (at_start model t (items_of plant.wiring lines) fuel j count ordered starts made begun);
          replays = replays;
          count = ap (λ (z : List ℕ). length z) is ∙ passed_count model t (items_of plant.wiring lines) fuel j count ordered starts made begun;
          left = λ party low.
              left_at_start model t (items_of plant.wiring lines) fuel j count ordered starts made begun party low
              ∙ ap (λ (z : List ℕ). left_of_party j z party) (sym is);
        },
        refl,
      )

  pub entry_else : (party : ControllerId) (stamp : Stamp) → RefusedAt plant lines j party stamp
      → IsVerdict (model_of plant) plant.wiring (items_of plant.wiring lines) fuel j (verdicts.Entry party stamp)
  entry_else party stamp h = refused party stamp h.e h.front h.behind h.w h.is h.reaches h.refused
