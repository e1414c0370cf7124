-- The journals of a run that has ended are those of a run.
use Rattle.std.proofs.Common.{◌≡◌, ℕ, ◌+◌, ◌<◌, ◌≤◌, Bool, true, false, if◌then◌else◌, List, [], ◌∷◌, ◌++◌, length, map, slice_get, slice_index_or, nat_lt, Some, refl, sym, ap, ◌∙◌, subst, arith, append-nil}
use Rattle.std.specs.List.{flat_map, range_with_len}
use Rattle.std.proofs.lemmas.Bool.{lt-ltb, le-ltb, true≢false}
use Rattle.std.proofs.lemmas.List.{length-map, map-append}
use Rattle.std.proofs.lemmas.Option.{slice_get_within}
use Rattle.room_kinds.specs.declared.message.Msg.{Msg}
use Rattle.room_wiring.specs.declared.tables.Tables.{Tables}
use Rattle.journal.specs.declared.entry.Entry.{Entry}
use Rattle.journal.specs.declared.entry.Left.{Left}
use Rattle.journal.specs.declared.entry.Journals.{Journals}
use Rattle.inject_reader.specs.declared.inject_lines.accepted.Line.{Line}
use Rattle.actor_merge.specs.Mail.{lane}
use Rattle.actor_merge.specs.Parties.{State, Plant as RunPlant}
use Rattle.actor_merge.specs.World.{World, IsQuiet}
use Rattle.actor_merge.proofs.Rounds.{history_lawful}
use Rattle.actor_world.specs.Body.{Body}
use Rattle.actor_world.specs.Journals.{Item, lines_of, last_part, left, left_for, left_of, priorities, number_of, unposted_from, IsSpent, HasMessage, in_lane, in_pending, in_outbox, IsLawfulRun, IsPrompt, IsDone, IsStopped, IsEnded}
use Rattle.chart_behaviour.specs.ModelCharts.{Actor}
use Rattle.controller_mail.specs.MailState.{EnvironmentState, pending_of, messages_in}
use Rattle.controller_actors.specs.Plants.{model_of}
use Rattle.controller_actors.specs.declared.plant.Plant.{Plant}
use Rattle.controller.specs.Controllers.{run_plant, state_in}
use Rattle.controller.specs.View.{Controller}
use Rattle.model_run.specs.run_rounds.LineParts.{CutAt, EndsPart}
use Rattle.model_run.specs.run_rounds.Prompts.{PromptFrom}
use Rattle.model_run.proofs.run_rounds.LinesLaw.{all_posted, part_posted, rest_unposted}
use Rattle.model_run.proofs.run_rounds.PromptLists.{prompt_at}
use Rattle.model_run.specs.run_so_far.SoFar.{world_of, whole, IsSound}
use Rattle.controller.proofs.Standing.{some_at, state_is}
use Rattle.model_run.specs.part_posts.Items.{item_of, items_of}
use Rattle.model_run.proofs.run_loop.Skipping.{settle_item}
use Rattle.model_run.specs.run_ends.Ends.{IsAtEnd}
use Rattle.model_run.specs.run_ends.Runs.{journal_of, IsRun, MayBeLeft}
use Rattle.model_run.specs.run_ends.Runs.MayBeLeft.{nothing, from_settle}
use Rattle.model_run.specs.run_ends.Told.{journals_in, left_from, AreTold}
use Rattle.model_run.proofs.run_ends.ToldLaw.{map_at, six_at, none_waits, all_empty, some_waits, six_lists, flat_nothing, left_rows, none_left, map_numbers}

-- of what waits for controllers each message is at one of the six priorities
abbrev pub WaitInSix : List Controller → Type 0
WaitInSix ks = (c : ℕ) (k : Controller) → slice_get ks c ≡ Some k → flat_map (λ (p : ℕ). map (left c true) (pending_of k.mail.pending p)) priorities ≡ map (left c true) (messages_in k.mail.pending)

module _ (plant : Plant) (gone rest : List Item) (fuel : ℕ) (ks : List Controller) (env : EnvironmentState) (done : Bool) (js : List (List Entry)) (ls : List Left)
    (a : IsAtEnd plant gone fuel ks env done)
    (journals_of : js ≡ journals_in ks) (left_told : ls ≡ left_from 0 ks) (in_six : WaitInSix ks)
    (whole_is : done ≡ true → rest ≡ []) (ends : EndsPart rest) where
  abbrev n : ℕ
  n = length plant.wiring.controllers

  abbrev items : List Item
  items = gone ++ rest

  abbrev unposted : List ℕ
  unposted = map number_of rest

  abbrev plan : RunPlant (Body Actor)
  plan = run_plant plant (lines_of items)

  abbrev w : World (Body Actor)
  w = world_of plant ks a.v

  abbrev j : Journals
  j = record { controllers = js; environment = env.journal; left = ls; unposted = unposted; done = done }

  count_is : length js ≡ n
  count_is = ap (λ (z : List (List Entry)). length z) journals_of ∙ length-map ks (λ (k : Controller). k.mail.journal) ∙ a.so_far.stand.count

  seat : (c : ℕ) → c < n → (k : Controller) × (slice_get ks c ≡ Some k)
  seat c b = some_at ks c (omega (arith, a.so_far.stand.count))

  at_seat : (c : ℕ) (k : Controller) → slice_get ks c ≡ Some k → w.controllers c ≡ state_in plant k
  at_seat c k e = state_is plant ks c k e

  -- the journals, party by party
  own_journal : (c : ℕ) → c < n → journal_of j c ≡ whole plant a.so_far.events c
  own_journal c b =
      let s = seat c b in
      ap (λ (z : Bool). if z then slice_index_or js c [] else if nat_lt (length js) c then [] else env.journal) (lt-ltb c (length js) (omega (arith, count_is)))
      ∙ ap (λ (z : List (List Entry)). slice_index_or z c []) journals_of
      ∙ map_at (λ (k : Controller). k.mail.journal) ks c s.0 [] s.1 ∙ a.so_far.journals c s.0 s.1

  environment_journal : journal_of j n ≡ a.so_far.events n
  environment_journal =
      ap (λ (z : Bool). if z then slice_index_or js n [] else if nat_lt (length js) n then [] else env.journal) (le-ltb n (length js) (omega (arith, count_is)))
      ∙ ap (λ (z : Bool). if z then [] else env.journal) (le-ltb (length js) n (omega (arith, count_is)))
      ∙ sym a.so_far.posted

  sound : IsSound plant (lines_of items) a.so_far.events w
  sound = a.so_far.sound rest

  keeps_fuel : (c : ℕ) → c < n → (w.controllers c).turns ≤ fuel
  keeps_fuel c b =
      let s = seat c b in
      subst (λ (z : State (Body Actor)). z.turns ≤ fuel) (sym (at_seat c s.0 s.1)) (a.so_far.fuelled c s.0 s.1)

  -- what is left
  abbrev lanes_left : ℕ → List Left
  lanes_left c = flat_map (λ (p : ℕ). flat_map (λ (s : ℕ). map (left c false) (w.lanes (lane s c p))) (plan.controllers ∷ range_with_len 0 plan.controllers)) priorities

  no_lanes : (c : ℕ) → lanes_left c ≡ []
  no_lanes c = flat_nothing (λ (p : ℕ). flat_map (λ (s : ℕ). map (left c false) (w.lanes (lane s c p))) (plan.controllers ∷ range_with_len 0 plan.controllers)) priorities (λ p. flat_nothing (λ (s : ℕ). map (left c false) (w.lanes (lane s c p))) (plan.controllers ∷ range_with_len 0 plan.controllers) (λ s. refl))

  left_at : (c : ℕ) (k : Controller) → slice_get ks c ≡ Some k → left_for plan w c ≡ map (left c true) (messages_in k.mail.pending)
  left_at c k e =
      ap (λ (z : State (Body Actor)). flat_map (λ (p : ℕ). map (left c true) (z.pending p)) priorities ++ lanes_left c) (at_seat c k e)
      ∙ ap (λ (z : List Left). z ++ lanes_left c) (in_six c k e)
      ∙ ap (λ (z : List Left). map (left c true) (messages_in k.mail.pending) ++ z) (no_lanes c)
      ∙ append-nil (map (left c true) (messages_in k.mail.pending))

  left_in_world : left_of plan w ≡ left_from 0 ks
  left_in_world =
      ap (λ (z : ℕ). flat_map (left_for plan w) (range_with_len 0 z)) (sym a.so_far.stand.count)
      ∙ left_rows (left_for plan w) 0 ks (λ i k e. subst (λ (z : ℕ). left_for plan w z ≡ map (left z true) (messages_in k.mail.pending)) (let z : i ≡ 0 + i = omega arith in z) (left_at i k e))

  lawful : IsLawfulRun (model_of plant) plant.wiring (lines_of items) fuel (journal_of j) ls w
  lawful = record {
    events = a.so_far.events;
    begins = own_journal;
    environment = environment_journal;
    run = history_lawful plan a.so_far.events w sound.history;
    fuelled = keeps_fuel;
    left_is = left_told ∙ sym left_in_world;
  }

  prompt : IsPrompt n (journal_of j)
  prompt = record {
    at_turns = λ c p before after e cb pb is turn.
        prompt_at c [] before e after (subst (λ (z : List Entry). PromptFrom c [] z) (sym (own_journal c cb) ∙ is) (sound.prompt c cb)) turn p pb;
  }

  outbox_empty : (c : ℕ) → c < n → (w.controllers c).outbox ≡ []
  outbox_empty c b =
      let s = seat c b in
      subst (λ (z : State (Body Actor)). z.outbox ≡ []) (sym (at_seat c s.0 s.1)) (a.outboxes c s.0 s.1)

  module _ (is : done ≡ true) where
    pending_empty : (c p : ℕ) → c < n → (w.controllers c).pending p ≡ []
    pending_empty c p b =
        let s = seat c b in
        subst (λ (z : State (Body Actor)). z.pending p ≡ []) (sym (at_seat c s.0 s.1)) (none_waits s.0.mail.pending (a.quiet is c s.0 s.1) p)

    done_law : IsDone plan w ls unposted
    done_law = record {
      quiet = record { lanes = λ l. refl; pending = pending_empty; outbox = outbox_empty };
      all_posted = a.posted ∙ all_posted items (length env.journal) a.part (subst (λ (z : List Item). CutAt items z (length env.journal) a.part) (whole_is is) (a.cut rest));
      none_left = left_told ∙ none_left 0 ks (a.quiet is);
      none_unposted = ap (λ (z : List Item). map number_of z) (whole_is is);
    }

  module _ (is : done ≡ false) where
    not_quiet : IsQuiet plan w → ⊥
    not_quiet q =
        let busy = a.busy is in
        let c = busy.0 in
        let k = busy.1 in
        let below : c < n = omega (arith, slice_get_within ks c k busy.2, a.so_far.stand.count) in
        let none = all_empty k.mail.pending (λ p. subst (λ (z : State (Body Actor)). z.pending p ≡ []) (at_seat c k busy.2) (q.pending c p below)) in
        true≢false (sym busy.3 ∙ none)

    spent_at : (c : ℕ) → c < n → HasMessage w c → IsSpent fuel (w.controllers c)
    spent_at c b (in_lane s p h) = absurd (omega arith)
    spent_at c b (in_pending p h) =
        let s = seat c b in
        let here : 0 < length (pending_of s.0.mail.pending p) = subst (λ (z : State (Body Actor)). 0 < length (z.pending p)) (at_seat c s.0 s.1) h in
        subst (λ (z : State (Body Actor)). IsSpent fuel z) (sym (at_seat c s.0 s.1)) (a.spent is c s.0 s.1 (some_waits s.0.mail.pending p here))
    spent_at c b (in_outbox h) = absurd (omega (arith, ap (λ (z : List Msg). length z) (outbox_empty c b)))

    last_is : a.part ≡ last_part (lines_of items) a.v.posted
    last_is = a.last is rest ∙ ap (last_part (lines_of items)) (sym a.posted)

    stopped_law : IsStopped plan items fuel w unposted
    stopped_law = record {
      busy = not_quiet;
      spent = spent_at;
      part_posted = λ line l there low.
          let early : line < length env.journal = part_posted items rest (length env.journal) a.part (a.cut rest) ends line l there (subst (λ (z : ℕ). l.part ≤ z) (sym last_is) low) in
          subst (λ (z : ℕ). line < z) (sym a.posted) early;
      unposted_is = sym (rest_unposted items rest (length env.journal) a.part (a.cut rest) ends) ∙ ap (λ (z : ℕ). unposted_from z items) last_is;
    }

  -- over lines with these items
  pub is_run : (lines : List Line) → items_of plant.wiring lines ≡ items → IsRun plant lines fuel j
  is_run lines same = record {
    world = w;
    count = count_is;
    lawful = subst (λ (z : List Item). IsLawfulRun (model_of plant) plant.wiring (lines_of z) fuel (journal_of j) ls w) (sym same) lawful;
    prompt = prompt;
    ended = subst (λ (z : List Item). IsEnded (run_plant plant (lines_of z)) z fuel w ls unposted done) (sym same)
        (record { posted = outbox_empty; is_done = done_law; is_stopped = stopped_law });
  }

-- what may be left is nothing where a run is done, and begins with the end of a part
none_left_over : (rest : List Line) → MayBeLeft true rest → rest ≡ []
none_left_over [] m = refl
none_left_over (l ∷ rest) m = absurd (go true (l ∷ rest) m refl refl)
  where
    go : (done : Bool) (lines : List Line) → MayBeLeft done lines → done ≡ true → lines ≡ l ∷ rest → ⊥
    go done lines nothing e f = absurd cc
    go done lines (from_settle x xs h) e f = absurd cc

ends_there : (t : Tables) (done : Bool) (rest : List Line) → MayBeLeft done rest → EndsPart (items_of t rest)
ends_there t done rest nothing = tt
ends_there t done rest (from_settle l lines h) = subst (λ (z : Item). EndsPart (z ∷ items_of t lines)) (sym (settle_item t l.number l.what h)) tt

-- the journals that were told are those that were seen
pub journals_told : (count : ℕ) (ks : List Controller) (js : List (List Entry)) (ls : List Left) → AreTold count ks [] js ls → js ≡ journals_in ks
journals_told count ks js ls t = sym (append-nil js) ∙ t.journals_are

lefts_told : (count : ℕ) (ks : List Controller) (js : List (List Entry)) (ls : List Left) → AreTold count ks [] js ls → ls ≡ left_from 0 ks
lefts_told count ks js ls t = sym (append-nil ls) ∙ t.left_is

six_told : (count : ℕ) (ks : List Controller) (js : List (List Entry)) (ls : List Left) → AreTold count ks [] js ls → WaitInSix ks
six_told count ks js ls t c k e = six_lists (left c true) k.mail.pending (six_at ks c k (t.six tt) e)

-- the same of what was told, with whatever may be left
pub ran_told : (plant : Plant) (given rest : List Line) (fuel : ℕ) (ks : List Controller) (env : EnvironmentState) (done : Bool) (count : ℕ) (js : List (List Entry)) (ls : List Left)
    → IsAtEnd plant (items_of plant.wiring given) fuel ks env done → AreTold count ks [] js ls → MayBeLeft done rest
    → IsRun plant (given ++ rest) fuel (record { controllers = js; environment = env.journal; left = ls; unposted = map (λ (l : Line). l.number) rest; done = done })
ran_told plant given rest fuel ks env done count js ls a t may =
    let items = items_of plant.wiring rest in
    let none : done ≡ true → items ≡ [] = λ e. ap (λ (z : List Line). items_of plant.wiring z) (none_left_over rest (subst (λ (z : Bool). MayBeLeft z rest) e may)) in
    subst (λ (z : List ℕ). IsRun plant (given ++ rest) fuel (record { controllers = js; environment = env.journal; left = ls; unposted = z; done = done })) (map_numbers plant.wiring rest)
    (is_run plant (items_of plant.wiring given) items fuel ks env done js ls a (journals_told count ks js ls t) (lefts_told count ks js ls t) (six_told count ks js ls t) none (ends_there plant.wiring done rest may)
    (given ++ rest) (map-append (λ (l : Line). item_of plant.wiring l.number l.what) given rest))
