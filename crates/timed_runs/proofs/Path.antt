-- A source of timed lines over a whole run: what it gave so far, and then what the rest of the lines comes to over the
-- journals of the whole run, is what all lines come to. So it is at each call of the source, as it was asked in a run.
use Rattle.std.proofs.Common.{◌≡◌, ℕ, zero, suc, ◌+◌, ◌<◌, ◌≤◌, ◌==◌, nat_lt, Bool, true, false, ◌||◌, if◌then◌else◌, List, [], ◌∷◌, ◌++◌, length, take, drop, slice_index_or, Option, None, refl, sym, ap, ◌∙◌, subst, arith, append_assoc, append-nil, lt-ltb, ◌⊎◌, inl, inr}
use Rattle.std.specs.Prelude.{filter}
use Rattle.std.specs.List.{AllByRecursion}
use Rattle.std.proofs.lemmas.Bool.{cases_lt, or_left, or_right}
use Rattle.std.proofs.lemmas.List.{length-append, append_cancel_left, drop_at, get_or-replicate, length-replicate}
use Rattle.std.proofs.lemmas.List.Elements.{recursion_from_All}
use Rattle.model_run.proofs.fixed_lines.FixedLaw.{messages_in_front as in_front}
use Rattle.journal.specs.declared.entry.Entry.{Entry}
use Rattle.journal.specs.declared.entry.Journals.{Journals}
use Rattle.room_wiring.specs.declared.tables.Tables.{Tables}
use Rattle.inject_reader.specs.declared.inject_lines.accepted.Line.{Line}
use Rattle.actor_merge.specs.Parties.{State, begins}
use Rattle.actor_merge.specs.World.{Placed, start, IsQuiet}
use Rattle.actor_merge.specs.Merge.{InOrder, entries_of}
use Rattle.actor_merge.proofs.Extend.{entries_append}
use Rattle.actor_world.specs.Body.{Body}
use Rattle.actor_world.specs.Journals.{lines_of}
use Rattle.chart_behaviour.specs.ModelCharts.{Actor}
use Rattle.controller_actors.specs.declared.plant.Plant.{Plant}
use Rattle.controller.specs.Controllers.{run_plant}
use Rattle.law_merges.specs.Merges.{Rise}
use Rattle.law_merges.specs.Cuts.{BeginsWith}
use Rattle.law_merges.proofs.One.{one_merge}
use Rattle.model_run.specs.part_posts.Items.{items_of}
use Rattle.model_run.specs.part_source.Calls.{Seen, seen_in, Grew, told_done, StoodQuiet}
use Rattle.model_run.specs.part_source.Parts.{is_message}
use Rattle.model_run.specs.run_ends.Runs.{IsRun}
use Rattle.room_timer.specs.Timers.{Timers, no_timers}
use Rattle.room_timer.specs.Expansion.{is_event, Point, beginning, cut_at, saw_all, caught_up, Expands}
use Rattle.room_timer.specs.Laws.{IsPlain}
use Rattle.timed_runs.specs.Unseen.{journal_at}
use Rattle.timed_runs.specs.Passed.{Standing, messages_in_front}
use Rattle.timed_runs.specs.Walks.{Walk, given_by, standing, Walks, Begins}
use Rattle.timed_runs.proofs.Fronts.{front_is, end_is_quiet, order_back, order_rises}
use Rattle.timed_runs.proofs.Passing.{FollowsLater, all_follow, all_plain, FirstIsNone, no_line, first, first_is_none, none_in_front}
use Rattle.timed_runs.proofs.Points.{Cut, cut_over, cut_whole, cut_stops, same_caught}
use Rattle.timed_runs.proofs.Runs.{filter_both, no_others, messages, messages_both, all_messages, no_messages, line_count, begins_there, events_are, all_posts, is_quiet}
use Rattle.timed_runs.proofs.Seeing.{events, unseen, AreSeen, are_seen, saw_events}
use Rattle.timed_runs.proofs.Walking.{Resumes, Rest, messages_then, all_lead, resumes_same}

-- the point at which a walk stands, before these entries
abbrev pub stands : List Placed → Walk → Point
stands back w = record { timers = w.timers; ahead = back; since = length w.part }

-- what a walk saw of a party's journal
pub record SawOf (journal seen : List Entry) (count : ℕ) : Type 0 where
  pub old : List Entry
  pub more : List Entry
  pub is : journal ≡ old ++ more
  pub counted : count ≡ length old
  pub events : seen ≡ filter is_event old

-- journals grow at each party
grew_at : (t : Tables) (before js : Seen) → Grew before js → (p : ℕ) → (more : List Entry) × (journal_at t js p ≡ journal_at t before p ++ more)
grew_at t before js g p = go (nat_lt p (length t.controllers)) (p == length t.controllers)
  where
    go : (b c : Bool) → (more : List Entry)
        × ((if b then slice_index_or js.controllers p [] else if c then js.environment else [])
        ≡ (if b then slice_index_or before.controllers p [] else if c then before.environment else []) ++ more)
    go true c = g.controllers p
    go false true = g.environment
    go false false = ([], refl)

nothing_there : {X : Type 0} (a b : List X) → a ++ b ≡ [] → b ≡ []
nothing_there [] b h = h
nothing_there (x ∷ a) b h = absurd cc

-- what was given meanwhile
pub follows_of : (t : Tables) (mid now : Walk) (before : Seen) (more : Bool) → Walks t mid before now more → messages_in_front (drop mid.to mid.lines) ≡ 0
    → FollowsLater (given_by mid) (standing now more)
follows_of t mid now before more w ends =
    subst (FollowsLater (given_by mid)) w.goes (all_follow mid.left (drop mid.to mid.lines) (given_by mid) (saw_all t mid.timers w.found) ends)

-- and what comes behind what was given before
pub behind_of : (all rest : List Line) (mid now : Walk) (more : Bool) (f : FollowsLater (given_by mid) (standing now more)) → all ≡ given_by now ++ rest
    → all ≡ given_by mid ++ (f.follows.settles ++ (now.part ++ rest))
behind_of all rest mid now more f is =
    is ∙ ap (λ (z : List Line). (z ++ now.part) ++ rest) f.follows.is ∙ append_assoc (given_by mid ++ f.follows.settles) now.part rest
    ∙ append_assoc (given_by mid) f.follows.settles (now.part ++ rest)

module _ (plant : Plant) (lines : List Line) (fuel : ℕ) (j : Journals) (all : List Line) (run : IsRun plant all fuel (record j { unposted = [] })) where
  abbrev pub t : Tables
  t = plant.wiring

  abbrev pub n : ℕ
  n = length plant.wiring.controllers

  abbrev pub merge : List Placed
  merge = run.lawful.run.merge

  -- where a walk stands in the run, when these journals stand so
  pub record Stands (w : Walk) (js : Seen) : Type 0 where
    pub front : List Placed
    pub back : List Placed
    pub whole : run.lawful.run.merge ≡ front ++ back
    pub wiring : w.wiring ≡ plant.wiring
    pub lines_are : w.lines ≡ lines
    pub count : length w.seen ≡ length plant.wiring.controllers + 1
    pub sent : length (entries_of (length plant.wiring.controllers) front) ≡ messages w.gone
    pub part : messages w.part ≡ length w.part
    pub saw : (p : ℕ) → p < length plant.wiring.controllers + 1 → SawOf (journal_at plant.wiring js p) (entries_of p front) (slice_index_or w.seen p 0)
    pub fresh : AllByRecursion IsPlain lines → w.left ≡ None
    pub path : (xs left : List Line) → Resumes plant.wiring j.done (stands back w) w.left (drop w.to lines) xs left
        → Expands plant.wiring j.done (beginning run.lawful.run.merge) lines (given_by w ++ xs) left

  -- ---- at the start

  pub at_start : (w : Walk) (js : Seen) → Begins plant.wiring lines w → Stands w js
  at_start w js b = record {
    front = [];
    back = run.lawful.run.merge;
    whole = refl;
    wiring = b.wiring;
    lines_are = b.lines_are;
    count = ap length b.seen ∙ length-replicate (length plant.wiring.controllers + 1) 0;
    sent = sym (ap messages b.gone);
    part = ap messages b.part ∙ all_messages part (recursion_from_All (λ (l : Line). is_message l.what ≡ true) part (in_front lines)) ∙ ap length (sym b.part);
    saw = λ p below. record {
      old = [];
      more = journal_at plant.wiring js p;
      is = refl;
      counted = ap (λ (xs : List ℕ). slice_index_or xs p 0) b.seen ∙ get_or-replicate (length plant.wiring.controllers + 1) p 0 0 below;
      events = refl;
    };
    fresh = λ plain. b.left;
    path = λ xs left r.
        let fresh : Expands plant.wiring j.done (stands run.lawful.run.merge w) (drop w.to lines) xs left =
        subst (λ (h : Option ℕ). Resumes plant.wiring j.done (stands run.lawful.run.merge w) h (drop w.to lines) xs left) b.left r in
        let to : Expands plant.wiring j.done (stands run.lawful.run.merge w) (drop (messages_in_front lines) lines) xs left =
        subst (λ (k : ℕ). Expands plant.wiring j.done (stands run.lawful.run.merge w) (drop k lines) xs left) b.to fresh in
        let count : length w.part ≡ 0 + length (take (messages_in_front lines) lines) = ap length b.part ∙ none_more (length (take (messages_in_front lines) lines)) in
        let timers : Expands plant.wiring j.done (record { timers = no_timers; ahead = run.lawful.run.merge; since = length w.part }) (drop (messages_in_front lines) lines) xs left =
        subst (λ (ts : Timers). Expands plant.wiring j.done (record { timers = ts; ahead = run.lawful.run.merge; since = length w.part }) (drop (messages_in_front lines) lines) xs left) b.timers to in
        let here : Expands plant.wiring j.done (record { timers = no_timers; ahead = run.lawful.run.merge; since = 0 + length (take (messages_in_front lines) lines) }) (drop (messages_in_front lines) lines) xs left =
        subst (λ (k : ℕ). Expands plant.wiring j.done (record { timers = no_timers; ahead = run.lawful.run.merge; since = k }) (drop (messages_in_front lines) lines) xs left) count timers in
        let gone : take (messages_in_front lines) lines ≡ given_by w =
        sym (ap (λ (g : List Line). g ++ take (messages_in_front lines) lines) b.gone) ∙ ap (λ (part : List Line). w.gone ++ part) (sym b.part) in
        subst (λ (z : List Line). Expands plant.wiring j.done (beginning run.lawful.run.merge) lines (z ++ xs) left) gone
        (messages_then plant.wiring j.done lines xs left (beginning run.lawful.run.merge) here);
  }
    where
      part : List Line
      part = take (messages_in_front lines) lines

      none_more : (k : ℕ) → k ≡ 0 + k
      none_more k = omega arith

  -- ---- from part to part

  module _ (mid now : Walk) (before : Seen) (more : Bool) (rest : List Line) (s : Stands mid before) (st : StoodQuiet plant (given_by mid) fuel before)
      (w : Walks plant.wiring mid before now more) (ends : messages_in_front (drop mid.to mid.lines) ≡ 0) (is : all ≡ given_by now ++ rest)
      (ends_rest : messages_in_front rest ≡ 0) (grew : Grew before (seen_in j)) where
    abbrev found_then : List Placed
    found_then = (cut_at (length plant.wiring.controllers) (length mid.part) s.back).0

    abbrev back_then : List Placed
    back_then = (cut_at (length plant.wiring.controllers) (length mid.part) s.back).1

    then_posts : length (entries_of (length plant.wiring.controllers) st.run.lawful.run.merge) ≡ messages (given_by mid)
    then_posts = all_posts plant (given_by mid) fuel (told_done before) st.run refl

    all_posted : length (entries_of (length plant.wiring.controllers) run.lawful.run.merge) ≡ messages all
    all_posted = all_posts plant all fuel (record j { unposted = [] }) run refl

    -- the lines that were given meanwhile, and what comes behind
    follows : FollowsLater (given_by mid) (standing now more)
    follows = follows_of plant.wiring mid now before more w ends

    is_behind : all ≡ given_by mid ++ (follows.follows.settles ++ (now.part ++ rest))
    is_behind = behind_of all rest mid now more follows is

    ends_behind : messages_in_front (follows.follows.settles ++ (now.part ++ rest)) ≡ 0
    ends_behind = none_in_front (given_by mid) rest (standing now more) follows ends_rest

    -- if the environment posts more, then it begins a part
    begins_then : messages (given_by mid) < length (entries_of (length plant.wiring.controllers) run.lawful.run.merge)
        → begins (run_plant plant (lines_of (items_of plant.wiring all))) (messages (given_by mid)) ≡ true
    begins_then less = go (follows.follows.settles ++ (now.part ++ rest)) is_behind (first_is_none (follows.follows.settles ++ (now.part ++ rest)) ends_behind)
      where
        go : (tail : List Line) → all ≡ given_by mid ++ tail → FirstIsNone tail → begins (run_plant plant (lines_of (items_of plant.wiring all))) (messages (given_by mid)) ≡ true
        go tail e no_line =
            let count : messages all ≡ messages (given_by mid) = ap messages (e ∙ append-nil (given_by mid)) in
            absurd (omega (arith, less, all_posted, count))
        go tail e (first l behind none) =
            let count : length (lines_of (items_of plant.wiring (given_by mid ++ l ∷ behind))) ≡ messages all =
            line_count plant.wiring 1 (given_by mid ++ l ∷ behind) ∙ ap messages (sym e) in
            subst (λ (z : List Line). begins (run_plant plant (lines_of (items_of plant.wiring z))) (messages (given_by mid)) ≡ true) (sym e)
            (begins_there plant (given_by mid) l behind none (omega (arith, less, all_posted, count)))

    -- what each party did in the whole run begins with what it did by then
    did_more : (p : ℕ) → BeginsWith (entries_of p run.lawful.run.merge) (entries_of p st.run.lawful.run.merge)
    did_more p =
        let g = grew_at plant.wiring before (seen_in j) grew p in (
          filter is_event g.0,
          events_are plant all fuel (record j { unposted = [] }) run p ∙ ap (filter is_event) g.1 ∙ filter_both (journal_at plant.wiring before p) g.0
              ∙ ap (λ (z : List Entry). z ++ filter is_event g.0) (sym (events_are plant (given_by mid) fuel (told_done before) st.run p)),
        )

    front_then : (cut_at (length plant.wiring.controllers) (messages (given_by mid)) run.lawful.run.merge).0 ≡ st.run.lawful.run.merge
    front_then =
        front_is plant (lines_of (items_of plant.wiring all)) (lines_of (items_of plant.wiring (given_by mid))) run.lawful.run.merge st.run.lawful.run.merge
        run.lawful.run.end st.run.lawful.run.end run.lawful.run.run st.run.lawful.run.run (is_quiet plant (given_by mid) fuel (told_done before) st.run refl)
        run.lawful.run.is.ordered st.run.lawful.run.is.ordered did_more (messages (given_by mid)) then_posts begins_then

    quiet_then : (cut_at (length plant.wiring.controllers) (messages (given_by mid)) run.lawful.run.merge).1 ≡ []
        → IsQuiet (run_plant plant (lines_of (items_of plant.wiring all))) run.lawful.run.end
    quiet_then =
        end_is_quiet plant (lines_of (items_of plant.wiring all)) (lines_of (items_of plant.wiring (given_by mid))) run.lawful.run.merge st.run.lawful.run.merge
        run.lawful.run.end st.run.lawful.run.end run.lawful.run.run st.run.lawful.run.run (is_quiet plant (given_by mid) fuel (told_done before) st.run refl)
        run.lawful.run.is.ordered st.run.lawful.run.is.ordered did_more (messages (given_by mid)) then_posts begins_then

    -- the cut, seen from where the walk stood
    cut_is : cut_at (length plant.wiring.controllers) (messages (given_by mid)) run.lawful.run.merge ≡ (s.front ++ found_then, back_then)
    cut_is =
        let count : messages (given_by mid) ≡ length (entries_of (length plant.wiring.controllers) s.front) + length mid.part =
        omega (arith, messages_both mid.gone mid.part, s.sent, s.part) in
        ap (λ (k : ℕ). cut_at (length plant.wiring.controllers) k run.lawful.run.merge) count
        ∙ ap (cut_at (length plant.wiring.controllers) (length (entries_of (length plant.wiring.controllers) s.front) + length mid.part)) s.whole
        ∙ cut_over (length plant.wiring.controllers) (length mid.part) s.front s.back

    then_is : st.run.lawful.run.merge ≡ s.front ++ found_then
    then_is = sym front_then ∙ ap (λ (c : Cut). c.0) cut_is

    back_is : (cut_at (length plant.wiring.controllers) (messages (given_by mid)) run.lawful.run.merge).1 ≡ back_then
    back_is = ap (λ (c : Cut). c.1) cut_is

    whole_then : run.lawful.run.merge ≡ st.run.lawful.run.merge ++ back_then
    whole_then =
        sym (cut_whole (length plant.wiring.controllers) (messages (given_by mid)) run.lawful.run.merge)
        ∙ ap (λ (z : List Placed). z ++ (cut_at (length plant.wiring.controllers) (messages (given_by mid)) run.lawful.run.merge).1) front_then
        ∙ ap (λ (z : List Placed). st.run.lawful.run.merge ++ z) back_is

    -- ---- what was found

    found_of : (p : ℕ) → entries_of p st.run.lawful.run.merge ≡ entries_of p s.front ++ entries_of p found_then
    found_of p = ap (entries_of p) then_is ∙ entries_append p s.front found_then

    unseen_is : (p : ℕ) → (below : p < length plant.wiring.controllers + 1) → entries_of p found_then ≡ filter is_event (unseen (journal_at plant.wiring before) mid.seen p)
    unseen_is p below =
        let o = s.saw p below in
        let mine : entries_of p s.front ++ entries_of p found_then ≡ entries_of p s.front ++ filter is_event o.more =
        sym (found_of p) ∙ events_are plant (given_by mid) fuel (told_done before) st.run p ∙ ap (filter is_event) o.is ∙ filter_both o.old o.more
        ∙ ap (λ (z : List Entry). z ++ filter is_event o.more) (sym o.events) in
        let behind : unseen (journal_at plant.wiring before) mid.seen p ≡ o.more =
        ap (λ (k : ℕ). drop k (journal_at plant.wiring before p)) o.counted ∙ ap (drop (length o.old)) o.is ∙ drop_at o.old o.more (length o.old) refl in
        append_cancel_left (entries_of p s.front) (entries_of p found_then) (filter is_event o.more) mine ∙ ap (filter is_event) (sym behind)

    found_order : InOrder found_then
    found_order = order_back s.front found_then (subst InOrder then_is st.run.lawful.run.is.ordered)

    rises : (p : ℕ) → p < length plant.wiring.controllers + 1 → Rise (filter is_event (unseen (journal_at plant.wiring before) mid.seen p))
    rises p below = subst Rise (unseen_is p below) (order_rises p found_then found_order)

    seen_then : AreSeen (length plant.wiring.controllers + 1) (journal_at plant.wiring before) mid.seen now.seen w.found
    seen_then = are_seen (length plant.wiring.controllers + 1) (journal_at plant.wiring before) mid.seen now.seen w.found w.sees s.count rises

    found_is : events w.found ≡ found_then
    found_is = one_merge (events w.found) found_then seen_then.ordered found_order (λ p. same p (cases_lt p (length plant.wiring.controllers + 1)))
      where
        same : (p : ℕ) → (p < length plant.wiring.controllers + 1) ⊎ (length plant.wiring.controllers + 1 ≤ p) → entries_of p (events w.found) ≡ entries_of p found_then
        same p (inl below) = seen_then.whole p below ∙ sym (unseen_is p below)
        same p (inr past) =
            let none : entries_of p st.run.lawful.run.merge ≡ [] =
            no_others (run_plant plant (lines_of (items_of plant.wiring (given_by mid)))) (start (run_plant plant (lines_of (items_of plant.wiring (given_by mid)))))
            st.run.lawful.run.merge st.run.lawful.run.end st.run.lawful.run.run p (omega (arith, past)) in
            seen_then.beyond p past ∙ sym (nothing_there (entries_of p s.front) (entries_of p found_then) (sym (found_of p) ∙ none))

    saw_is : saw_all plant.wiring mid.timers w.found ≡ saw_all plant.wiring mid.timers found_then
    saw_is = saw_events plant.wiring mid.timers w.found ∙ ap (saw_all plant.wiring mid.timers) found_is

    -- ---- what the lines come to

    caught : caught_up plant.wiring (stands s.back mid) ≡ record { timers = saw_all plant.wiring mid.timers w.found; ahead = back_then; since = 0 }
    caught = ap (λ (ts : Timers). at ts) (sym saw_is)
      where
        at : Timers → Point
        at ts = record { timers = ts; ahead = back_then; since = 0 }

    goes_then : more ≡ true → nat_lt 0 (length back_then) ≡ true
    goes_then e = lt-ltb 0 (length back_then) (some back_then refl)
      where
        some : (back : List Placed) → back_then ≡ back → 0 < length back_then
        some (x ∷ xs) b = let long : 0 < length (x ∷ xs) = omega arith in omega (arith, long, ap length b)
        some [] b =
            let one : 0 < length now.part = follows.follows.begins e in
            let asked : messages now.part ≡ length now.part =
            all_messages now.part (recursion_from_All (λ (l : Line). is_message l.what ≡ true) now.part follows.follows.of) in
            let now_sent : messages (given_by now) ≡ messages now.gone + messages now.part = messages_both now.gone now.part in
            let gone_sent : messages now.gone ≡ messages (given_by mid) + messages follows.follows.settles =
            ap messages follows.follows.is ∙ messages_both (given_by mid) follows.follows.settles in
            let whole : messages all ≡ messages (given_by now) + messages rest = ap messages is ∙ messages_both (given_by now) rest in
            let posts : entries_of (length plant.wiring.controllers) run.lawful.run.merge ≡ entries_of (length plant.wiring.controllers) st.run.lawful.run.merge =
            ap (entries_of (length plant.wiring.controllers)) (whole_then ∙ ap (λ (z : List Placed). st.run.lawful.run.merge ++ z) b ∙ append-nil st.run.lawful.run.merge) in
            absurd (omega (arith, one, asked, now_sent, gone_sent, whole, ap length posts, then_posts, all_posted))

    done_then : back_then ≡ [] → j.done ≡ true
    done_then b = go j.done refl
      where
        go : (d : Bool) → j.done ≡ d → d ≡ true
        go true e = refl
        go false e =
            let quiet = quiet_then (back_is ∙ b) in
            absurd ((run.ended.is_stopped e).busy
            (record {
              lanes = λ l. sym (run.lawful.run.same.lanes l) ∙ quiet.lanes l;
              pending = λ c p below. ap (λ (z : State (Body Actor)). z.pending p) (sym (run.lawful.run.same.controllers c below)) ∙ quiet.pending c p below;
              outbox = λ c below. ap (λ (z : State (Body Actor)). z.outbox) (sym (run.lawful.run.same.controllers c below)) ∙ quiet.outbox c below;
            }))

    ok_then : (j.done || nat_lt 0 (length back_then)) ≡ true
    ok_then = go back_then refl
      where
        go : (back : List Placed) → back_then ≡ back → (j.done || nat_lt 0 (length back_then)) ≡ true
        go [] b = or_left j.done (nat_lt 0 (length back_then)) (done_then b)
        go (x ∷ xs) b =
            let long : 0 < length (x ∷ xs) = omega arith in
            or_right j.done (nat_lt 0 (length back_then)) (lt-ltb 0 (length back_then) (omega (arith, long, ap length b)))

    leads : (xs left : List Line) → Resumes plant.wiring j.done (stands back_then now) now.left (drop now.to now.lines) xs left
        → Rest plant.wiring j.done (record { timers = saw_all plant.wiring mid.timers w.found; ahead = back_then; since = 0 }) mid.left (drop mid.to mid.lines) (given_by mid) (standing now more) xs left
    leads =
        subst (λ (z : Standing). (z.more ≡ true → nat_lt 0 (length back_then) ≡ true) → (xs left : List Line)
        → Resumes plant.wiring j.done (record { timers = z.timers; ahead = back_then; since = length z.part }) z.left z.behind xs left
        → Rest plant.wiring j.done (record { timers = saw_all plant.wiring mid.timers w.found; ahead = back_then; since = 0 }) mid.left (drop mid.to mid.lines) (given_by mid) z xs left)
        w.goes
        (all_lead plant.wiring j.done back_then (cut_stops (length plant.wiring.controllers) (length mid.part) s.back) ok_then mid.left (drop mid.to mid.lines) (given_by mid) (saw_all plant.wiring mid.timers w.found))
        goes_then

    path_then : (xs left : List Line) → Resumes plant.wiring j.done (stands back_then now) now.left (drop now.to lines) xs left
        → Expands plant.wiring j.done (beginning run.lawful.run.merge) lines (given_by now ++ xs) left
    path_then xs left r =
        let lines_now : lines ≡ now.lines = sym (w.lines ∙ s.lines_are) in
        let tail = leads xs left (subst (λ (ls : List Line). Resumes plant.wiring j.done (stands back_then now) now.left (drop now.to ls) xs left) lines_now r) in
        let over : Resumes plant.wiring j.done (caught_up plant.wiring (stands s.back mid)) mid.left (drop mid.to lines) tail.ys left =
        subst (λ (p : Point). Resumes plant.wiring j.done p mid.left (drop mid.to lines) tail.ys left) (sym caught)
        (subst (λ (ls : List Line). Resumes plant.wiring j.done (record { timers = saw_all plant.wiring mid.timers w.found; ahead = back_then; since = 0 }) mid.left (drop mid.to ls) tail.ys left) s.lines_are tail.resumes) in
        let from : Resumes plant.wiring j.done (stands s.back mid) mid.left (drop mid.to lines) tail.ys left =
        resumes_same plant.wiring j.done (stands s.back mid) (caught_up plant.wiring (stands s.back mid)) mid.left (drop mid.to lines) tail.ys left
        (same_caught plant.wiring (stands s.back mid)) over in
        subst (λ (z : List Line). Expands plant.wiring j.done (beginning run.lawful.run.merge) lines z left) (sym tail.is) (s.path tail.ys left from)

    -- so the walk stands in the run again
    pub goes_there : (js : Seen) → Grew before js → Stands now js
    goes_there js g = record {
      front = st.run.lawful.run.merge;
      back = back_then;
      whole = whole_then;
      wiring = w.wiring ∙ s.wiring;
      lines_are = w.lines ∙ s.lines_are;
      count = seen_then.long ∙ s.count;
      sent =
          let gone_sent : messages now.gone ≡ messages (given_by mid) + messages follows.follows.settles =
          ap messages follows.follows.is ∙ messages_both (given_by mid) follows.follows.settles in
          let none : messages follows.follows.settles ≡ 0 = no_messages follows.follows.settles follows.follows.are in
          omega (arith, then_posts, gone_sent, none);
      part = all_messages now.part (recursion_from_All (λ (l : Line). is_message l.what ≡ true) now.part follows.follows.of);
      saw = λ p below.
          let m = grew_at plant.wiring before js g p in
          let o = s.saw p below in
          record {
            old = journal_at plant.wiring before p;
            more = m.0;
            is = m.1;
            counted = seen_then.counted p below (omega (arith, o.counted, ap length o.is, length-append o.old o.more));
            events = events_are plant (given_by mid) fuel (told_done before) st.run p;
          };
      fresh = λ plain.
          ap (λ (z : Standing). z.left) (sym w.goes)
          ∙ all_plain mid.left (drop mid.to mid.lines) (given_by mid) (saw_all plant.wiring mid.timers w.found)
          (subst (λ (ls : List Line). AllByRecursion IsPlain (drop mid.to ls)) (sym s.lines_are) (plain_behind mid.to lines plain)) (s.fresh plain);
      path = path_then;
    }
      where
        plain_behind : (k : ℕ) (ls : List Line) → AllByRecursion IsPlain ls → AllByRecursion IsPlain (drop k ls)
        plain_behind zero ls h = h
        plain_behind (suc k) [] h = tt
        plain_behind (suc k) (l ∷ ls) h = plain_behind k ls h.1
