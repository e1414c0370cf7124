-- A run of a plant: its merge, what happened to each party, and how many lines were posted.
use Rattle.std.proofs.Common.{◌≡◌, ℕ, zero, suc, ◌+◌, ◌-◌, ◌<◌, ◌≤◌, ◌==◌, nat_lt, nat_le, Bool, true, false, if◌then◌else◌, List, [], ◌∷◌, ◌++◌, map, length, slice_get, slice_index_or, Option, Some, None, refl, sym, ap, ◌∙◌, subst, arith, lt-ltb, le-ltb, eq-eqb, ◌⊎◌, inl, inr}
use Rattle.std.specs.Prelude.{filter}
use Rattle.std.specs.List.{AllByRecursion}
use Rattle.std.specs.Option.{option_map_or}
use Rattle.std.proofs.lemmas.Bool.{cases_eq, cases_lt, ne_eqb, leb-false}
use Rattle.std.proofs.lemmas.Option.{slice_get_within, same_Some}
use Rattle.journal.specs.declared.entry.Entry.{Entry}
use Rattle.journal.specs.declared.entry.Entry.TheVariants as entry
use Rattle.journal.specs.declared.entry.Journals.{Journals}
use Rattle.room_wiring.specs.declared.tables.Tables.{Tables}
use Rattle.inject_reader.specs.declared.inject_lines.accepted.Line.{Line}
use Rattle.inject_reader.specs.declared.inject_lines.accepted.What.{What}
use Rattle.inject_reader.specs.declared.inject_lines.accepted.What.TheVariants as whats
use Rattle.actor_merge.specs.Mail.{event_of}
use Rattle.actor_merge.specs.Parties.{Line as Posted, Plant as RunPlant, State, Environment, environment_post, post_line, part_of, part_before, begins}
use Rattle.actor_merge.specs.World.{World, Placed, start, caught_up, controller_does, environment_does, Runs, IsQuiet}
use Rattle.actor_merge.specs.Merge.{IsMerge, entries_of}
use Rattle.actor_merge.proofs.Back.{Happened, controller, environment, happened}
use Rattle.actor_merge.proofs.Steps.{line_posted, caught_up-posted}
use Rattle.actor_world.specs.Body.{Body}
use Rattle.actor_world.specs.Journals.{Item, Message, Settle, lines_from, lines_of, unposted_from, number_of, last_part}
use Rattle.actor_world.specs.Start.{start_entries}
use Rattle.chart_behaviour.specs.ModelCharts.{Actor}
use Rattle.controller_actors.specs.Plants.{model_of}
use Rattle.controller_actors.specs.declared.plant.Plant.{Plant}
use Rattle.controller.proofs.Standing.{some_at}
use Rattle.controller.specs.Controllers.{run_plant}
use Rattle.model_run.specs.part_posts.Items.{injected, item_of, items_of}
use Rattle.model_run.specs.part_source.Parts.{is_message}
use Rattle.model_run.specs.run_ends.Runs.{journal_of, IsRun}
use Rattle.model_run.proofs.run_rounds.LinesLaw.{begins-later}
use Rattle.model_run.proofs.run_start.StartLaw.{IsStart, OnlyStarts, start_is_starts}
use Rattle.room_timer.specs.Expansion.{is_event, events_of}
use Rattle.timed_runs.proofs.Points.{own_first, other_first}

-- ---- lists of entries

abbrev pub AreEvents : List Entry → Type 0
AreEvents es = AllByRecursion (λ (e : Entry). is_event e ≡ true) es

-- of events nothing is left out
all_kept : (es : List Entry) → AreEvents es → filter is_event es ≡ es
all_kept [] h = refl
all_kept (e ∷ es) h = ap (λ (b : Bool). if b then e ∷ filter is_event es else filter is_event es) h.0 ∙ ap (λ (z : List Entry). e ∷ z) (all_kept es h.1)

pub filter_both : (xs ys : List Entry) → filter is_event (xs ++ ys) ≡ filter is_event xs ++ filter is_event ys
filter_both [] ys = refl
filter_both (e ∷ es) ys = by (is_event e) (filter_both es ys)
  where
    by : (b : Bool) → filter is_event (es ++ ys) ≡ filter is_event es ++ filter is_event ys
        → (if b then e ∷ filter is_event (es ++ ys) else filter is_event (es ++ ys)) ≡ (if b then e ∷ filter is_event es else filter is_event es) ++ filter is_event ys
    by true h = ap (λ (z : List Entry). e ∷ z) h
    by false h = h

start_is_none : (e : Entry) → IsStart e → is_event e ≡ false
start_is_none (entry.Start who state ns) h = refl
start_is_none (entry.Fetch stamp m) h = absurd h
start_is_none (entry.Turn stamp from sent did ns) h = absurd h
start_is_none (entry.Post stamp m) h = absurd h

no_starts : (es : List Entry) → OnlyStarts es → filter is_event es ≡ []
no_starts [] h = refl
no_starts (e ∷ es) h = ap (λ (b : Bool). if b then e ∷ filter is_event es else filter is_event es) (start_is_none e h.0) ∙ no_starts es h.1

-- ---- runs of the world

module _ {B : Type 0} (plant : RunPlant B) where
  controller_event : (w : World B) (c : ℕ) (e : Entry) (s : State B) → controller_does plant w c (event_of e) ≡ Some (s, e) → is_event e ≡ true
  controller_event w c (entry.Start who state ns) s h = absurd cc
  controller_event w c (entry.Fetch stamp m) s h = refl
  controller_event w c (entry.Turn stamp from sent did ns) s h = refl
  controller_event w c (entry.Post stamp m) s h = refl

  environment_event : (w : World B) (e : Entry) (v : Environment) → environment_does plant w (event_of e) ≡ Some (v, e) → is_event e ≡ true
  environment_event w (entry.Start who state ns) v h = absurd cc
  environment_event w (entry.Fetch stamp m) v h = refl
  environment_event w (entry.Turn stamp from sent did ns) v h = refl
  environment_event w (entry.Post stamp m) v h = refl

  is_one : (w : World B) (x : Placed) (next : World B) → Happened plant w x next → is_event x.entry ≡ true
  is_one w x next (controller below s does same) = controller_event w x.party x.entry s does
  is_one w x next (environment at v does same) = environment_event w x.entry v does

  -- all that stands in a run happened
  all_happened : (w : World B) (xs : List Placed) (end : World B) → Runs plant w xs end → (p : ℕ) → AreEvents (entries_of p xs)
  all_happened w [] end r p = tt
  all_happened w (x ∷ xs) end r p = go (cases_eq x.party p) (all_happened r.0 xs end r.3 p)
    where
      go : (x.party ≡ p) ⊎ (x.party ≡ p → ⊥) → AreEvents (entries_of p xs) → AreEvents (entries_of p (x ∷ xs))
      go (inl own) rest = subst AreEvents (sym (own_first p x xs own)) (is_one w x r.0 (happened plant w x r.0 r.2), rest)
      go (inr apart) rest = subst AreEvents (sym (other_first p x xs apart)) rest

  -- nobody else is a party of it
  pub no_others : (w : World B) (xs : List Placed) (end : World B) → Runs plant w xs end → (p : ℕ) → plant.controllers < p → entries_of p xs ≡ []
  no_others w [] end r p beyond = refl
  no_others w (x ∷ xs) end r p beyond =
      other_first p x xs (λ own. apart own (happened plant w x r.0 r.2)) ∙ no_others r.0 xs end r.3 p beyond
    where
      apart : x.party ≡ p → Happened plant w x r.0 → ⊥
      apart own (controller below s does same) = omega (arith, own, below, beyond)
      apart own (environment at v does same) = omega (arith, own, at, beyond)

  -- the environment posts the next line
  line_step : (w : World B) (e : Entry) (v : Environment) → environment_does plant w (event_of e) ≡ Some (v, e) → v.posted ≡ w.environment.posted + 1
  line_step w (entry.Start who state ns) v h = absurd cc
  line_step w (entry.Fetch stamp m) v h = absurd cc
  line_step w (entry.Turn stamp from sent did ns) v h = absurd cc
  line_step w (entry.Post stamp m) v h = line_posted plant (caught_up plant w) v (entry.Post stamp m) h ∙ ap (λ (k : ℕ). k + 1) (caught_up-posted plant w)

  post_within : (v next : Environment) (e : Entry) → environment_post plant v ≡ Some (next, e) → v.posted < length plant.lines
  unfolding environment_post
  post_within v next e h = go (slice_get plant.lines v.posted) refl h
    where
      go : (o : Option Posted) → slice_get plant.lines v.posted ≡ o → post_line plant.controllers v o ≡ Some (next, e) → v.posted < length plant.lines
      go None is k = absurd cc
      go (Some line) is k = slice_get_within plant.lines v.posted line is

  line_within : (w : World B) (e : Entry) (v : Environment) → environment_does plant w (event_of e) ≡ Some (v, e) → w.environment.posted < length plant.lines
  line_within w (entry.Start who state ns) v h = absurd cc
  line_within w (entry.Fetch stamp m) v h = absurd cc
  line_within w (entry.Turn stamp from sent did ns) v h = absurd cc
  line_within w (entry.Post stamp m) v h =
      subst (λ (k : ℕ). k < length plant.lines) (caught_up-posted plant w) (post_within (caught_up plant w) v (entry.Post stamp m) h)

  -- its entries are as many as the lines that it posted
  pub posted_count : (w : World B) (xs : List Placed) (end : World B) → Runs plant w xs end
      → end.environment.posted ≡ w.environment.posted + length (entries_of plant.controllers xs)
  posted_count w [] end r = ap (λ (v : World B). v.environment.posted) r ∙ none
    where
      none : w.environment.posted ≡ w.environment.posted + 0
      none = omega arith
  posted_count w (x ∷ xs) end r = go (happened plant w x r.0 r.2) (posted_count r.0 xs end r.3)
    where
      go : Happened plant w x r.0 → end.environment.posted ≡ r.0.environment.posted + length (entries_of plant.controllers xs)
          → end.environment.posted ≡ w.environment.posted + length (entries_of plant.controllers (x ∷ xs))
      go (controller below s does same) rest =
          let stays : r.0.environment.posted ≡ w.environment.posted = ap (λ (v : World B). v.environment.posted) same in
          let none : entries_of plant.controllers (x ∷ xs) ≡ entries_of plant.controllers xs =
          other_first plant.controllers x xs (λ own. omega (arith, own, below)) in
          omega (arith, rest, stays, ap length none)
      go (environment at v does same) rest =
          let steps : r.0.environment.posted ≡ w.environment.posted + 1 =
          ap (λ (v : World B). v.environment.posted) same ∙ line_step w x.entry v does in
          omega (arith, rest, steps, ap length (own_first plant.controllers x xs at))

  pub posted_within : (w : World B) (xs : List Placed) (end : World B) → Runs plant w xs end → w.environment.posted ≤ length plant.lines
      → end.environment.posted ≤ length plant.lines
  posted_within w [] end r low = subst (λ (v : World B). v.environment.posted ≤ length plant.lines) (sym r) low
  posted_within w (x ∷ xs) end r low = posted_within r.0 xs end r.3 (go (happened plant w x r.0 r.2))
    where
      go : Happened plant w x r.0 → r.0.environment.posted ≤ length plant.lines
      go (controller below s does same) = subst (λ (v : World B). v.environment.posted ≤ length plant.lines) (sym same) low
      go (environment at v does same) =
          let steps : r.0.environment.posted ≡ w.environment.posted + 1 =
          ap (λ (v : World B). v.environment.posted) same ∙ line_step w x.entry v does in
          let within : w.environment.posted < length plant.lines = line_within w x.entry v does in
          omega (arith, steps, within)

  -- a run in two parts
  pub record Split (w : World B) (a b : List Placed) (end : World B) : Type 0 where
    pub mid : World B
    pub first : Runs plant w a mid
    pub second : Runs plant mid b end

  pub split : (w : World B) (a b : List Placed) (end : World B) → Runs plant w (a ++ b) end → Split w a b end
  split w [] b end r = record { mid = w; first = refl; second = r }
  split w (x ∷ a) b end r =
      let rest = split r.0 a b end r.3 in
      record { mid = rest.mid; first = (r.0, r.1, r.2, rest.first); second = rest.second }

-- ---- lines and parts

-- how many of these lines are messages
abbrev pub messages : List Line → ℕ
messages [] = 0
messages (l ∷ lines) = (if is_message l.what then 1 else 0) + messages lines

-- how many of them are none
abbrev pub settles : List Line → ℕ
settles [] = 0
settles (l ∷ lines) = (if is_message l.what then 0 else 1) + settles lines

pub messages_both : (a b : List Line) → messages (a ++ b) ≡ messages a + messages b
messages_both [] b = omega arith
messages_both (l ∷ a) b = let rest : messages (a ++ b) ≡ messages a + messages b = messages_both a b in omega (arith, rest)

pub all_messages : (lines : List Line) → AllByRecursion (λ (l : Line). is_message l.what ≡ true) lines → messages lines ≡ length lines
all_messages [] h = refl
all_messages (l ∷ lines) h =
    let one : ◌≡◌ {A = ℕ} (if is_message l.what then 1 else 0) 1 = ap (λ (b : Bool). if b then 1 else 0) h.0 in
    let rest : messages lines ≡ length lines = all_messages lines h.1 in
    omega (arith, one, rest)

pub no_messages : (lines : List Line) → AllByRecursion (λ (l : Line). is_message l.what ≡ false) lines → messages lines ≡ 0
no_messages [] h = refl
no_messages (l ∷ lines) h =
    let none : ◌≡◌ {A = ℕ} (if is_message l.what then 1 else 0) 0 = ap (λ (b : Bool). if b then 1 else 0) h.0 in
    let rest : messages lines ≡ 0 = no_messages lines h.1 in
    omega (arith, none, rest)

-- from which part on the lines are
parts_from : (q : ℕ) (items : List Item) (k : ℕ) (x : Posted) → slice_get (lines_from q items) k ≡ Some x → q ≤ x.part
parts_from q [] k x h = absurd (omega (arith, slice_get_within [] k x h))
parts_from q (Message number m ∷ items) zero x h =
    let same : q ≡ x.part = ap (λ (z : Posted). z.part) (same_Some (record { part = q; message = m }) x h) in omega (arith, same)
parts_from q (Message number m ∷ items) (suc k) x h = parts_from q items k x h
parts_from q (Settle number ∷ items) k x h = omega (arith, parts_from (q + 1) items k x h)

module _ (t : Tables) where
  -- a message stands for a line, and what is none begins a part
  lines_step : (q : ℕ) (l : Line) (lines : List Line) (w : What) → l.what ≡ w
      → length (lines_from q (items_of t (l ∷ lines))) ≡ (if is_message w then 1 else 0) + length (lines_from (if is_message w then q else q + 1) (items_of t lines))
  lines_step q l lines w is =
      ap (λ (z : What). length (lines_from q (item_of t l.number z ∷ items_of t lines))) is ∙ go w
    where
      go : (z : What) → length (lines_from q (item_of t l.number z ∷ items_of t lines)) ≡ (if is_message z then 1 else 0) + length (lines_from (if is_message z then q else q + 1) (items_of t lines))
      go whats.Settle = omega arith
      go (whats.Advance time) = omega arith
      go (whats.Message target signal payload prio) = omega arith

  pub line_count : (q : ℕ) (lines : List Line) → length (lines_from q (items_of t lines)) ≡ messages lines
  line_count q [] = refl
  line_count q (l ∷ lines) =
      let here = lines_step q l lines l.what refl in
      let rest : length (lines_from (if is_message l.what then q else q + 1) (items_of t lines)) ≡ messages lines =
      line_count (if is_message l.what then q else q + 1) lines in
      omega (arith, here, rest)

  -- the lines of two lists: the parts of the second come behind those of the first
  pub lines_both : (q : ℕ) (a b : List Line)
      → lines_from q (items_of t (a ++ b)) ≡ lines_from q (items_of t a) ++ lines_from (q + settles a) (items_of t b)
  lines_both q [] b = let same : q ≡ q + 0 = omega arith in ap (λ (k : ℕ). lines_from k (items_of t b)) same
  lines_both q (l ∷ a) b = go l.what (lines_both q a b) (lines_both (q + 1) a b)
    where
      go : (w : What) → lines_from q (items_of t (a ++ b)) ≡ lines_from q (items_of t a) ++ lines_from (q + settles a) (items_of t b)
          → lines_from (q + 1) (items_of t (a ++ b)) ≡ lines_from (q + 1) (items_of t a) ++ lines_from ((q + 1) + settles a) (items_of t b)
          → lines_from q (item_of t l.number w ∷ items_of t (a ++ b))
          ≡ lines_from q (item_of t l.number w ∷ items_of t a) ++ lines_from (q + ((if is_message w then 0 else 1) + settles a)) (items_of t b)
      go whats.Settle same next =
          let count : (q + 1) + settles a ≡ q + (1 + settles a) = omega arith in
          next ∙ ap (λ (k : ℕ). lines_from (q + 1) (items_of t a) ++ lines_from k (items_of t b)) count
      go (whats.Advance time) same next =
          let count : (q + 1) + settles a ≡ q + (1 + settles a) = omega arith in
          next ∙ ap (λ (k : ℕ). lines_from (q + 1) (items_of t a) ++ lines_from k (items_of t b)) count
      go (whats.Message target signal payload prio) same next =
          let count : q + settles a ≡ q + (0 + settles a) = omega arith in
          ap (λ (xs : List Posted). first ∷ xs) (same ∙ ap (λ (k : ℕ). lines_from q (items_of t a) ++ lines_from k (items_of t b)) count)
        where
          first : Posted
          first = record { part = q; message = injected t target signal payload prio }

  -- and up to which part
  parts_to : (q : ℕ) (lines : List Line) (k : ℕ) (x : Posted) → slice_get (lines_from q (items_of t lines)) k ≡ Some x → x.part ≤ q + settles lines
  parts_to q [] k x h = absurd (omega (arith, slice_get_within [] k x h))
  parts_to q (l ∷ lines) k x h = go l.what k h (λ i g. parts_to q lines i x g) (λ i g. parts_to (q + 1) lines i x g)
    where
      go : (w : What) (k : ℕ) → slice_get (lines_from q (item_of t l.number w ∷ items_of t lines)) k ≡ Some x
          → ((i : ℕ) → slice_get (lines_from q (items_of t lines)) i ≡ Some x → x.part ≤ q + settles lines)
          → ((i : ℕ) → slice_get (lines_from (q + 1) (items_of t lines)) i ≡ Some x → x.part ≤ (q + 1) + settles lines)
          → x.part ≤ q + ((if is_message w then 0 else 1) + settles lines)
      go whats.Settle k h same next = let low : x.part ≤ (q + 1) + settles lines = next k h in omega (arith, low)
      go (whats.Advance time) k h same next = let low : x.part ≤ (q + 1) + settles lines = next k h in omega (arith, low)
      go (whats.Message target signal payload prio) zero h same next =
          let here : q ≡ x.part = ap (λ (z : Posted). z.part) (same_Some (record { part = q; message = injected t target signal payload prio }) x h) in
          omega (arith, here)
      go (whats.Message target signal payload prio) (suc k) h same next = let low : x.part ≤ q + settles lines = same k h in omega (arith, low)

at_back : {X : Type 0} (xs ys : List X) → slice_get (xs ++ ys) (length xs) ≡ slice_get ys 0
at_back [] ys = refl
at_back (x ∷ xs) ys = at_back xs ys

at_front : {X : Type 0} (xs ys : List X) (k : ℕ) → k < length xs → slice_get (xs ++ ys) k ≡ slice_get xs k
at_front [] ys k h = absurd (omega (arith, h))
at_front (x ∷ xs) ys zero h = refl
at_front (x ∷ xs) ys (suc k) h = at_front xs ys k (omega (arith, h))

-- where the lines go on by one that asks for no message, the next line that is posted begins a part
-- where each place of a list is below a number, so is its length
all_below : {X : Type 0} (xs : List X) (n : ℕ) → ((k : ℕ) (x : X) → slice_get xs k ≡ Some x → k < n) → length xs ≤ n
all_below [] n h = omega arith
all_below (x ∷ xs) n h =
    let there = some_at (x ∷ xs) (length xs) (omega arith) in
    let low : length xs < n = h (length xs) there.0 there.1 in
    omega (arith, low)

-- where no line from the end of a part on is unposted, no line is of a later part
nothing_behind : (items : List Item) (q r : ℕ) → unposted_from r items ≡ [] → (k : ℕ) (x : Posted) → slice_get (lines_from q items) k ≡ Some x → x.part ≤ q + (r - 1)
nothing_behind [] q r none k x h = absurd (omega (arith, slice_get_within [] k x h))
nothing_behind (Message number m ∷ items) q r none zero x h =
    let same : q ≡ x.part = ap (λ (z : Posted). z.part) (same_Some (record { part = q; message = m }) x h) in omega (arith, same)
nothing_behind (Message number m ∷ items) q r none (suc k) x h = nothing_behind items q r none k x h
nothing_behind (Settle number ∷ items) q r none k x h = by (nat_le r 1) refl none (λ rest. nothing_behind items (q + 1) (r - 1) rest k x h)
  where
    by : (b : Bool) → nat_le r 1 ≡ b → (if b then number ∷ map number_of items else unposted_from (r - 1) items) ≡ []
        → (unposted_from (r - 1) items ≡ [] → x.part ≤ (q + 1) + ((r - 1) - 1)) → x.part ≤ q + (r - 1)
    by true e none rest = absurd cc
    by false e none rest =
        let high : 1 < r = leb-false r 1 e in
        let low : x.part ≤ (q + 1) + ((r - 1) - 1) = rest none in
        omega (arith, high, low)

-- the last part is 1 at least
last_least : (items : List Item) (posted : ℕ) → 1 ≤ last_part (lines_of items) posted
last_least items zero = omega arith
last_least items (suc k) = go (slice_get (lines_of items) k) refl
  where
    go : (o : Option Posted) → slice_get (lines_of items) k ≡ o → 1 ≤ option_map_or (λ (x : Posted). x.part) o 1
    go None e = omega arith
    go (Some x) e = parts_from 1 items k x e

module _ (plant : Plant) (front : List Line) (l : Line) (back : List Line) (none : is_message l.what ≡ false) where
  abbrev t : Tables
  t = plant.wiring

  abbrev plan : RunPlant (Body Actor)
  plan = run_plant plant (lines_of (items_of plant.wiring (front ++ l ∷ back)))

  whole : lines_of (items_of plant.wiring (front ++ l ∷ back))
      ≡ lines_of (items_of plant.wiring front) ++ lines_from (1 + settles front) (items_of plant.wiring (l ∷ back))
  whole = lines_both plant.wiring 1 front (l ∷ back)

  -- the lines behind it are of later parts
  settle_first : lines_from (1 + settles front) (items_of plant.wiring (l ∷ back)) ≡ lines_from ((1 + settles front) + 1) (items_of plant.wiring back)
  settle_first = go l.what none
    where
      go : (w : What) → is_message w ≡ false
          → lines_from (1 + settles front) (item_of plant.wiring l.number w ∷ items_of plant.wiring back) ≡ lines_from ((1 + settles front) + 1) (items_of plant.wiring back)
      go whats.Settle e = refl
      go (whats.Advance time) e = refl
      go (whats.Message target signal payload prio) e = absurd cc

  count : length (lines_of (items_of plant.wiring front)) ≡ messages front
  count = line_count plant.wiring 1 front

  next_is : slice_get (lines_of (items_of plant.wiring (front ++ l ∷ back))) (messages front)
      ≡ slice_get (lines_from ((1 + settles front) + 1) (items_of plant.wiring back)) 0
  next_is =
      ap (λ (k : ℕ). slice_get (lines_of (items_of plant.wiring (front ++ l ∷ back))) k) (sym count)
      ∙ ap (λ (xs : List Posted). slice_get xs (length (lines_of (items_of plant.wiring front)))) whole
      ∙ at_back (lines_of (items_of plant.wiring front)) (lines_from (1 + settles front) (items_of plant.wiring (l ∷ back)))
      ∙ ap (λ (xs : List Posted). slice_get xs 0) settle_first

  before_low : (k : ℕ) → k ≡ messages front → part_before plan k < (1 + settles front) + 1
  before_low zero e = omega arith
  before_low (suc k) e =
      let below : k < length (lines_of (items_of plant.wiring front)) = omega (arith, e, count) in
      let here : slice_get (lines_of (items_of plant.wiring (front ++ l ∷ back))) k ≡ slice_get (lines_of (items_of plant.wiring front)) k =
      ap (λ (xs : List Posted). slice_get xs k) whole ∙ at_front (lines_of (items_of plant.wiring front)) (lines_from (1 + settles front) (items_of plant.wiring (l ∷ back))) k below in
      go k (slice_get (lines_of (items_of plant.wiring front)) k) refl here
    where
      go : (k : ℕ) (o : Option Posted) → slice_get (lines_of (items_of plant.wiring front)) k ≡ o
          → slice_get (lines_of (items_of plant.wiring (front ++ l ∷ back))) k ≡ slice_get (lines_of (items_of plant.wiring front)) k
          → part_of plan k < (1 + settles front) + 1
      go k None is same =
          let one : part_of plan k ≡ 1 = ap (λ (o : Option Posted). option_map_or (λ (x : Posted). x.part) o 1) (same ∙ is) in omega (arith, one)
      go k (Some x) is same =
          let one : part_of plan k ≡ x.part = ap (λ (o : Option Posted). option_map_or (λ (x : Posted). x.part) o 1) (same ∙ is) in
          let low : x.part ≤ 1 + settles front = parts_to plant.wiring 1 front k x is in
          omega (arith, one, low)

  pub begins_there : messages front < length (lines_of (items_of plant.wiring (front ++ l ∷ back))) → begins plan (messages front) ≡ true
  begins_there within =
      let at = some_at (lines_of (items_of plant.wiring (front ++ l ∷ back))) (messages front) within in
      let high : (1 + settles front) + 1 ≤ at.0.part = parts_from ((1 + settles front) + 1) (items_of plant.wiring back) 0 at.0 (sym next_is ∙ at.1) in
      let is : part_of plan (messages front) ≡ at.0.part = ap (λ (o : Option Posted). option_map_or (λ (x : Posted). x.part) o 1) at.1 in
      let low : part_before plan (messages front) < (1 + settles front) + 1 = before_low (messages front) refl in
      begins-later plan (messages front) at.0.part is (omega (arith, low, high))

-- ---- a run of a plant

module _ (plant : Plant) (lines : List Line) (fuel : ℕ) (j : Journals) (run : IsRun plant lines fuel j) where
  abbrev pub n_of : ℕ
  n_of = length plant.wiring.controllers

  abbrev pub merge_of : List Placed
  merge_of = run.lawful.run.merge

  -- the journal of a controller, and of the environment
  controller_journal : (p : ℕ) → p < length plant.wiring.controllers → journal_of j p ≡ slice_index_or j.controllers p []
  controller_journal p below =
      ap (λ (b : Bool). if b then slice_index_or j.controllers p [] else (if nat_lt (length j.controllers) p then [] else j.environment))
      (lt-ltb p (length j.controllers) (omega (arith, below, run.count)))

  environment_journal : journal_of j (length plant.wiring.controllers) ≡ j.environment
  environment_journal =
      ap (λ (b : Bool). if b then slice_index_or j.controllers (length plant.wiring.controllers) [] else (if nat_lt (length j.controllers) (length plant.wiring.controllers) then [] else j.environment))
      (le-ltb (length plant.wiring.controllers) (length j.controllers) (omega (arith, run.count)))
      ∙ ap (λ (b : Bool). if b then [] else j.environment) (le-ltb (length j.controllers) (length plant.wiring.controllers) (omega (arith, run.count)))

  own_events : (p : ℕ) → filter is_event (run.lawful.events p) ≡ entries_of p run.lawful.run.merge
  own_events p =
      ap (filter is_event) (sym (run.lawful.run.is.whole p))
      ∙ all_kept (entries_of p run.lawful.run.merge)
      (all_happened (run_plant plant (lines_of (items_of plant.wiring lines))) (start (run_plant plant (lines_of (items_of plant.wiring lines)))) run.lawful.run.merge run.lawful.run.end run.lawful.run.run p)

  pub events_are : (p : ℕ) → entries_of p run.lawful.run.merge ≡ events_of plant.wiring j p
  events_are p = go (cases_lt p (length plant.wiring.controllers)) (cases_eq p (length plant.wiring.controllers))
    where
      inside : p < length plant.wiring.controllers → events_of plant.wiring j p ≡ entries_of p run.lawful.run.merge
      inside below =
          ap (λ (b : Bool). filter is_event (if b then slice_index_or j.controllers p [] else if p == length plant.wiring.controllers then j.environment else []))
          (lt-ltb p (length plant.wiring.controllers) below)
          ∙ ap (filter is_event) (sym (controller_journal p below) ∙ run.lawful.begins p below)
          ∙ filter_both (start_entries (model_of plant) plant.wiring p) (run.lawful.events p)
          ∙ ap (λ (z : List Entry). z ++ filter is_event (run.lawful.events p)) (no_starts (start_entries (model_of plant) plant.wiring p) (start_is_starts (model_of plant) plant.wiring p))
          ∙ own_events p

      outside : length plant.wiring.controllers ≤ p → (b : Bool) → (p == length plant.wiring.controllers) ≡ b
          → events_of plant.wiring j p ≡ filter is_event (if b then j.environment else [])
      outside past b e =
          ap (λ (c : Bool). filter is_event (if c then slice_index_or j.controllers p [] else if p == length plant.wiring.controllers then j.environment else []))
          (le-ltb p (length plant.wiring.controllers) past)
          ∙ ap (λ (c : Bool). filter is_event (if c then j.environment else [])) e

      go : (p < length plant.wiring.controllers) ⊎ (length plant.wiring.controllers ≤ p) → (p ≡ length plant.wiring.controllers) ⊎ (p ≡ length plant.wiring.controllers → ⊥)
          → entries_of p run.lawful.run.merge ≡ events_of plant.wiring j p
      go (inl below) same = sym (inside below)
      go (inr past) (inl own) =
          sym (outside past true (eq-eqb p (length plant.wiring.controllers) own
          ) ∙ ap (filter is_event) (sym environment_journal ∙ run.lawful.environment ∙ ap run.lawful.events (sym own)) ∙ own_events p)
      go (inr past) (inr apart) =
          no_others (run_plant plant (lines_of (items_of plant.wiring lines))) (start (run_plant plant (lines_of (items_of plant.wiring lines)))) run.lawful.run.merge run.lawful.run.end run.lawful.run.run p
          (omega (arith, past, apart))
          ∙ sym (outside past false (ne_eqb p (length plant.wiring.controllers) apart))

  pub is_merge : IsMerge (events_of plant.wiring j) run.lawful.run.merge
  is_merge = record { ordered = run.lawful.run.is.ordered; whole = λ p. events_are p }

  -- so many lines were posted
  pub posts : run.lawful.run.end.environment.posted ≡ length (entries_of (length plant.wiring.controllers) run.lawful.run.merge)
  posts =
      let count = posted_count (run_plant plant (lines_of (items_of plant.wiring lines))) (start (run_plant plant (lines_of (items_of plant.wiring lines)))) run.lawful.run.merge run.lawful.run.end run.lawful.run.run in
      omega (arith, count)

  most : length (entries_of (length plant.wiring.controllers) run.lawful.run.merge) ≤ messages lines
  most =
      let low = posted_within (run_plant plant (lines_of (items_of plant.wiring lines))) (start (run_plant plant (lines_of (items_of plant.wiring lines)))) run.lawful.run.merge run.lawful.run.end run.lawful.run.run (omega arith) in
      omega (arith, low, posts, line_count plant.wiring 1 lines)

  world_posts : run.world.environment.posted ≡ length (entries_of (length plant.wiring.controllers) run.lawful.run.merge)
  world_posts = ap (λ (v : Environment). v.posted) (sym run.lawful.run.same.environment) ∙ posts

  -- where no line is unposted, all were posted
  pub all_posts : j.unposted ≡ [] → length (entries_of (length plant.wiring.controllers) run.lawful.run.merge) ≡ messages lines
  all_posts none = go j.done refl
    where
      go : (b : Bool) → j.done ≡ b → length (entries_of (length plant.wiring.controllers) run.lawful.run.merge) ≡ messages lines
      go true e = sym world_posts ∙ (run.ended.is_done e).all_posted ∙ line_count plant.wiring 1 lines
      go false e =
          let stopped = run.ended.is_stopped e in
          let last = last_part (lines_of (items_of plant.wiring lines)) run.world.environment.posted in
          let whole : length (lines_of (items_of plant.wiring lines)) ≤ run.world.environment.posted =
          all_below (lines_of (items_of plant.wiring lines)) run.world.environment.posted
          (λ k x at.
          let low : x.part ≤ 1 + (last - 1) = nothing_behind (items_of plant.wiring lines) 1 last (sym stopped.unposted_is ∙ none) k x at in
          let least : 1 ≤ last = last_least (items_of plant.wiring lines) run.world.environment.posted in
          stopped.part_posted k x at (omega (arith, low, least))) in
          omega (arith, whole, world_posts, most, line_count plant.wiring 1 lines)

  pub is_quiet : j.done ≡ true → IsQuiet (run_plant plant (lines_of (items_of plant.wiring lines))) run.lawful.run.end
  is_quiet e =
      let quiet = (run.ended.is_done e).quiet in
      record {
        lanes = λ l. run.lawful.run.same.lanes l ∙ quiet.lanes l;
        pending = λ c p below. ap (λ (s : State (Body Actor)). s.pending p) (run.lawful.run.same.controllers c below) ∙ quiet.pending c p below;
        outbox = λ c below. ap (λ (s : State (Body Actor)). s.outbox) (run.lawful.run.same.controllers c below) ∙ quiet.outbox c below;
      }
