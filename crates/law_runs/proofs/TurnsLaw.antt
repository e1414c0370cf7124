-- The journal of a controller keeps turns.
use Rattle.std.proofs.Common.{◌≡◌, ℕ, ◌<◌, ◌≤◌, ◌==◌, ◌&&◌, ◌||◌, Bool, true, false, not, cond, List, [], ◌∷◌, ◌++◌, filter, refl, sym, ap, ◌∙◌, subst, eq-eqb, eqb-true, arith, ◌⊎◌, inl, inr, Some}
use Rattle.std.specs.List.{Contains, AllByRecursion}
use Rattle.std.proofs.lemmas.Bool.{and_parts, and_from, or_left, true_from_ne_false, true≢false, cases_Bool}
use Rattle.std.proofs.lemmas.List.Elements.{filter-append, Contains-append_left}
use Rattle.std.proofs.lemmas.List.Folds.{list_any-append}
use Rattle.room_kinds.specs.declared.message.Msg.{Msg}
use Rattle.room_kinds.specs.declared.numbers.ControllerId.{ControllerId}
use Rattle.room_kinds.specs.declared.numbers.Stamp.{Stamp}
use Rattle.journal.specs.declared.entry.Entry.{Entry}
use Rattle.journal.specs.declared.entry.Entry.TheVariants as entry
use Rattle.room_wiring.specs.declared.tables.Tables.{Tables}
use Rattle.actor_merge.specs.Parties.{State, Line, Plant, Taken, Does, Replays}
use Rattle.actor_duties.specs.Words.{whose, is_incarnation}
use Rattle.room_kinds.specs.declared.numbers.Incarnation.{Incarnation}
use Rattle.actor_world.specs.Behaviour.{Behaviour}
use Rattle.actor_world.specs.Body.{Body}
use Rattle.actor_world.specs.Journals.{is_turn}
use Rattle.actor_world.specs.Life.{IsModest, dispatched_to, IsFor, DispatchesAsMeant}
use Rattle.actor_world.specs.Start.{plant_of, first_state}
use Rattle.actor_world.specs.world_laws.Counting.{count, of_priority, same_name, times}
use Rattle.actor_world.specs.world_laws.Deferrals.{KeptByDeferrer}
use Rattle.actor_world.specs.world_laws.Whereabouts.{fetched, TellsDefers, FetchedAddsUp}
use Rattle.actor_world.proofs.world_laws.Sums.{count-append}
use Rattle.law_runs.specs.Turns.{is_turn_of, had_turn, IsMeant, TurnIsRight}
use Rattle.law_runs.proofs.LivesLaw.{replay_front}
use Rattle.law_runs.proofs.Named.{head_or_tail, in_head, in_tail, counted, found, named_itself, name_from, same_back, one_of_name, not_twice}
use Rattle.law_runs.proofs.Order.{fetched-append, fresh, ordered}
use Rattle.law_runs.proofs.Splits.{Cut, within, behind, cut}
use Rattle.law_runs.proofs.TurnSteps.{IsFirst, next_first, TurnDone, turn_done}
use Rattle.law_runs.proofs.Untaken.{waits}

-- whether a message has the name of this one, and the same actor as its target
abbrev like : Msg → Msg → Bool
like m y = same_name m y && is_incarnation (whose m.target) (whose y.target)

like_itself : (m : Msg) → like m m ≡ true
like_itself m =
    and_from (same_name m m) (is_incarnation (whose m.target) (whose m.target)) (named_itself m)
    (and_from (m.target.slot.0 == m.target.slot.0) (m.target.generation.0 == m.target.generation.0) (eq-eqb _ _ refl) (eq-eqb _ _ refl))

meant_at : (g h k : ℕ) → h ≡ g → (g ≡ 0) ⊎ (g ≡ k) → (h ≡ 0) ⊎ (h ≡ k)
meant_at g h k e (inl z) = inl (e ∙ z)
meant_at g h k e (inr z) = inr (e ∙ z)

-- turns of one name are turns of each message of that name
turn_same : (m y : Msg) → same_name m y ≡ true → (e : Entry) → is_turn_of y e ≡ is_turn_of m e
turn_same m y n (entry.Start who state notes) = refl
turn_same m y n (entry.Fetch stamp z) = refl
turn_same m y n (entry.Post stamp z) = refl
turn_same m y n (entry.Turn stamp from sent what notes) =
    let p = name_from m y n in
    ap (λ (k : ℕ). (from.0 == k) && (sent.0 == y.stamp.0)) p.0 ∙ ap (λ (k : ℕ). (from.0 == m.from.0) && (sent.0 == k)) p.1

had_same : (m y : Msg) → same_name m y ≡ true → (es : List Entry) → had_turn y es ≡ had_turn m es
had_same m y n [] = refl
had_same m y n (e ∷ es) = ap (λ (b : Bool). b || had_turn y es) (turn_same m y n e) ∙ ap (λ (b : Bool). is_turn_of m e || b) (had_same m y n es)

-- two messages of one turn have one name
one_turn : (m y : Msg) (e : Entry) → is_turn_of m e ≡ true → is_turn_of y e ≡ true → same_name m y ≡ true
one_turn m y (entry.Start who state notes) a b = absurd cc
one_turn m y (entry.Fetch stamp z) a b = absurd cc
one_turn m y (entry.Post stamp z) a b = absurd cc
one_turn m y (entry.Turn stamp from sent what notes) a b =
    let p = and_parts (from.0 == m.from.0) (sent.0 == m.stamp.0) a in
    let q = and_parts (from.0 == y.from.0) (sent.0 == y.stamp.0) b in
    and_from (y.from.0 == m.from.0) (y.stamp.0 == m.stamp.0)
    (eq-eqb y.from.0 m.from.0 (sym (eqb-true from.0 y.from.0 q.0) ∙ eqb-true from.0 m.from.0 p.0))
    (eq-eqb y.stamp.0 m.stamp.0 (sym (eqb-true sent.0 y.stamp.0 q.1) ∙ eqb-true sent.0 m.stamp.0 p.1))

-- the first turn of a message
record FirstTurn (m : Msg) (es : List Entry) : Type 0 where
  before : List Entry
  turn : Entry
  after : List Entry
  is : es ≡ before ++ turn ∷ after
  its : is_turn_of m turn ≡ true
  none : had_turn m before ≡ false

first_turn : (m : Msg) (es : List Entry) → had_turn m es ≡ true → FirstTurn m es
first_turn m [] h = absurd cc
first_turn m (e ∷ es) h = go (is_turn_of m e) refl h (first_turn m es)
  where
    go : (b : Bool) → is_turn_of m e ≡ b → (b || had_turn m es) ≡ true → (had_turn m es ≡ true → FirstTurn m es) → FirstTurn m (e ∷ es)
    go true s h ih = record { before = []; turn = e; after = es; is = refl; its = s; none = refl }
    go false s h ih =
        let r = ih h in
        record {
          before = e ∷ r.before;
          turn = r.turn;
          after = r.after;
          is = ap (λ (z : List Entry). e ∷ z) r.is;
          its = r.its;
          none = ap (λ (b : Bool). b || had_turn m r.before) s ∙ r.none;
        }

-- what passes a test stands behind the first that does
record FirstPassing (test : Msg → Bool) (ms : List Msg) : Type 0 where
  first : Msg
  rest : List Msg
  are : filter test ms ≡ first ∷ rest
  there : Contains ms first

first_passing : (test : Msg → Bool) (ms : List Msg) (y : Msg) → Contains ms y → test y ≡ true → FirstPassing test ms
first_passing test [] y h p = absurd (omega (arith, h.1))
first_passing test (x ∷ ms) y h p = go (test x) refl (head_or_tail x ms y h) (λ k. first_passing test ms y k p)
  where
    go : (b : Bool) → test x ≡ b → (x ≡ y) ⊎ Contains ms y → (Contains ms y → FirstPassing test ms) → FirstPassing test (x ∷ ms)
    go true e a ih = record { first = x; rest = filter test ms; are = ap (λ (b : Bool). cond b (x ∷ filter test ms) (filter test ms)) e; there = in_head x ms }
    go false e (inl same) ih = absurd (true≢false (sym p ∙ ap test (sym same) ∙ e))
    go false e (inr k) ih =
        let r = ih k in
        record {
          first = r.first;
          rest = r.rest;
          are = ap (λ (b : Bool). cond b (x ∷ filter test ms) (filter test ms)) e ∙ r.are;
          there = in_tail x ms r.first r.there;
        }

module _ {M : Type 0} (model : Behaviour M) (t : Tables) (lines : List Line) (c : ℕ) (modest : IsModest model) (tells : TellsDefers model)
    (keepers : KeptByDeferrer M) (adds : FetchedAddsUp M) (means : DispatchesAsMeant M) where
  abbrev plan : Plant (Body M)
  plan = plant_of model t lines

  abbrev first : State (Body M)
  first = first_state model t c

  abbrev Once : List Entry → Type 0
  Once es = (m : Msg) → times m (fetched es) ≤ 1

  -- the message that a turn takes, among those that were fetched
  record Front (es : List Entry) (s : State (Body M)) (e : Entry) : Type 0 where
    k : Taken
    m : Msg
    replay : Replays plan c first es s
    is_first : IsFirst s.pending k
    there : Contains (fetched es) m
    name : same_name m k.message ≡ true
    prio : m.prio.0 ≡ k.priority
    own_prio : k.message.prio.0 ≡ k.priority
    turn : is_turn_of m e ≡ true
    meant : (x : Incarnation) → dispatched_to e ≡ Some x → IsMeant m x

  front : (es : List Entry) (s next : State (Body M)) (e : Entry) → Replays plan c first es s → Does plan c s e next → is_turn e ≡ true → Front es s e
  front es s next (entry.Start who state notes) r d is = absurd cc
  front es s next (entry.Fetch stamp m) r d is = absurd cc
  front es s next (entry.Post stamp m) r d is = absurd cc
  front es s next (entry.Turn stamp from sent what notes) r d is =
      let done : TurnDone s next from sent = turn_done plan c s next stamp from sent what notes d in
      let f = next_first s.pending done.taken done.next_is in
      let a = adds model t lines c modest tells es s r in
      let ranked : AllByRecursion (λ (y : Msg). y.prio.0 ≡ done.taken.priority) (done.taken.message ∷ done.taken.rest) =
      subst (AllByRecursion (λ (y : Msg). y.prio.0 ≡ done.taken.priority)) f.front (a.ranked done.taken.priority) in
      let own : of_priority done.taken.priority (like done.taken.message) done.taken.message ≡ true =
      and_from (done.taken.message.prio.0 == done.taken.priority) (like done.taken.message done.taken.message)
      (eq-eqb done.taken.message.prio.0 done.taken.priority ranked.0) (like_itself done.taken.message) in
      let some : 1 ≤ count (of_priority done.taken.priority (like done.taken.message)) (s.pending done.taken.priority) =
      subst (λ (z : List Msg). 1 ≤ count (of_priority done.taken.priority (like done.taken.message)) z) (sym f.front)
      (counted (of_priority done.taken.priority (like done.taken.message)) done.taken.message (done.taken.message ∷ done.taken.rest) own (in_head done.taken.message done.taken.rest)) in
      let sum = a.counts (like done.taken.message) done.taken.priority in
      let came : 1 ≤ count (of_priority done.taken.priority (like done.taken.message)) (fetched es) = omega (arith, some, sum) in
      let y = found (of_priority done.taken.priority (like done.taken.message)) (fetched es) came in
      let parts = and_parts (y.0.prio.0 == done.taken.priority) (like done.taken.message y.0) y.2 in
      let likes = and_parts (same_name done.taken.message y.0) (is_incarnation (whose done.taken.message.target) (whose y.0.target)) parts.1 in
      let names = name_from done.taken.message y.0 likes.0 in
      let ends = and_parts (done.taken.message.target.slot.0 == y.0.target.slot.0) (done.taken.message.target.generation.0 == y.0.target.generation.0) likes.1 in
      let slot : done.taken.message.target.slot.0 ≡ y.0.target.slot.0 = eqb-true _ _ ends.0 in
      let generation : y.0.target.generation.0 ≡ done.taken.message.target.generation.0 = sym (eqb-true done.taken.message.target.generation.0 y.0.target.generation.0 ends.1) in
      record {
        k = done.taken;
        m = y.0;
        replay = r;
        is_first = f;
        there = y.1;
        name = same_back done.taken.message y.0 likes.0;
        prio = eqb-true y.0.prio.0 done.taken.priority parts.0;
        own_prio = ranked.0;
        turn = and_from (from.0 == y.0.from.0) (sent.0 == y.0.stamp.0)
            (eq-eqb from.0 y.0.from.0 (ap (λ (z : ControllerId). z.0) (sym done.from_is) ∙ sym names.0))
            (eq-eqb sent.0 y.0.stamp.0 (ap (λ (z : Stamp). z.0) (sym done.sent_is) ∙ sym names.1));
        meant = λ x to.
            let q = means model t lines c s next stamp from sent what notes x d to in
            let both : Some q.0 ≡ Some done.taken = sym q.1 ∙ done.next_is in
            let same : q.0 ≡ done.taken = cc in
            let own : IsFor done.taken.message x s.body.frame.lives = subst (λ (z : Taken). IsFor z.message x s.body.frame.lives) same q.4 in
            record {
              slot = own.slot ∙ slot;
              generation = meant_at done.taken.message.target.generation.0 y.0.target.generation.0 x.generation.0 generation own.meant;
            };
      }

  -- a more urgent message had a turn
  urgent : (es : List Entry) (s : State (Body M)) (e : Entry) (f : Front es s e) (y : Msg) → Contains (fetched es) y → y.prio.0 < f.m.prio.0 → had_turn y es ≡ true
  urgent es s e f y there more = true_from_ne_false (had_turn y es) (λ had.
      let w = waits model t lines c modest tells keepers adds y y.prio.0 es s f.replay had in
      let own : of_priority y.prio.0 (same_name y) y ≡ true = and_from (y.prio.0 == y.prio.0) (same_name y y) (eq-eqb y.prio.0 y.prio.0 refl) (named_itself y) in
      let some = counted (of_priority y.prio.0 (same_name y)) y (fetched es) own there in
      let is = f.prio in
      let none : count (of_priority y.prio.0 (same_name y)) (s.pending y.prio.0) ≡ 0 =
      ap (count (of_priority y.prio.0 (same_name y))) (f.is_first.none_before y.prio.0 (omega (arith, more, is))) in
      absurd (omega (arith, w, some, none)))

  -- where the turn's message had none before, an older one of its priority had a turn
  older_fresh : (es : List Entry) (s : State (Body M)) (e : Entry) (f : Front es s e) → Once es → had_turn f.m es ≡ false
      → (y : Msg) (earlier later : List Msg) → fetched es ≡ earlier ++ f.m ∷ later → Contains earlier y → y.prio.0 ≡ f.m.prio.0 → had_turn y es ≡ true
  older_fresh es s e f once none y earlier later is old prio = true_from_ne_false (had_turn y es) (λ had. absurd (clash had))
    where
      clash : had_turn y es ≡ false → ⊥
      clash had =
          let passes : fresh es f.k.priority y ≡ true = and_from (y.prio.0 == f.k.priority) (not (had_turn y es)) (eq-eqb y.prio.0 f.k.priority (prio ∙ f.prio)) (ap not had) in
          let r = first_passing (fresh es f.k.priority) earlier y old passes in
          let own : fresh es f.k.priority f.k.message ≡ true =
          and_from (f.k.message.prio.0 == f.k.priority) (not (had_turn f.k.message es)) (eq-eqb f.k.message.prio.0 f.k.priority f.own_prio)
          (ap not (had_same f.m f.k.message f.name es ∙ none)) in
          let order = ordered model t lines c modest tells keepers adds es s f.replay f.k.priority in
          let left : filter (fresh es f.k.priority) (s.pending f.k.priority) ≡ f.k.message ∷ filter (fresh es f.k.priority) f.k.rest =
          ap (filter (fresh es f.k.priority)) f.is_first.front
          ∙ ap (λ (b : Bool). cond b (f.k.message ∷ filter (fresh es f.k.priority) f.k.rest) (filter (fresh es f.k.priority) f.k.rest)) own in
          let right : filter (fresh es f.k.priority) (fetched es) ≡ r.first ∷ (r.rest ++ filter (fresh es f.k.priority) (f.m ∷ later)) =
          ap (filter (fresh es f.k.priority)) is ∙ filter-append (fresh es f.k.priority) earlier (f.m ∷ later)
          ∙ ap (λ (z : List Msg). z ++ filter (fresh es f.k.priority) (f.m ∷ later)) r.are in
          let both : f.k.message ∷ filter (fresh es f.k.priority) f.k.rest ≡ r.first ∷ (r.rest ++ filter (fresh es f.k.priority) (f.m ∷ later)) = sym left ∙ order ∙ right in
          let same : f.k.message ≡ r.first = cc in
          let there : Contains earlier f.k.message = subst (Contains earlier) (sym same) r.there in
          let all : Contains (fetched es) f.k.message = subst (λ (z : List Msg). Contains z f.k.message) (sym is) (Contains-append_left earlier (f.m ∷ later) f.k.message there) in
          let one : f.m ≡ f.k.message = one_of_name f.m f.k.message (fetched es) (once f.m) f.there all f.name in
          not_twice f.m earlier (f.m ∷ later) (subst (λ (z : List Msg). times f.m z ≤ 1) is (once f.m)) (subst (Contains earlier) (sym one) there) (in_head f.m later)

  had_front : (y : Msg) (a b : List Entry) → had_turn y a ≡ true → had_turn y (a ++ b) ≡ true
  had_front y a b h = list_any-append (is_turn_of y) a b ∙ or_left (had_turn y a) (had_turn y b) h

  once_front : (a b : List Entry) → Once (a ++ b) → Once a
  once_front a b once m =
      let o : times m (fetched a ++ fetched b) ≤ 1 = subst (λ (z : List Msg). times m z ≤ 1) (fetched-append a b) (once m) in
      let k = count-append (same_name m) (fetched a) (fetched b) in omega (arith, o, k)

  turns : (m : Msg) (e : Entry) → is_turn_of m e ≡ true → is_turn e ≡ true
  turns m (entry.Start who state notes) h = absurd cc
  turns m (entry.Fetch stamp y) h = absurd cc
  turns m (entry.Post stamp y) h = absurd cc
  turns m (entry.Turn stamp from sent what notes) h = refl

  older : (es : List Entry) (s : State (Body M)) (e : Entry) (f : Front es s e) → Once es
      → (y : Msg) (earlier later : List Msg) → fetched es ≡ earlier ++ f.m ∷ later → Contains earlier y → y.prio.0 ≡ f.m.prio.0 → had_turn y es ≡ true
  older es s e f once y earlier later is old prio = go (cases_Bool (had_turn f.m es))
    where
      again : (q : FirstTurn f.m es) (mid : State (Body M)) → Replays plan c first q.before mid → (g : Front q.before mid q.turn) → f.m ≡ g.m
          → had_turn y es ≡ true
      again q mid r g same = pick (cut (fetched q.before) (fetched (q.turn ∷ q.after)) earlier (f.m ∷ later) (sym all ∙ is))
        where
          all : fetched es ≡ fetched q.before ++ fetched (q.turn ∷ q.after)
          all = ap fetched q.is ∙ fetched-append q.before (q.turn ∷ q.after)

          once_before : Once q.before
          once_before = once_front q.before (q.turn ∷ q.after) (subst Once q.is once)

          there : Contains (fetched q.before) f.m
          there = subst (Contains (fetched q.before)) (sym same) g.there

          pick : Cut (fetched q.before) (fetched (q.turn ∷ q.after)) earlier (f.m ∷ later) → had_turn y es ≡ true
          pick (behind more a b) =
              let here : Contains earlier f.m = subst (λ (z : List Msg). Contains z f.m) (sym a) (Contains-append_left (fetched q.before) more f.m there) in
              absurd (not_twice f.m earlier (f.m ∷ later) (subst (λ (z : List Msg). times f.m z ≤ 1) is (once f.m)) here (in_head f.m later))
          pick (within [] a b) =
              let second : Contains (fetched (q.turn ∷ q.after)) f.m = subst (λ (z : List Msg). Contains z f.m) b (in_head f.m later) in
              absurd (not_twice f.m (fetched q.before) (fetched (q.turn ∷ q.after)) (subst (λ (z : List Msg). times f.m z ≤ 1) all (once f.m)) there second)
          pick (within (z ∷ more) a b) =
              let head : f.m ≡ z = cc in
              let cut_at : fetched q.before ≡ earlier ++ g.m ∷ more = a ∙ ap (λ (k : Msg). earlier ++ k ∷ more) (sym head ∙ same) in
              let none : had_turn g.m q.before ≡ false = ap (λ (k : Msg). had_turn k q.before) (sym same) ∙ q.none in
              let had = older_fresh q.before mid q.turn g once_before none y earlier more cut_at old (prio ∙ ap (λ (k : Msg). k.prio.0) same) in
              ap (had_turn y) q.is ∙ had_front y q.before (q.turn ∷ q.after) had

      go : (had_turn f.m es ≡ true) ⊎ (had_turn f.m es ≡ false) → had_turn y es ≡ true
      go (inr none) = older_fresh es s e f once none y earlier later is old prio
      go (inl some) =
          let q = first_turn f.m es some in
          let r = replay_front plan c first q.before (q.turn ∷ q.after) s (subst (λ (z : List Entry). Replays plan c first z s) q.is f.replay) in
          let g = front q.before r.0 r.2.0 q.turn r.1 r.2.1 (turns f.m q.turn q.its) in
          let name : same_name f.m g.m ≡ true = one_turn f.m g.m q.turn q.its g.turn in
          let there : Contains (fetched es) g.m =
          subst (λ (z : List Msg). Contains z g.m) (sym (ap fetched q.is ∙ fetched-append q.before (q.turn ∷ q.after)))
          (Contains-append_left (fetched q.before) (fetched (q.turn ∷ q.after)) g.m g.there) in
          again q r.0 r.1 g (one_of_name f.m g.m (fetched es) (once f.m) f.there there name)

  -- each turn of a replay is right
  pub right : (es after : List Entry) (e : Entry) (end : State (Body M)) → Replays plan c first (es ++ e ∷ after) end → Once (es ++ e ∷ after)
      → is_turn e ≡ true → TurnIsRight es e
  right es after e end h once is =
      let r = replay_front plan c first es (e ∷ after) end h in
      let f = front es r.0 r.2.0 e r.1 r.2.1 is in
      record {
        message = f.m;
        was_fetched = f.there;
        its_turn = f.turn;
        meant = f.meant;
        next = record {
          urgent = urgent es r.0 e f;
          oldest = older es r.0 e f (once_front es (e ∷ after) once);
        };
      }
