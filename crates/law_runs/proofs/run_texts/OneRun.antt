-- Two runs in which each party does the same events are one run.
-- What a party may do next, it may still do after another party's event, with the same entry: its own
-- state is its own, and lanes grow at their back alone. So the first entry of a party in the one run is
-- its first entry in the other; and both runs are in one order.
use Rattle.std.proofs.Common.{◌≡◌, ℕ, zero, suc, ◌+◌, ◌<◌, Bool, true, false, if◌then◌else◌, List, [], ◌∷◌, ◌++◌, map, Some, None, refl, sym, ap, ◌∙◌, subst, eq-eqb, lt-ltb, le-ltb, arith, ◌⊎◌, inl, inr}
use Rattle.std.proofs.lemmas.Bool.{cases_eq, ne_eqb}
use Rattle.room_kinds.specs.declared.message.Msg.{Msg}
use Rattle.journal.specs.declared.entry.Entry.{Entry}
use Rattle.journal.specs.declared.entry.Entry.TheVariants as entry
use Rattle.actor_merge.specs.Mail.{Lane, lane, Event, event_of, taken, given}
use Rattle.actor_merge.specs.Parties.{State, Environment, Plant, lowest, next_of, turn, turn_with, post, environment_post, begins, Replays}
use Rattle.actor_merge.specs.World.{World, Placed, IsQuiet, IsReady, fetch_front, controller_does, controller_after, environment_does, environment_after, caught_up, happens, Runs}
use Rattle.actor_merge.specs.Merge.{IsBefore, IsBeforeAll, InOrder, entries_of}
use Rattle.actor_merge.proofs.Back.{Happened, controller, environment, happened, run_projects}
use Rattle.actor_merge.proofs.Steps.{same_entry, caught_up-same}
use Rattle.law_runs.specs.run_texts.Events.{SameEvents}

-- ---- the entries of one party

first_here : (p : ℕ) (x : Placed) (xs : List Placed) → p ≡ x.party → entries_of p (x ∷ xs) ≡ x.entry ∷ entries_of p xs
first_here p x xs e = ap (λ (b : Bool). if b then x.entry ∷ entries_of p xs else entries_of p xs) (eq-eqb p x.party e)

first_other : (p : ℕ) (x : Placed) (xs : List Placed) → (p ≡ x.party → ⊥) → entries_of p (x ∷ xs) ≡ entries_of p xs
first_other p x xs n = ap (λ (b : Bool). if b then x.entry ∷ entries_of p xs else entries_of p xs) (ne_eqb p x.party n)

-- what goes before all goes before the first entry of a party
before_first : (y : Placed) (p : ℕ) (f : Entry) (rest : List Entry) (ys : List Placed) → IsBeforeAll y ys → entries_of p ys ≡ f ∷ rest
    → IsBefore y (record { party = p; entry = f })
before_first y p f rest [] before is = absurd cc
before_first y p f rest (z ∷ zs) before is = go (cases_eq p z.party) (λ k. before_first y p f rest zs before.1 k)
  where
    go : (p ≡ z.party) ⊎ (p ≡ z.party → ⊥) → (entries_of p zs ≡ f ∷ rest → IsBefore y (record { party = p; entry = f }))
        → IsBefore y (record { party = p; entry = f })
    go (inl own) later =
        let both : z.entry ∷ entries_of p zs ≡ f ∷ rest = sym (first_here p z zs own) ∙ is in
        let head : z.entry ≡ f = cc in
        subst (λ (k : ℕ). IsBefore y (record { party = k; entry = f })) (sym own)
        (subst (λ (g : Entry). IsBefore y (record { party = z.party; entry = g })) head before.0)
    go (inr other) later = later (sym (first_other p z zs other) ∙ is)

not_both : (x y : Placed) → IsBefore x y → IsBefore y x → ⊥
not_both x y a b =
    elim a [
      | inl less ↦ elim b [ inl more ↦ omega arith | inr more ↦ omega (arith, more.0) ]
      | inr less ↦ elim b [ inl more ↦ omega (arith, less.0) | inr more ↦ omega (arith, less.1, more.1) ]
    ]

-- the first of entries whose first event is this one
first_of_events : (v : Event) (k : List Event) (es : List Entry) → v ∷ k ≡ map event_of es
    → (f : Entry) × (rest : List Entry) × (es ≡ f ∷ rest) × (event_of f ≡ v)
first_of_events v k [] h = absurd cc
first_of_events v k (f ∷ rest) h = (f, rest, refl, cc)

same_head : (x y : Placed) (xs ys : List Placed) → x.party ≡ y.party → SameEvents (x ∷ xs) (y ∷ ys) → event_of x.entry ≡ event_of y.entry
same_head x y xs ys e same =
    let both : event_of x.entry ∷ map event_of (entries_of x.party xs) ≡ event_of y.entry ∷ map event_of (entries_of x.party ys) =
    ap (map event_of) (sym (first_here x.party x xs refl)) ∙ same x.party ∙ ap (map event_of) (first_here x.party y ys e) in
    cc

same_tail : (x y : Placed) (xs ys : List Placed) → x.party ≡ y.party → SameEvents (x ∷ xs) (y ∷ ys) → SameEvents xs ys
same_tail x y xs ys e same p = go (cases_eq p x.party)
  where
    go : (p ≡ x.party) ⊎ (p ≡ x.party → ⊥) → map event_of (entries_of p xs) ≡ map event_of (entries_of p ys)
    go (inl own) =
        let both : event_of x.entry ∷ map event_of (entries_of p xs) ≡ event_of y.entry ∷ map event_of (entries_of p ys) =
        ap (map event_of) (sym (first_here p x xs own)) ∙ same p ∙ ap (map event_of) (first_here p y ys (own ∙ e)) in
        cc
    go (inr other) =
        ap (map event_of) (sym (first_other p x xs other)) ∙ same p ∙ ap (map event_of) (first_other p y ys (λ k. other (k ∙ sym e)))

-- ---- what a quiet world forbids

lowest_none : (pending : ℕ → List Msg) (at k : ℕ) → ((p : ℕ) → pending p ≡ []) → lowest pending at k ≡ None
unfolding lowest
lowest_none pending at zero empty = refl
lowest_none pending at (suc k) empty = rw (empty at) (lowest_none pending (at + 1) k empty)

-- a fetch takes the same front from a lane that grew
front_stays : {B : Type 0} (s : State B) (ms more : List Msg) (r : State B × Entry) → fetch_front s ms ≡ Some r
    → fetch_front s (ms ++ more) ≡ Some r
front_stays s [] more r h = absurd cc
front_stays s (m ∷ ms) more r h = h

module _ {B : Type 0} (plant : Plant B) where
  -- in a quiet world no controller does anything
  nobody_does : (w : World B) (c : ℕ) (e : Entry) (s : State B) → c < plant.controllers → IsQuiet plant w
      → controller_does plant w c (event_of e) ≡ Some (s, e) → ⊥
  unfolding turn post
  nobody_does w c (entry.Start who state notes) s below quiet h = cc
  nobody_does w c (entry.Fetch stamp m) s below quiet h =
      let none : fetch_front (w.controllers c) (w.lanes (lane m.from.0 c m.prio.0)) ≡ None =
      ap (fetch_front (w.controllers c)) (quiet.lanes (lane m.from.0 c m.prio.0)) in
      cc
  nobody_does w c (entry.Turn stamp from sent did notes) s below quiet h =
      let empty : next_of (w.controllers c).pending ≡ None = lowest_none (w.controllers c).pending 0 6 (λ p. quiet.pending c p below) in
      let none : turn_with plant c (w.controllers c) (w.controllers c).outbox (next_of (w.controllers c).pending) ≡ None =
      rw (quiet.outbox c below, empty) refl in
      cc
  nobody_does w c (entry.Post stamp m) s below quiet h =
      let none : post c (w.controllers c) ≡ None = rw (quiet.outbox c below) refl in
      cc

  -- ---- what a party may do, it may still do after another's event

  -- a party may do an event whose entry is this one
  record May (w : World B) (party : ℕ) (e : Entry) : Type 0 where
    next : World B
    does : happens plant w party (event_of e) ≡ Some (next, e)
    ready : IsReady plant w party

  as_controller : (w : World B) (c : ℕ) (e : Entry) (s : State B) → c < plant.controllers
      → controller_does plant w c (event_of e) ≡ Some (s, e) → May w c e
  unfolding happens
  as_controller w c e s below does = record {
    next = (controller_after w c (event_of e) (s, e)).0;
    does = rw (lt-ltb c plant.controllers below, does) refl;
    ready = λ is begun. absurd (omega (arith, is, below));
  }

  as_environment : (w : World B) (e : Entry) (v : Environment) → environment_does plant w (event_of e) ≡ Some (v, e)
      → IsReady plant w plant.controllers
      → May w plant.controllers e
  unfolding happens
  as_environment w e v does ready = record {
    next = (environment_after w plant.controllers (event_of e) (v, e)).0;
    does = rw (le-ltb plant.controllers plant.controllers (omega arith), eq-eqb plant.controllers plant.controllers refl, does) refl;
    ready = ready;
  }

  controller_stays : (w next : World B) (q : ℕ) (f : Entry) (c : ℕ) (e : Entry) (s : State B) → (c ≡ q → ⊥) → c < plant.controllers
      → happens plant w q (event_of f) ≡ Some (next, f) → IsReady plant w q → controller_does plant w c (event_of e) ≡ Some (s, e) → May next c e
  controller_stays w next q f c e s other below h ready does = go e does
    where
      x : Placed
      x = record { party = q; entry = f }

      own : next.controllers c ≡ w.controllers c
      own = subst (λ (b : Bool). Replays plant c (w.controllers c) (if b then f ∷ [] else []) (next.controllers c)) (ne_eqb c q other)
          ((run_projects plant w (record { party = q; entry = f } ∷ []) next (next, ready, h, refl)).controllers c below)

      grown : (l : Lane) → l.receiver ≡ c → (more : List Msg) × (w.lanes l ++ more ≡ next.lanes l)
      grown l at = (
        given l l.sender (entries_of l.sender (record { party = q; entry = f } ∷ [])),
        subst (λ (b : Bool). w.lanes l ++ given l l.sender (entries_of l.sender (record { party = q; entry = f } ∷ [])) ≡ taken l l.receiver (if b then f ∷ [] else []) ++ next.lanes l)
            (ne_eqb l.receiver q (λ k. other (sym at ∙ k)))
            ((run_projects plant w (record { party = q; entry = f } ∷ []) next (next, ready, h, refl)).lanes l),
      )

      go : (g : Entry) → controller_does plant w c (event_of g) ≡ Some (s, g) → May next c g
      go (entry.Start who state notes) k = absurd cc
      go (entry.Fetch stamp m) k =
          let l : Lane = lane m.from.0 c m.prio.0 in
          let more = grown l refl in
          let front : fetch_front (w.controllers c) (next.lanes l) ≡ Some (s, entry.Fetch stamp m) =
          subst (λ (z : List Msg). fetch_front (w.controllers c) z ≡ Some (s, entry.Fetch stamp m)) more.1
          (front_stays (w.controllers c) (w.lanes l) more.0 (s, entry.Fetch stamp m) k) in
          as_controller next c (entry.Fetch stamp m) s below
          (subst (λ (z : State B). fetch_front z (next.lanes l) ≡ Some (s, entry.Fetch stamp m)) (sym own) front)
      go (entry.Turn stamp from sent did notes) k =
          as_controller next c (entry.Turn stamp from sent did notes) s below
          (subst (λ (z : State B). turn plant c z ≡ Some (s, entry.Turn stamp from sent did notes)) (sym own) k)
      go (entry.Post stamp m) k =
          as_controller next c (entry.Post stamp m) s below (subst (λ (z : State B). post c z ≡ Some (s, entry.Post stamp m)) (sym own) k)

  -- the environment's next line is the same, unless a part begins, which is so in a quiet world alone
  environment_stays : (w next : World B) (q : ℕ) (f e : Entry) (v : Environment) → (plant.controllers ≡ q → ⊥)
      → happens plant w q (event_of f) ≡ Some (next, f) → IsReady plant w plant.controllers
      → environment_does plant w (event_of e) ≡ Some (v, e) → May next plant.controllers e
  environment_stays w next q f e v other h ready does = go (happened plant w (record { party = q; entry = f }) next h)
    where
      same_part : next.environment ≡ w.environment → begins plant w.environment.posted ≡ false → (g : Entry)
          → environment_does plant w (event_of g) ≡ Some (v, g)
          → May next plant.controllers g
      same_part kept none (entry.Start who state notes) k = absurd cc
      same_part kept none (entry.Fetch stamp m) k = absurd cc
      same_part kept none (entry.Turn stamp from sent did notes) k = absurd cc
      same_part kept none (entry.Post stamp m) k =
          let still : begins plant next.environment.posted ≡ false = ap (λ (u : Environment). begins plant u.posted) kept ∙ none in
          let up : caught_up plant w ≡ caught_up plant next = caught_up-same plant w none ∙ sym kept ∙ sym (caught_up-same plant next still) in
          as_environment next (entry.Post stamp m) v (subst (λ (u : Environment). environment_post plant u ≡ Some (v, entry.Post stamp m)) up k)
          (λ is begun. absurd cc)

      go : Happened plant w (record { party = q; entry = f }) next → May next plant.controllers e
      go (environment is u posts same) = absurd (other (sym is))
      go (controller below s did same) = by_part (begins plant w.environment.posted) refl
        where
          by_part : (b : Bool) → begins plant w.environment.posted ≡ b → May next plant.controllers e
          by_part true begun = absurd (nobody_does w q f s below (ready refl begun) did)
          by_part false none = same_part (ap (λ (z : World B). z.environment) same) none e does

  stays : (w next : World B) (q : ℕ) (f : Entry) (p : ℕ) (e : Entry) → (p ≡ q → ⊥) → happens plant w q (event_of f) ≡ Some (next, f)
      → IsReady plant w q
      → May w p e → May next p e
  stays w next q f p e other h ready may = go (happened plant w (record { party = p; entry = e }) may.next may.does)
    where
      go : Happened plant w (record { party = p; entry = e }) may.next → May next p e
      go (controller below s does same) = controller_stays w next q f p e s other below h ready does
      go (environment is v does same) =
          subst (λ (z : ℕ). May next z e) (sym is) (environment_stays w next q f e v (λ k. other (is ∙ k)) h (λ k begun. may.ready is begun) does)

  -- the first entry of a party in a run is the one of the event that it may do before it
  first_is : (p : ℕ) (e f : Entry) (rest : List Entry) (xs : List Placed) (w end : World B) → Runs plant w xs end → May w p e
      → entries_of p xs ≡ f ∷ rest
      → event_of f ≡ event_of e → f ≡ e
  first_is p e f rest [] w end r may is same = absurd cc
  first_is p e f rest (x ∷ xs) w end r may is same =
      go (cases_eq p x.party) (λ other k. first_is p e f rest xs r.0 end r.3 (stays w r.0 x.party x.entry p e other r.2 r.1 may) k same)
    where
      go : (p ≡ x.party) ⊎ (p ≡ x.party → ⊥) → ((p ≡ x.party → ⊥) → entries_of p xs ≡ f ∷ rest → f ≡ e) → f ≡ e
      go (inl own) later =
          let both : x.entry ∷ entries_of p xs ≡ f ∷ rest = sym (first_here p x xs own) ∙ is in
          let head : x.entry ≡ f = cc in
          let events : event_of x.entry ≡ event_of e = ap event_of head ∙ same in
          let here : happens plant w p (event_of e) ≡ Some (r.0, x.entry) =
          subst (λ (z : Event). happens plant w p z ≡ Some (r.0, x.entry)) events (subst (λ (z : ℕ). happens plant w z (event_of x.entry) ≡ Some (r.0, x.entry)) (sym own) r.2) in
          sym head ∙ same_entry (sym here ∙ may.does)
      go (inr other) later = later other (sym (first_other p x xs other) ∙ is)

  -- where two parties go first in two runs with the same events, each goes before the other
  goes_before : (x y : Placed) (xs ys : List Placed) (w end other : World B) → (x.party ≡ y.party → ⊥) → Runs plant w (x ∷ xs) end
      → Runs plant w (y ∷ ys) other
      → IsBeforeAll y ys → SameEvents (x ∷ xs) (y ∷ ys) → IsBefore y x
  goes_before x y xs ys w end other apart r s before same =
      let events : event_of x.entry ∷ map event_of (entries_of x.party xs) ≡ map event_of (entries_of x.party ys) =
      ap (map event_of) (sym (first_here x.party x xs refl)) ∙ same x.party ∙ ap (map event_of) (first_other x.party y ys apart) in
      let first = first_of_events (event_of x.entry) (map event_of (entries_of x.party xs)) (entries_of x.party ys) events in
      let may : May w x.party x.entry = record { next = r.0; does = r.2; ready = r.1 } in
      let still : May s.0 x.party x.entry = stays w s.0 y.party y.entry x.party x.entry apart s.2 s.1 may in
      let is : first.0 ≡ x.entry = first_is x.party x.entry first.0 first.1 ys s.0 other s.3 still first.2 first.3 in
      subst (λ (g : Entry). IsBefore y (record { party = x.party; entry = g })) is (before_first y x.party first.0 first.1 ys before first.2)

  same_step : (x y : Placed) (w next after : World B) → x.party ≡ y.party → event_of x.entry ≡ event_of y.entry
      → happens plant w x.party (event_of x.entry) ≡ Some (next, x.entry) → happens plant w y.party (event_of y.entry) ≡ Some (after, y.entry)
      → (x ≡ y) × (next ≡ after)
  same_step x y w next after e v h k =
      let there : happens plant w x.party (event_of x.entry) ≡ Some (after, y.entry) =
      subst (λ (z : Event). happens plant w x.party z ≡ Some (after, y.entry)) (sym v) (subst (λ (z : ℕ). happens plant w z (event_of y.entry) ≡ Some (after, y.entry)) (sym e) k) in
      let p : World B × Entry = (next, x.entry) in
      let q : World B × Entry = (after, y.entry) in
      let both : p ≡ q = cc in
      let entries : x.entry ≡ y.entry = ap (λ (z : World B × Entry). z.1) both in
      ((λ i. record { party = e i; entry = entries i }), ap (λ (z : World B × Entry). z.0) both)

  pub one_run : (xs ys : List Placed) (w end other : World B) → InOrder xs → InOrder ys → Runs plant w xs end → Runs plant w ys other
      → SameEvents xs ys
      → (xs ≡ ys) × (end ≡ other)
  one_run [] [] w end other a b r s same = (refl, r ∙ sym s)
  one_run [] (y ∷ ys) w end other a b r s same =
      let none : [] ≡ event_of y.entry ∷ map event_of (entries_of y.party ys) = same y.party ∙ ap (map event_of) (first_here y.party y ys refl) in absurd cc
  one_run (x ∷ xs) [] w end other a b r s same =
      let none : event_of x.entry ∷ map event_of (entries_of x.party xs) ≡ [] = ap (map event_of) (sym (first_here x.party x xs refl)) ∙ same x.party in absurd cc
  one_run (x ∷ xs) (y ∷ ys) w end other a b r s same =
      go (cases_eq x.party y.party) (λ after run later. one_run xs ys r.0 end other a.1 b.1 r.3 run later)
    where
      go : (x.party ≡ y.party) ⊎ (x.party ≡ y.party → ⊥)
          → ((after : World B) → Runs plant r.0 ys other → SameEvents xs ys → (xs ≡ ys) × (end ≡ other))
          → (x ∷ xs ≡ y ∷ ys) × (end ≡ other)
      go (inr apart) rest =
          absurd (not_both x y (goes_before y x ys xs w other end (λ k. apart (sym k)) s r a.0 (λ p. sym (same p))) (goes_before x y xs ys w end other apart r s b.0 same))
      go (inl e) rest =
          let step = same_step x y w r.0 s.0 e (same_head x y xs ys e same) r.2 s.2 in
          let tail = rest r.0 (subst (λ (z : World B). Runs plant z ys other) (sym step.1) s.3) (same_tail x y xs ys e same) in
          ((λ i. step.0 i ∷ tail.0 i), tail.1)
