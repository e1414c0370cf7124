-- In a run of the world a fetched message is in one place alone.
use Rattle.std.proofs.Common.{◌≡◌, ℕ, zero, suc, ◌+◌, ◌<◌, ◌≤◌, ◌==◌, ◌&&◌, Bool, true, false, if◌then◌else◌, List, [], ◌∷◌, ◌++◌, length, refl, sym, ◌∙◌, eq-eqb, eqb-true, arith, ◌⊎◌, inl, inr, ap}
use Rattle.std.specs.List.{Contains, AllByRecursion}
use Rattle.std.proofs.lemmas.Bool.{cases_eq, ne_eqb, and_from}
use Rattle.std.proofs.lemmas.List.Elements.{All-from_recursion, All-contains}
use Rattle.room_kinds.specs.declared.message.Msg.{Msg}
use Rattle.room_kinds.specs.declared.numbers.Incarnation.{Incarnation}
use Rattle.room_wiring.specs.declared.tables.Tables.{Tables}
use Rattle.actor_merge.specs.Parties.{State, Line}
use Rattle.actor_merge.specs.World.{World, Placed, start, Runs}
use Rattle.actor_merge.specs.Merge.{entries_of}
use Rattle.actor_merge.proofs.Back.{run_projects}
use Rattle.actor_duties.specs.Words.{slots_of}
use Rattle.actor_duties.specs.Lives.{is_live, last_of}
use Rattle.actor_world.specs.Behaviour.{Behaviour}
use Rattle.actor_world.specs.Body.{Body}
use Rattle.actor_world.specs.Start.{plant_of}
use Rattle.actor_world.specs.Life.{IsModest}
use Rattle.actor_world.specs.world_laws.Counting.{count, of_priority, same_name, times}
use Rattle.actor_world.specs.world_laws.Whereabouts.{fetches, fetched, kept, TellsDefers, AddsUp}
use Rattle.actor_world.specs.world_laws.OnePlace.{all_fetched, InOnePlace, InNoPlace, done_in, StandsOnce}
use Rattle.actor_world.proofs.world_laws.Sums.{count-append, count_flat, OneSlot, total_one}
use Rattle.actor_world.proofs.world_laws.Adding.{Ranked, adds_up}
use Rattle.actor_world.proofs.world_laws.OnceFetched.{fetched_once}

-- counts by priority
some_count : (p : ℕ) (w : Msg → Bool) (ms : List Msg) → count (of_priority p w) ms ≤ count w ms
some_count p w [] = omega arith
some_count p w (m ∷ ms) = let h = some_count p w ms in let k = step (m.prio.0 == p) (w m) in omega (arith, h, k)
  where
    step : (a b : Bool) → (if a && b then 1 else 0) ≤ (if b then 1 else 0)
    step true b = omega arith
    step false true = omega arith
    step false false = omega arith

two_counts : (p q : ℕ) → (p ≡ q → ⊥) → (w : Msg → Bool) (ms : List Msg) → count (of_priority p w) ms + count (of_priority q w) ms ≤ count w ms
two_counts p q n w [] = omega arith
two_counts p q n w (m ∷ ms) =
    let h = two_counts p q n w ms in
    let k = step (m.prio.0 == p) (m.prio.0 == q) (w m) (λ a b. n (sym (eqb-true m.prio.0 p a) ∙ eqb-true m.prio.0 q b)) in omega (arith, h, k)
  where
    step : (a b c : Bool) → (a ≡ true → b ≡ true → ⊥) → (if a && c then 1 else 0) + (if b && c then 1 else 0) ≤ (if c then 1 else 0)
    step true true c never = absurd (never refl refl)
    step true false c never = omega arith
    step false true c never = omega arith
    step false false true never = omega arith
    step false false false never = omega arith

-- where no message of another priority counts
all_count : (p : ℕ) (w : Msg → Bool) (ms : List Msg) → ((q : ℕ) → (q ≡ p → ⊥) → count (of_priority q w) ms ≡ 0) → count w ms ≡ count (of_priority p w) ms
all_count p w [] h = refl
all_count p w (m ∷ ms) h =
    let rest : count w ms ≡ count (of_priority p w) ms = all_count p w ms (λ q n. let k = h q n in omega (arith, k)) in
    let here = step (cases_eq m.prio.0 p) (λ n. let k = h m.prio.0 n in omega (arith, k)) in
    omega (arith, rest, here)
  where
    step : (m.prio.0 ≡ p) ⊎ (m.prio.0 ≡ p → ⊥) → ((m.prio.0 ≡ p → ⊥) → ◌≡◌ {A = ℕ} (if (m.prio.0 == m.prio.0) && w m then 1 else 0) 0)
        → ◌≡◌ {A = ℕ} (if w m then 1 else 0) (if (m.prio.0 == p) && w m then 1 else 0)
    step (inl e) k = rw (eq-eqb m.prio.0 p e) refl
    step (inr n) k = rw (ne_eqb m.prio.0 p n) (rw (eq-eqb m.prio.0 m.prio.0 refl) at (k n))

ranked_count : (p : ℕ) (w : Msg → Bool) (ms : List Msg) → Ranked p ms → count w ms ≡ count (of_priority p w) ms
ranked_count p w [] h = refl
ranked_count p w (m ∷ ms) h = let r = ranked_count p w ms h.1 in rw (eq-eqb m.prio.0 p h.0) (omega (arith, r))

-- what a list contains counts
not_counted : (w : Msg → Bool) (ms : List Msg) → count w ms ≡ 0 → AllByRecursion (λ (m : Msg). w m ≡ false) ms
not_counted w [] h = tt
not_counted w (m ∷ ms) h = (step (w m) refl, not_counted w ms (omega (arith, h)))
  where
    step : (b : Bool) → w m ≡ b → w m ≡ false
    step false e = e
    step true e = let k : (if true then 1 else 0) + count w ms ≡ 0 = rw e at h in absurd (omega (arith, k))

contained_counts : (w : Msg → Bool) (m : Msg) (ms : List Msg) → w m ≡ true → Contains ms m → 1 ≤ count w ms
contained_counts w m ms named there = go (count w ms) refl
  where
    go : (n : ℕ) → count w ms ≡ n → 1 ≤ n
    go zero e =
        let other : w m ≡ false = All-contains (λ (m : Msg). w m ≡ false) ms m (All-from_recursion (λ (m : Msg). w m ≡ false) ms (not_counted w ms e)) there in absurd cc
    go (suc n) e = omega arith

named_itself : (m : Msg) → of_priority m.prio.0 (same_name m) m ≡ true
named_itself m = rw (eq-eqb m.prio.0 m.prio.0 refl, eq-eqb m.from.0 m.from.0 refl, eq-eqb m.stamp.0 m.stamp.0 refl) refl

-- what one controller fetches, all fetch; and what two fetch
one_party : (m : Msg) (c : ℕ) (xs : List Placed) → times m (fetched (entries_of c xs)) ≤ times m (all_fetched xs)
one_party m c [] = omega arith
one_party m c (x ∷ xs) = go (c == x.party) (one_party m c xs) (count-append (same_name m) (fetches x.entry) (all_fetched xs)) (count-append (same_name m) (fetches x.entry) (fetched (entries_of c xs)))
  where
    go : (b : Bool) → times m (fetched (entries_of c xs)) ≤ times m (all_fetched xs)
        → times m (fetches x.entry ++ all_fetched xs) ≡ times m (fetches x.entry) + times m (all_fetched xs)
        → times m (fetches x.entry ++ fetched (entries_of c xs)) ≡ times m (fetches x.entry) + times m (fetched (entries_of c xs))
        → times m (fetched (if b then x.entry ∷ entries_of c xs else entries_of c xs)) ≤ times m (fetches x.entry ++ all_fetched xs)
    go true ih a b = omega (arith, ih, a, b)
    go false ih a b = omega (arith, ih, a)

two_parties : (m : Msg) (c d : ℕ) → (d ≡ c → ⊥) → (xs : List Placed) → times m (fetched (entries_of c xs)) + times m (fetched (entries_of d xs)) ≤ times m (all_fetched xs)
two_parties m c d n [] = omega arith
two_parties m c d n (x ∷ xs) =
    go (c == x.party) (d == x.party) (λ a b. n (eqb-true d x.party b ∙ sym (eqb-true c x.party a))) (two_parties m c d n xs)
    (count-append (same_name m) (fetches x.entry) (all_fetched xs)) (count-append (same_name m) (fetches x.entry) (fetched (entries_of c xs))) (count-append (same_name m) (fetches x.entry) (fetched (entries_of d xs)))
  where
    go : (a b : Bool) → (a ≡ true → b ≡ true → ⊥) → times m (fetched (entries_of c xs)) + times m (fetched (entries_of d xs)) ≤ times m (all_fetched xs)
        → times m (fetches x.entry ++ all_fetched xs) ≡ times m (fetches x.entry) + times m (all_fetched xs)
        → times m (fetches x.entry ++ fetched (entries_of c xs)) ≡ times m (fetches x.entry) + times m (fetched (entries_of c xs))
        → times m (fetches x.entry ++ fetched (entries_of d xs)) ≡ times m (fetches x.entry) + times m (fetched (entries_of d xs))
        → times m (fetched (if a then x.entry ∷ entries_of c xs else entries_of c xs)) + times m (fetched (if b then x.entry ∷ entries_of d xs else entries_of d xs))
        ≤ times m (fetches x.entry ++ all_fetched xs)
    go true true never ih u v w = absurd (never refl refl)
    go true false never ih u v w = omega (arith, ih, u, v)
    go false true never ih u v w = omega (arith, ih, u, w)
    go false false never ih u v w = omega (arith, ih, u)

module _ {M : Type 0} (t : Tables) (m : Msg) (came : List Msg) (s : State (Body M)) (done : List Msg) (adds : AddsUp t came s done) where
  -- what does not come at a priority is nowhere
  absent : (p : ℕ) → count (of_priority p (same_name m)) came ≡ 0
      → (times m (s.pending p) ≡ 0) × (count (of_priority p (same_name m)) (kept t s.body) ≡ 0) × (count (of_priority p (same_name m)) done ≡ 0)
  absent p z =
      let a = adds.counts (same_name m) p in
      let r = ranked_count p (same_name m) (s.pending p) (adds.ranked p) in
      (omega (arith, z, a, r), omega (arith, z, a), omega (arith, z, a))

  -- where a message is deferred once, one live incarnation keeps it
  one_keeper : times m (kept t s.body) ≡ 1
      → (x : Incarnation) × (is_live s.body.frame.lives x ≡ true) × (times m (s.body.deferred x.slot.0) ≡ 1)
      × ((slot : ℕ) → slot < length t.slots → (slot ≡ x.slot.0 → ⊥) → times m (s.body.deferred slot) ≡ 0)
  one_keeper h =
      let l = s.body.frame.lives.lives in
      let f : ℕ → ℕ = λ n. if l n then times m (s.body.deferred n) else 0 in
      let o : OneSlot f 0 (length t.slots) = total_one f 0 (length t.slots) (sym (count_flat (same_name m) s.body.deferred l (slots_of t)) ∙ h) in
      let here = holds o.slot (l o.slot) refl o.one in (
        last_of s.body.frame.lives o.slot,
        and_from (l o.slot) (s.body.frame.lives.generation o.slot == s.body.frame.lives.generation o.slot) here.0 (eq-eqb _ _ refl),
        here.1,
        (λ n below d. none n (l n) refl (o.others n (omega arith) (omega arith) d)),
      )
    where
      holds : (n : ℕ) (b : Bool) → s.body.frame.lives.lives n ≡ b → (if s.body.frame.lives.lives n then times m (s.body.deferred n) else 0) ≡ 1
          → (s.body.frame.lives.lives n ≡ true) × (times m (s.body.deferred n) ≡ 1)
      holds n true e k = (e, rw e at k)
      holds n false e k = let z : 0 ≡ 1 = rw e at k in absurd (omega (arith, z))

      none : (n : ℕ) (b : Bool) → s.body.frame.lives.lives n ≡ b → (if s.body.frame.lives.lives n then times m (s.body.deferred n) else 0) ≡ 0
          → times m (s.body.deferred n) ≡ 0
      none n true e k = rw e at k
      none n false e k = ap (times m) (adds.empty n e)

  in_one_place : times m came ≤ 1 → Contains came m → InOnePlace t m s done
  in_one_place once there =
      let some : 1 ≤ count (of_priority m.prio.0 (same_name m)) came = contained_counts (of_priority m.prio.0 (same_name m)) m came (named_itself m) there in
      let none : (q : ℕ) → (q ≡ m.prio.0 → ⊥) → count (of_priority q (same_name m)) came ≡ 0 =
      λ q n. let two = two_counts q m.prio.0 n (same_name m) came in omega (arith, two, some, once) in
      let le = some_count m.prio.0 (same_name m) came in
      let a = adds.counts (same_name m) m.prio.0 in
      let r = ranked_count m.prio.0 (same_name m) (s.pending m.prio.0) (adds.ranked m.prio.0) in
      let k = all_count m.prio.0 (same_name m) (kept t s.body) (λ q n. (absent q (none q n)).1) in
      let d = all_count m.prio.0 (same_name m) done (λ q n. (absent q (none q n)).2) in
      record {
        one = omega (arith, some, once, le, a, r, k, d);
        nowhere_else = λ q n. (absent q (none q n)).0;
        keeper = one_keeper;
      }

  in_no_place : times m came ≡ 0 → InNoPlace t m s done
  in_no_place z =
      let none : (q : ℕ) → count (of_priority q (same_name m)) came ≡ 0 = λ q. let le = some_count q (same_name m) came in omega (arith, le, z) in
      let k = all_count 0 (same_name m) (kept t s.body) (λ q n. (absent q (none q)).1) in
      let d = all_count 0 (same_name m) done (λ q n. (absent q (none q)).2) in
      let kz = (absent 0 (none 0)).1 in
      let dz = (absent 0 (none 0)).2 in
      record {
        pending = λ p. (absent p (none p)).0;
        deferred = omega (arith, k, kz);
        over = omega (arith, d, dz);
      }

module _ {M : Type 0} (model : Behaviour M) (t : Tables) (lines : List Line) (modest : IsModest model) (tells : TellsDefers model) where
  pub run_adds : (xs : List Placed) (end : World (Body M)) → Runs (plant_of model t lines) (start (plant_of model t lines)) xs end
      → (c : ℕ) → c < length t.controllers → AddsUp t (fetched (entries_of c xs)) (end.controllers c) (done_in model t lines c xs)
  run_adds xs end r c below =
      adds_up model t lines c modest tells (entries_of c xs) (end.controllers c)
      ((run_projects (plant_of model t lines) (start (plant_of model t lines)) xs end r).controllers c below)

  pub run_stands : (xs : List Placed) (end : World (Body M)) → Runs (plant_of model t lines) (start (plant_of model t lines)) xs end → StandsOnce model t lines xs end
  run_stands xs end r =
      let once : (m : Msg) → times m (all_fetched xs) ≤ 1 = fetched_once (plant_of model t lines) xs end r in
      record {
        fetched_once = once;
        place = λ c below m there.
            let a = one_party m c xs in
            let b = once m in
            in_one_place t m (fetched (entries_of c xs)) (end.controllers c) (done_in model t lines c xs) (run_adds xs end r c below) (omega (arith, a, b)) there;
        elsewhere = λ c d below n m there.
            let some : 1 ≤ count (of_priority m.prio.0 (same_name m)) (fetched (entries_of c xs)) =
            contained_counts (of_priority m.prio.0 (same_name m)) m (fetched (entries_of c xs)) (named_itself m) there in
            let le = some_count m.prio.0 (same_name m) (fetched (entries_of c xs)) in
            let a = two_parties m c d n xs in
            let b = once m in
            in_no_place t m (fetched (entries_of d xs)) (end.controllers d) (done_in model t lines d xs) (run_adds xs end r d below) (omega (arith, some, le, a, b));
      }
