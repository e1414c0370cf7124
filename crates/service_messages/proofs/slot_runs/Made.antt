-- What is made with a slot, found by going over its run.
use Rattle.std.proofs.Common.{◌≡◌, ℕ, zero, suc, ◌+◌, ◌<◌, ◌≤◌, ◌==◌, Bool, true, false, ◌&&◌, length, Option, Some, None, refl, sym, ◌∙◌, subst, eqb-true, eq-eqb, arith, ⊎_elim, inl, inr}
use Rattle.std.specs.Option.{option_map_or}
use Rattle.std.proofs.lemmas.Bool.{and_parts, and_from, or_cases, or_left, or_right, cases_lt, cases_order}
use Rattle.room_wiring.specs.declared.tables.Tables.{Tables}
use Rattle.actor_duties.specs.Words.{is_fixed, container_of}
use Rattle.actor_duties.specs.Lives.{is_made_within, is_made_with}
use Rattle.service_messages.specs.slot_runs.Runs.{is_inside, IsDepthFirst, IsRunEnd, IsNextMade}
use Rattle.service_messages.proofs.slot_runs.RunLemmas.{held_true, held_from, not_true_false, false_from, same_some, contained_there, inside_by, run_nested, run_behind}

-- made with o: it is o, or a fixed slot in one that is made with o
pub data MadeBy (t : Tables) (o up s : ℕ) : Type 0 where
  itself : s ≡ o → MadeBy t o up s
  inside : (c k : ℕ) → up ≡ suc k → is_fixed t s ≡ true → container_of t s ≡ Some c → is_made_within t o k c ≡ true → MadeBy t o up s

pub made_by : (t : Tables) (o up s : ℕ) → is_made_within t o up s ≡ true → MadeBy t o up s
made_by t o zero s h = itself (eqb-true s o h)
made_by t o (suc k) s h = ⊎_elim
    (λ e. itself (eqb-true s o e))
    (λ e.
    let p = and_parts (is_fixed t s) (option_map_or (λ c. is_made_within t o k c) (container_of t s) false) e in
    let c = held_true (λ c. is_made_within t o k c) (container_of t s) p.1 in
    inside c.0 k refl p.0 c.1 c.2)
    (or_cases (s == o) (is_fixed t s && option_map_or (λ c. is_made_within t o k c) (container_of t s) false) h)

made_itself : (t : Tables) (o up : ℕ) → is_made_within t o up o ≡ true
made_itself t o zero = eq-eqb o o refl
made_itself t o (suc k) = or_left (o == o) (is_fixed t o && option_map_or (λ c. is_made_within t o k c) (container_of t o) false) (eq-eqb o o refl)

made_up : (t : Tables) (o k s c : ℕ) → is_fixed t s ≡ true → container_of t s ≡ Some c → is_made_within t o k c ≡ true → is_made_within t o (suc k) s ≡ true
made_up t o k s c f e h =
    or_right (s == o) (is_fixed t s && option_map_or (λ c. is_made_within t o k c) (container_of t s) false)
    (and_from (is_fixed t s) (option_map_or (λ c. is_made_within t o k c) (container_of t s) false) f (held_from (λ c. is_made_within t o k c) (container_of t s) c false e h))

-- so many containers up as a slot's number are enough
made_enough : (t : Tables) → IsDepthFirst t → (o k m s : ℕ) → s ≤ m → is_made_within t o k s ≡ true → is_made_within t o m s ≡ true
made_enough t first o zero m s l h = subst (λ z. is_made_within t o m z ≡ true) (sym (eqb-true s o h)) (made_itself t o m)
made_enough t first o (suc k) m s l h = go m l (λ n c. made_enough t first o k n c) (made_by t o (suc k) s h)
  where
    go : (n : ℕ) → s ≤ n → ((n c : ℕ) → c ≤ n → is_made_within t o k c ≡ true → is_made_within t o n c ≡ true) → MadeBy t o (suc k) s → is_made_within t o n s ≡ true
    go n b ih (itself e) = subst (λ z. is_made_within t o n z ≡ true) (sym e) (made_itself t o n)
    go zero b ih (inside c j u f g m) = let less : c < s = first.behind s c g in absurd (omega arith)
    go (suc n) b ih (inside c j u f g m) =
        let less : c < s = first.behind s c g in
        let same : j ≡ k = omega arith in
        made_up t o n s c f g (ih n c (omega arith) (subst (λ z. is_made_within t o z c ≡ true) same m))

-- a slot is made with itself
pub made_with_itself : (t : Tables) (o : ℕ) → is_made_with t o o ≡ true
unfolding is_made_with
made_with_itself t o = made_itself t o (length t.slots)

made_with_any : (t : Tables) → IsDepthFirst t → (o k s : ℕ) → s < length t.slots → is_made_within t o k s ≡ true → is_made_with t o s ≡ true
unfolding is_made_with
made_with_any t first o k s l h = made_enough t first o k (length t.slots) s (omega arith) h

-- what is fixed in a slot that is made is made
made_part : (t : Tables) → IsDepthFirst t → (o s c : ℕ) → is_fixed t s ≡ true → container_of t s ≡ Some c → is_made_with t o c ≡ true → is_made_with t o s ≡ true
unfolding is_made_with
made_part t first o s c f g h =
    let there : s < length t.slots = contained_there t s c g in
    made_enough t first o (suc (length t.slots)) (length t.slots) s (omega arith) (made_up t o (length t.slots) s c f g h)

made_bounds : (t : Tables) → IsDepthFirst t → (o e : ℕ) → IsRunEnd t o e → (k s : ℕ) → is_made_within t o k s ≡ true → (o ≤ s) × (s < e)
made_bounds t first o e run zero s h = let same : s ≡ o = eqb-true s o h in let behind = run.behind in (omega arith, omega arith)
made_bounds t first o e run (suc k) s h = go (λ c. made_bounds t first o e run k c) (made_by t o (suc k) s h)
  where
    go : ((c : ℕ) → is_made_within t o k c ≡ true → (o ≤ c) × (c < e)) → MadeBy t o (suc k) s → (o ≤ s) × (s < e)
    go ih (itself same) = let behind = run.behind in (omega arith, omega arith)
    go ih (inside c j up f is m) =
        let same : j ≡ k = omega arith in
        let b = ih c (subst (λ z. is_made_within t o z c ≡ true) same m) in
        let from = b.0 in
        let to = b.1 in
        let less : c < s = first.behind s c is in
        (omega arith, elim (cases_lt s e) [ inl l ↦ l | inr out ↦ absurd (run_behind t first o e s c run is out from to) ])

-- what is made with a slot stands in its run
pub made_in_run : (t : Tables) → IsDepthFirst t → (o e s : ℕ) → IsRunEnd t o e → is_made_with t o s ≡ true → (o ≤ s) × (s < e)
unfolding is_made_with
made_in_run t first o e s run h = made_bounds t first o e run (length t.slots) s h

pub not_made_outside : (t : Tables) → IsDepthFirst t → (o e s : ℕ) → IsRunEnd t o e → ((o ≤ s) × (s < e) → ⊥) → is_made_with t o s ≡ false
not_made_outside t first o e s run out = false_from (is_made_with t o s) (λ h. out (made_in_run t first o e s run h))

not_in_run : (t : Tables) → IsDepthFirst t → (o n e : ℕ) → o < n → is_fixed t n ≡ false → IsRunEnd t n e → (k u : ℕ) → n ≤ u → u < e → is_made_within t o k u ≡ true → ⊥
not_in_run t first o n e l f run zero u a b h = let same : u ≡ o = eqb-true u o h in absurd (omega arith)
not_in_run t first o n e l f run (suc k) u a b h = go (λ c. not_in_run t first o n e l f run k c) (made_by t o (suc k) u h)
  where
    go : ((c : ℕ) → n ≤ c → c < e → is_made_within t o k c ≡ true → ⊥) → MadeBy t o (suc k) u → ⊥
    go ih (itself same) = absurd (omega arith)
    go ih (inside c j up g is m) =
        let same : j ≡ k = omega arith in
        let less : c < u = first.behind u c is in
        elim (cases_order u n) [
          | inl here ↦ not_true_false (is_fixed t n) (subst (λ z. is_fixed t z ≡ true) here g) f
          | inr other ↦
              elim other [
                | inl before ↦ absurd (omega arith)
                | inr after ↦
                    let i = inside_by t n u (run.inside u after b) in
                    let from = i.from in
                    let it : i.container ≡ c = same_some t u i.container c i.is is in
                    ih c (omega arith) (omega arith) (subst (λ z. is_made_within t o z c ≡ true) same m)
              ]
        ]

-- nothing in the run of a slot that isn't fixed is made with a slot before it
pub not_made_in_run : (t : Tables) → IsDepthFirst t → (o n e u : ℕ) → o < n → is_fixed t n ≡ false → IsRunEnd t n e → n ≤ u → u < e → is_made_with t o u ≡ false
unfolding is_made_with
not_made_in_run t first o n e u l f run a b = false_from (is_made_within t o (length t.slots) u) (not_in_run t first o n e l f run (length t.slots) u a b)

open_within : (t : Tables) → IsDepthFirst t → (o v c : ℕ) → container_of t v ≡ Some c → o ≤ c → (k s : ℕ) → c ≤ s → s < v → is_made_within t o k s ≡ true → is_made_with t o c ≡ true
open_within t first o v c is l zero s a b h =
    let same : s ≡ o = eqb-true s o h in
    let it : o ≡ c = omega arith in subst (λ z. is_made_with t o z ≡ true) it (made_with_itself t o)
open_within t first o v c is l (suc k) s a b h = go (λ p. open_within t first o v c is l k p) (made_by t o (suc k) s h)
  where
    go : ((p : ℕ) → c ≤ p → p < v → is_made_within t o k p ≡ true → is_made_with t o c ≡ true) → MadeBy t o (suc k) s → is_made_with t o c ≡ true
    go ih (itself same) = let it : o ≡ c = omega arith in subst (λ z. is_made_with t o z ≡ true) it (made_with_itself t o)
    go ih (inside p j up f g m) =
        let same : j ≡ k = omega arith in
        let there : v < length t.slots = contained_there t v c is in
        let less : p < s = first.behind s p g in
        elim (cases_order c s) [
          | inl here ↦ subst (λ z. is_made_with t o z ≡ true) (sym here) (made_with_any t first o (suc k) s (omega arith) h)
          | inr other ↦
              elim other [
                | inl before ↦
                    let i = inside_by t c s (first.between v c s is before b) in
                    let from = i.from in
                    let it : i.container ≡ p = same_some t s i.container p i.is g in
                    ih p (omega arith) (omega arith) (subst (λ z. is_made_within t o z p ≡ true) same m)
                | inr after ↦ absurd (omega arith)
              ]
        ]

-- up to n no slot behind s is made; and each container before n of a slot from n on, if it isn't before
-- o, is made
pub record IsSearched (t : Tables) (o e s n : ℕ) : Type 0 where
  pub behind : s < n
  pub within : n ≤ e
  pub none_between : (u : ℕ) → s < u → u < n → is_made_with t o u ≡ false
  pub containers_made : (v c : ℕ) → container_of t v ≡ Some c → n ≤ v → o ≤ c → c < n → is_made_with t o c ≡ true

-- the search begins behind a slot that is made
pub search_begun : (t : Tables) → IsDepthFirst t → (o e s : ℕ) → IsRunEnd t o e → is_made_with t o s ≡ true → IsSearched t o e s (s + 1)
unfolding is_made_with
search_begun t first o e s run h =
    let bounds = made_bounds t first o e run (length t.slots) s h in
    let to = bounds.1 in
    record {
      behind = omega arith;
      within = omega arith;
      none_between = λ u a b. absurd (omega arith);
      containers_made = λ v c is a b d. open_within t first o v c is b (length t.slots) s (omega arith) (omega arith) h;
    }

-- the run of a slot that isn't fixed is passed over
pub search_on : (t : Tables) → IsDepthFirst t → (o e s n f : ℕ) → IsRunEnd t o e → is_made_with t o s ≡ true → n < e → is_fixed t n ≡ false → IsRunEnd t n f → IsSearched t o e s n → IsSearched t o e s f
search_on t first o e s n f run made m fixed skipped w =
    let bounds = made_in_run t first o e s run made in
    let from = bounds.0 in
    let behind = w.behind in
    let ends = skipped.behind in
    let before : o < n = omega arith in
    record {
      behind = omega arith;
      within = run_nested t o e n f run skipped before m;
      none_between =
          λ u a b. elim (cases_lt u n) [
            | inl earlier ↦ w.none_between u a earlier
            | inr here ↦ not_made_in_run t first o n f u before fixed skipped here b
          ];
      containers_made =
          λ v c is a b d. elim (cases_lt c n) [
            | inl earlier ↦ w.containers_made v c is (omega arith) b earlier
            | inr here ↦ absurd (run_behind t first n f v c skipped is a here d)
          ];
    }

-- a fixed slot in the run is found
pub search_found : (t : Tables) → IsDepthFirst t → (o e s n : ℕ) → IsRunEnd t o e → is_made_with t o s ≡ true → n < e → is_fixed t n ≡ true → IsSearched t o e s n → IsNextMade t o e s n
search_found t first o e s n run made m fixed w =
    let bounds = made_in_run t first o e s run made in
    let from = bounds.0 in
    let behind = w.behind in
    let i = inside_by t o n (run.inside n (omega arith) m) in
    let less : i.container < n = first.behind n i.container i.is in
    record {
      behind = w.behind;
      within = w.within;
      none_between = w.none_between;
      made = λ _. made_part t first o n i.container fixed i.is (w.containers_made n i.container i.is (omega arith) i.from less);
    }

-- the search is at the end of the run
pub search_ended : (t : Tables) (o e s n : ℕ) → e ≤ n → IsSearched t o e s n → IsNextMade t o e s n
search_ended t o e s n l w = record { behind = w.behind; within = w.within; none_between = w.none_between; made = λ m. absurd (omega arith) }
