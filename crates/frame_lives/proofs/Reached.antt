-- What the end of a slot reaches, found by going over its run.
use Rattle.std.proofs.Common.{◌≡◌, ℕ, zero, suc, ◌<◌, ◌≤◌, ◌==◌, true, false, ◌&&◌, length, Some, refl, sym, subst, eqb-true, eq-eqb, arith, ⊎_elim, inl, inr}
use Rattle.std.specs.Option.{option_map_or}
use Rattle.std.proofs.lemmas.Bool.{and_parts, and_from, or_cases, or_left, or_right, cases_lt, cases_order}
use Rattle.room_wiring.specs.declared.tables.Tables.{Tables}
use Rattle.actor_duties.specs.Words.{container_of}
use Rattle.actor_duties.specs.State.{Lives}
use Rattle.actor_duties.specs.Lives.{ends_by, is_reached_within, is_reached}
use Rattle.service_messages.specs.slot_runs.Runs.{IsDepthFirst, IsRunEnd}
use Rattle.service_messages.proofs.slot_runs.RunLemmas.{held_true, held_from, not_true_false, false_from, same_some, contained_there, inside_by, run_behind}
use Rattle.frame_lives.specs.Steps.{ends_with}

-- reached from o: it is o, or ends with its container, which is reached
pub data ReachedBy (t : Tables) (me : ℕ) (l : Lives) (o up s : ℕ) : Type 0 where
  itself : s ≡ o → ReachedBy t me l o up s
  inside : (c k : ℕ) → up ≡ suc k → container_of t s ≡ Some c → ends_by t me l s c ≡ true → is_reached_within t me l o k c ≡ true → ReachedBy t me l o up s

reached_by : (t : Tables) (me : ℕ) (l : Lives) (o up s : ℕ) → is_reached_within t me l o up s ≡ true → ReachedBy t me l o up s
reached_by t me l o zero s h = itself (eqb-true s o h)
reached_by t me l o (suc k) s h = ⊎_elim
    (λ e. itself (eqb-true s o e))
    (λ e.
    let c = held_true (λ c. ends_by t me l s c && is_reached_within t me l o k c) (container_of t s) e in
    let p = and_parts (ends_by t me l s c.0) (is_reached_within t me l o k c.0) c.2 in
    inside c.0 k refl c.1 p.0 p.1)
    (or_cases (s == o) (option_map_or (λ c. ends_by t me l s c && is_reached_within t me l o k c) (container_of t s) false) h)

itself_within : (t : Tables) (me : ℕ) (l : Lives) (o up : ℕ) → is_reached_within t me l o up o ≡ true
itself_within t me l o zero = eq-eqb o o refl
itself_within t me l o (suc k) =
    or_left (o == o) (option_map_or (λ c. ends_by t me l o c && is_reached_within t me l o k c) (container_of t o) false) (eq-eqb o o refl)

reached_up : (t : Tables) (me : ℕ) (l : Lives) (o k s c : ℕ) → container_of t s ≡ Some c → ends_by t me l s c ≡ true → is_reached_within t me l o k c ≡ true
    → is_reached_within t me l o (suc k) s ≡ true
reached_up t me l o k s c e j h =
    or_right (s == o) (option_map_or (λ c. ends_by t me l s c && is_reached_within t me l o k c) (container_of t s) false)
    (held_from (λ c. ends_by t me l s c && is_reached_within t me l o k c) (container_of t s) c false e
    (and_from (ends_by t me l s c) (is_reached_within t me l o k c) j h))

-- so many containers up as a slot's number are enough
reached_enough : (t : Tables) → IsDepthFirst t → (me : ℕ) (l : Lives) (o k m s : ℕ) → s ≤ m → is_reached_within t me l o k s ≡ true → is_reached_within t me l o m s ≡ true
reached_enough t first me l o zero m s a h = subst (λ z. is_reached_within t me l o m z ≡ true) (sym (eqb-true s o h)) (itself_within t me l o m)
reached_enough t first me l o (suc k) m s a h = go m a (λ n c. reached_enough t first me l o k n c) (reached_by t me l o (suc k) s h)
  where
    go : (n : ℕ) → s ≤ n → ((n c : ℕ) → c ≤ n → is_reached_within t me l o k c ≡ true → is_reached_within t me l o n c ≡ true)
        → ReachedBy t me l o (suc k) s → is_reached_within t me l o n s ≡ true
    go n b ih (itself e) = subst (λ z. is_reached_within t me l o n z ≡ true) (sym e) (itself_within t me l o n)
    go zero b ih (inside c j u g f m) = let less : c < s = first.behind s c g in absurd (omega arith)
    go (suc n) b ih (inside c j u g f m) =
        let less : c < s = first.behind s c g in
        let same : j ≡ k = omega arith in
        reached_up t me l o n s c g f (ih n c (omega arith) (subst (λ z. is_reached_within t me l o z c ≡ true) same m))

-- a slot is reached from itself
pub reached_itself : (t : Tables) (me : ℕ) (l : Lives) (o : ℕ) → is_reached t me l o o ≡ true
unfolding is_reached
reached_itself t me l o = itself_within t me l o (length t.slots)

-- what ends with a container that is reached is reached
pub reached_part : (t : Tables) → IsDepthFirst t → (me : ℕ) (l : Lives) (o s c : ℕ) → container_of t s ≡ Some c → ends_by t me l s c ≡ true → is_reached t me l o c ≡ true
    → is_reached t me l o s ≡ true
unfolding is_reached
reached_part t first me l o s c g j h =
    let there : s < length t.slots = contained_there t s c g in
    reached_enough t first me l o (suc (length t.slots)) (length t.slots) s (omega arith) (reached_up t me l o (length t.slots) s c g j h)

bounds : (t : Tables) → IsDepthFirst t → (me : ℕ) (l : Lives) (o e : ℕ) → IsRunEnd t o e → (k s : ℕ) → is_reached_within t me l o k s ≡ true → (o ≤ s) × (s < e)
bounds t first me l o e run zero s h = let same : s ≡ o = eqb-true s o h in let behind = run.behind in (omega arith, omega arith)
bounds t first me l o e run (suc k) s h = go (λ c. bounds t first me l o e run k c) (reached_by t me l o (suc k) s h)
  where
    go : ((c : ℕ) → is_reached_within t me l o k c ≡ true → (o ≤ c) × (c < e)) → ReachedBy t me l o (suc k) s → (o ≤ s) × (s < e)
    go ih (itself same) = let behind = run.behind in (omega arith, omega arith)
    go ih (inside c j up is f m) =
        let same : j ≡ k = omega arith in
        let b = ih c (subst (λ z. is_reached_within t me l o z c ≡ true) same m) in
        let from = b.0 in
        let to = b.1 in
        let less : c < s = first.behind s c is in
        (omega arith, elim (cases_lt s e) [ inl a ↦ a | inr out ↦ absurd (run_behind t first o e s c run is out from to) ])

-- what stands outside the run of a slot isn't reached
pub not_outside : (t : Tables) → IsDepthFirst t → (me : ℕ) (l : Lives) (o e s : ℕ) → IsRunEnd t o e → ((o ≤ s) × (s < e) → ⊥) → is_reached t me l o s ≡ false
unfolding is_reached
not_outside t first me l o e s run out =
    false_from (is_reached_within t me l o (length t.slots) s) (λ h. out (bounds t first me l o e run (length t.slots) s h))

within_run : (t : Tables) → IsDepthFirst t → (me : ℕ) (l : Lives) (o n e : ℕ) → o < n → ends_with t me l n ≡ false → IsRunEnd t n e
    → (k u : ℕ) → n ≤ u → u < e → is_reached_within t me l o k u ≡ true → ⊥
within_run t first me l o n e a f run zero u b d h = let same : u ≡ o = eqb-true u o h in absurd (omega arith)
within_run t first me l o n e a f run (suc k) u b d h = go (λ c. within_run t first me l o n e a f run k c) (reached_by t me l o (suc k) u h)
  where
    go : ((c : ℕ) → n ≤ c → c < e → is_reached_within t me l o k c ≡ true → ⊥) → ReachedBy t me l o (suc k) u → ⊥
    go ih (itself same) = absurd (omega arith)
    go ih (inside c j up is g m) =
        let same : j ≡ k = omega arith in
        let less : c < u = first.behind u c is in
        elim (cases_order u n) [
          | inl here ↦
              not_true_false (ends_with t me l n) (subst (λ z. ends_with t me l z ≡ true) here (held_from (ends_by t me l u) (container_of t u) c false is g)) f
          | inr other ↦
              elim other [
                | inl before ↦ absurd (omega arith)
                | inr after ↦
                    let i = inside_by t n u (run.inside u after d) in
                    let from = i.from in
                    let it : i.container ≡ c = same_some t u i.container c i.is is in
                    ih c (omega arith) (omega arith) (subst (λ z. is_reached_within t me l o z c ≡ true) same m)
              ]
        ]

-- nothing in the run of a slot that doesn't end with its container is reached from a slot before it
pub not_in_run : (t : Tables) → IsDepthFirst t → (me : ℕ) (l : Lives) (o n e u : ℕ) → o < n → ends_with t me l n ≡ false → IsRunEnd t n e → n ≤ u → u < e
    → is_reached t me l o u ≡ false
unfolding is_reached
not_in_run t first me l o n e u a f run b d =
    false_from (is_reached_within t me l o (length t.slots) u) (within_run t first me l o n e a f run (length t.slots) u b d)
