-- How the turns of places go with the timers; and what the timers' list becomes.
use Rattle.std.proofs.Common.{◌≡◌, ℕ, suc, ◌+◌, ◌<◌, ◌≤◌, nat_lt, nat_le, Bool, true, false, cond, not, List, [], ◌∷◌, ◌++◌, length, Option, Some, None, position, refl, sym, ap, ◌∙◌, subst, arith}
use Rattle.std.specs.Prelude.{filter, min, option_and_then, if◌then◌else◌}
use Rattle.std.specs.List.{AllByRecursion, remove, position_or_len}
use Rattle.std.specs.List.Sorted.{IsStrictlySortedBy}
use Rattle.std.specs.Map.{lookup, keys_of, values_of}
use Rattle.std.specs.Option.{option_map_or}
use Rattle.std.specs.BTreeMap.{is_at as is_key}
use Rattle.std.specs.Cmp.{nat_cmp_total, eq_by_cmp_equiv}
use Rattle.std.specs.Ordering.{nat_cmp}
use Rattle.std.proofs.lemmas.Bool.Decides.{nat_tests}
use Rattle.std.proofs.lemmas.Map.{none_passes_from_lookup, lookup-remove_entry}
use Rattle.std.proofs.lemmas.Map.Keys.{IsDistinct-from_sorted}
use Rattle.std.proofs.lemmas.Map.Entries.{option_filter, lookup-filter-keys, lookup-filter-values}
use Rattle.room_kinds.specs.declared.numbers.Endpoint.{Endpoint}
use Rattle.room_timer.specs.declared.place.Place.{Place}
use Rattle.room_timer.specs.declared.timer.Timer.{Timer}
use Rattle.actor_duties.specs.Words.{is_endpoint}
use Rattle.room_timer.specs.Timers.{is_at, disarmed, sooner, earliest, due_by, is_due}
use Rattle.room_timer.specs.Turns.{key_of, end_of, place_cmp, timer_of, taken, IsPlaced}

-- ---- places

-- whether two places are one, by their keys
abbrev pub same : Endpoint → Endpoint → Bool
same a b = is_key (place_cmp (key_of a)) (key_of b)

place : ℕ → ℕ → ℕ → ℕ → Endpoint
place slot generation port at = record { slot = record { 0 = slot }; generation = record { 0 = generation }; port = port; place = at }

alike : (a b : Endpoint) → a.slot.0 ≡ b.slot.0 → a.generation.0 ≡ b.generation.0 → a.port ≡ b.port → a.place ≡ b.place → a ≡ b
unfolding place
alike a b s g p q =
    ap (λ n. place n a.generation.0 a.port a.place) s ∙ ap (λ n. place b.slot.0 n a.port a.place) g
    ∙ ap (λ n. place b.slot.0 b.generation.0 n a.place) p ∙ ap (λ n. place b.slot.0 b.generation.0 b.port n) q

same_is : (a b : Endpoint) → same a b ≡ true → a ≡ b
same_is a b h =
    alike a b (grind (arith, nat_tests, h)) (grind (arith, nat_tests, h)) (grind (arith, nat_tests, h)) (grind (arith, nat_tests, h))

same_self : (a : Endpoint) → same a a ≡ true
same_self a = grind (arith, nat_tests)

endpoint_is : (a b : Endpoint) → is_endpoint a b ≡ true → a ≡ b
endpoint_is a b h =
    alike a b (grind (arith, nat_tests, h)) (grind (arith, nat_tests, h)) (grind (arith, nat_tests, h)) (grind (arith, nat_tests, h))

endpoint_self : (a : Endpoint) → is_endpoint a a ≡ true
endpoint_self a = grind (arith, nat_tests)

-- ---- a timer by its turn

all_taken : {X : Type 0} (P : ℕ × X → Type 0) (turn : ℕ) (xs : List (ℕ × X)) → AllByRecursion P xs → AllByRecursion P (taken turn xs)
all_taken P turn [] h = tt
all_taken {X = X} P turn (e ∷ es) h = go (is_key (nat_cmp turn) e.0) (all_taken P turn es h.1)
  where
    go : (b : Bool) → AllByRecursion P (taken turn es) → AllByRecursion P (cond b es (e ∷ taken turn es))
    go true k = h.1
    go false k = (h.0, k)

pub taken_none : (turn : ℕ) (ts : List (ℕ × Timer)) → timer_of turn ts ≡ None → taken turn ts ≡ ts
taken_none turn [] h = refl
taken_none turn (e ∷ ts) h = go (is_key (nat_cmp turn) e.0) h (taken_none turn ts)
  where
    go : (b : Bool) → cond b (Some e.1) (timer_of turn ts) ≡ None → (timer_of turn ts ≡ None → taken turn ts ≡ ts) → cond b ts (e ∷ taken turn ts) ≡ e ∷ ts
    go true k again = absurd cc
    go false k again = ap (λ (us : List (ℕ × Timer)). e ∷ us) (again k)

-- what holds of each timer with its turn holds of one that is found
found_holds : (P : ℕ → Timer → Type 0) (turn : ℕ) (x : Timer) (ts : List (ℕ × Timer)) → AllByRecursion (λ e. P e.0 e.1) ts → timer_of turn ts ≡ Some x → P turn x
found_holds P turn x [] a h = absurd cc
found_holds P turn x (e ∷ ts) a h = go (is_key (nat_cmp turn) e.0) refl h (found_holds P turn x ts a.1)
  where
    go : (b : Bool) → is_key (nat_cmp turn) e.0 ≡ b → cond b (Some e.1) (timer_of turn ts) ≡ Some x → (timer_of turn ts ≡ Some x → P turn x) → P turn x
    go true t k again =
        let here : e.0 ≡ turn = grind (arith, nat_tests, t) in
        let is : e.1 ≡ x = cc in
        subst (λ (n : ℕ). P n x) here (subst (λ (y : Timer). P e.0 y) is a.0)
    go false t k again = again k

others : (turn q : ℕ) (ts : List (ℕ × Timer)) → IsStrictlySortedBy nat_cmp (keys_of ts)
    → timer_of q (taken turn ts) ≡ cond (is_key (nat_cmp turn) q) None (timer_of q ts)
others turn q ts s =
    lookup-remove_entry (eq_by_cmp_equiv nat_cmp_total) (is_key (nat_cmp turn)) ((eq_by_cmp_equiv nat_cmp_total).congr turn) q ts
    (IsDistinct-from_sorted nat_cmp (keys_of ts) s)

gone : (turn : ℕ) (ts : List (ℕ × Timer)) → IsStrictlySortedBy nat_cmp (keys_of ts) → timer_of turn (taken turn ts) ≡ None
gone turn ts s = others turn turn ts s ∙ go (is_key (nat_cmp turn) turn) (grind (arith, nat_tests))
  where
    go : (b : Bool) → b ≡ true → cond b None (timer_of turn ts) ≡ None
    go true t = refl
    go false t = absurd cc

found_behind : (turn : ℕ) (x : Timer) (ts us : List (ℕ × Timer)) → timer_of turn ts ≡ Some x → timer_of turn (ts ++ us) ≡ Some x
found_behind turn x [] us h = absurd cc
found_behind turn x (e ∷ ts) us h = go (is_key (nat_cmp turn) e.0) h (found_behind turn x ts us)
  where
    go : (b : Bool) → cond b (Some e.1) (timer_of turn ts) ≡ Some x → (timer_of turn ts ≡ Some x → timer_of turn (ts ++ us) ≡ Some x)
        → cond b (Some e.1) (timer_of turn (ts ++ us)) ≡ Some x
    go true k again = k
    go false k again = again k

taken_before : (turn : ℕ) (x : Timer) (ts us : List (ℕ × Timer)) → timer_of turn ts ≡ Some x → taken turn (ts ++ us) ≡ taken turn ts ++ us
taken_before turn x [] us h = absurd cc
taken_before turn x (e ∷ ts) us h = go (is_key (nat_cmp turn) e.0) h (taken_before turn x ts us)
  where
    go : (b : Bool) → cond b (Some e.1) (timer_of turn ts) ≡ Some x → (timer_of turn ts ≡ Some x → taken turn (ts ++ us) ≡ taken turn ts ++ us)
        → cond b (ts ++ us) (e ∷ taken turn (ts ++ us)) ≡ cond b ts (e ∷ taken turn ts) ++ us
    go true k again = refl
    go false k again = ap (λ (vs : List (ℕ × Timer)). e ∷ vs) (again k)

last_found : (turn : ℕ) (x : Timer) (ts : List (ℕ × Timer)) → AllByRecursion (λ e. e.0 < turn) ts → timer_of turn (ts ++ (turn, x) ∷ []) ≡ Some x
last_found turn x [] h = go (is_key (nat_cmp turn) turn) (grind (arith, nat_tests))
  where
    go : (b : Bool) → b ≡ true → cond b (Some x) None ≡ Some x
    go true t = refl
    go false t = absurd cc
last_found turn x (e ∷ ts) h = go (is_key (nat_cmp turn) e.0) apart (last_found turn x ts h.1)
  where
    apart : is_key (nat_cmp turn) e.0 ≡ false
    apart = let low : e.0 < turn = h.0 in grind (arith, nat_tests, low)

    go : (b : Bool) → b ≡ false → timer_of turn (ts ++ (turn, x) ∷ []) ≡ Some x → cond b (Some e.1) (timer_of turn (ts ++ (turn, x) ∷ [])) ≡ Some x
    go true t k = absurd cc
    go false t k = k

-- ---- the turns of places

-- a timer goes
module _ (next : ℕ) (ts : List (ℕ × Timer)) (was is : Endpoint → Option ℕ) (turn : ℕ) (x : Timer) (p : IsPlaced next ts was)
    (s : IsStrictlySortedBy nat_cmp (keys_of ts)) (found : timer_of turn ts ≡ Some x)
    (less : (a : Endpoint) → is a ≡ cond (same x.at a) None (was a)) where
  its_turn : was x.at ≡ Some turn
  its_turn = found_holds (λ n y. was y.at ≡ Some n) turn x ts p.placed found

  still : (e : ℕ × Timer) → was e.1.at ≡ Some e.0 → is_key (nat_cmp turn) e.0 ≡ false → is e.1.at ≡ Some e.0
  still e h apart = less e.1.at ∙ go (same x.at e.1.at) refl
    where
      go : (b : Bool) → same x.at e.1.at ≡ b → cond b None (was e.1.at) ≡ Some e.0
      go true t =
          let there : was x.at ≡ Some e.0 = ap was (same_is x.at e.1.at t) ∙ h in
          let one : Some turn ≡ Some e.0 = sym its_turn ∙ there in
          let number : turn ≡ e.0 = cc in
          let hit : is_key (nat_cmp turn) e.0 ≡ true = grind (arith, nat_tests, number) in
          absurd cc
      go false t = h

  still_all : (es : List (ℕ × Timer)) → AllByRecursion (λ e. was e.1.at ≡ Some e.0) es → AllByRecursion (λ e. is_key (nat_cmp turn) e.0 ≡ false) es
      → AllByRecursion (λ e. is e.1.at ≡ Some e.0) es
  still_all [] h k = tt
  still_all (e ∷ es) h k = (still e h.0 k.0, still_all es h.1 k.1)

  only_still : (at : Endpoint) (t : ℕ) → is at ≡ Some t → (due : ℕ) × (timer_of t (taken turn ts) ≡ Some (record { at = at; due = due }))
  only_still at t h = go (same x.at at) refl (sym (less at) ∙ h)
    where
      go : (b : Bool) → same x.at at ≡ b → cond b None (was at) ≡ Some t → (due : ℕ) × (timer_of t (taken turn ts) ≡ Some (record { at = at; due = due }))
      go true m k = absurd cc
      go false m k = (there.0, others turn t ts s ∙ stays (is_key (nat_cmp turn) t) refl)
        where
          there : (due : ℕ) × (timer_of t ts ≡ Some (record { at = at; due = due }))
          there = p.only at t k

          stays : (b : Bool) → is_key (nat_cmp turn) t ≡ b → cond b None (timer_of t ts) ≡ Some (record { at = at; due = there.0 })
          stays true n =
              let number : turn ≡ t = grind (arith, nat_tests, n) in
              let one : Some x ≡ Some (record { at = at; due = there.0 }) = sym found ∙ ap (λ (q : ℕ). timer_of q ts) number ∙ there.1 in
              let it : x ≡ record { at = at; due = there.0 } = cc in
              let hit : same x.at at ≡ true = ap (λ (y : Timer). same y.at at) it ∙ same_self at in
              absurd cc
          stays false n = there.1

  pub placed_taken : IsPlaced next (taken turn ts) is
  placed_taken = record {
    below = all_taken (λ e. e.0 < next) turn ts p.below;
    placed = still_all (taken turn ts) (all_taken (λ e. was e.1.at ≡ Some e.0) turn ts p.placed)
        (none_passes_from_lookup (is_key (nat_cmp turn)) (taken turn ts) (gone turn ts s));
    only = only_still;
  }

-- a timer comes at a place that had none
module _ (turn next : ℕ) (ts : List (ℕ × Timer)) (was is : Endpoint → Option ℕ) (x : Timer) (up : turn < next) (p : IsPlaced turn ts was)
    (free : was x.at ≡ None) (more : (a : Endpoint) → is a ≡ cond (same x.at a) (Some turn) (was a)) where
  below_next : (es : List (ℕ × Timer)) → AllByRecursion (λ e. e.0 < turn) es → AllByRecursion (λ e. e.0 < next) (es ++ (turn, x) ∷ [])
  below_next [] h = (up, tt)
  below_next (e ∷ es) h = (let low : e.0 < turn = h.0 in omega (arith, low, up), below_next es h.1)

  here : is x.at ≡ Some turn
  here = more x.at ∙ go (same x.at x.at) (same_self x.at)
    where
      go : (b : Bool) → b ≡ true → cond b (Some turn) (was x.at) ≡ Some turn
      go true t = refl
      go false t = absurd cc

  placed_next : (es : List (ℕ × Timer)) → AllByRecursion (λ e. was e.1.at ≡ Some e.0) es → AllByRecursion (λ e. is e.1.at ≡ Some e.0) (es ++ (turn, x) ∷ [])
  placed_next [] h = (here, tt)
  placed_next (e ∷ es) h = (more e.1.at ∙ go (same x.at e.1.at) refl, placed_next es h.1)
    where
      go : (b : Bool) → same x.at e.1.at ≡ b → cond b (Some turn) (was e.1.at) ≡ Some e.0
      go true t =
          let there : was x.at ≡ Some e.0 = ap was (same_is x.at e.1.at t) ∙ h.0 in
          absurd cc
      go false t = h.0

  only_next : (at : Endpoint) (t : ℕ) → is at ≡ Some t → (due : ℕ) × (timer_of t (ts ++ (turn, x) ∷ []) ≡ Some (record { at = at; due = due }))
  only_next at t h = go (same x.at at) refl (sym (more at) ∙ h)
    where
      go : (b : Bool) → same x.at at ≡ b → cond b (Some turn) (was at) ≡ Some t
          → (due : ℕ) × (timer_of t (ts ++ (turn, x) ∷ []) ≡ Some (record { at = at; due = due }))
      go true m k =
          let number : turn ≡ t = cc in (
            x.due,
            subst (λ (q : ℕ). timer_of q (ts ++ (turn, x) ∷ []) ≡ Some (record { at = at; due = x.due })) number
                (last_found turn x ts p.below ∙ ap (λ (a : Endpoint). Some (record { at = a; due = x.due })) (same_is x.at at m)),
          )
      go false m k =
          let there : (due : ℕ) × (timer_of t ts ≡ Some (record { at = at; due = due })) = p.only at t k in
          (there.0, found_behind t (record { at = at; due = there.0 }) ts ((turn, x) ∷ []) there.1)

  pub placed_pushed : IsPlaced next (ts ++ (turn, x) ∷ []) is
  placed_pushed = record { below = below_next ts p.below; placed = placed_next ts p.placed; only = only_next }

-- a timer comes at a place that had one, which goes
pub placed_again : (turn next old : ℕ) (ts : List (ℕ × Timer)) (was is : Endpoint → Option ℕ) (x : Timer) → turn < next → IsPlaced turn ts was
    → IsStrictlySortedBy nat_cmp (keys_of ts) → was x.at ≡ Some old → ((a : Endpoint) → is a ≡ cond (same x.at a) (Some turn) (was a))
    → IsPlaced next (taken old (ts ++ (turn, x) ∷ [])) is
placed_again turn next old ts was is x up p s had more =
    subst (λ (us : List (ℕ × Timer)). IsPlaced next us is) (sym (taken_before old y ts ((turn, x) ∷ []) there.1))
    (placed_pushed turn next (taken old ts) less is x up (placed_taken turn ts was less old y p s there.1 (λ a. refl)) free again)
  where
    there : (due : ℕ) × (timer_of old ts ≡ Some (record { at = x.at; due = due }))
    there = p.only x.at old had

    y : Timer
    y = record { at = x.at; due = there.0 }

    less : Endpoint → Option ℕ
    less a = cond (same x.at a) None (was a)

    free : less x.at ≡ None
    free = go (same x.at x.at) (same_self x.at)
      where
        go : (b : Bool) → b ≡ true → cond b None (was x.at) ≡ None
        go true t = refl
        go false t = absurd cc

    again : (a : Endpoint) → is a ≡ cond (same x.at a) (Some turn) (less a)
    again a = more a ∙ go (same x.at a)
      where
        go : (b : Bool) → cond b (Some turn) (was a) ≡ cond b (Some turn) (cond b None (was a))
        go true = refl
        go false = refl

-- ---- the list of timers

-- without the first timer of a place
without : Endpoint → List Timer → List Timer
without at [] = []
without at (x ∷ xs) = cond (is_at at x) xs (x ∷ without at xs)

first_removed : (x : Timer) (xs : List Timer) (b : Bool) → b ≡ true → option_map_or (remove (x ∷ xs)) (cond b (Some 0) None) (x ∷ xs) ≡ xs
first_removed x xs true t = refl
first_removed x xs false t = absurd cc

later_removed : (at : Endpoint) (x : Timer) (xs : List Timer) (m : ℕ) (b c : Bool) → b ≡ c
    → option_map_or (remove xs) (cond c (Some m) None) xs ≡ without at xs
    → option_map_or (remove (x ∷ xs)) (cond b (Some (1 + m)) None) (x ∷ xs) ≡ x ∷ without at xs
later_removed at x xs m true true t h =
    let next : 1 + m ≡ suc m = omega arith in
    ap (λ (k : ℕ). remove (x ∷ xs) k) next ∙ ap (λ (ys : List Timer). x ∷ ys) h
later_removed at x xs m true false t h = absurd cc
later_removed at x xs m false true t h = absurd cc
later_removed at x xs m false false t h = ap (λ (ys : List Timer). x ∷ ys) h

removed_is : (at : Endpoint) (xs : List Timer) → option_map_or (remove xs) (position (is_at at) xs) xs ≡ without at xs
unfolding without
removed_is at [] = refl
removed_is at (x ∷ xs) = go (is_at at x) (removed_is at xs)
  where
    go : (b : Bool) → option_map_or (remove xs) (position (is_at at) xs) xs ≡ without at xs
        → option_map_or (remove (x ∷ xs)) (cond (nat_lt (cond (not b) (1 + position_or_len (is_at at) xs) 0) (length (x ∷ xs)))
        (Some (cond (not b) (1 + position_or_len (is_at at) xs) 0)) None) (x ∷ xs) ≡ cond b xs (x ∷ without at xs)
    go true h = first_removed x xs (nat_lt 0 (length (x ∷ xs))) (grind (arith, nat_tests))
    go false h =
        later_removed at x xs (position_or_len (is_at at) xs) (nat_lt (1 + position_or_len (is_at at) xs) (length (x ∷ xs)))
        (nat_lt (position_or_len (is_at at) xs) (length xs)) (grind (arith, nat_tests)) h

disarmed_is : (at : Endpoint) (xs : List Timer) → disarmed at xs ≡ without at xs
unfolding disarmed
disarmed_is at xs = removed_is at xs

without_none : (at : Endpoint) (was : Endpoint → Option ℕ) (ts : List (ℕ × Timer)) → AllByRecursion (λ e. was e.1.at ≡ Some e.0) ts → was at ≡ None
    → without at (values_of ts) ≡ values_of ts
unfolding without
without_none at was [] p h = refl
without_none at was (e ∷ ts) p h = go (is_at at e.1) refl (without_none at was ts p.1 h)
  where
    go : (b : Bool) → is_at at e.1 ≡ b → without at (values_of ts) ≡ values_of ts → cond b (values_of ts) (e.1 ∷ without at (values_of ts)) ≡ e.1 ∷ values_of ts
    go true t k = let there : was at ≡ Some e.0 = ap was (sym (endpoint_is e.1.at at t)) ∙ p.0 in absurd cc
    go false t k = ap (λ (xs : List Timer). e.1 ∷ xs) k

without_taken : (at : Endpoint) (was : Endpoint → Option ℕ) (turn due : ℕ) (ts : List (ℕ × Timer)) → AllByRecursion (λ e. was e.1.at ≡ Some e.0) ts
    → was at ≡ Some turn → timer_of turn ts ≡ Some (record { at = at; due = due }) → without at (values_of ts) ≡ values_of (taken turn ts)
unfolding without
without_taken at was turn due [] p h f = absurd cc
without_taken at was turn due (e ∷ ts) p h f = go (is_key (nat_cmp turn) e.0) refl f (without_taken at was turn due ts p.1 h)
  where
    hit : (b : Bool) → b ≡ true → cond b (values_of ts) (e.1 ∷ without at (values_of ts)) ≡ values_of ts
    hit true t = refl
    hit false t = absurd cc

    miss : (b : Bool) → b ≡ false → cond b (values_of ts) (e.1 ∷ without at (values_of ts)) ≡ e.1 ∷ without at (values_of ts)
    miss true t = absurd cc
    miss false t = refl

    apart : (b : Bool) → is_at at e.1 ≡ b → is_key (nat_cmp turn) e.0 ≡ false → is_at at e.1 ≡ false
    apart true t k =
        let there : was at ≡ Some e.0 = ap was (sym (endpoint_is e.1.at at t)) ∙ p.0 in
        let one : Some turn ≡ Some e.0 = sym h ∙ there in
        let number : turn ≡ e.0 = cc in
        let same_number : is_key (nat_cmp turn) e.0 ≡ true = grind (arith, nat_tests, number) in
        absurd cc
    apart false t k = t

    go : (b : Bool) → is_key (nat_cmp turn) e.0 ≡ b → cond b (Some e.1) (timer_of turn ts) ≡ Some (record { at = at; due = due })
        → (timer_of turn ts ≡ Some (record { at = at; due = due }) → without at (values_of ts) ≡ values_of (taken turn ts))
        → cond (is_at at e.1) (values_of ts) (e.1 ∷ without at (values_of ts)) ≡ values_of (cond b ts (e ∷ taken turn ts))
    go true t k again =
        let it : e.1 ≡ record { at = at; due = due } = cc in
        hit (is_at at e.1) (ap (λ (y : Timer). is_at at y) it ∙ endpoint_self at)
    go false t k again =
        miss (is_at at e.1) (apart (is_at at e.1) refl t) ∙ ap (λ (xs : List Timer). e.1 ∷ xs) (again k)

pub disarmed_none : (at : Endpoint) (next : ℕ) (was : Endpoint → Option ℕ) (ts : List (ℕ × Timer)) → IsPlaced next ts was → was at ≡ None
    → values_of ts ≡ disarmed at (values_of ts)
disarmed_none at next was ts p h = sym (disarmed_is at (values_of ts) ∙ without_none at was ts p.placed h)

pub disarmed_taken : (at : Endpoint) (next : ℕ) (was : Endpoint → Option ℕ) (turn : ℕ) (ts : List (ℕ × Timer)) → IsPlaced next ts was → was at ≡ Some turn
    → values_of (taken turn ts) ≡ disarmed at (values_of ts)
disarmed_taken at next was turn ts p h =
    let there = p.only at turn h in sym (disarmed_is at (values_of ts) ∙ without_taken at was turn there.0 ts p.placed h there.1)

values_behind : (ts : List (ℕ × Timer)) (turn : ℕ) (x : Timer) → values_of (ts ++ (turn, x) ∷ []) ≡ values_of ts ++ x ∷ []
values_behind [] turn x = refl
values_behind (e ∷ ts) turn x = ap (λ (xs : List Timer). e.1 ∷ xs) (values_behind ts turn x)

pub armed_new : (next turn : ℕ) (was : Endpoint → Option ℕ) (ts : List (ℕ × Timer)) (x : Timer) → IsPlaced next ts was → was x.at ≡ None
    → values_of (ts ++ (turn, x) ∷ []) ≡ disarmed x.at (values_of ts) ++ x ∷ []
armed_new next turn was ts x p h = values_behind ts turn x ∙ ap (λ (xs : List Timer). xs ++ x ∷ []) (disarmed_none x.at next was ts p h)

pub armed_again : (next turn old : ℕ) (was : Endpoint → Option ℕ) (ts : List (ℕ × Timer)) (x : Timer) → IsPlaced next ts was → was x.at ≡ Some old
    → values_of (taken old (ts ++ (turn, x) ∷ [])) ≡ disarmed x.at (values_of ts) ++ x ∷ []
armed_again next turn old was ts x p h =
    let there = p.only x.at old h in
    ap (λ (us : List (ℕ × Timer)). values_of us) (taken_before old (record { at = x.at; due = there.0 }) ts ((turn, x) ∷ []) there.1)
    ∙ values_behind (taken old ts) turn x
    ∙ ap (λ (xs : List Timer). xs ++ x ∷ []) (disarmed_taken x.at next was old ts p h)

-- ---- timers that expire

abbrev left : ℕ → List Timer → List Timer
left time xs = filter (λ x. not (is_due time x)) xs

-- no timer is due before a time
abbrev pub AllFrom : ℕ → List Timer → Type 0
AllFrom time xs = AllByRecursion (λ (x : Timer). time ≤ x.due) xs

sooner_none : (o : Option ℕ) (x : Timer) → sooner (Some x.due) o ≡ None → ⊥
sooner_none None x h = cc
sooner_none (Some b) x h = cc

none_armed : (xs : List Timer) → earliest xs ≡ None → xs ≡ []
none_armed [] h = refl
none_armed (x ∷ xs) h = absurd (sooner_none (earliest xs) x h)

weaker : (a b : ℕ) (xs : List Timer) → a ≤ b → AllFrom b xs → AllFrom a xs
weaker a b [] l h = tt
weaker a b (x ∷ xs) l h = (let low : b ≤ x.due = h.0 in omega (arith, l, low), weaker a b xs l h.1)

pub from_earliest : (time : ℕ) (xs : List Timer) → earliest xs ≡ Some time → AllFrom time xs
from_earliest time [] h = absurd cc
from_earliest time (x ∷ xs) h = go (earliest xs) refl h (λ b. from_earliest b xs)
  where
    go : (o : Option ℕ) → earliest xs ≡ o → sooner (Some x.due) o ≡ Some time → ((b : ℕ) → earliest xs ≡ Some b → AllFrom b xs)
        → (time ≤ x.due) × AllFrom time xs
    go None k h' again =
        let due : x.due ≡ time = cc in
        (omega (arith, due), subst (λ (ys : List Timer). AllFrom time ys) (sym (none_armed xs k)) tt)
    go (Some b) k h' again =
        let least : min x.due b ≡ time = cc in
        (omega (arith, least), weaker time b xs (omega (arith, least)) (again b k))

all_stay : (time from : ℕ) (xs : List Timer) → time < from → AllFrom from xs → left time xs ≡ xs
all_stay time from [] l h = refl
all_stay time from (x ∷ xs) l h = go (is_due time x) apart (all_stay time from xs l h.1)
  where
    apart : is_due time x ≡ false
    apart = let low : from ≤ x.due = h.0 in grind (arith, nat_tests, low, l)

    go : (b : Bool) → b ≡ false → left time xs ≡ xs → (if not b then x ∷ left time xs else left time xs) ≡ x ∷ xs
    go true t k = absurd cc
    go false t k = ap (λ (ys : List Timer). x ∷ ys) k

pub none_left : (time : ℕ) (xs : List Timer) → due_by time xs ≡ None → left time xs ≡ xs
unfolding due_by
none_left time xs h = go (earliest xs) refl h
  where
    go : (o : Option ℕ) → earliest xs ≡ o → option_and_then (λ least. if nat_le least time then Some least else None) o ≡ None → left time xs ≡ xs
    go None k m = ap (left time) (none_armed xs k) ∙ sym (none_armed xs k)
    go (Some least) k m = all_stay time least xs (grind (arith, nat_tests, m)) (from_earliest least xs k)

pub one_less : (turn time : ℕ) (x : Timer) (ts : List (ℕ × Timer)) → timer_of turn ts ≡ Some x → x.due ≡ time
    → left time (values_of (taken turn ts)) ≡ left time (values_of ts)
one_less turn time x [] h d = absurd cc
one_less turn time x (e ∷ ts) h d = go (is_key (nat_cmp turn) e.0) h (λ k. one_less turn time x ts k d)
  where
    here : (b : Bool) → b ≡ true → left time (values_of ts) ≡ (if not b then e.1 ∷ left time (values_of ts) else left time (values_of ts))
    here true t = refl
    here false t = absurd cc

    more : (b : Bool) (xs ys : List Timer) → xs ≡ ys → (if not b then e.1 ∷ xs else xs) ≡ (if not b then e.1 ∷ ys else ys)
    more true xs ys k = k
    more false xs ys k = ap (λ (zs : List Timer). e.1 ∷ zs) k

    go : (b : Bool) → cond b (Some e.1) (timer_of turn ts) ≡ Some x
        → (timer_of turn ts ≡ Some x → left time (values_of (taken turn ts)) ≡ left time (values_of ts))
        → left time (values_of (cond b ts (e ∷ taken turn ts))) ≡ left time (values_of (e ∷ ts))
    go true k again =
        let it : e.1 ≡ x = cc in
        let due : e.1.due ≡ time = ap (λ (y : Timer). y.due) it ∙ d in
        here (is_due time e.1) (grind (arith, nat_tests, due))
    go false k again = more (is_due time e.1) (left time (values_of (taken turn ts))) (left time (values_of ts)) (again k)

from_taken : (time turn : ℕ) (ts : List (ℕ × Timer)) → AllFrom time (values_of ts) → AllFrom time (values_of (taken turn ts))
from_taken time turn [] h = tt
from_taken time turn (e ∷ ts) h = go (is_key (nat_cmp turn) e.0) (from_taken time turn ts h.1)
  where
    go : (b : Bool) → AllFrom time (values_of (taken turn ts)) → AllFrom time (values_of (cond b ts (e ∷ taken turn ts)))
    go true k = h.1
    go false k = (h.0, k)

found_from : (time turn : ℕ) (x : Timer) (ts : List (ℕ × Timer)) → AllFrom time (values_of ts) → timer_of turn ts ≡ Some x → time ≤ x.due
found_from time turn x [] h f = absurd cc
found_from time turn x (e ∷ ts) h f = go (is_key (nat_cmp turn) e.0) f (found_from time turn x ts h.1)
  where
    go : (b : Bool) → cond b (Some e.1) (timer_of turn ts) ≡ Some x → (timer_of turn ts ≡ Some x → time ≤ x.due) → time ≤ x.due
    go true k again = let it : e.1 ≡ x = cc in subst (λ (y : Timer). time ≤ y.due) it h.0
    go false k again = again k

shorter : (turn : ℕ) (x : Timer) (ts : List (ℕ × Timer)) → timer_of turn ts ≡ Some x → length (taken turn ts) < length ts
shorter turn x [] h = absurd cc
shorter turn x (e ∷ ts) h = go (is_key (nat_cmp turn) e.0) h (shorter turn x ts)
  where
    go : (b : Bool) → cond b (Some e.1) (timer_of turn ts) ≡ Some x → (timer_of turn ts ≡ Some x → length (taken turn ts) < length ts)
        → length (cond b ts (e ∷ taken turn ts)) < length (e ∷ ts)
    go true k again = omega arith
    go false k again = let low : length (taken turn ts) < length ts = again k in omega (arith, low)

-- one of those that are due at the least time goes
pub expires : (time turn due : ℕ) (at : Endpoint) (ts us start : List (ℕ × Timer)) → us ≡ taken turn ts → timer_of turn ts ≡ Some (record { at = at; due = due })
    → due ≤ time → (left time (values_of ts) ≡ left time (values_of start)) × AllFrom time (values_of ts)
    → (left time (values_of us) ≡ left time (values_of start)) × AllFrom time (values_of us)
expires time turn due at ts us start is found by h =
    subst (λ (vs : List (ℕ × Timer)). (left time (values_of vs) ≡ left time (values_of start)) × AllFrom time (values_of vs)) (sym is)
    (one_less turn time (record { at = at; due = due }) ts found now ∙ h.0, from_taken time turn ts h.1)
  where
    now : due ≡ time
    now = let low : time ≤ due = found_from time turn (record { at = at; due = due }) ts h.1 found in omega (arith, low, by)

pub fewer : (turn due : ℕ) (at : Endpoint) (ts us : List (ℕ × Timer)) → us ≡ taken turn ts → timer_of turn ts ≡ Some (record { at = at; due = due })
    → length us < length ts
fewer turn due at ts us is found =
    subst (λ (vs : List (ℕ × Timer)). length vs < length ts) (sym is) (shorter turn (record { at = at; due = due }) ts found)

-- ---- timers that end with their actors

pub turns_kept : (p : Endpoint → Bool) (es : List (Place × ℕ)) (a : Endpoint)
    → lookup (is_key (place_cmp (key_of a))) (filter (λ e. p (end_of e.0)) es) ≡ cond (p a) (lookup (is_key (place_cmp (key_of a))) es) None
turns_kept p es a =
    lookup-filter-keys (is_key (place_cmp (key_of a))) (λ (k : Place). p (end_of k)) (p a) (λ k h. ap p (sym (same_is a (end_of k) h))) es

module _ (p : Endpoint → Bool) (next : ℕ) (ts : List (ℕ × Timer)) (was is : Endpoint → Option ℕ) (q : IsPlaced next ts was)
    (s : IsStrictlySortedBy nat_cmp (keys_of ts)) (kept : (a : Endpoint) → is a ≡ cond (p a) (was a) None) where
  below_kept : (es : List (ℕ × Timer)) → AllByRecursion (λ e. e.0 < next) es → AllByRecursion (λ e. e.0 < next) (filter (λ e. p e.1.at) es)
  below_kept [] h = tt
  below_kept (e ∷ es) h = go (p e.1.at) (below_kept es h.1)
    where
      go : (b : Bool) → AllByRecursion (λ e. e.0 < next) (filter (λ e. p e.1.at) es)
          → AllByRecursion (λ e. e.0 < next) (if b then e ∷ filter (λ e. p e.1.at) es else filter (λ e. p e.1.at) es)
      go true k = (h.0, k)
      go false k = k

  places_kept : (es : List (ℕ × Timer)) → AllByRecursion (λ e. was e.1.at ≡ Some e.0) es → AllByRecursion (λ e. is e.1.at ≡ Some e.0) (filter (λ e. p e.1.at) es)
  places_kept [] h = tt
  places_kept (e ∷ es) h = go (p e.1.at) refl (places_kept es h.1)
    where
      here : (b : Bool) → b ≡ true → cond b (was e.1.at) None ≡ was e.1.at
      here true t = refl
      here false t = absurd cc

      go : (b : Bool) → p e.1.at ≡ b → AllByRecursion (λ e. is e.1.at ≡ Some e.0) (filter (λ e. p e.1.at) es)
          → AllByRecursion (λ e. is e.1.at ≡ Some e.0) (if b then e ∷ filter (λ e. p e.1.at) es else filter (λ e. p e.1.at) es)
      go true t k = (kept e.1.at ∙ here (p e.1.at) t ∙ h.0, k)
      go false t k = k

  only_kept : (at : Endpoint) (t : ℕ) → is at ≡ Some t → (due : ℕ) × (timer_of t (filter (λ e. p e.1.at) ts) ≡ Some (record { at = at; due = due }))
  only_kept at t h = go (p at) refl (sym (kept at) ∙ h)
    where
      stays : (b : Bool) (x : Timer) → b ≡ true → cond b (Some x) None ≡ Some x
      stays true x m = refl
      stays false x m = absurd cc

      go : (b : Bool) → p at ≡ b → cond b (was at) None ≡ Some t → (due : ℕ) × (timer_of t (filter (λ e. p e.1.at) ts) ≡ Some (record { at = at; due = due }))
      go true m k =
          let there : (due : ℕ) × (timer_of t ts ≡ Some (record { at = at; due = due })) = q.only at t k in (
            there.0,
            lookup-filter-values (eq_by_cmp_equiv nat_cmp_total) (λ (x : Timer). p x.at) t ts (IsDistinct-from_sorted nat_cmp (keys_of ts) s)
                ∙ ap (option_filter (λ (x : Timer). p x.at)) there.1 ∙ stays (p at) (record { at = at; due = there.0 }) m,
          )
      go false m k = absurd cc

  pub placed_kept : IsPlaced next (filter (λ e. p e.1.at) ts) is
  placed_kept = record { below = below_kept ts q.below; placed = places_kept ts q.placed; only = only_kept }

pub values_kept : (p : Timer → Bool) (ts : List (ℕ × Timer)) → values_of (filter (λ e. p e.1) ts) ≡ filter p (values_of ts)
values_kept p [] = refl
values_kept p (e ∷ ts) = go (p e.1) (values_kept p ts)
  where
    go : (b : Bool) → values_of (filter (λ e. p e.1) ts) ≡ filter p (values_of ts)
        → values_of (if b then e ∷ filter (λ e. p e.1) ts else filter (λ e. p e.1) ts) ≡ (if b then e.1 ∷ filter p (values_of ts) else filter p (values_of ts))
    go true h = ap (λ (xs : List Timer). e.1 ∷ xs) h
    go false h = h

pub least_due : (until time : ℕ) (xs : List Timer) → due_by until xs ≡ Some time → earliest xs ≡ Some time
unfolding due_by
least_due until time xs h = go (earliest xs) refl h
  where
    by : (least : ℕ) (b : Bool) → (if b then Some least else None) ≡ Some time → Some least ≡ Some time
    by least true k = k
    by least false k = absurd cc

    go : (o : Option ℕ) → earliest xs ≡ o → option_and_then (λ least. if nat_le least until then Some least else None) o ≡ Some time → earliest xs ≡ Some time
    go None k m = absurd cc
    go (Some least) k m = k ∙ by least (nat_le least until) m
