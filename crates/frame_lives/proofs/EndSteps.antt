-- Actors that end.
use Rattle.std.proofs.Common.{◌≡◌, ℕ, ◌+◌, ◌<◌, ◌≤◌, ◌==◌, Bool, true, false, ◌&&◌, ◌||◌, cond, List, [], ◌∷◌, ◌++◌, map, reverse, length, Some, refl, sym, ap, ◌∙◌, subst, eqb-true, arith, inl, inr}
use Rattle.std.proofs.lemmas.Bool.{cases_lt, eq-eqb, and_right, and_left, or_cases}
use Rattle.std.proofs.lemmas.List.{map-append, reverse-append}
use Rattle.room_kinds.specs.declared.numbers.Incarnation.{Incarnation}
use Rattle.room_wiring.specs.declared.tables.Tables.{Tables}
use Rattle.actor_duties.specs.Words.{container_of, is_own}
use Rattle.actor_duties.specs.State.{Lives}
use Rattle.actor_duties.specs.Lives.{ends_by, is_reached, goes_down, ended_slots, last_of}
use Rattle.service_messages.specs.slot_runs.Runs.{IsDepthFirst, IsRunEnd}
use Rattle.service_messages.proofs.slot_runs.Kept.{kept, kept_one, kept_none}
use Rattle.service_messages.proofs.slot_runs.RunLemmas.{held_true, same_some, inside_by, run_nested, run_behind}
use Rattle.frame_lives.specs.Steps.{ends_with}
use Rattle.frame_lives.proofs.Reached.{reached_itself, reached_part, not_outside, not_in_run}

-- what isn't reached doesn't go down
not_down : (t : Tables) (me : ℕ) (l : Lives) (o s : ℕ) → is_reached t me l o s ≡ false → goes_down t me l o s ≡ false
unfolding goes_down
not_down t me l o s h = and_left (is_own t me s && is_reached t me l o s) (l.lives s) (and_right (is_own t me s) (is_reached t me l o s) h)

and_true : (b : Bool) → b && true ≡ b
and_true true = refl
and_true false = refl

-- what is reached goes down if it is the controller's own and lives
down_here : (t : Tables) (me : ℕ) (l : Lives) (o s : ℕ) → is_reached t me l o s ≡ true → goes_down t me l o s ≡ (is_own t me s && l.lives s)
unfolding goes_down
down_here t me l o s h = ap (λ b. (is_own t me s && b) && l.lives s) h ∙ ap (λ b. b && l.lives s) (and_true (is_own t me s))

-- the actors that go down in slots below n are found, and each container before n of a slot from n on, if
-- it isn't before o, is reached
pub record Ending (t : Tables) (me : ℕ) (l : Lives) (o e : ℕ) (so_far : List Incarnation) (n : ℕ) : Type 0 where
  pub from : o ≤ n
  pub within : n ≤ e
  pub containers : (v c : ℕ) → container_of t v ≡ Some c → n ≤ v → o ≤ c → c < n → is_reached t me l o c ≡ true
  pub actors : so_far ≡ map (last_of l) (kept (goes_down t me l o) n)

pub ending_begun : (t : Tables) → IsDepthFirst t → (me : ℕ) (l : Lives) (o e : ℕ) → IsRunEnd t o e → Ending t me l o e [] o
ending_begun t first me l o e run =
    let behind = run.behind in
    record {
      from = omega arith;
      within = omega arith;
      containers = λ v c is a b d. absurd (omega arith);
      actors =
          sym (ap (map (last_of l)) (kept_none (goes_down t me l o) 0 o (omega arith)
          (λ u a b. not_down t me l o u (not_outside t first me l o e u run (λ c. let from = c.0 in omega arith)))));
    }

-- the next slot is reached, if it is o or ends with its container
next_reached : (t : Tables) → IsDepthFirst t → (me : ℕ) (l : Lives) (o e n : ℕ) (so_far : List Incarnation) → IsRunEnd t o e → n < e → Ending t me l o e so_far n
    → ((n == o) || ends_with t me l n) ≡ true → is_reached t me l o n ≡ true
next_reached t first me l o e n so_far run below w h = elim (or_cases (n == o) (ends_with t me l n) h) [
  | inl here ↦ subst (λ z. is_reached t me l o z ≡ true) (sym (eqb-true n o here)) (reached_itself t me l o)
  | inr ends ↦
      let c = held_true (ends_by t me l n) (container_of t n) ends in
      let less : c.0 < n = first.behind n c.0 c.1 in
      let from = w.from in
      elim (cases_lt o n) [
        | inl behind ↦
            let i = inside_by t o n (run.inside n behind below) in
            let least = i.from in
            let same : i.container ≡ c.0 = same_some t n i.container c.0 i.is c.1 in
            reached_part t first me l o n c.0 c.1 c.2 (w.containers n c.0 c.1 (omega arith) (omega arith) less)
        | inr top ↦
            let same : n ≡ o = omega arith in subst (λ z. is_reached t me l o z ≡ true) (sym same) (reached_itself t me l o)
      ]
]

-- the next slot is reached
pub ending_on : (t : Tables) → IsDepthFirst t → (me : ℕ) (l : Lives) (o e n : ℕ) (so_far after : List Incarnation) → IsRunEnd t o e → n < e
    → ((n == o) || ends_with t me l n) ≡ true → after ≡ cond (is_own t me n && l.lives n) (so_far ++ last_of l n ∷ []) so_far
    → Ending t me l o e so_far n → Ending t me l o e after (n + 1)
ending_on t first me l o e n so_far after run below h is w =
    let reached : is_reached t me l o n ≡ true = next_reached t first me l o e n so_far run below w h in
    let from = w.from in
    record {
      from = omega arith;
      within = omega arith;
      containers =
          λ v c is a b d. elim (cases_lt c n) [
            | inl before ↦ w.containers v c is (omega arith) b before
            | inr here ↦ let same : c ≡ n = omega arith in subst (λ z. is_reached t me l o z ≡ true) (sym same) reached
          ];
      actors = is ∙ one (goes_down t me l o n) refl (down_here t me l o n reached);
    }
  where
    one : (b : Bool) → goes_down t me l o n ≡ b → goes_down t me l o n ≡ (is_own t me n && l.lives n)
        → cond (is_own t me n && l.lives n) (so_far ++ last_of l n ∷ []) so_far ≡ map (last_of l) (kept (goes_down t me l o) (n + 1))
    one true d q =
        ap (λ b. cond b (so_far ++ last_of l n ∷ []) so_far) (sym q ∙ d) ∙ ap (λ (xs : List Incarnation). xs ++ last_of l n ∷ []) w.actors
        ∙ sym (ap (map (last_of l)) (kept_one (goes_down t me l o) n d) ∙ map-append (last_of l) (kept (goes_down t me l o) n) (n ∷ []))
    one false d q =
        ap (λ b. cond b (so_far ++ last_of l n ∷ []) so_far) (sym q ∙ d) ∙ w.actors
        ∙ sym (ap (map (last_of l)) (kept_none (goes_down t me l o) n (n + 1) (omega arith) (λ u a b. let same : u ≡ n = omega arith in ap (goes_down t me l o) same ∙ d)))

not_or : (a b : Bool) → (a || b) ≡ false → (a ≡ false) × (b ≡ false)
not_or true b h = absurd cc
not_or false b h = (refl, h)

-- the run of a slot that isn't reached is passed over
pub ending_past : (t : Tables) → IsDepthFirst t → (me : ℕ) (l : Lives) (o e n f : ℕ) (so_far : List Incarnation) → IsRunEnd t o e → n < e
    → ((n == o) || ends_with t me l n) ≡ false → IsRunEnd t n f → Ending t me l o e so_far n → Ending t me l o e so_far f
ending_past t first me l o e n f so_far run below h skipped w =
    let both = not_or (n == o) (ends_with t me l n) h in
    let from = w.from in
    let ends = skipped.behind in
    let behind : o < n = elim (cases_lt o n) [ inl a ↦ a | inr a ↦ let same : n ≡ o = omega arith in absurd (apart same both.0) ] in
    record {
      from = omega arith;
      within = run_nested t o e n f run skipped behind below;
      containers =
          λ v c is a b d. elim (cases_lt c n) [
            | inl before ↦ w.containers v c is (omega arith) b before
            | inr here ↦ absurd (run_behind t first n f v c skipped is a here d)
          ];
      actors =
          w.actors
          ∙ sym (ap (map (last_of l)) (kept_none (goes_down t me l o) n f (omega arith)
          (λ u a b. not_down t me l o u (not_in_run t first me l o n f u behind both.1 skipped a b))));
    }
  where
    apart : n ≡ o → (n == o) ≡ false → ⊥
    apart same none = let k : (n == o) ≡ true = eq-eqb n o same in absurd cc

reverse_map : (f : ℕ → Incarnation) (xs : List ℕ) → reverse (map f xs) ≡ map f (reverse xs)
reverse_map f [] = refl
reverse_map f (x ∷ xs) =
    reverse-append (f x ∷ []) (map f xs) ∙ ap (λ (ys : List Incarnation). ys ++ f x ∷ []) (reverse_map f xs) ∙ sym (map-append f (reverse xs) (x ∷ []))
    ∙ sym (ap (map f) (reverse-append (x ∷ []) xs))

-- all that goes down is found
pub ending_done : (t : Tables) → IsDepthFirst t → (me : ℕ) (l : Lives) (o e n : ℕ) (so_far : List Incarnation) → IsRunEnd t o e → e ≤ n
    → Ending t me l o e so_far n → reverse so_far ≡ map (last_of l) (ended_slots t me l o)
unfolding ended_slots
ending_done t first me l o e n so_far run over w =
    let there = run.there in
    let within = w.within in
    let all : kept (goes_down t me l o) (length t.slots) ≡ kept (goes_down t me l o) n =
    kept_none (goes_down t me l o) n (length t.slots) (omega arith)
    (λ u a b. not_down t me l o u (not_outside t first me l o e u run (λ c. let to = c.1 in omega arith))) in
    ap (λ (xs : List Incarnation). reverse xs) w.actors ∙ reverse_map (last_of l) (kept (goes_down t me l o) n)
    ∙ ap (λ (xs : List ℕ). map (last_of l) (reverse xs)) (sym all)
