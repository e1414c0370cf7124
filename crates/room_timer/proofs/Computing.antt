-- The definitions of expansions, opened at once to compute with; and the merge of journals of one controller.
use Rattle.std.proofs.Common.{◌≡◌, ℕ, ◌<◌, ◌≤◌, nat_lt, Bool, true, ◌&&◌, if◌then◌else◌, List, [], ◌∷◌, refl, ap, ◌∙◌, ltb-true, le-ltb, arith, ◌⊎◌, inl, inr}
use Rattle.std.specs.Prelude.{length, filter, slice_index_or}
use Rattle.std.specs.List.{list_all}
use Rattle.std.proofs.lemmas.Bool.{cases_eq, ne_eqb, and_parts}
use Rattle.journal.specs.declared.entry.Entry.{Entry}
use Rattle.journal.specs.declared.entry.Journals.{Journals}
use Rattle.room_wiring.specs.declared.tables.Tables.{Tables}
use Rattle.room_wiring.specs.Places.{span_at, place_count}
use Rattle.room_wiring.specs.Slots.{class_of, port_at}
use Rattle.actor_duties.specs.Words.{endpoint, is_fixed, container_of}
use Rattle.actor_world.specs.Start.{lives_from_start}
use Rattle.actor_merge.specs.Mail.{stamp_of}
use Rattle.actor_merge.specs.World.{Placed}
use Rattle.actor_merge.specs.Merge.{IsBeforeAll, InOrder, entries_of, IsMerge}
use Rattle.room_timer.specs.Services.{is_timing, hears_timeout}
use Rattle.room_timer.specs.Timers.{disarmed, saw, due_by}
use Rattle.room_timer.specs.declared.timer.Timer.{Timer}
use Rattle.room_timer.specs.Expansion.{is_event, events_of, Point}

-- names what unfolds in a computation
unfoldable pub computing : Unit {0}
unfolding span_at place_count class_of port_at is_fixed container_of lives_from_start is_timing hears_timeout disarmed saw due_by
computing = tt

-- an entry of the controller, and one of the environment
abbrev pub inside : Entry → Placed
inside e = record { party = 0; entry = e }

abbrev pub outside : Entry → Placed
outside e = record { party = 1; entry = e }

-- the user's timer
abbrev pub timer_due : ℕ → Timer
timer_due due = record { at = endpoint 2 1 1 0; due = due }

-- a point at a time
abbrev pub point : ℕ → List Timer → List Placed → ℕ → Point
point time armed ahead since = record { timers = record { time = time; armed = armed }; ahead = ahead; since = since }

-- whether each stamp is above all before it
abbrev pub rises : List Placed → Bool
rises [] = true
rises (x ∷ xs) = list_all (λ (y : Placed). nat_lt (stamp_of x.entry) (stamp_of y.entry)) xs && rises xs

before_all : (x : Placed) (xs : List Placed) → list_all (λ (y : Placed). nat_lt (stamp_of x.entry) (stamp_of y.entry)) xs ≡ true → IsBeforeAll x xs
before_all x [] h = tt
before_all x (y ∷ ys) h =
    let both = and_parts (nat_lt (stamp_of x.entry) (stamp_of y.entry)) (list_all (λ (z : Placed). nat_lt (stamp_of x.entry) (stamp_of z.entry)) ys) h in
    (inl (ltb-true _ _ both.0), before_all x ys both.1)

in_order : (xs : List Placed) → rises xs ≡ true → InOrder xs
in_order [] h = tt
in_order (x ∷ xs) h =
    let both = and_parts (list_all (λ (y : Placed). nat_lt (stamp_of x.entry) (stamp_of y.entry)) xs) (rises xs) h in
    (before_all x xs both.0, in_order xs both.1)

none_beyond : (p : ℕ) → 2 ≤ p → (xs : List Placed) → list_all (λ (x : Placed). nat_lt x.party 2) xs ≡ true → entries_of p xs ≡ []
none_beyond p far [] h = refl
none_beyond p far (x ∷ xs) h =
    let both = and_parts (nat_lt x.party 2) (list_all (λ (y : Placed). nat_lt y.party 2) xs) h in
    let near : x.party < 2 = ltb-true _ _ both.0 in
    ap (λ (b : Bool). if b then x.entry ∷ entries_of p xs else entries_of p xs) (ne_eqb p x.party (λ e. omega (arith, e, near, far)))
    ∙ none_beyond p far xs both.1

-- the merge of the journals of one controller and of the environment
pub one_controller : (t : Tables) (j : Journals) (merge : List Placed) → length t.controllers ≡ 1 → rises merge ≡ true
    → list_all (λ (x : Placed). nat_lt x.party 2) merge ≡ true
    → entries_of 0 merge ≡ filter is_event (slice_index_or j.controllers 0 []) → entries_of 1 merge ≡ filter is_event j.environment
    → IsMerge (events_of t j) merge
one_controller t j merge one up near controller environment = record { ordered = in_order merge up; whole = λ p. whole p (cases_eq p 0) (cases_eq p 1) }
  where
    inside_is : (p : ℕ) → p ≡ 0 → filter is_event (slice_index_or j.controllers 0 []) ≡ events_of t j p
    inside_is p e = rw (one, e) refl

    outside_is : (p : ℕ) → p ≡ 1 → filter is_event j.environment ≡ events_of t j p
    outside_is p e = rw (one, e) refl

    beyond_is : (p : ℕ) → 2 ≤ p → [] ≡ events_of t j p
    beyond_is p far = rw (one, le-ltb p 1 (omega (arith, far)), ne_eqb p 1 (λ e. omega (arith, e, far))) refl

    whole : (p : ℕ) → (p ≡ 0) ⊎ (p ≡ 0 → ⊥) → (p ≡ 1) ⊎ (p ≡ 1 → ⊥) → entries_of p merge ≡ events_of t j p
    whole p (inl e) other = ap (λ (q : ℕ). entries_of q merge) e ∙ controller ∙ inside_is p e
    whole p (inr n) (inl e) = ap (λ (q : ℕ). entries_of q merge) e ∙ environment ∙ outside_is p e
    whole p (inr n) (inr m) =
        let far : 2 ≤ p = omega (arith, n, m) in
        none_beyond p far merge near ∙ beyond_is p far
