-- How timers are kept: by their turns of arming; the turn of each place; and in the order in which they expire.
use Rattle.std.specs.Prelude.{◌≡◌, ℕ, ◌<◌, cond, ◌==◌, List, [], ◌∷◌, Option, Some}
use Rattle.std.specs.List.{AllByRecursion}
use Rattle.std.specs.Map.{lookup, remove_entry}
use Rattle.std.specs.BTreeMap.{is_at as is_key}
use Rattle.std.specs.Ordering.{nat_cmp, ordering_then}
use Rattle.std.specs.declared.cmp.Ordering.{Ordering}
use Rattle.room_kinds.specs.declared.numbers.Endpoint.{Endpoint}
use Rattle.room_timer.specs.declared.place.Place.{Place}
use Rattle.room_timer.specs.declared.due_turn.DueTurn.{DueTurn}
use Rattle.room_timer.specs.declared.timer.Timer.{Timer}

-- the numbers of an endpoint
abbrev pub key_of : Endpoint → Place
key_of at = record { slot = at.slot; generation = at.generation; port = at.port; place = at.place }

-- the endpoint with these numbers
abbrev pub end_of : Place → Endpoint
end_of p = record { slot = p.slot; generation = p.generation; port = p.port; place = p.place }

-- how they are ordered
abbrev pub place_cmp : Place → Place → Ordering
place_cmp a b =
    ordering_then (nat_cmp a.slot.0 b.slot.0)
    (ordering_then (nat_cmp a.generation.0 b.generation.0) (ordering_then (nat_cmp a.port b.port) (nat_cmp a.place b.place)))

-- by the due time, and then by the turn
abbrev pub due_cmp : DueTurn → DueTurn → Ordering
due_cmp a b = ordering_then (nat_cmp a.due b.due) (nat_cmp a.turn b.turn)

-- the turns and places of those that are due at a time
abbrev pub run_at : ℕ → List (DueTurn × Endpoint) → List (ℕ × Endpoint)
run_at time [] = []
run_at time (e ∷ es) = cond (e.0.due == time) ((e.0.turn, e.1) ∷ run_at time es) (run_at time es)

-- the same, of timers by their turns
abbrev pub due_run : ℕ → List (ℕ × Timer) → List (ℕ × Endpoint)
due_run time [] = []
due_run time (e ∷ es) = cond (e.1.due == time) ((e.0, e.1.at) ∷ due_run time es) (due_run time es)

-- the timer of a turn
abbrev pub timer_of : ℕ → List (ℕ × Timer) → Option Timer
timer_of turn ts = lookup (is_key (nat_cmp turn)) ts

-- the timer of this turn is due at this time
abbrev pub IsDueTurn : List (ℕ × Timer) → ℕ → ℕ → Type 0
IsDueTurn ts time turn = (at : Endpoint) × (timer_of turn ts ≡ Some (record { at = at; due = time }))

-- without the entry of a turn
abbrev pub taken : {X : Type 0} → ℕ → List (ℕ × X) → List (ℕ × X)
taken turn xs = remove_entry (is_key (nat_cmp turn)) xs

-- the timers expire in this order
abbrev pub IsInOrder : List (DueTurn × Endpoint) → List (ℕ × Timer) → Type 0
IsInOrder dues ts = (time : ℕ) → run_at time dues ≡ due_run time ts

-- this is the turn of each place, and no turn is as late as the next one
pub record IsPlaced (next : ℕ) (ts : List (ℕ × Timer)) (turn_of : Endpoint → Option ℕ) : Type 0 where
  pub below : AllByRecursion (λ e. e.0 < next) ts
  pub placed : AllByRecursion (λ e. turn_of e.1.at ≡ Some e.0) ts
  pub only : (at : Endpoint) (turn : ℕ) → turn_of at ≡ Some turn → (due : ℕ) × (timer_of turn ts ≡ Some (record { at = at; due = due }))
