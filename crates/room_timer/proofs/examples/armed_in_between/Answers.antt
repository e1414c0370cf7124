use Rattle.std.proofs.Common.{refl, true, List, [], ◌∷◌, pos}
use Rattle.actor_merge.specs.World.{Placed}
use Rattle.room_timer.specs.Expansion.{beginning, settle, Advances, over, more, nothing, advanced}
use Rattle.room_timer.specs.Examples.{tables, advance, start_timer, timeout, posted, fetched, turned, unhandled, handled, timeout_under, heard_twice}
use Rattle.room_timer.proofs.Computing.{computing, inside, outside, point, one_controller}
use Rattle.room_timer.proofs.examples.armed_in_between.Goals as goal

-- what the environment posts second, and what follows from it
abbrev second_behind : List Placed
second_behind =
    outside (posted (timeout 10)) ∷ inside (fetched 11 (timeout 10)) ∷ inside (turned 12 (timeout 10) (handled 1) []) ∷ []

-- the same of what it posts first
abbrev behind : List Placed
behind =
    outside (posted (timeout 4)) ∷ inside (fetched 5 (timeout 4)) ∷ inside (turned 6 (timeout 4) (handled 0) [])
    ∷ inside (posted (start_timer 7 (pos 2))) ∷ inside (fetched 8 (start_timer 7 (pos 2)))
    ∷ inside (turned 9 (start_timer 7 (pos 2)) unhandled []) ∷ second_behind

abbrev merge : List Placed
merge =
    inside (posted (start_timer 1 (pos 5))) ∷ inside (fetched 2 (start_timer 1 (pos 5))) ∷ inside (turned 3 (start_timer 1 (pos 5)) unhandled [])
    ∷ behind

pub returns : goal.returns
unfolding computing
returns c =
    let third : Advances tables 1 10 (point 7 [] second_behind 1) (settle 1 ∷ []) (point 10 [] [] 0) true = over (point 7 [] second_behind 1) refl in
    let second : Advances tables 1 10 (point 5 [] behind 1) (settle 1 ∷ timeout_under 1 ∷ settle 1 ∷ []) (point 10 [] [] 0) true =
    more (point 5 [] behind 1) (point 10 [] [] 0) (timeout_under 1 ∷ []) (settle 1 ∷ []) (record { time = 7; armed = [] }) true refl refl third in
    let first : Advances tables 1 10 (beginning merge) (settle 1 ∷ timeout_under 1 ∷ settle 1 ∷ timeout_under 1 ∷ settle 1 ∷ []) (point 10 [] [] 0) true =
    more (beginning merge) (point 10 [] [] 0) (timeout_under 1 ∷ []) (settle 1 ∷ timeout_under 1 ∷ settle 1 ∷ []) (record { time = 5; armed = [] }) true refl refl second in
    record {
      merge = merge;
      is = one_controller tables heard_twice merge refl refl refl refl refl;
      expands = advanced (beginning merge) (point 10 [] [] 0) (advance 1 10) 10 [] (settle 1 ∷ timeout_under 1 ∷ settle 1 ∷ timeout_under 1 ∷ settle 1 ∷ []) [] [] refl first (nothing (point 10 [] [] 0));
    }
