use Rattle.std.proofs.Common.{refl, true, List, [], ◌∷◌, pos}
use Rattle.actor_merge.specs.World.{Placed}
use Rattle.room_timer.specs.Expansion.{beginning, settle, Advances, over, more, Expands, nothing, advanced}
use Rattle.room_timer.specs.Examples.{tables, advance, start_timer, timeout, posted, fetched, turned, unhandled, handled, timeout_under, heard}
use Rattle.room_timer.proofs.Computing.{computing, inside, outside, timer_due, point, one_controller}
use Rattle.room_timer.proofs.examples.timer_expires.Goals as goal

-- what the environment posts, and what follows from it
abbrev behind : List Placed
behind =
    outside (posted (timeout 4)) ∷ inside (fetched 5 (timeout 4)) ∷ inside (turned 6 (timeout 4) (handled 1) []) ∷ []

abbrev merge : List Placed
merge =
    inside (posted (start_timer 1 (pos 5))) ∷ inside (fetched 2 (start_timer 1 (pos 5))) ∷ inside (turned 3 (start_timer 1 (pos 5)) unhandled [])
    ∷ behind

pub returns : goal.returns
unfolding computing
returns c =
    let first : Advances tables 1 4 (beginning merge) (settle 1 ∷ []) (point 4 (timer_due 5 ∷ []) behind 0) true = over (beginning merge) refl in
    let third : Advances tables 2 7 (point 5 [] behind 1) (settle 2 ∷ []) (point 7 [] [] 0) true = over (point 5 [] behind 1) refl in
    let second : Advances tables 2 7 (point 4 (timer_due 5 ∷ []) behind 0) (settle 2 ∷ timeout_under 2 ∷ settle 2 ∷ []) (point 7 [] [] 0) true =
    more (point 4 (timer_due 5 ∷ []) behind 0) (point 7 [] [] 0) (timeout_under 2 ∷ []) (settle 2 ∷ []) (record { time = 5; armed = [] }) true refl refl third in
    let rest : Expands tables true (point 4 (timer_due 5 ∷ []) behind 0) (advance 2 3 ∷ []) (settle 2 ∷ timeout_under 2 ∷ settle 2 ∷ []) [] =
    advanced (point 4 (timer_due 5 ∷ []) behind 0) (point 7 [] [] 0) (advance 2 3) 3 [] (settle 2 ∷ timeout_under 2 ∷ settle 2 ∷ []) [] [] refl second (nothing (point 7 [] [] 0)) in
    record {
      merge = merge;
      is = one_controller tables heard merge refl refl refl refl refl;
      expands = advanced (beginning merge) (point 4 (timer_due 5 ∷ []) behind 0) (advance 1 4) 4 (advance 2 3 ∷ []) (settle 1 ∷ []) (settle 2 ∷ timeout_under 2 ∷ settle 2 ∷ []) [] refl first rest;
    }
