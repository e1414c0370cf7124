use Rattle.std.proofs.Common.{refl, true, List, [], ◌∷◌, pos}
use Rattle.actor_merge.specs.World.{Placed}
use Rattle.room_timer.specs.Expansion.{beginning, settle, Advances, over, nothing, advanced}
use Rattle.room_timer.specs.Examples.{tables, advance, start_timer, posted, fetched, turned, unhandled, arming, journals}
use Rattle.room_timer.proofs.Computing.{computing, inside, timer_due, point, one_controller}
use Rattle.room_timer.proofs.examples.timer_is_not_yet_due.Goals as goal

abbrev merge : List Placed
merge = inside (posted (start_timer 1 (pos 5))) ∷ inside (fetched 2 (start_timer 1 (pos 5))) ∷ inside (turned 3 (start_timer 1 (pos 5)) unhandled []) ∷ []

pub returns : goal.returns
unfolding computing
returns c =
    let first : Advances tables 1 4 (beginning merge) (settle 1 ∷ []) (point 4 (timer_due 5 ∷ []) [] 0) true = over (beginning merge) refl in
    record {
      merge = merge;
      is = one_controller tables (journals arming [] true) merge refl refl refl refl refl;
      expands = advanced (beginning merge) (point 4 (timer_due 5 ∷ []) [] 0) (advance 1 4) 4 [] (settle 1 ∷ []) [] [] refl first (nothing (point 4 (timer_due 5 ∷ []) [] 0));
    }
