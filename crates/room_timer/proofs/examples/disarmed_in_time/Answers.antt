use Rattle.std.proofs.Common.{refl, true, List, [], ◌∷◌, pos}
use Rattle.actor_merge.specs.World.{Placed}
use Rattle.room_timer.specs.Expansion.{beginning, settle, Advances, over, nothing, advanced}
use Rattle.room_timer.specs.Examples.{tables, advance, start_timer, kill_timer, posted, disarming}
use Rattle.room_timer.proofs.Computing.{computing, inside, point, one_controller}
use Rattle.room_timer.proofs.examples.disarmed_in_time.Goals as goal

abbrev merge : List Placed
merge = inside (posted (start_timer 1 (pos 5))) ∷ inside (posted (kill_timer 2)) ∷ []

pub returns : goal.returns
unfolding computing
returns c =
    let first : Advances tables 1 10 (beginning merge) (settle 1 ∷ []) (point 10 [] [] 0) true = over (beginning merge) refl in
    record {
      merge = merge;
      is = one_controller tables disarming merge refl refl refl refl refl;
      expands = advanced (beginning merge) (point 10 [] [] 0) (advance 1 10) 10 [] (settle 1 ∷ []) [] [] refl first (nothing (point 10 [] [] 0));
    }
