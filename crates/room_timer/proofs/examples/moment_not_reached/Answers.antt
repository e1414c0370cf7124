use Rattle.std.proofs.Common.{refl, false, List, [], ◌∷◌, pos}
use Rattle.actor_merge.specs.World.{Placed}
use Rattle.room_timer.specs.Expansion.{beginning, settle, Advances, last, cut_off}
use Rattle.room_timer.specs.Examples.{tables, advance, start_timer, posted, timeout_under, stopped}
use Rattle.room_timer.proofs.Computing.{computing, inside, point, one_controller}
use Rattle.room_timer.proofs.examples.moment_not_reached.Goals as goal

abbrev merge : List Placed
merge = inside (posted (start_timer 1 (pos 5))) ∷ []

pub returns : goal.returns
unfolding computing
returns c =
    let first : Advances tables 1 10 (beginning merge) (settle 1 ∷ timeout_under 1 ∷ []) (point 5 [] [] 1) false =
    last (beginning merge) (timeout_under 1 ∷ []) (record { time = 5; armed = [] }) refl refl in
    record {
      merge = merge;
      is = one_controller tables stopped merge refl refl refl refl refl;
      expands = cut_off (beginning merge) (point 5 [] [] 1) (advance 1 10) 10 (settle 2 ∷ []) (settle 1 ∷ timeout_under 1 ∷ []) refl first;
    }
