use Rattle.std.proofs.Common.{refl, true, List, [], ◌∷◌, pos}
use Rattle.journal.specs.declared.entry.Did.TheVariants as did
use Rattle.journal.specs.declared.entry.Entry.TheVariants as entry
use Rattle.room_kinds.specs.declared.note.Note.TheVariants as notes
use Rattle.actor_merge.specs.World.{Placed}
use Rattle.actor_duties.specs.Words.{incarnation}
use Rattle.room_timer.specs.Expansion.{beginning, settle, Advances, over, nothing, advanced}
use Rattle.room_timer.specs.Examples.{tables, advance, start_timer, posted, fetched, turned, unhandled, ending}
use Rattle.room_timer.proofs.Computing.{computing, inside, point, one_controller}
use Rattle.room_timer.proofs.examples.ended_with_its_actor.Goals as goal

abbrev merge : List Placed
merge =
    inside (posted (start_timer 1 (pos 5))) ∷ inside (fetched 2 (start_timer 1 (pos 5))) ∷ inside (turned 3 (start_timer 1 (pos 5)) unhandled [])
    ∷ inside (entry.Turn (record { 0 = 4 }) (record { 0 = 0 }) (record { 0 = 2 }) did.Duty (notes.Down (incarnation 2 1) 0 ∷ [])) ∷ []

pub returns : goal.returns
unfolding computing
returns c =
    let first : Advances tables 1 10 (beginning merge) (settle 1 ∷ []) (point 10 [] [] 0) true = over (beginning merge) refl in
    record {
      merge = merge;
      is = one_controller tables ending merge refl refl refl refl refl;
      expands = advanced (beginning merge) (point 10 [] [] 0) (advance 1 10) 10 [] (settle 1 ∷ []) [] [] refl first (nothing (point 10 [] [] 0));
    }
