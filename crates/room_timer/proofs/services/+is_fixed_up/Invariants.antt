use Rattle.room_timer.proofs.services.+is_fixed_up.Given as goal

abbrev pub decreases-is_fixed_up : goal.decreases-is_fixed_up
decreases-is_fixed_up l = l.up
