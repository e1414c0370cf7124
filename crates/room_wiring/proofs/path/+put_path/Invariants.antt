use Rattle.room_wiring.proofs.path.+put_path.Given as goal

abbrev pub decreases-put_path : goal.decreases-put_path
decreases-put_path g l = l.number
