use Rattle.room_wiring.proofs.SingleLemmas.{single_consistent}
use Rattle.room_wiring.proofs.wiring.Wiring.single.Goals as goal

pub new-requires : goal.new-requires
new-requires c = rw c.in_ok-tables.ensures (single_consistent c.args.path c.args.class)
