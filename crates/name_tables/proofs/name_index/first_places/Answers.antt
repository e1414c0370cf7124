use Rattle.std.proofs.Common.{arith, ℕ, List, [], Bor}
use Rattle.name_tables.specs.name_index.Places.{place_in}
use Rattle.name_tables.proofs.name_index.Lists.{place_next}
use Rattle.name_tables.proofs.name_index.first_places.Goals as goal

abbrev nothing : Bor (List ℕ)
nothing = record { ref_ptr = (0, 0); now = [] }

pub loop-place-preserved : goal.loop-place-preserved
loop-place-preserved c = place_next c.args.names.now c.loop-place.place nothing (place_in c.loop-place.first) (place_in c.note_first.new.first) (omega arith) c.loop-place.invariant c.in_ok-note_first.ensures
