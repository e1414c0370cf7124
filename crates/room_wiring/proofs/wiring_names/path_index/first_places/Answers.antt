use Rattle.std.proofs.Common.{ℕ, cond, Option, Some, None, ap, ◌∙◌}
use Rattle.std.specs.Prelude.{nat_eq}
use Rattle.indexmap.specs.IndexMap.{get}
use Rattle.room_wiring.specs.declared.slot.Slot.{Slot}
use Rattle.room_wiring.specs.Paths.{hash_of}
use Rattle.name_tables.specs.name_index.Places.{earlier_or}
use Rattle.room_wiring.proofs.wiring_names.Hashes.{place_next}
use Rattle.room_wiring.proofs.wiring_names.path_index.first_places.Goals as goal

pub loop-s-preserved : goal.loop-s-preserved
loop-s-preserved c =
    let slot = c.slot.result.now in
    let old : ℕ → Option ℕ = get nat_eq c.loop-s.first in
    let new : ℕ → Option ℕ = get nat_eq c.note_first.new.first in
    place_next (λ (x : Slot). hash_of x.path) c.args.wiring.now.slots c.loop-s.s slot old new c.slot.ensures.slot c.loop-s.invariant
    (λ q. c.in_ok-note_first.ensures q ∙ ap (λ (h : ℕ). earlier_or (old q) (cond (nat_eq q h) (Some c.loop-s.s) None)) c.hash.ensures)
