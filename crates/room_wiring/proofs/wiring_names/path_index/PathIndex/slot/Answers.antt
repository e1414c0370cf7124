use Rattle.std.proofs.Common.{ℕ, List, sym, ap, ◌∙◌}
use Rattle.std.specs.Prelude.{nat_eq, position}
use Rattle.room_wiring.specs.declared.slot.Slot.{Slot}
use Rattle.room_wiring.specs.Paths.{hash_of}
use Rattle.room_wiring.specs.wiring_names.Hashes.{path_hashes}
use Rattle.room_wiring.proofs.wiring_names.Hashes.{found_least, found_none, from_within}
use Rattle.room_wiring.proofs.wiring_names.path_index.PathIndex.slot.Goals as goal

abbrev path_of : Slot → List ℕ
path_of x = x.path

pub returns-in_err-place : goal.returns-in_err-place
returns-in_err-place c =
    let hashes = path_hashes c.args.wiring.now in
    c.from_residual.ensures
    ∙ found_none hash_of path_of c.args.path.now c.args.wiring.now.slots (sym (c.in_err-place.ensures.value ∙ c.requires c.hash_of.result ∙ ap (λ (h : ℕ). position (nat_eq h) hashes) c.hash_of.ensures))

pub find_from-requires-clause-early : goal.find_from-requires-clause-early
find_from-requires-clause-early c =
    let hashes = path_hashes c.args.wiring.now in
    found_least hash_of path_of c.args.path.now c.args.wiring.now.slots c.in_ok-place.field-0.now
    (sym (c.in_ok-place.ensures.value ∙ c.requires c.hash_of.result ∙ ap (λ (h : ℕ). position (nat_eq h) hashes) c.hash_of.ensures))

pub find_from-requires-clause-within : goal.find_from-requires-clause-within
find_from-requires-clause-within c = from_within path_of c.args.path.now c.args.wiring.now.slots c.in_ok-place.field-0.now (find_from-requires-clause-early c)
