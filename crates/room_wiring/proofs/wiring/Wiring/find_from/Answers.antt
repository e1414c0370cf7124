use Rattle.std.proofs.Common.{◌≡◌, ℕ, ◌+◌, List, length, drop, arith, Option, option_map, sym, ap, ◌∙◌}
use Rattle.std.specs.Prelude.{position}
use Rattle.std.proofs.lemmas.Slice.{between_to_end}
use Rattle.name_tables.specs.name_numbers.Names.{same}
use Rattle.room_wiring.specs.declared.slot.Slot.{Slot}
use Rattle.room_wiring.specs.declared.tables.Tables.{Tables}
use Rattle.room_wiring.proofs.wiring_names.Hashes.{found_from}
use Rattle.room_wiring.proofs.wiring.Wiring.find_from.Goals as goal

abbrev path_of : Slot → List ℕ
path_of x = x.path

abbrev first_of : List ℕ → List Slot → Option ℕ
first_of path xs = position (λ (x : Slot). same x.path path) xs

pub returns-in-Some : goal.returns-in-Some
returns-in-Some c =
    let slots : c.as_slice-slots.result.now ≡ c.args.self.now.slots = c.as_slice-slots.ensures ∙ ap (λ (t : Tables). t.slots) c.self.view_is in
    let rest = between_to_end c.as_slice-slots.result.now c.args.first (length c.as_slice-slots.result.now) (omega arith) in
    ap (option_map (λ (i : ℕ). c.args.first + i)) (c.in-Some.ensures.found ∙ ap (first_of c.args.path.now) (rest ∙ ap (drop c.args.first) slots))
    ∙ sym (found_from path_of c.args.path.now c.args.self.now.slots c.args.first c.requires.early)

pub returns-in-None : goal.returns-in-None
returns-in-None c =
    let slots : c.as_slice-slots.result.now ≡ c.args.self.now.slots = c.as_slice-slots.ensures ∙ ap (λ (t : Tables). t.slots) c.self.view_is in
    let rest = between_to_end c.as_slice-slots.result.now c.args.first (length c.as_slice-slots.result.now) (omega arith) in
    ap (option_map (λ (i : ℕ). c.args.first + i)) (c.in-None.ensures.found ∙ ap (first_of c.args.path.now) (rest ∙ ap (drop c.args.first) slots))
    ∙ sym (found_from path_of c.args.path.now c.args.self.now.slots c.args.first c.requires.early)
