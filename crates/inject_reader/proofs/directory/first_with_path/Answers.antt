use Rattle.std.proofs.Common.{◌≤◌, length, sym, ◌∙◌, arith}
use Rattle.std.specs.List.{position_or_len}
use Rattle.name_tables.specs.name_numbers.Names.{same}
use Rattle.room_wiring.specs.declared.slot.Slot.{Slot}
use Rattle.room_wiring.specs.Slots.{slot_named}
use Rattle.inject_reader.proofs.GuessLemmas.{search_goes_on, search_found, search_ends}
use Rattle.inject_reader.proofs.directory.first_with_path.Goals as goal

pub loop-s-preserved : goal.loop-s-preserved
loop-s-preserved c =
    search_goes_on (λ (x : Slot). same x.path c.args.path.now) c.args.wiring.now.slots c.loop-s.s c.slot.result.now c.loop-s.invariant c.slot.ensures.slot (sym c.is.ensures ∙ c.if-is.false)

pub returns-then-is : goal.returns-then-is
unfolding slot_named
returns-then-is c =
    search_found (λ (x : Slot). same x.path c.args.path.now) c.args.wiring.now.slots c.loop-s.s c.slot.result.now c.loop-s.invariant c.slot.ensures.slot (sym c.is.ensures ∙ c.if-is.true)

pub returns : goal.returns
unfolding slot_named
returns c =
    let past : length c.args.wiring.now.slots ≤ position_or_len (λ (x : Slot). same x.path c.args.path.now) c.args.wiring.now.slots = omega (arith, c.slot_count-s-end.ensures.count, c.loop-s.invariant) in
    search_ends (λ (x : Slot). same x.path c.args.path.now) c.args.wiring.now.slots past
