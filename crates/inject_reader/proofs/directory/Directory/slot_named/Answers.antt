use Rattle.std.proofs.Common.{sym, ◌∙◌, ap}
use Rattle.room_kinds.specs.declared.numbers.SlotId.{SlotId}
use Rattle.inject_reader.proofs.PortLemmas.{slot_right}
use Rattle.inject_reader.proofs.directory.Directory.slot_named.Goals as goal

pub returns-then-has_path : goal.returns-then-has_path
returns-then-has_path c =
    slot_right _ _ c.args.self.now c.args.path.now c.slot-guess.result.0 c.self.invariant c.self.view_is (ap (λ (s : SlotId). s.0) c.slot-guess.ensures) (sym c.has_path.ensures ∙ c.if-has_path.true)
