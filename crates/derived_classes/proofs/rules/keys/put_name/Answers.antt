use Rattle.std.proofs.Common.{◌∙◌}
use Rattle.derived_classes.proofs.KeyLaws.{code_done}
use Rattle.derived_classes.proofs.rules.keys.put_name.Goals as goal

pub returns : goal.returns
returns c = c.in_ok-push-3.ensures.items ∙ code_done c.loop-byte.key.items _ c.args.name.now c.loop-byte.byte-index c.loop-byte-test.false c.loop-byte.invariant
