use Rattle.derived_classes.proofs.KeyLaws.{codes_done}
use Rattle.derived_classes.proofs.rules.keys.put_names.Goals as goal

pub returns : goal.returns
returns c = codes_done c.loop-name.key.items _ c.args.names.now c.loop-name.name-index c.loop-name-test.false c.loop-name.invariant
