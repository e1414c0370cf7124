use Rattle.std.proofs.Common.{◌∙◌}
use Rattle.chart_reader.proofs.chart_nodes.KeyLaws.{code_done}
use Rattle.chart_reader.proofs.chart_nodes.keys.put_name.Goals as goal

pub returns : goal.returns
returns c = c.in_ok-push-3.ensures.items ∙ code_done c.loop-byte.key.items _ c.args.name.now c.loop-byte.byte-index c.loop-byte-test.false c.loop-byte.invariant
