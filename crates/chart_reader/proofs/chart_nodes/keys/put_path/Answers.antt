use Rattle.chart_reader.proofs.chart_nodes.KeyLaws.{codes_done}
use Rattle.chart_reader.proofs.chart_nodes.keys.put_path.Goals as goal

pub returns : goal.returns
returns c = codes_done c.loop-name.key.items _ c.args.path.now c.loop-name.name-index c.loop-name-test.false c.loop-name.invariant
