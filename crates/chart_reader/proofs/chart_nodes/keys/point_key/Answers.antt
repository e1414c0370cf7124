use Rattle.chart_reader.proofs.chart_nodes.KeyLaws.{point_made}
use Rattle.chart_reader.proofs.chart_nodes.keys.point_key.Goals as goal

pub returns : goal.returns
returns c =
    point_made c.args.kind c.args.point.now c.args.state.now _ _ c.args.graph.now _ _ _ _ _ c.new-key.ensures.items c.in_ok-push.ensures.items c.as_bytes.ensures c.in_ok-put_name.ensures c.as_bytes-2.ensures c.in_ok-put_name-2.ensures c.in_ok-put_path.ensures
