use Rattle.std.proofs.Common.{map}
use Rattle.std.specs.Prelude.{slice_get}
use Rattle.chart_reader.specs.chart_nodes.Steps.{step_view}
use Rattle.chart_compile.proofs.chart_numbers.KeyLists.{key_missing, key_more}
use Rattle.chart_compile.proofs.chart_rows.Listing.{step_found, step_missing}
use Rattle.chart_compile.proofs.chart_numbers.order.add_key.Goals as goal

pub returns-in_default : goal.returns-in_default
returns-in_default c =
    key_missing c.args.keys.now.items (slice_get (map step_view c.args.steps.now) c.args.number) (step_missing step_view c.args.steps.now c.args.number c.step_at.result c.step_at.ensures c.in_default.is)

pub returns : goal.returns
returns c =
    let s = c.in-Some.step in
    key_more c.args.keys.now.items c.push.new.self.items c.as_slice.result (slice_get (map step_view c.args.steps.now) c.args.number) (step_view s.now) (step_found step_view c.args.steps.now c.args.number c.step_at.result s c.step_at.ensures c.in-Some.is) c.in_ok-push.ensures.items c.as_slice.ensures.value
