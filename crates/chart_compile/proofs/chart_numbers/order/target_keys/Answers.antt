use Rattle.std.proofs.Common.{◌∙◌, ℕ, List, ap, map}
use Rattle.name_tables.specs.name_numbers.Names.{names_of}
use Rattle.chart_reader.specs.chart_nodes.Steps.{step_view}
use Rattle.chart_reader.specs.chart_nodes.Circles.{targets_of}
use Rattle.chart_compile.specs.chart_places.Groups.{picked}
use Rattle.chart_compile.proofs.chart_numbers.KeyLists.{keys_next}
use Rattle.chart_compile.proofs.chart_rows.Listing.{taken_all}
use Rattle.chart_compile.proofs.chart_numbers.order.target_keys.Goals as goal

pub loop-number-preserved : goal.loop-number-preserved
loop-number-preserved c =
    keys_next (map step_view c.args.steps.now) c.args.targets.now c.loop-number.number-index (names_of c.loop-number.keys.items) (names_of c.add_key.new.keys.items) c.loop-number-test.true c.loop-number.invariant c.in_ok-add_key.ensures

pub returns : goal.returns
returns c =
    c.in_ok-index.ensures ∙ c.loop-number.invariant ∙ ap (λ (l : List ℕ). targets_of (picked (map step_view c.args.steps.now) l)) (taken_all c.args.targets.now c.loop-number.number-index c.loop-number-test.false)
