use Rattle.std.proofs.Common.{◌∷◌, [], ap, arith, length}
use Rattle.std.proofs.lemmas.List.{length-append}
use Rattle.chart_run.specs.declared.chart_tables.tables.Node.TheVariants.{Simple}
use Rattle.chart_compile.proofs.Making.{fill_more}
use Rattle.chart_compile.proofs.nodes.fill_more.Goals as goal

pub loop-i-preserved : goal.loop-i-preserved
loop-i-preserved c =
    (fill_more c.args.nodes.now.items c.loop-i.nodes.items c.push.new.self.items c.loop-i.invariant.0 c.in_ok-push.ensures.items, omega (arith, c.loop-i.invariant.1, ap length c.in_ok-push.ensures.items, length-append c.loop-i.nodes.items (Simple 0 ∷ [])))
