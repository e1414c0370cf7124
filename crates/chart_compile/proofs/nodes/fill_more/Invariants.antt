use Rattle.std.proofs.Common.{◌≡◌, ◌+◌, ◌-◌, length}
use Rattle.chart_compile.specs.Joined.{SameNodes}
use Rattle.chart_compile.proofs.nodes.fill_more.Given as goal

abbrev pub invariant-loop-i : goal.invariant-loop-i
invariant-loop-i l = SameNodes l.fn.nodes.items l.nodes.items × (length l.nodes.items ≡ length l.fn.nodes.items + (l._i - l.known))
