use Rattle.std.proofs.Common.{◌≡◌, ◌++◌, map, drop}
use Rattle.action_program.specs.Named as named
use Rattle.action_program.specs.Numbered as numbered
use Rattle.action_lang.specs.action_check.Faults.{exprs_fault}
use Rattle.action_lang.specs.action_check.Numbering.{numbered_arguments}
use Rattle.action_lang.proofs.action_check.send.arguments.Given as goal

-- the rest has the first fault, and completes what was built
abbrev pub invariant-loop-i : goal.invariant-loop-i
invariant-loop-i l =
    (exprs_fault l.scope (map named.expr_view (drop l.i l.arguments)) ≡ exprs_fault l.scope (map named.expr_view l.arguments))
    × (map numbered.argument_view l.found.items ++ numbered_arguments l.scope (drop l.i l.kinds) (map named.expr_view (drop l.i l.arguments)) ≡ numbered_arguments l.scope l.kinds (map named.expr_view l.arguments))
