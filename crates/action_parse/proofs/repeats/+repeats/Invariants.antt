use Rattle.std.proofs.Common.{◌≡◌, map, drop}
use Rattle.action_program.specs.Named.{stmt_view, branch_view, stmts_of, branches_of}
use Rattle.action_parse.specs.action_reading.Written.{repeats_within, branches_repeat}
use Rattle.action_parse.proofs.repeats.+repeats.Given as goal

abbrev pub invariant-repeats_within-loop-statement : goal.invariant-repeats_within-loop-statement
invariant-repeats_within-loop-statement l = repeats_within (stmts_of (map stmt_view (drop l.statement-index l.statements.items))) l.most ≡ repeats_within (stmts_of (map stmt_view l.statements.items)) l.most

abbrev pub invariant-branches_repeat-loop-branch : goal.invariant-branches_repeat-loop-branch
invariant-branches_repeat-loop-branch l = branches_repeat (branches_of (map branch_view (drop l.branch-index l.branches.items))) l.most ≡ branches_repeat (branches_of (map branch_view l.branches.items)) l.most
