use Rattle.std.proofs.Common.{◌≡◌, map, drop}
use Rattle.action_program.specs.Named as named
use Rattle.action_program.specs.Numbered as numbered
use Rattle.action_lang.specs.action_check.Faults.{stmts_fault, branches_fault}
use Rattle.action_lang.specs.action_check.Numbering.{numbered_stmts, stmts_names, numbered_branches, branches_names}
use Rattle.action_lang.specs.action_check.Answers.{Grows}
use Rattle.action_lang.proofs.action_check.Built.{stmts_then, branches_then}
use Rattle.action_lang.proofs.action_check.statement.+statement.Given as goal

-- the rest has the first fault, and completes what was built and the service names
abbrev pub invariant-statements-loop-s : goal.invariant-statements-loop-s
invariant-statements-loop-s l =
    (stmts_fault l.scope (named.stmts_of (map named.stmt_view (drop l.s-index l.statements.items))) ≡ stmts_fault l.scope (named.stmts_of (map named.stmt_view l.statements.items)))
    × (stmts_then (map numbered.stmt_view l.found.items) (numbered_stmts l.scope l.names (named.stmts_of (map named.stmt_view (drop l.s-index l.statements.items)))) ≡ numbered_stmts l.scope l.fn.names (named.stmts_of (map named.stmt_view l.statements.items)))
    × (stmts_names (named.stmts_of (map named.stmt_view (drop l.s-index l.statements.items))) l.names ≡ stmts_names (named.stmts_of (map named.stmt_view l.statements.items)) l.fn.names)
    × Grows l.fn.names l.names

abbrev pub invariant-branches-loop-branch : goal.invariant-branches-loop-branch
invariant-branches-loop-branch l =
    (branches_fault l.scope (named.branches_of (map named.branch_view (drop l.branch-index l.branches.items))) ≡ branches_fault l.scope (named.branches_of (map named.branch_view l.branches.items)))
    × (branches_then (map numbered.branch_view l.found.items) (numbered_branches l.scope l.names (named.branches_of (map named.branch_view (drop l.branch-index l.branches.items)))) ≡ numbered_branches l.scope l.fn.names (named.branches_of (map named.branch_view l.branches.items)))
    × (branches_names (named.branches_of (map named.branch_view (drop l.branch-index l.branches.items))) l.names ≡ branches_names (named.branches_of (map named.branch_view l.branches.items)) l.fn.names)
    × Grows l.fn.names l.names
