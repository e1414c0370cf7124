use Rattle.std.proofs.Common.{◌≡◌, ◌-◌, map, drop}
use Rattle.action_program.specs.Numbered.{choose, if_view, stmt_view, stmts_of, branch_view, branches_of}
use Rattle.action_program.specs.Meaning.{ran, times, run, run_all, run_branches}
use Rattle.action_program.proofs.running.+running.Given as goal

-- what is left to run leads to the whole result
abbrev pub invariant-run_all-loop-s : goal.invariant-run_all-loop-s
invariant-run_all-loop-s l =
    run_all (stmts_of (map stmt_view (drop l.s-index l.statements.items))) l.at (ran l.vars l.out) ≡ run_all (stmts_of (map stmt_view l.statements.items)) l.at (ran l.fn.vars l.fn.out)

abbrev pub invariant-repeat-loop : goal.invariant-repeat-loop
invariant-repeat-loop l =
    times (l.count - l.counter) (λ r. run_all (stmts_of (map stmt_view l.body.items)) l.at r) (ran l.vars l.out)
    ≡ times l.count (λ r. run_all (stmts_of (map stmt_view l.body.items)) l.at r) (ran l.fn.vars l.fn.out)

abbrev pub invariant-choose-loop-branch : goal.invariant-choose-loop-branch
invariant-choose-loop-branch l =
    run_branches (branches_of (map branch_view (drop l.branch-index l.branch-items))) (λ r. run_all (if_view l.choice).1 l.at r) l.at (ran l.vars l.out)
    ≡ run (choose (if_view l.choice).0 (if_view l.choice).1) l.at (ran l.fn.vars l.fn.out)
