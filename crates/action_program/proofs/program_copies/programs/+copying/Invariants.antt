use Rattle.std.proofs.Common.{◌≡◌, map, take}
use Rattle.action_program.specs.Numbered.{branch_view, stmt_view}
use Rattle.action_program.proofs.program_copies.programs.+copying.Given as goal

abbrev pub invariant-copy_branches-loop-branch : goal.invariant-copy_branches-loop-branch
invariant-copy_branches-loop-branch l = map branch_view l.copies.items ≡ map branch_view (take l.branch-index l.branches.items)

abbrev pub invariant-copy_statements-loop-s : goal.invariant-copy_statements-loop-s
invariant-copy_statements-loop-s l = map stmt_view l.copies.items ≡ map stmt_view (take l.s-index l.statements.items)
