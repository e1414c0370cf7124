-- What a loop has built, and what is still to come.
use Rattle.std.proofs.Common.{◌≡◌, map, List, [], ◌∷◌, ◌++◌, refl, ap, append_assoc, sym, ◌∙◌, length, drop, get_or, ◌<◌, ◌≤◌, ◌+◌, zero, suc, arith, rules, add-one, drop-cons, Option, None}
use Rattle.std.specs.Prelude.{ℕ}
use Rattle.action_program.specs.declared.operator.BinaryOp.{BinaryOp}
use Rattle.action_program.specs.Numbered.{ExprTree, Steps, no_step, a_step, steps_of, StmtTree, Stmts, no_stmt, a_stmt, stmts_of, Branches, no_branch, a_branch, branches_of}
use Rattle.action_program.specs.Numbered.{step_view, stmt_view, branch_view}
use Rattle.action_program.specs.declared.bound.BoundStep.{BoundStep}
use Rattle.action_program.specs.declared.bound.BoundBranch.{BoundBranch}
use Rattle.room_ast.specs.declared.scope.Scope.{Scope}
use Rattle.action_program.specs.declared.fault.ActionFault.{ActionFault}
use Rattle.action_program.specs.declared.program.Step.{Step}
use Rattle.action_program.specs.declared.program.Stmt.{Stmt}
use Rattle.action_program.specs.declared.program.Branch.{Branch}
use Rattle.action_program.specs.declared.program.Expr.{the_lemmas}
use Rattle.action_program.specs.declared.program.Stmt.{the_lemmas as stmt_lemmas}
use Rattle.action_program.specs.declared.bound.BoundExpr.{BoundExpr}
use Rattle.action_program.specs.declared.bound.BoundExpr.{the_lemmas as bound_lemmas}
use Rattle.action_program.specs.declared.bound.BoundStmt.{the_lemmas as bound_stmt_lemmas}
use Rattle.action_program.specs.declared.bound.BoundStmt.{BoundStmt}
use Rattle.action_program.specs.Numbered as numbered
use Rattle.action_program.specs.Named as named
use Rattle.action_lang.specs.action_check.Faults.{◌then◌, expr_fault, steps_fault, stmt_fault, stmts_fault, branches_fault}
use Rattle.action_lang.specs.action_check.Numbering.{numbered_expr, numbered_steps, numbered_stmt, numbered_stmts, numbered_branches, stmt_names, stmts_names, branches_names}
use Rattle.action_lang.specs.action_check.Answers.{Grows}

abbrev pub steps_then : List (BinaryOp × ExprTree) → Steps → Steps
steps_then [] rest = rest
steps_then (s ∷ ss) rest = a_step s.0 s.1 (steps_then ss rest)

pub steps_more : (ss : List BoundStep) (s : BoundStep) (rest : Steps) → steps_then (map step_view (ss ++ s ∷ [])) rest ≡ steps_then (map step_view ss) (a_step (step_view s).0 (step_view s).1 rest)
steps_more [] s rest = refl
steps_more (x ∷ ss) s rest = ap (λ r. a_step (step_view x).0 (step_view x).1 r) (steps_more ss s rest)

pub steps_all : (ss : List (BinaryOp × ExprTree)) → steps_then ss no_step ≡ steps_of ss
steps_all [] = refl
steps_all (x ∷ ss) = ap (λ r. a_step x.0 x.1 r) (steps_all ss)

abbrev pub stmts_then : List StmtTree → Stmts → Stmts
stmts_then [] rest = rest
stmts_then (s ∷ ss) rest = a_stmt s (stmts_then ss rest)

pub stmts_more : (ss : List BoundStmt) (s : BoundStmt) (rest : Stmts) → stmts_then (map stmt_view (ss ++ s ∷ [])) rest ≡ stmts_then (map stmt_view ss) (a_stmt (stmt_view s) rest)
stmts_more [] s rest = refl
stmts_more (x ∷ ss) s rest = ap (λ r. a_stmt (stmt_view x) r) (stmts_more ss s rest)

pub stmts_all : (ss : List StmtTree) → stmts_then ss no_stmt ≡ stmts_of ss
stmts_all [] = refl
stmts_all (x ∷ ss) = ap (λ r. a_stmt x r) (stmts_all ss)

abbrev pub branches_then : List (ExprTree × Stmts) → Branches → Branches
branches_then [] rest = rest
branches_then (b ∷ bs) rest = a_branch b.0 b.1 (branches_then bs rest)

pub branches_more : (ss : List BoundBranch) (s : BoundBranch) (rest : Branches) → branches_then (map branch_view (ss ++ s ∷ [])) rest ≡ branches_then (map branch_view ss) (a_branch (branch_view s).0 (branch_view s).1 rest)
branches_more [] s rest = refl
branches_more (x ∷ ss) s rest = ap (λ r. a_branch (branch_view x).0 (branch_view x).1 r) (branches_more ss s rest)

pub branches_all : (bs : List (ExprTree × Stmts)) → branches_then bs no_branch ≡ branches_of bs
branches_all [] = refl
branches_all (x ∷ bs) = ap (λ r. a_branch x.0 x.1 r) (branches_all bs)

-- growing twice is growing
pub grows_on : (a b c : List (List ℕ)) → Grows a b → Grows b c → Grows a c
grows_on a b c p q = (p.0 ++ q.0, q.1 ∙ ap (λ x. x ++ q.0) p.1 ∙ append_assoc a p.0 q.0)

-- the items from a place on
pub drop_at : {A : Type 0} (xs : List A) (i : ℕ) (x : A) → i < length xs → x ≡ get_or xs i x → drop i xs ≡ x ∷ drop (i + 1) xs
drop_at xs i x h e = rw add-one (drop-cons xs i x h ∙ ap (λ y. y ∷ drop (suc i) xs) (sym e))

pub drop_all : {A : Type 0} (xs : List A) (i : ℕ) → length xs ≤ i → drop i xs ≡ []
drop_all [] zero h = refl
drop_all [] (suc i) h = refl
drop_all (x ∷ xs) zero h = absurd (omega arith)
drop_all (x ∷ xs) (suc i) h = drop_all xs i (omega arith)

-- ---- steps

step_is : (s : Step) → named.step_view s ≡ (s.op, named.expr_view s.operand)
step_is s = search (rules, the_lemmas)

bound_step_is : (op : BinaryOp) (e : BoundExpr) → numbered.step_view (record { op = op; operand = e }) ≡ (op, numbered.expr_view e)
bound_step_is op e = search (rules, bound_lemmas)

steps_of_first : (s : Step) (rest others : List Step) → rest ≡ s ∷ others → named.steps_of (map named.step_view rest) ≡ named.a_step s.op (named.expr_view s.operand) (named.steps_of (map named.step_view others))
steps_of_first s rest others r =
    ap (λ x. named.steps_of (map named.step_view x)) r ∙ ap (λ (p : BinaryOp × named.ExprTree). named.a_step p.0 p.1 (named.steps_of (map named.step_view others))) (step_is s)

pub steps_turn : (scope : Scope) (s : Step) (rest others : List Step) (found : List BoundStep) (e : BoundExpr) (fault : Option ActionFault) (tree : Steps)
    → rest ≡ s ∷ others
    → expr_fault scope (named.expr_view s.operand) ≡ None
    → numbered.expr_view e ≡ numbered_expr scope (named.expr_view s.operand)
    → steps_fault scope (named.steps_of (map named.step_view rest)) ≡ fault
    → steps_then (map step_view found) (numbered_steps scope (named.steps_of (map named.step_view rest))) ≡ tree
    → (steps_fault scope (named.steps_of (map named.step_view others)) ≡ fault)
    × (steps_then (map step_view (found ++ record { op = s.op; operand = e } ∷ [])) (numbered_steps scope (named.steps_of (map named.step_view others))) ≡ tree)
steps_turn scope s rest others found e fault tree r none same fault_is tree_is =
    let first = steps_of_first s rest others r in
    let left = named.steps_of (map named.step_view others) in
    let built : numbered.step_view (record { op = s.op; operand = e }) ≡ (s.op, numbered_expr scope (named.expr_view s.operand)) = bound_step_is s.op e ∙ ap (λ x. (s.op, x)) same in (
      sym (ap (steps_fault scope) first ∙ ap (λ (x : Option ActionFault). x then steps_fault scope left) none) ∙ fault_is,
      steps_more found (record { op = s.op; operand = e }) (numbered_steps scope left)
          ∙ ap (λ (p : BinaryOp × ExprTree). steps_then (map step_view found) (a_step p.0 p.1 (numbered_steps scope left))) built
          ∙ sym (ap (λ x. steps_then (map step_view found) (numbered_steps scope x)) first) ∙ tree_is,
    )

pub steps_end : (scope : Scope) (rest : List Step) (found : List BoundStep) (fault : Option ActionFault) (tree : Steps)
    → rest ≡ []
    → steps_fault scope (named.steps_of (map named.step_view rest)) ≡ fault
    → steps_then (map step_view found) (numbered_steps scope (named.steps_of (map named.step_view rest))) ≡ tree
    → (fault ≡ None) × (steps_of (map step_view found) ≡ tree)
steps_end scope rest found fault tree r fault_is tree_is = (
  sym fault_is ∙ ap (λ x. steps_fault scope (named.steps_of (map named.step_view x))) r,
  sym (steps_all (map step_view found)) ∙ sym (ap (λ x. steps_then (map step_view found) (numbered_steps scope (named.steps_of (map named.step_view x)))) r) ∙ tree_is,
)

-- ---- statements

pub stmts_turn : (scope : Scope) (s : Stmt) (rest others : List Stmt) (found : List BoundStmt) (one : BoundStmt) (start names after last : List (List ℕ)) (fault : Option ActionFault) (tree : Stmts)
    → rest ≡ s ∷ others
    → stmt_fault scope (named.stmt_view s) ≡ None
    → numbered.stmt_view one ≡ numbered_stmt scope names (named.stmt_view s)
    → after ≡ stmt_names (named.stmt_view s) names
    → Grows start names
    → Grows names after
    → stmts_fault scope (named.stmts_of (map named.stmt_view rest)) ≡ fault
    → stmts_then (map stmt_view found) (numbered_stmts scope names (named.stmts_of (map named.stmt_view rest))) ≡ tree
    → stmts_names (named.stmts_of (map named.stmt_view rest)) names ≡ last
    → (stmts_fault scope (named.stmts_of (map named.stmt_view others)) ≡ fault)
    × (stmts_then (map stmt_view (found ++ one ∷ [])) (numbered_stmts scope after (named.stmts_of (map named.stmt_view others))) ≡ tree)
    × (stmts_names (named.stmts_of (map named.stmt_view others)) after ≡ last)
    × Grows start after
stmts_turn scope s rest others found one start names after last fault tree r none same named_so before behind fault_is tree_is names_are =
    let left = named.stmts_of (map named.stmt_view others) in
    let first : named.stmts_of (map named.stmt_view rest) ≡ named.a_stmt (named.stmt_view s) left = ap (λ x. named.stmts_of (map named.stmt_view x)) r in (
      sym (ap (stmts_fault scope) first ∙ ap (λ (x : Option ActionFault). x then stmts_fault scope left) none) ∙ fault_is,
      stmts_more found one (numbered_stmts scope after left)
          ∙ ap (λ x. stmts_then (map stmt_view found) (a_stmt x (numbered_stmts scope after left))) same
          ∙ ap (λ x. stmts_then (map stmt_view found) (a_stmt (numbered_stmt scope names (named.stmt_view s)) (numbered_stmts scope x left))) named_so
          ∙ sym (ap (λ x. stmts_then (map stmt_view found) (numbered_stmts scope names x)) first) ∙ tree_is,
      ap (stmts_names left) named_so ∙ sym (ap (λ x. stmts_names x names) first) ∙ names_are,
      grows_on start names after before behind,
    )

pub stmts_end : (scope : Scope) (rest : List Stmt) (found : List BoundStmt) (names last : List (List ℕ)) (fault : Option ActionFault) (tree : Stmts)
    → rest ≡ []
    → stmts_fault scope (named.stmts_of (map named.stmt_view rest)) ≡ fault
    → stmts_then (map stmt_view found) (numbered_stmts scope names (named.stmts_of (map named.stmt_view rest))) ≡ tree
    → stmts_names (named.stmts_of (map named.stmt_view rest)) names ≡ last
    → ((fault ≡ None) × (stmts_of (map stmt_view found) ≡ tree)) × (names ≡ last)
stmts_end scope rest found names last fault tree r fault_is tree_is names_are = (
  (
    sym fault_is ∙ ap (λ x. stmts_fault scope (named.stmts_of (map named.stmt_view x))) r,
    sym (stmts_all (map stmt_view found)) ∙ sym (ap (λ x. stmts_then (map stmt_view found) (numbered_stmts scope names (named.stmts_of (map named.stmt_view x)))) r) ∙ tree_is,
  ),
  sym (ap (λ x. stmts_names (named.stmts_of (map named.stmt_view x)) names) r) ∙ names_are,
)

-- ---- branches

branch_is : (b : Branch) → named.branch_view b ≡ (named.expr_view b.condition, named.stmts_of (map named.stmt_view b.body.items))
branch_is b = search (rules, stmt_lemmas)

bound_branch_is : (b : BoundBranch) → numbered.branch_view b ≡ (numbered.expr_view b.condition, numbered.stmts_of (map numbered.stmt_view b.body.items))
bound_branch_is b = search (rules, bound_stmt_lemmas)

branches_of_first : (b : Branch) (rest others : List Branch) → rest ≡ b ∷ others
    → named.branches_of (map named.branch_view rest) ≡ named.a_branch (named.expr_view b.condition) (named.stmts_of (map named.stmt_view b.body.items)) (named.branches_of (map named.branch_view others))
branches_of_first b rest others r =
    ap (λ x. named.branches_of (map named.branch_view x)) r ∙ ap (λ (p : named.ExprTree × named.Stmts). named.a_branch p.0 p.1 (named.branches_of (map named.branch_view others))) (branch_is b)

pub branches_turn : (scope : Scope) (b : Branch) (rest others : List Branch) (found : List BoundBranch) (one : BoundBranch) (start names after last : List (List ℕ)) (fault : Option ActionFault) (tree : Branches)
    → rest ≡ b ∷ others
    → expr_fault scope (named.expr_view b.condition) ≡ None
    → numbered.expr_view one.condition ≡ numbered_expr scope (named.expr_view b.condition)
    → stmts_fault scope (named.stmts_of (map named.stmt_view b.body.items)) ≡ None
    → numbered.stmts_of (map numbered.stmt_view one.body.items) ≡ numbered_stmts scope names (named.stmts_of (map named.stmt_view b.body.items))
    → after ≡ stmts_names (named.stmts_of (map named.stmt_view b.body.items)) names
    → Grows start names
    → Grows names after
    → branches_fault scope (named.branches_of (map named.branch_view rest)) ≡ fault
    → branches_then (map branch_view found) (numbered_branches scope names (named.branches_of (map named.branch_view rest))) ≡ tree
    → branches_names (named.branches_of (map named.branch_view rest)) names ≡ last
    → (branches_fault scope (named.branches_of (map named.branch_view others)) ≡ fault)
    × (branches_then (map branch_view (found ++ one ∷ [])) (numbered_branches scope after (named.branches_of (map named.branch_view others))) ≡ tree)
    × (branches_names (named.branches_of (map named.branch_view others)) after ≡ last)
    × Grows start after
branches_turn scope b rest others found one start names after last fault tree r none same body_none body_same named_so before behind fault_is tree_is names_are =
    let first = branches_of_first b rest others r in
    let left = named.branches_of (map named.branch_view others) in
    let body = named.stmts_of (map named.stmt_view b.body.items) in (
      sym (ap (branches_fault scope) first ∙ ap (λ (x : Option ActionFault). x then stmts_fault scope body then branches_fault scope left) none ∙ ap (λ (x : Option ActionFault). x then branches_fault scope left) body_none) ∙ fault_is,
      branches_more found one (numbered_branches scope after left)
          ∙ ap (λ (p : ExprTree × Stmts). branches_then (map branch_view found) (a_branch p.0 p.1 (numbered_branches scope after left))) (bound_branch_is one)
          ∙ ap (λ x. branches_then (map branch_view found) (a_branch x (numbered.stmts_of (map numbered.stmt_view one.body.items)) (numbered_branches scope after left))) same
          ∙ ap (λ x. branches_then (map branch_view found) (a_branch (numbered_expr scope (named.expr_view b.condition)) x (numbered_branches scope after left))) body_same
          ∙ ap (λ x. branches_then (map branch_view found) (a_branch (numbered_expr scope (named.expr_view b.condition)) (numbered_stmts scope names body) (numbered_branches scope x left))) named_so
          ∙ sym (ap (λ x. branches_then (map branch_view found) (numbered_branches scope names x)) first) ∙ tree_is,
      ap (branches_names left) named_so ∙ sym (ap (λ x. branches_names x names) first) ∙ names_are,
      grows_on start names after before behind,
    )

pub branches_end : (scope : Scope) (rest : List Branch) (found : List BoundBranch) (names last : List (List ℕ)) (fault : Option ActionFault) (tree : Branches)
    → rest ≡ []
    → branches_fault scope (named.branches_of (map named.branch_view rest)) ≡ fault
    → branches_then (map branch_view found) (numbered_branches scope names (named.branches_of (map named.branch_view rest))) ≡ tree
    → branches_names (named.branches_of (map named.branch_view rest)) names ≡ last
    → ((fault ≡ None) × (branches_of (map branch_view found) ≡ tree)) × (names ≡ last)
branches_end scope rest found names last fault tree r fault_is tree_is names_are = (
  (
    sym fault_is ∙ ap (λ x. branches_fault scope (named.branches_of (map named.branch_view x))) r,
    sym (branches_all (map branch_view found)) ∙ sym (ap (λ x. branches_then (map branch_view found) (numbered_branches scope names (named.branches_of (map named.branch_view x)))) r) ∙ tree_is,
  ),
  sym (ap (λ x. branches_names (named.branches_of (map named.branch_view x)) names) r) ∙ names_are,
)
