-- Which trees are programs and conditions, which text is theirs, and how deep they nest.
use Rattle.std.specs.Prelude.{◌≡◌, ℕ, suc, ◌-◌, ◌<◌, ◌≤◌, max, List, [], ◌∷◌, Option, Some, None, Bool, true, ◌&&◌, nat_le, nat_lt}
use Rattle.room_kinds.specs.declared.numbers.Priority.{Priority}
use Rattle.room_tokens.specs.action_tokens.Values.{action_values}
use Rattle.action_program.specs.Named.{ExprTree, a_number, the_true, the_false, a_datum, the_place, the_self, an_attribute, a_paren, a_unary, a_chain, Steps, no_step, a_step, SendTree, StmtTree, empty, assign, choose, repeat, send, defer, recall, recall_all, frame, import_at, register, withdraw, Stmts, no_stmt, a_stmt, Branches, no_branch, a_branch, Otherwise, no_else, an_else}
use Rattle.action_program.specs.declared.operator.BinaryOp.{BinaryOp}
use Rattle.action_program.specs.declared.operator.BinaryOp.TheVariants as binary
use Rattle.action_parse.specs.action_reading.Tokens.{expr_tokens, stmts_tokens}

-- ---- which trees are well formed

-- The level below an operator's own; its operands stand there. The operators of level 1 bind strongest.
abbrev pub below : BinaryOp → ℕ
below binary.Multiply = 0
below binary.Divide = 0
below binary.Remainder = 0
below binary.Add = 1
below binary.Subtract = 1
below binary.Equal = 2
below binary.NotEqual = 2
below binary.Less = 2
below binary.LessEqual = 2
below binary.Greater = 2
below binary.GreaterEqual = 2
below binary.And = 3
below binary.Or = 4

-- a dotted name has a part at least
abbrev pub IsPath : List (List ℕ) → Type 0
IsPath [] = ⊥
IsPath (n ∷ ns) = Unit {0}

-- at most 63, where one stands
abbrev pub IsDatum : Option ℕ → Type 0
IsDatum None = Unit {0}
IsDatum (Some k) = k ≤ 63

abbrev pub HasStep : Steps → Type 0
HasStep no_step = ⊥
HasStep (a_step op e steps) = Unit {0}

abbrev mutual
  -- The expression stands at a level: its operators are of that level or bind stronger, but for those in parentheses.
  pub AtLevel : ExprTree → ℕ → Type 0
  AtLevel (a_number n) k = Unit {0}
  AtLevel the_true k = Unit {0}
  AtLevel the_false k = Unit {0}
  AtLevel (a_datum n) k = IsDatum n
  AtLevel the_place k = Unit {0}
  AtLevel the_self k = Unit {0}
  AtLevel (an_attribute path) k = IsPath path
  AtLevel (a_paren e) k = AtLevel e 5
  AtLevel (a_unary op e) k = AtLevel e 0
  AtLevel (a_chain e steps) k = (j : ℕ) × (j < k) × HasStep steps × AtLevel e j × StepsAt steps j

  -- Operators whose operands stand at this level.
  pub StepsAt : Steps → ℕ → Type 0
  StepsAt no_step j = Unit {0}
  StepsAt (a_step op e steps) j = (below op ≡ j) × AtLevel e j × StepsAt steps j

-- a whole expression
abbrev pub IsExpr : ExprTree → Type 0
IsExpr e = AtLevel e 5

abbrev pub IsIndex : Option ExprTree → Type 0
IsIndex None = Unit {0}
IsIndex (Some e) = IsExpr e

abbrev pub AreExprs : List ExprTree → Type 0
AreExprs [] = Unit {0}
AreExprs (e ∷ es) = IsExpr e × AreExprs es

-- one of the priorities that have words
abbrev pub IsPrio : Option Priority → Type 0
IsPrio None = Unit {0}
IsPrio (Some p) = (0 < p.0) × (p.0 ≤ 5)

abbrev pub IsSend : SendTree → Type 0
IsSend s = IsIndex s.place × AreExprs s.arguments × IsPrio s.prio

abbrev pub HasBranch : Branches → Type 0
HasBranch no_branch = ⊥
HasBranch (a_branch e body rest) = Unit {0}

abbrev mutual
  pub IsStmt : StmtTree → Type 0
  IsStmt empty = Unit {0}
  IsStmt (assign path e) = IsPath path × IsExpr e
  IsStmt (choose branches otherwise) = HasBranch branches × AreBranches branches × IsElse otherwise
  IsStmt (repeat n body) = AreStmts body
  IsStmt (send s) = IsSend s
  IsStmt defer = Unit {0}
  IsStmt recall = Unit {0}
  IsStmt recall_all = Unit {0}
  IsStmt (frame verb reference index) = IsIndex index
  IsStmt (import_at reference index id) = IsIndex index × IsExpr id
  IsStmt (register port service) = Unit {0}
  IsStmt (withdraw port) = Unit {0}

  pub AreStmts : Stmts → Type 0
  AreStmts no_stmt = Unit {0}
  AreStmts (a_stmt s rest) = IsStmt s × AreStmts rest

  pub AreBranches : Branches → Type 0
  AreBranches no_branch = Unit {0}
  AreBranches (a_branch e body rest) = IsExpr e × AreStmts body × AreBranches rest

  pub IsElse : Otherwise → Type 0
  IsElse no_else = Unit {0}
  IsElse (an_else body) = AreStmts body

-- ---- how deep they nest

abbrev mutual
  -- How deep parentheses and unary signs nest.
  pub expr_nesting : ExprTree → ℕ
  expr_nesting (a_number n) = 0
  expr_nesting the_true = 0
  expr_nesting the_false = 0
  expr_nesting (a_datum n) = 0
  expr_nesting the_place = 0
  expr_nesting the_self = 0
  expr_nesting (an_attribute path) = 0
  expr_nesting (a_paren e) = suc (expr_nesting e)
  expr_nesting (a_unary op e) = suc (expr_nesting e)
  expr_nesting (a_chain e steps) = max (expr_nesting e) (steps_nesting steps)

  pub steps_nesting : Steps → ℕ
  steps_nesting no_step = 0
  steps_nesting (a_step op e steps) = max (expr_nesting e) (steps_nesting steps)

abbrev pub index_nesting : Option ExprTree → ℕ
index_nesting None = 0
index_nesting (Some e) = expr_nesting e

abbrev pub exprs_nesting : List ExprTree → ℕ
exprs_nesting [] = 0
exprs_nesting (e ∷ es) = max (expr_nesting e) (exprs_nesting es)

abbrev mutual
  -- How deep blocks, parentheses and unary signs nest, together. The parentheses of a condition and of a send, and brackets, don't count.
  pub stmt_nesting : StmtTree → ℕ
  stmt_nesting empty = 0
  stmt_nesting (assign path e) = expr_nesting e
  stmt_nesting (choose branches otherwise) = max (branches_nesting branches) (else_nesting otherwise)
  stmt_nesting (repeat n body) = suc (nesting body)
  stmt_nesting (send s) = max (index_nesting s.place) (exprs_nesting s.arguments)
  stmt_nesting defer = 0
  stmt_nesting recall = 0
  stmt_nesting recall_all = 0
  stmt_nesting (frame verb reference index) = index_nesting index
  stmt_nesting (import_at reference index id) = max (index_nesting index) (expr_nesting id)
  stmt_nesting (register port service) = 0
  stmt_nesting (withdraw port) = 0

  pub nesting : Stmts → ℕ
  nesting no_stmt = 0
  nesting (a_stmt s rest) = max (stmt_nesting s) (nesting rest)

  pub branches_nesting : Branches → ℕ
  branches_nesting no_branch = 0
  branches_nesting (a_branch e body rest) = max (max (expr_nesting e) (suc (nesting body))) (branches_nesting rest)

  pub else_nesting : Otherwise → ℕ
  else_nesting no_else = 0
  else_nesting (an_else body) = suc (nesting body)

abbrev mutual
  -- Each repetition goes 255 times at most, and repetitions nest no deeper than so many.
  pub stmt_repeats : StmtTree → ℕ → Bool
  stmt_repeats empty most = true
  stmt_repeats (assign path e) most = true
  stmt_repeats (choose branches otherwise) most = branches_repeat branches most && else_repeats otherwise most
  stmt_repeats (repeat n body) most = nat_le n 255 && (nat_lt 0 most && repeats_within body (most - 1))
  stmt_repeats (send s) most = true
  stmt_repeats defer most = true
  stmt_repeats recall most = true
  stmt_repeats recall_all most = true
  stmt_repeats (frame verb reference index) most = true
  stmt_repeats (import_at reference index id) most = true
  stmt_repeats (register port service) most = true
  stmt_repeats (withdraw port) most = true

  pub repeats_within : Stmts → ℕ → Bool
  repeats_within no_stmt most = true
  repeats_within (a_stmt s rest) most = stmt_repeats s most && repeats_within rest most

  pub branches_repeat : Branches → ℕ → Bool
  branches_repeat no_branch most = true
  branches_repeat (a_branch e body rest) most = repeats_within body most && branches_repeat rest most

  pub else_repeats : Otherwise → ℕ → Bool
  else_repeats no_else most = true
  else_repeats (an_else body) most = repeats_within body most

-- ---- the text of a program

-- The text is this program's: the program is well formed, and its tokens are the text's.
pub record IsProgramOf (bytes : List ℕ) (program : Stmts) : Type 0 where
  pub formed : AreStmts program
  pub tokens : action_values bytes ≡ Some (stmts_tokens program)

-- The text is this condition's.
pub record IsConditionOf (bytes : List ℕ) (condition : ExprTree) : Type 0 where
  pub formed : IsExpr condition
  pub tokens : action_values bytes ≡ Some (expr_tokens condition)

-- The three limits of nesting: 64 for blocks, parentheses and signs, 2 for repetitions, and 255 times for each.
abbrev pub IsWithinLimits : Stmts → Type 0
IsWithinLimits program = (nesting program ≤ 64) × (repeats_within program 2 ≡ true)
