-- The tree that a written program stands for, without where it lies in memory.
use Rattle.std.specs.Prelude.{ℕ, List, [], ◌∷◌, map, Option, Some, None, option_map}
use Rattle.std.specs.Global.{Vec}
use Rattle.room_kinds.specs.declared.numbers.Priority.{Priority}
use Rattle.action_program.specs.declared.operator.UnaryOp.{UnaryOp}
use Rattle.action_program.specs.declared.operator.BinaryOp.{BinaryOp}
use Rattle.action_program.specs.declared.operator.FrameVerb.{FrameVerb}
use Rattle.action_program.specs.declared.program.Expr.{Expr}
use Rattle.action_program.specs.declared.program.Expr.TheFolds.{fold-Expr, fold-Step}
use Rattle.action_program.specs.declared.program.Expr.TheOpen.{Expr-F, Chain-F, Step-F, Unary-F}
use Rattle.action_program.specs.declared.program.Step.{Step}
use Rattle.action_program.specs.declared.program.Stmt.{Stmt}
use Rattle.action_program.specs.declared.program.Stmt.TheFolds.{fold-Stmt, fold-Branch, fold-IfStmt}
use Rattle.action_program.specs.declared.program.Stmt.TheOpen.{Stmt-F, Branch-F, IfStmt-F, RepeatStmt-F}
use Rattle.action_program.specs.declared.program.Branch.{Branch}
use Rattle.action_program.specs.declared.program.IfStmt.{IfStmt}
use Rattle.action_program.specs.declared.program.Path.{Path}
use Rattle.action_program.specs.declared.program.Path.TheVariants as paths
use Rattle.action_program.specs.declared.program.AssignStmt.{AssignStmt}
use Rattle.action_program.specs.declared.program.SendStmt.{SendStmt}
use Rattle.action_program.specs.declared.program.FrameStmt.{FrameStmt}
use Rattle.action_program.specs.declared.program.ImportStmt.{ImportStmt}
use Rattle.action_program.specs.declared.program.Program.{Program}

-- ---- expressions

-- An expression, and the operators of one level behind its first operand.
mutual
  pub data ExprTree : Type 0 where
    a_number : ℕ → ExprTree
    the_true : ExprTree
    the_false : ExprTree
    a_datum : Option ℕ → ExprTree
    the_place : ExprTree
    the_self : ExprTree
    an_attribute : List (List ℕ) → ExprTree
    a_paren : ExprTree → ExprTree
    a_unary : UnaryOp → ExprTree → ExprTree
    a_chain : ExprTree → Steps → ExprTree

  pub data Steps : Type 0 where
    no_step : Steps
    a_step : BinaryOp → ExprTree → Steps → Steps

-- The steps of a list.
abbrev pub steps_of : List (BinaryOp × ExprTree) → Steps
steps_of [] = no_step
steps_of (s ∷ ss) = a_step s.0 s.1 (steps_of ss)

abbrev pub expr_layer : Expr-F ExprTree ExprTree (BinaryOp × ExprTree) ExprTree → ExprTree
expr_layer (Expr-F.Number n) = a_number n
expr_layer Expr-F.True = the_true
expr_layer Expr-F.False = the_false
expr_layer (Expr-F.Data k) = a_datum k
expr_layer Expr-F.Place = the_place
expr_layer Expr-F.Me = the_self
expr_layer (Expr-F.Attribute name) = an_attribute (name.value ∷ [])
expr_layer (Expr-F.Within path) = an_attribute (path.value.items)
expr_layer (Expr-F.Paren e) = a_paren e.value
expr_layer (Expr-F.Unary e) = e.value
expr_layer (Expr-F.Chain e) = e.value

abbrev pub chain_layer : Chain-F ExprTree ExprTree (BinaryOp × ExprTree) ExprTree → ExprTree
chain_layer e = a_chain e.first (steps_of e.steps.items)

abbrev pub step_layer : Step-F ExprTree ExprTree (BinaryOp × ExprTree) ExprTree → BinaryOp × ExprTree
step_layer s = (s.op, s.operand)

abbrev pub unary_layer : Unary-F ExprTree ExprTree (BinaryOp × ExprTree) ExprTree → ExprTree
unary_layer e = a_unary e.op e.operand

-- The tree of an expression.
abbrev pub expr_view : Expr → ExprTree
expr_view = fold-Expr ExprTree ExprTree (BinaryOp × ExprTree) ExprTree expr_layer chain_layer step_layer unary_layer

-- An operator and the tree of its right side.
abbrev pub step_view : Step → BinaryOp × ExprTree
step_view = fold-Step ExprTree ExprTree (BinaryOp × ExprTree) ExprTree expr_layer chain_layer step_layer unary_layer

-- The parts of a path.
abbrev pub path_view : Path → List (List ℕ)
path_view (paths.Attribute name) = name ∷ []
path_view (paths.Within parts) = parts.items

-- ---- statements

-- A send at a place of a port; without a place, at all.
pub record SendTree : Type 0 where
  pub port : List ℕ
  pub place : Option ExprTree
  pub signal : List ℕ
  pub arguments : List ExprTree
  pub prio : Option Priority

-- A statement, a list of statements, conditions with their blocks, and a last block, if there is one.
mutual
  pub data StmtTree : Type 0 where
    empty : StmtTree
    assign : List (List ℕ) → ExprTree → StmtTree
    choose : Branches → Otherwise → StmtTree
    repeat : ℕ → Stmts → StmtTree
    send : SendTree → StmtTree
    defer : StmtTree
    recall : StmtTree
    recall_all : StmtTree
    frame : FrameVerb → List ℕ → Option ExprTree → StmtTree
    import_at : List ℕ → Option ExprTree → ExprTree → StmtTree
    register : List ℕ → List ℕ → StmtTree
    withdraw : List ℕ → StmtTree

  pub data Stmts : Type 0 where
    no_stmt : Stmts
    a_stmt : StmtTree → Stmts → Stmts

  pub data Branches : Type 0 where
    no_branch : Branches
    a_branch : ExprTree → Stmts → Branches → Branches

  pub data Otherwise : Type 0 where
    no_else : Otherwise
    an_else : Stmts → Otherwise

-- The statements of a list.
abbrev pub stmts_of : List StmtTree → Stmts
stmts_of [] = no_stmt
stmts_of (s ∷ ss) = a_stmt s (stmts_of ss)

-- The branches of a list.
abbrev pub branches_of : List (ExprTree × Stmts) → Branches
branches_of [] = no_branch
branches_of (b ∷ bs) = a_branch b.0 b.1 (branches_of bs)

-- The last block, if there is one.
abbrev pub otherwise_of : Option (Vec StmtTree) → Otherwise
otherwise_of None = no_else
otherwise_of (Some body) = an_else (stmts_of body.items)

abbrev pub assign_view : AssignStmt → StmtTree
assign_view s = assign (path_view s.attribute) (expr_view s.value)

abbrev pub send_view : SendStmt → SendTree
send_view s = record {
  port = s.port;
  place = option_map expr_view s.place;
  signal = s.signal;
  arguments = map expr_view s.arguments.items;
  prio = s.prio;
}

abbrev pub frame_view : FrameStmt → StmtTree
frame_view s = frame s.verb s.reference (option_map expr_view s.index)

abbrev pub import_view : ImportStmt → StmtTree
import_view s = import_at s.reference (option_map expr_view s.index) (expr_view s.id)

abbrev pub stmt_layer : Stmt-F StmtTree (ExprTree × Stmts) (Branches × Otherwise) StmtTree → StmtTree
stmt_layer Stmt-F.Empty = empty
stmt_layer (Stmt-F.Assign s) = assign_view s.value
stmt_layer (Stmt-F.If c) = choose c.value.0 c.value.1
stmt_layer (Stmt-F.Repeat s) = s.value
stmt_layer (Stmt-F.Send s) = send (send_view s.value)
stmt_layer Stmt-F.Defer = defer
stmt_layer Stmt-F.Recall = recall
stmt_layer Stmt-F.RecallAll = recall_all
stmt_layer (Stmt-F.Frame s) = frame_view s.value
stmt_layer (Stmt-F.Import s) = import_view s.value
stmt_layer (Stmt-F.Register s) = register s.value.port s.value.name
stmt_layer (Stmt-F.Withdraw s) = withdraw s.value.port

abbrev pub branch_layer : Branch-F StmtTree (ExprTree × Stmts) (Branches × Otherwise) StmtTree → ExprTree × Stmts
branch_layer b = (expr_view b.condition, stmts_of b.body.items)

abbrev pub if_layer : IfStmt-F StmtTree (ExprTree × Stmts) (Branches × Otherwise) StmtTree → Branches × Otherwise
if_layer c = (branches_of c.branches.items, otherwise_of c.otherwise)

abbrev pub repeat_layer : RepeatStmt-F StmtTree (ExprTree × Stmts) (Branches × Otherwise) StmtTree → StmtTree
repeat_layer s = repeat s.times (stmts_of s.body.items)

-- The tree of a statement.
abbrev pub stmt_view : Stmt → StmtTree
stmt_view = fold-Stmt StmtTree (ExprTree × Stmts) (Branches × Otherwise) StmtTree stmt_layer branch_layer if_layer repeat_layer

-- Conditions with their blocks, and the last block.
abbrev pub if_view : IfStmt → Branches × Otherwise
if_view = fold-IfStmt StmtTree (ExprTree × Stmts) (Branches × Otherwise) StmtTree stmt_layer branch_layer if_layer repeat_layer

-- A condition and its block.
abbrev pub branch_view : Branch → ExprTree × Stmts
branch_view = fold-Branch StmtTree (ExprTree × Stmts) (Branches × Otherwise) StmtTree stmt_layer branch_layer if_layer repeat_layer

-- A last block, if there is one.
abbrev pub else_view : Option (Vec Stmt) → Otherwise
else_view None = no_else
else_view (Some body) = an_else (stmts_of (map stmt_view body.items))

-- The tree of a program.
abbrev pub program_view : Program → Stmts
program_view p = stmts_of (map stmt_view p.statements.items)
