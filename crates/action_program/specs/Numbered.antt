-- The tree that a numbered program stands for, without where it lies in memory.
use Rattle.std.specs.Prelude.{ℕ, ℤ, List, [], ◌∷◌, map, Option, option_map}
use Rattle.room_kinds.specs.declared.number_type.NumberType.{NumberType}
use Rattle.room_kinds.specs.declared.numbers.Priority.{Priority}
use Rattle.action_program.specs.declared.operator.UnaryOp.{UnaryOp}
use Rattle.action_program.specs.declared.operator.BinaryOp.{BinaryOp}
use Rattle.action_program.specs.declared.operator.FrameVerb.{FrameVerb}
use Rattle.action_program.specs.declared.bound.BoundExpr.{BoundExpr}
use Rattle.action_program.specs.declared.bound.BoundExpr.TheFolds.{fold-BoundExpr, fold-BoundStep}
use Rattle.action_program.specs.declared.bound.BoundExpr.TheOpen.{BoundExpr-F, BoundStep-F, BoundUnary-F, BoundChain-F}
use Rattle.action_program.specs.declared.bound.BoundStep.{BoundStep}
use Rattle.action_program.specs.declared.bound.BoundStmt.{BoundStmt}
use Rattle.action_program.specs.declared.bound.BoundStmt.TheFolds.{fold-BoundStmt, fold-BoundBranch, fold-BoundIf}
use Rattle.action_program.specs.declared.bound.BoundStmt.TheOpen.{BoundStmt-F, BoundBranch-F, BoundIf-F, BoundRepeat-F}
use Rattle.action_program.specs.declared.bound.BoundBranch.{BoundBranch}
use Rattle.action_program.specs.declared.bound.BoundIf.{BoundIf}
use Rattle.action_program.specs.declared.bound.BoundSend.{BoundSend}
use Rattle.action_program.specs.declared.bound.BoundAssign.{BoundAssign}
use Rattle.action_program.specs.declared.bound.BoundFrame.{BoundFrame}
use Rattle.action_program.specs.declared.bound.BoundImport.{BoundImport}
use Rattle.action_program.specs.declared.bound.Argument.{Argument}
use Rattle.action_program.specs.declared.bound.Bound.{Bound}

-- ---- expressions

-- An expression, and the operators of one level behind its first operand.
mutual
  pub data ExprTree : Type 0 where
    a_number : ℤ → ExprTree
    a_datum : ℕ → ExprTree
    the_place : ExprTree
    the_self : ExprTree
    an_attribute : ℕ → ExprTree
    a_unary : UnaryOp → ExprTree → ExprTree
    a_chain : ExprTree → Steps → ExprTree

  pub data Steps : Type 0 where
    no_step : Steps
    a_step : BinaryOp → ExprTree → Steps → Steps

-- The steps of a list.
abbrev pub steps_of : List (BinaryOp × ExprTree) → Steps
steps_of [] = no_step
steps_of (s ∷ ss) = a_step s.0 s.1 (steps_of ss)

abbrev pub expr_layer : BoundExpr-F ExprTree ExprTree (BinaryOp × ExprTree) ExprTree → ExprTree
expr_layer (BoundExpr-F.Number n) = a_number n
expr_layer (BoundExpr-F.Data k) = a_datum k
expr_layer BoundExpr-F.Place = the_place
expr_layer BoundExpr-F.Me = the_self
expr_layer (BoundExpr-F.Attribute k) = an_attribute k
expr_layer (BoundExpr-F.Unary e) = e.value
expr_layer (BoundExpr-F.Chain e) = e.value

abbrev pub chain_layer : BoundChain-F ExprTree ExprTree (BinaryOp × ExprTree) ExprTree → ExprTree
chain_layer e = a_chain e.first (steps_of e.steps.items)

abbrev pub step_layer : BoundStep-F ExprTree ExprTree (BinaryOp × ExprTree) ExprTree → BinaryOp × ExprTree
step_layer s = (s.op, s.operand)

abbrev pub unary_layer : BoundUnary-F ExprTree ExprTree (BinaryOp × ExprTree) ExprTree → ExprTree
unary_layer e = a_unary e.op e.operand

-- The tree of an expression.
abbrev pub expr_view : BoundExpr → ExprTree
expr_view = fold-BoundExpr ExprTree ExprTree (BinaryOp × ExprTree) ExprTree expr_layer chain_layer step_layer unary_layer

-- An operator and the tree of its right side.
abbrev pub step_view : BoundStep → BinaryOp × ExprTree
step_view = fold-BoundStep ExprTree ExprTree (BinaryOp × ExprTree) ExprTree expr_layer chain_layer step_layer unary_layer

-- ---- statements

-- A number of a message, and the type to which it is reduced.
pub record ArgumentTree : Type 0 where
  pub kind : NumberType
  pub value : ExprTree

-- A send at a place of a port; without a place, at all.
pub record SendTree : Type 0 where
  pub port : ℕ
  pub place : Option ExprTree
  pub signal : ℕ
  pub arguments : List ArgumentTree
  pub prio : Priority

-- A statement, a list of statements, and conditions with their blocks.
mutual
  pub data StmtTree : Type 0 where
    empty : StmtTree
    assign : ℕ → NumberType → ExprTree → StmtTree
    choose : Branches → Stmts → StmtTree
    repeat : ℕ → Stmts → StmtTree
    send : SendTree → StmtTree
    defer : StmtTree
    recall : StmtTree
    recall_all : StmtTree
    frame : FrameVerb → ℕ → ExprTree → StmtTree
    import_at : ℕ → ExprTree → ExprTree → StmtTree
    register : ℕ → ℕ → StmtTree
    withdraw : ℕ → StmtTree

  pub data Stmts : Type 0 where
    no_stmt : Stmts
    a_stmt : StmtTree → Stmts → Stmts

  pub data Branches : Type 0 where
    no_branch : Branches
    a_branch : ExprTree → Stmts → Branches → Branches

-- The statements of a list.
abbrev pub stmts_of : List StmtTree → Stmts
stmts_of [] = no_stmt
stmts_of (s ∷ ss) = a_stmt s (stmts_of ss)

-- The branches of a list.
abbrev pub branches_of : List (ExprTree × Stmts) → Branches
branches_of [] = no_branch
branches_of (b ∷ bs) = a_branch b.0 b.1 (branches_of bs)

abbrev pub argument_view : Argument → ArgumentTree
argument_view a = record { kind = a.kind; value = expr_view a.value }

abbrev pub send_view : BoundSend → SendTree
send_view s = record {
  port = s.port;
  place = option_map expr_view s.place;
  signal = s.signal;
  arguments = map argument_view s.arguments.items;
  prio = s.prio;
}

abbrev pub assign_view : BoundAssign → StmtTree
assign_view s = assign s.attribute s.kind (expr_view s.value)

abbrev pub frame_view : BoundFrame → StmtTree
frame_view s = frame s.verb s.reference (expr_view s.index)

abbrev pub import_view : BoundImport → StmtTree
import_view s = import_at s.reference (expr_view s.index) (expr_view s.id)

abbrev pub stmt_layer : BoundStmt-F StmtTree (ExprTree × Stmts) (Branches × Stmts) StmtTree → StmtTree
stmt_layer BoundStmt-F.Empty = empty
stmt_layer (BoundStmt-F.Assign s) = assign_view s.value
stmt_layer (BoundStmt-F.If c) = choose c.value.0 c.value.1
stmt_layer (BoundStmt-F.Repeat s) = s.value
stmt_layer (BoundStmt-F.Send s) = send (send_view s.value)
stmt_layer BoundStmt-F.Defer = defer
stmt_layer BoundStmt-F.Recall = recall
stmt_layer BoundStmt-F.RecallAll = recall_all
stmt_layer (BoundStmt-F.Frame s) = frame_view s.value
stmt_layer (BoundStmt-F.Import s) = import_view s.value
stmt_layer (BoundStmt-F.Register port name) = register port name
stmt_layer (BoundStmt-F.Withdraw port) = withdraw port

abbrev pub branch_layer : BoundBranch-F StmtTree (ExprTree × Stmts) (Branches × Stmts) StmtTree → ExprTree × Stmts
branch_layer b = (expr_view b.condition, stmts_of b.body.items)

abbrev pub if_layer : BoundIf-F StmtTree (ExprTree × Stmts) (Branches × Stmts) StmtTree → Branches × Stmts
if_layer c = (branches_of c.branches.items, stmts_of c.otherwise.items)

abbrev pub repeat_layer : BoundRepeat-F StmtTree (ExprTree × Stmts) (Branches × Stmts) StmtTree → StmtTree
repeat_layer s = repeat s.times (stmts_of s.body.items)

-- The tree of a statement.
abbrev pub stmt_view : BoundStmt → StmtTree
stmt_view = fold-BoundStmt StmtTree (ExprTree × Stmts) (Branches × Stmts) StmtTree stmt_layer branch_layer if_layer repeat_layer

-- A condition and its block.
abbrev pub branch_view : BoundBranch → ExprTree × Stmts
branch_view = fold-BoundBranch StmtTree (ExprTree × Stmts) (Branches × Stmts) StmtTree stmt_layer branch_layer if_layer repeat_layer

-- Conditions with their blocks, and the last block.
abbrev pub if_view : BoundIf → Branches × Stmts
if_view = fold-BoundIf StmtTree (ExprTree × Stmts) (Branches × Stmts) StmtTree stmt_layer branch_layer if_layer repeat_layer

-- The tree of a program.
abbrev pub program_view : Bound → Stmts
program_view p = stmts_of (map stmt_view p.statements.items)
