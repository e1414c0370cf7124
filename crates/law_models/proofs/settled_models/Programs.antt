-- The programs of codes send at priorities 1 to 5 alone.
use Rattle.std.proofs.Common.{◌≡◌, nat_le, ◌&&◌, Bool, true, false, cond, List, Option, Some, None, ℕ, refl, arith, le-leb}
use Rattle.std.specs.Prelude.{is_none}
use Rattle.std.specs.Option.{option_map_or}
use Rattle.std.proofs.lemmas.Bool.{and_from}
use Rattle.room_kinds.specs.declared.numbers.Priority.{Priority}
use Rattle.room_ast.specs.declared.chart.Code.{Code}
use Rattle.room_ast.specs.declared.scope.Scope.{Scope}
use Rattle.action_program.specs.Named as named
use Rattle.action_program.specs.Numbered as numbered
use Rattle.action_parse.specs.action_reading.Written.{IsPrio, IsStmt, AreStmts, AreBranches, IsElse}
use Rattle.action_lang.specs.action_check.Faults.{stmts_fault}
use Rattle.action_lang.specs.action_check.Numbering.{priority_of, stmt_names, stmts_names, branches_names, numbered_stmt, numbered_stmts, numbered_branches, numbered_else}
use Rattle.law_models.specs.settled_models.Open.{is_worded}
use Rattle.chart_behaviour.specs.chart_asks.Asking.{StatementAsks, ProgramAsks, BranchesAsk}
use Rattle.chart_trees.specs.chart_codes.Codes.{code_bytes, program_of, bound_of, action_of}
use Rattle.law_models.proofs.class_laws.Codes.{program_is}

-- a priority that has a word, or general where none is written
prio_worded : (p : Option Priority) → IsPrio p → (nat_le 1 (priority_of p).0 && nat_le (priority_of p).0 5) ≡ true
prio_worded None h = refl
prio_worded (Some p) h =
    let least = h.0 in let most = h.1 in
    and_from (nat_le 1 p.0) (nat_le p.0 5) (le-leb 1 p.0 (omega (arith, least))) (le-leb p.0 5 most)

mutual
  stmt_worded : (scope : Scope) (names : List (List ℕ)) (s : named.StmtTree) → IsStmt s → StatementAsks is_worded (numbered_stmt scope names s)
  stmt_worded scope names named.empty h = tt
  stmt_worded scope names (named.assign path e) h = tt
  stmt_worded scope names (named.choose branches otherwise) h = (branches_worded scope names branches h.1, else_worded scope (branches_names branches names) otherwise h.2)
  stmt_worded scope names (named.repeat n body) h = stmts_worded scope names body h
  stmt_worded scope names (named.send s) h = λ vars at. prio_worded s.prio h.2
  stmt_worded scope names named.defer h = refl
  stmt_worded scope names named.recall h = refl
  stmt_worded scope names named.recall_all h = refl
  stmt_worded scope names (named.frame verb reference index) h = λ i. refl
  stmt_worded scope names (named.import_at reference index id) h = λ i x. refl
  stmt_worded scope names (named.register port name) h = refl
  stmt_worded scope names (named.withdraw port) h = refl

  stmts_worded : (scope : Scope) (names : List (List ℕ)) (ss : named.Stmts) → AreStmts ss → ProgramAsks is_worded (numbered_stmts scope names ss)
  stmts_worded scope names named.no_stmt h = tt
  stmts_worded scope names (named.a_stmt s rest) h = (stmt_worded scope names s h.0, stmts_worded scope (stmt_names s names) rest h.1)

  branches_worded : (scope : Scope) (names : List (List ℕ)) (bs : named.Branches) → AreBranches bs → BranchesAsk is_worded (numbered_branches scope names bs)
  branches_worded scope names named.no_branch h = tt
  branches_worded scope names (named.a_branch e body rest) h = (stmts_worded scope names body h.1, branches_worded scope (stmts_names body names) rest h.2)

  else_worded : (scope : Scope) (names : List (List ℕ)) (o : named.Otherwise) → IsElse o → ProgramAsks is_worded (numbered_else scope names o)
  else_worded scope names named.no_else h = tt
  else_worded scope names (named.an_else body) h = stmts_worded scope names body h

-- so an action sends at no other priority
pub action_worded : (scope : Scope) (names : Option (List (List ℕ))) (code : Option Code) → ProgramAsks is_worded (action_of scope names code)
action_worded scope None None = tt
action_worded scope (Some names) None = tt
action_worded scope None (Some code) = tt
action_worded scope (Some names) (Some code) = by_program (program_of (code_bytes code)) refl
  where
    bound : (p : named.Stmts) → AreStmts p → (b : Bool) → ProgramAsks is_worded (cond b (numbered_stmts scope names p) numbered.no_stmt)
    bound p h true = stmts_worded scope names p h
    bound p h false = tt

    by_program : (o : Option named.Stmts) → program_of (code_bytes code) ≡ o → ProgramAsks is_worded (option_map_or (bound_of scope names) o numbered.no_stmt)
    by_program None e = tt
    by_program (Some p) e = bound p (program_is (code_bytes code) p e) (is_none (stmts_fault scope p))
