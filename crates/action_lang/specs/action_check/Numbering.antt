-- A program with each name replaced by its number, and with the types of what is assigned and sent beside it.
use Rattle.std.specs.Prelude.{ℕ, pos, List, [], ◌∷◌, Option, Some, None, option_map, option_and_then}
use Rattle.std.specs.Int.{w64, cast_signed}
use Rattle.room_kinds.specs.declared.number_type.NumberType.{NumberType}
use Rattle.room_kinds.specs.declared.number_type.NumberType.TheVariants as types
use Rattle.room_kinds.specs.declared.numbers.Priority.{Priority}
use Rattle.room_ast.specs.declared.scope.Scope.{Scope}
use Rattle.room_ast.specs.declared.scope.ScopeAttribute.{ScopeAttribute}
use Rattle.room_ast.specs.declared.scope.ScopeSignal.{ScopeSignal}
use Rattle.room_ast.specs.Found.{found_attribute, found_port, found_reference, found_sent}
use Rattle.action_program.specs.Named as named
use Rattle.action_program.specs.Numbered as numbered
use Rattle.action_lang.specs.action_check.ServiceNames.{with_name, number_of}

-- The number of what was found.
abbrev pub number : {A : Type 0} → Option (ℕ × A) → ℕ
number None = 0
number (Some x) = x.0

-- The type of an attribute that was found.
abbrev pub type_of : Option (ℕ × ScopeAttribute) → NumberType
type_of None = types.Plain
type_of (Some a) = a.1.kind

-- The types of the numbers of a message that was found.
abbrev pub types_of : Option (ℕ × ScopeSignal) → List NumberType
types_of None = []
types_of (Some m) = m.1.numbers.items

abbrev mutual
  -- An expression over numbered attributes, without its parentheses.
  pub numbered_expr : Scope → named.ExprTree → numbered.ExprTree
  numbered_expr scope (named.a_number n) = numbered.a_number (cast_signed w64 n)
  numbered_expr scope named.the_true = numbered.a_number (pos 1)
  numbered_expr scope named.the_false = numbered.a_number (pos 0)
  numbered_expr scope (named.a_datum None) = numbered.a_datum 0
  numbered_expr scope (named.a_datum (Some k)) = numbered.a_datum k
  numbered_expr scope named.the_place = numbered.the_place
  numbered_expr scope named.the_self = numbered.the_self
  numbered_expr scope (named.an_attribute path) = numbered.an_attribute (number (found_attribute scope path))
  numbered_expr scope (named.a_paren e) = numbered_expr scope e
  numbered_expr scope (named.a_unary op e) = numbered.a_unary op (numbered_expr scope e)
  numbered_expr scope (named.a_chain e steps) = numbered.a_chain (numbered_expr scope e) (numbered_steps scope steps)

  -- The rest of a chain.
  pub numbered_steps : Scope → named.Steps → numbered.Steps
  numbered_steps scope named.no_step = numbered.no_step
  numbered_steps scope (named.a_step op e steps) = numbered.a_step op (numbered_expr scope e) (numbered_steps scope steps)

-- The index of a reference: 0 where none is written.
abbrev pub numbered_index : Scope → Option named.ExprTree → numbered.ExprTree
numbered_index scope None = numbered.a_number (pos 0)
numbered_index scope (Some e) = numbered_expr scope e

-- Arguments with the types of a message's numbers.
abbrev pub numbered_arguments : Scope → List NumberType → List named.ExprTree → List numbered.ArgumentTree
numbered_arguments scope [] arguments = []
numbered_arguments scope (t ∷ ts) [] = []
numbered_arguments scope (t ∷ ts) (e ∷ es) = record { kind = t; value = numbered_expr scope e } ∷ numbered_arguments scope ts es

-- The priority of a send: general where none is written.
abbrev pub priority_of : Option Priority → Priority
priority_of None = record { 0 = 3 }
priority_of (Some p) = p

-- The message of a send, if its port is found.
abbrev pub sent : Scope → named.SendTree → Option (ℕ × ScopeSignal)
sent scope s = option_and_then (λ p. found_sent p.1 s.signal) (found_port scope s.port)

abbrev pub numbered_send : Scope → named.SendTree → numbered.SendTree
numbered_send scope s = record {
  port = number (found_port scope s.port);
  place = option_map (numbered_expr scope) s.place;
  signal = number (sent scope s);
  arguments = numbered_arguments scope (types_of (sent scope s)) s.arguments;
  prio = priority_of s.prio;
}

abbrev mutual
  -- The service names after those of a statement.
  pub stmt_names : named.StmtTree → List (List ℕ) → List (List ℕ)
  stmt_names named.empty names = names
  stmt_names (named.assign path e) names = names
  stmt_names (named.choose branches otherwise) names = else_names otherwise (branches_names branches names)
  stmt_names (named.repeat n body) names = stmts_names body names
  stmt_names (named.send s) names = names
  stmt_names named.defer names = names
  stmt_names named.recall names = names
  stmt_names named.recall_all names = names
  stmt_names (named.frame verb reference index) names = names
  stmt_names (named.import_at reference index id) names = names
  stmt_names (named.register port name) names = with_name names name
  stmt_names (named.withdraw port) names = names

  pub stmts_names : named.Stmts → List (List ℕ) → List (List ℕ)
  stmts_names named.no_stmt names = names
  stmts_names (named.a_stmt s rest) names = stmts_names rest (stmt_names s names)

  pub branches_names : named.Branches → List (List ℕ) → List (List ℕ)
  branches_names named.no_branch names = names
  branches_names (named.a_branch e body rest) names = branches_names rest (stmts_names body names)

  pub else_names : named.Otherwise → List (List ℕ) → List (List ℕ)
  else_names named.no_else names = names
  else_names (named.an_else body) names = stmts_names body names

abbrev mutual
  -- A statement, where these service names came before it.
  pub numbered_stmt : Scope → List (List ℕ) → named.StmtTree → numbered.StmtTree
  numbered_stmt scope names named.empty = numbered.empty
  numbered_stmt scope names (named.assign path e) = numbered.assign (number (found_attribute scope path)) (type_of (found_attribute scope path)) (numbered_expr scope e)
  numbered_stmt scope names (named.choose branches otherwise) = numbered.choose (numbered_branches scope names branches) (numbered_else scope (branches_names branches names) otherwise)
  numbered_stmt scope names (named.repeat n body) = numbered.repeat n (numbered_stmts scope names body)
  numbered_stmt scope names (named.send s) = numbered.send (numbered_send scope s)
  numbered_stmt scope names named.defer = numbered.defer
  numbered_stmt scope names named.recall = numbered.recall
  numbered_stmt scope names named.recall_all = numbered.recall_all
  numbered_stmt scope names (named.frame verb reference index) = numbered.frame verb (number (found_reference scope reference)) (numbered_index scope index)
  numbered_stmt scope names (named.import_at reference index id) = numbered.import_at (number (found_reference scope reference)) (numbered_index scope index) (numbered_expr scope id)
  numbered_stmt scope names (named.register port name) = numbered.register (number (found_port scope port)) (number_of names name)
  numbered_stmt scope names (named.withdraw port) = numbered.withdraw (number (found_port scope port))

  pub numbered_stmts : Scope → List (List ℕ) → named.Stmts → numbered.Stmts
  numbered_stmts scope names named.no_stmt = numbered.no_stmt
  numbered_stmts scope names (named.a_stmt s rest) = numbered.a_stmt (numbered_stmt scope names s) (numbered_stmts scope (stmt_names s names) rest)

  pub numbered_branches : Scope → List (List ℕ) → named.Branches → numbered.Branches
  numbered_branches scope names named.no_branch = numbered.no_branch
  numbered_branches scope names (named.a_branch e body rest) = numbered.a_branch (numbered_expr scope e) (numbered_stmts scope names body) (numbered_branches scope (stmts_names body names) rest)

  -- The last block; none is an empty one.
  pub numbered_else : Scope → List (List ℕ) → named.Otherwise → numbered.Stmts
  numbered_else scope names named.no_else = numbered.no_stmt
  numbered_else scope names (named.an_else body) = numbered_stmts scope names body
