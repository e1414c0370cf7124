-- A program without a fault, its names numbered, names what its class has.
use Rattle.std.proofs.Common.{◌≡◌, ◌∙◌, ℕ, suc, ◌<◌, ◌≤◌, ◌==◌, Bool, true, false, cond, List, [], ◌∷◌, length, Option, Some, None, option_map, option_and_then, slice_get, refl, ap, subst, arith}
use Rattle.std.proofs.lemmas.Bool.{eqb-true}
use Rattle.std.proofs.lemmas.Option.{slice_get_within}
use Rattle.room_kinds.specs.declared.structure.ReferenceKind.{ReferenceKind}
use Rattle.room_kinds.specs.declared.number_type.NumberType.{NumberType}
use Rattle.room_kinds.specs.declared.numbers.Priority.{Priority}
use Rattle.room_ast.specs.declared.scope.Scope.{Scope}
use Rattle.room_ast.specs.declared.scope.ScopeAttribute.{ScopeAttribute}
use Rattle.room_ast.specs.declared.scope.ScopePort.{ScopePort}
use Rattle.room_ast.specs.declared.scope.ScopeReference.{ScopeReference}
use Rattle.room_ast.specs.declared.scope.ScopeSignal.{ScopeSignal}
use Rattle.room_ast.specs.Found.{same_name, same_path, found_attribute, found_port, found_reference, found_sent}
use Rattle.room_wiring.specs.declared.names.ClassNames.{ClassNames}
use Rattle.action_program.specs.declared.fault.ActionFault.{ActionFault}
use Rattle.action_program.specs.declared.fault.ActionFault.TheVariants as faults
use Rattle.action_program.specs.Named as named
use Rattle.action_parse.specs.action_reading.Written.{IsPrio, IsSend, IsStmt, AreStmts, AreBranches, IsElse}
use Rattle.action_lang.specs.action_check.Faults.{◌then◌, attribute_fault, expr_fault, steps_fault, index_fault, exprs_fault, can_send, takes_names, takes_verb, takes_import, message_fault, port_fault, send_fault, reference_fault, naming_fault, stmt_fault, stmts_fault, branches_fault, else_fault}
use Rattle.action_lang.specs.action_check.Numbering.{number, types_of, numbered_expr, numbered_steps, numbered_index, numbered_arguments, priority_of, numbered_send, stmt_names, stmts_names, branches_names, numbered_stmt, numbered_stmts, numbered_branches, numbered_else}
use Rattle.law_models.specs.class_laws.Programs.{HasReference, CanSend, CanRegister, ExpressionNames, StepsName, IfAnyNames, ArgumentsName, SendNames, StatementNames, ProgramNames, BranchesName}
use Rattle.law_models.proofs.class_laws.Scopes.{IsScopeOf, found_number, sent_found}

both_clear : (a b : Option ActionFault) → (a then b) ≡ None → (a ≡ None) × (b ≡ None)
both_clear None b h = (refl, h)
both_clear (Some f) b h = absurd cc

-- a priority that has a word, or general where none is written
least_prio : (p : Option Priority) → IsPrio p → 1 ≤ (priority_of p).0
least_prio None h = omega arith
least_prio (Some p) h = let least = h.0 in omega (arith, least)

most_prio : (p : Option Priority) → IsPrio p → (priority_of p).0 ≤ 5
most_prio None h = omega arith
most_prio (Some p) h = h.1

-- how many numbers the attributes of a class are
abbrev pub numbers_in : Scope → ℕ
numbers_in scope = length scope.attributes.items

module _ (scope : Scope) (c : ClassNames) (fits : IsScopeOf scope c) where
  -- ---- attributes and references

  attribute_named : (path : List (List ℕ)) → attribute_fault (found_attribute scope path) ≡ None → number (found_attribute scope path) < numbers_in scope
  attribute_named path h = go (found_attribute scope path) refl h
    where
      go : (o : Option (ℕ × ScopeAttribute)) → found_attribute scope path ≡ o → attribute_fault o ≡ None → number o < numbers_in scope
      go None e k = absurd cc
      go (Some r) e k = slice_get_within scope.attributes.items r.0 r.1 (found_number (λ (a : ScopeAttribute). same_path a.path.items path) scope.attributes.items r e)

  reference_named : (serves : ReferenceKind → Bool) (name : List ℕ) → reference_fault serves (found_reference scope name) ≡ None
      → HasReference serves c (number (found_reference scope name))
  reference_named serves name h = go (found_reference scope name) refl h
    where
      go : (o : Option (ℕ × ScopeReference)) → found_reference scope name ≡ o → reference_fault serves o ≡ None → HasReference serves c (number o)
      go None e k = absurd cc
      go (Some r) e k =
          let x = fits.references r.0 r.1 (found_number (λ (a : ScopeReference). same_name a.name name) scope.references.items r e) in
          record { names = x.0; is = x.1; kind = subst (λ q. serves q ≡ true) x.2 (serving (serves r.1.kind) k) }
        where
          serving : (b : Bool) → cond b None (Some faults.UnknownName) ≡ None → b ≡ true
          serving true same = refl
          serving false same = absurd cc

  register_named : (name : List ℕ) → naming_fault (found_port scope name) ≡ None → CanRegister c (number (found_port scope name))
  register_named name h = go (found_port scope name) refl h
    where
      go : (o : Option (ℕ × ScopePort)) → found_port scope name ≡ o → naming_fault o ≡ None → CanRegister c (number o)
      go None e k = absurd cc
      go (Some p) e k =
          let x = fits.ports p.0 p.1 (found_number (λ (a : ScopePort). same_name a.name name) scope.ports.items p e) in
          record { names = x.0; has = record { is = x.1; kind = subst (λ q. takes_names q ≡ true) x.2.kind (serving (takes_names p.1.kind) k) } }
        where
          serving : (b : Bool) → cond b None (Some faults.WrongPort) ≡ None → b ≡ true
          serving true same = refl
          serving false same = absurd cc

  -- ---- expressions

  mutual
    pub expression_named : (e : named.ExprTree) → expr_fault scope e ≡ None → ExpressionNames (numbers_in scope) (numbered_expr scope e)
    expression_named (named.a_number n) h = tt
    expression_named named.the_true h = tt
    expression_named named.the_false h = tt
    expression_named (named.a_datum None) h = tt
    expression_named (named.a_datum (Some k)) h = tt
    expression_named named.the_place h = tt
    expression_named named.the_self h = tt
    expression_named (named.an_attribute path) h = attribute_named path h
    expression_named (named.a_paren e) h = expression_named e h
    expression_named (named.a_unary op e) h = expression_named e h
    expression_named (named.a_chain e steps) h =
        let both = both_clear (expr_fault scope e) (steps_fault scope steps) h in (expression_named e both.0, steps_named steps both.1)

    steps_named : (steps : named.Steps) → steps_fault scope steps ≡ None → StepsName (numbers_in scope) (numbered_steps scope steps)
    steps_named named.no_step h = tt
    steps_named (named.a_step op e steps) h =
        let both = both_clear (expr_fault scope e) (steps_fault scope steps) h in (expression_named e both.0, steps_named steps both.1)

  index_named : (o : Option named.ExprTree) → index_fault scope o ≡ None → ExpressionNames (numbers_in scope) (numbered_index scope o)
  index_named None h = tt
  index_named (Some e) h = expression_named e h

  place_named : (o : Option named.ExprTree) → index_fault scope o ≡ None → IfAnyNames (numbers_in scope) (option_map (numbered_expr scope) o)
  place_named None h = tt
  place_named (Some e) h = expression_named e h

  arguments_named : (ts : List NumberType) (es : List named.ExprTree) → exprs_fault scope es ≡ None → ArgumentsName (numbers_in scope) (numbered_arguments scope ts es)
  arguments_named [] es h = tt
  arguments_named (t ∷ ts) [] h = tt
  arguments_named (t ∷ ts) (e ∷ es) h =
      let both = both_clear (expr_fault scope e) (exprs_fault scope es) h in (expression_named e both.0, arguments_named ts es both.1)

  as_many_arguments : (ts : List NumberType) (es : List named.ExprTree) → length es ≡ length ts → length (numbered_arguments scope ts es) ≡ length ts
  as_many_arguments [] es h = refl
  as_many_arguments (t ∷ ts) [] h = absurd (omega arith)
  as_many_arguments (t ∷ ts) (e ∷ es) h = ap suc (as_many_arguments ts es (omega arith))

  -- ---- sends

  -- the message of a send whose port is found or not
  abbrev sent_at : named.SendTree → Option (ℕ × ScopePort) → Option (ℕ × ScopeSignal)
  sent_at s o = option_and_then (λ p. found_sent p.1 s.signal) o

  record PartsNamed (s : named.SendTree) (port : ℕ) (m : Option (ℕ × ScopeSignal)) : Type 0 where
    message : CanSend c port (number m) (length (numbered_arguments scope (types_of m) s.arguments))
    place : IfAnyNames (numbers_in scope) (option_map (numbered_expr scope) s.place)
    arguments : ArgumentsName (numbers_in scope) (numbered_arguments scope (types_of m) s.arguments)

  message_named : (s : named.SendTree) (p : ℕ × ScopePort) → slice_get scope.ports.items p.0 ≡ Some p.1 → can_send p.1.kind ≡ true
      → index_fault scope s.place ≡ None → (m : Option (ℕ × ScopeSignal)) → found_sent p.1 s.signal ≡ m → message_fault scope s.arguments m ≡ None
      → PartsNamed s p.0 m
  message_named s p at sends clear None e h = absurd cc
  message_named s p at sends clear (Some m) e h = by_count (length s.arguments == length m.1.numbers.items) refl h
    where
      by_count : (b : Bool) → (length s.arguments == length m.1.numbers.items) ≡ b → cond b (exprs_fault scope s.arguments) (Some faults.WrongArgs) ≡ None
          → PartsNamed s p.0 (Some m)
      by_count false same k = absurd cc
      by_count true same k =
          let x = fits.ports p.0 p.1 at in
          let y = sent_found p.1 x.0 x.2 s.signal m e in
          let many = as_many_arguments m.1.numbers.items s.arguments (eqb-true (length s.arguments) (length m.1.numbers.items) same) in
          record {
            message = record {
              names = x.0;
              has = record { is = x.1; kind = subst (λ q. can_send q ≡ true) x.2.kind sends };
              sent = y.0;
              goes = y.1;
              carries = many ∙ y.2;
            };
            place = place_named s.place clear;
            arguments = arguments_named m.1.numbers.items s.arguments k;
          }

  port_named : (s : named.SendTree) (o : Option (ℕ × ScopePort)) → found_port scope s.port ≡ o → port_fault scope s o ≡ None → PartsNamed s (number o) (sent_at s o)
  port_named s None e h = absurd cc
  port_named s (Some p) e h = by_kind (can_send p.1.kind) refl h
    where
      by_kind : (b : Bool) → can_send p.1.kind ≡ b
          → cond b (index_fault scope s.place then message_fault scope s.arguments (found_sent p.1 s.signal)) (Some faults.WrongPort) ≡ None
          → PartsNamed s p.0 (found_sent p.1 s.signal)
      by_kind false is k = absurd cc
      by_kind true is k =
          let both = both_clear (index_fault scope s.place) (message_fault scope s.arguments (found_sent p.1 s.signal)) k in
          message_named s p (found_number (λ (a : ScopePort). same_name a.name s.port) scope.ports.items p e) is both.0 (found_sent p.1 s.signal) refl both.1

  send_named : (s : named.SendTree) → IsSend s → send_fault scope s ≡ None → SendNames c (numbers_in scope) (numbered_send scope s)
  send_named s formed h =
      let parts = port_named s (found_port scope s.port) refl h in
      record { message = parts.message; place = parts.place; arguments = parts.arguments; least = least_prio s.prio formed.2; most = most_prio s.prio formed.2 }

  -- ---- statements

  mutual
    statement_named : (names : List (List ℕ)) (s : named.StmtTree) → IsStmt s → stmt_fault scope s ≡ None → StatementNames c (numbers_in scope) (numbered_stmt scope names s)
    statement_named names named.empty formed h = tt
    statement_named names (named.assign path e) formed h =
        let both = both_clear (attribute_fault (found_attribute scope path)) (expr_fault scope e) h in (attribute_named path both.0, expression_named e both.1)
    statement_named names (named.choose branches otherwise) formed h =
        let both = both_clear (branches_fault scope branches) (else_fault scope otherwise) h in
        (branches_named names branches formed.1 both.0, else_named (branches_names branches names) otherwise formed.2 both.1)
    statement_named names (named.repeat n body) formed h = program_named names body formed h
    statement_named names (named.send s) formed h = send_named s formed h
    statement_named names named.defer formed h = tt
    statement_named names named.recall formed h = tt
    statement_named names named.recall_all formed h = tt
    statement_named names (named.frame verb reference index) formed h =
        let both = both_clear (reference_fault (takes_verb verb) (found_reference scope reference)) (index_fault scope index) h in
        (reference_named (takes_verb verb) reference both.0, index_named index both.1)
    statement_named names (named.import_at reference index id) formed h =
        let both = both_clear (reference_fault takes_import (found_reference scope reference)) (index_fault scope index then expr_fault scope id) h in
        let more = both_clear (index_fault scope index) (expr_fault scope id) both.1 in
        (reference_named takes_import reference both.0, index_named index more.0, expression_named id more.1)
    statement_named names (named.register port name) formed h = register_named port h
    statement_named names (named.withdraw port) formed h = register_named port h

    pub program_named : (names : List (List ℕ)) (ss : named.Stmts) → AreStmts ss → stmts_fault scope ss ≡ None → ProgramNames c (numbers_in scope) (numbered_stmts scope names ss)
    program_named names named.no_stmt formed h = tt
    program_named names (named.a_stmt s rest) formed h =
        let both = both_clear (stmt_fault scope s) (stmts_fault scope rest) h in
        (statement_named names s formed.0 both.0, program_named (stmt_names s names) rest formed.1 both.1)

    branches_named : (names : List (List ℕ)) (bs : named.Branches) → AreBranches bs → branches_fault scope bs ≡ None → BranchesName c (numbers_in scope) (numbered_branches scope names bs)
    branches_named names named.no_branch formed h = tt
    branches_named names (named.a_branch e body rest) formed h =
        let both = both_clear (expr_fault scope e) (stmts_fault scope body then branches_fault scope rest) h in
        let more = both_clear (stmts_fault scope body) (branches_fault scope rest) both.1 in
        (expression_named e both.0, program_named names body formed.1 more.0, branches_named (stmts_names body names) rest formed.2 more.1)

    else_named : (names : List (List ℕ)) (o : named.Otherwise) → IsElse o → else_fault scope o ≡ None → ProgramNames c (numbers_in scope) (numbered_else scope names o)
    else_named names named.no_else formed h = tt
    else_named names (named.an_else body) formed h = program_named names body formed h
