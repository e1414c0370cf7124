-- The first fault of a program in the order of its text, against the scope of a class.
use Rattle.std.specs.Prelude.{ℕ, Bool, true, false, ◌==◌, List, [], ◌∷◌, length, Option, Some, None, if◌then◌else◌}
use Rattle.room_kinds.specs.declared.structure.PortKind.{PortKind}
use Rattle.room_kinds.specs.declared.structure.PortKind.TheVariants as ports
use Rattle.room_kinds.specs.declared.structure.ReferenceKind.{ReferenceKind}
use Rattle.room_kinds.specs.declared.structure.ReferenceKind.TheVariants as references
use Rattle.room_ast.specs.declared.scope.Scope.{Scope}
use Rattle.room_ast.specs.declared.scope.ScopeAttribute.{ScopeAttribute}
use Rattle.room_ast.specs.declared.scope.ScopePort.{ScopePort}
use Rattle.room_ast.specs.declared.scope.ScopeReference.{ScopeReference}
use Rattle.room_ast.specs.declared.scope.ScopeSignal.{ScopeSignal}
use Rattle.room_ast.specs.Found.{found_attribute, found_port, found_reference, found_sent}
use Rattle.action_program.specs.declared.fault.ActionFault.{ActionFault}
use Rattle.action_program.specs.declared.fault.ActionFault.TheVariants as faults
use Rattle.action_program.specs.declared.operator.FrameVerb.{FrameVerb}
use Rattle.action_program.specs.declared.operator.FrameVerb.TheVariants as verbs
use Rattle.action_program.specs.Named as named
use Rattle.action_program.specs.Named.{ExprTree, Steps, SendTree, StmtTree, Stmts, Branches, Otherwise}

-- The first fault of two texts, one behind the other.
infixr 30 ◌then◌
abbrev pub ◌then◌ : Option ActionFault → Option ActionFault → Option ActionFault
(None then later) = later
(Some fault then later) = Some fault

-- ---- expressions

-- What isn't found is unknown.
abbrev pub attribute_fault : Option (ℕ × ScopeAttribute) → Option ActionFault
attribute_fault None = Some faults.UnknownName
attribute_fault (Some a) = None

abbrev mutual
  -- The first fault of an expression: an attribute that isn't one number of the class.
  pub expr_fault : Scope → ExprTree → Option ActionFault
  expr_fault scope (named.a_number n) = None
  expr_fault scope named.the_true = None
  expr_fault scope named.the_false = None
  expr_fault scope (named.a_datum k) = None
  expr_fault scope named.the_place = None
  expr_fault scope named.the_self = None
  expr_fault scope (named.an_attribute path) = attribute_fault (found_attribute scope path)
  expr_fault scope (named.a_paren e) = expr_fault scope e
  expr_fault scope (named.a_unary op e) = expr_fault scope e
  expr_fault scope (named.a_chain e steps) = expr_fault scope e then steps_fault scope steps

  -- The first fault of the rest of a chain.
  pub steps_fault : Scope → Steps → Option ActionFault
  steps_fault scope named.no_step = None
  steps_fault scope (named.a_step op e steps) = expr_fault scope e then steps_fault scope steps

-- The first fault of an expression that may be missing.
abbrev pub index_fault : Scope → Option ExprTree → Option ActionFault
index_fault scope None = None
index_fault scope (Some e) = expr_fault scope e

-- The first fault of a list of expressions.
abbrev pub exprs_fault : Scope → List ExprTree → Option ActionFault
exprs_fault scope [] = None
exprs_fault scope (e ∷ es) = expr_fault scope e then exprs_fault scope es

-- ---- statements

-- Whether an actor can send at such a port.
abbrev pub can_send : PortKind → Bool
can_send ports.Frame = false
can_send ports.Relay = false
can_send ports.End = true
can_send ports.Internal = true
can_send ports.Sap = true
can_send ports.Spp = true

-- Whether such a port can be registered under a service name.
abbrev pub takes_names : PortKind → Bool
takes_names ports.Frame = false
takes_names ports.Relay = false
takes_names ports.End = false
takes_names ports.Internal = false
takes_names ports.Sap = true
takes_names ports.Spp = true

-- Whether a reference is of the kind that the verb needs.
abbrev pub takes_verb : FrameVerb → ReferenceKind → Bool
takes_verb verbs.Incarnate references.Fixed = false
takes_verb verbs.Incarnate references.Optional = true
takes_verb verbs.Incarnate references.Imported = false
takes_verb verbs.Destroy references.Fixed = false
takes_verb verbs.Destroy references.Optional = true
takes_verb verbs.Destroy references.Imported = false
takes_verb verbs.Deport references.Fixed = false
takes_verb verbs.Deport references.Optional = false
takes_verb verbs.Deport references.Imported = true

-- Whether a reference can be filled by an import.
abbrev pub takes_import : ReferenceKind → Bool
takes_import references.Fixed = false
takes_import references.Optional = false
takes_import references.Imported = true

-- A message that doesn't go out at the port, or has another number of numbers; else the arguments' first fault.
abbrev pub message_fault : Scope → List ExprTree → Option (ℕ × ScopeSignal) → Option ActionFault
message_fault scope arguments None = Some faults.WrongPort
message_fault scope arguments (Some m) = if length arguments == length m.1.numbers.items then exprs_fault scope arguments else Some faults.WrongArgs

-- A port that isn't there or at which nothing can be sent; else the first fault behind it: the place's, the message's, the arguments'.
abbrev pub port_fault : Scope → SendTree → Option (ℕ × ScopePort) → Option ActionFault
port_fault scope s None = Some faults.UnknownName
port_fault scope s (Some p) = if can_send p.1.kind then (index_fault scope s.place then message_fault scope s.arguments (found_sent p.1 s.signal)) else Some faults.WrongPort

-- The first fault of a send.
abbrev pub send_fault : Scope → SendTree → Option ActionFault
send_fault scope s = port_fault scope s (found_port scope s.port)

-- A reference that isn't there, or is of another kind.
abbrev pub reference_fault : (ReferenceKind → Bool) → Option (ℕ × ScopeReference) → Option ActionFault
reference_fault fits None = Some faults.UnknownName
reference_fault fits (Some r) = if fits r.1.kind then None else Some faults.UnknownName

-- A port that isn't there, or can't be registered.
abbrev pub naming_fault : Option (ℕ × ScopePort) → Option ActionFault
naming_fault None = Some faults.UnknownName
naming_fault (Some p) = if takes_names p.1.kind then None else Some faults.WrongPort

abbrev mutual
  -- The first fault of a statement.
  pub stmt_fault : Scope → StmtTree → Option ActionFault
  stmt_fault scope named.empty = None
  stmt_fault scope (named.assign path e) = attribute_fault (found_attribute scope path) then expr_fault scope e
  stmt_fault scope (named.choose branches otherwise) = branches_fault scope branches then else_fault scope otherwise
  stmt_fault scope (named.repeat n body) = stmts_fault scope body
  stmt_fault scope (named.send s) = send_fault scope s
  stmt_fault scope named.defer = None
  stmt_fault scope named.recall = None
  stmt_fault scope named.recall_all = None
  stmt_fault scope (named.frame verb reference index) = reference_fault (takes_verb verb) (found_reference scope reference) then index_fault scope index
  stmt_fault scope (named.import_at reference index id) = reference_fault takes_import (found_reference scope reference) then index_fault scope index then expr_fault scope id
  stmt_fault scope (named.register port name) = naming_fault (found_port scope port)
  stmt_fault scope (named.withdraw port) = naming_fault (found_port scope port)

  -- The first fault of statements.
  pub stmts_fault : Scope → Stmts → Option ActionFault
  stmts_fault scope named.no_stmt = None
  stmts_fault scope (named.a_stmt s rest) = stmt_fault scope s then stmts_fault scope rest

  -- The first fault of conditions and their blocks.
  pub branches_fault : Scope → Branches → Option ActionFault
  branches_fault scope named.no_branch = None
  branches_fault scope (named.a_branch e body rest) = expr_fault scope e then stmts_fault scope body then branches_fault scope rest

  -- The first fault of a last block.
  pub else_fault : Scope → Otherwise → Option ActionFault
  else_fault scope named.no_else = None
  else_fault scope (named.an_else body) = stmts_fault scope body
