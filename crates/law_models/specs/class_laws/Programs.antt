-- What the programs and conditions of a class name: its ports and their messages, its references, its attributes, and priorities.
-- A class is seen by the names that the wiring has of it, and by how many numbers its attributes stand for.
-- `TablesName`: whatever an actor of the class runs names what the class has.
use Rattle.std.specs.Prelude.{◌≡◌, ℕ, ◌+◌, ◌<◌, ◌≤◌, Bool, true, List, Option, Some, None, length, slice_get, if◌then◌else◌}
use Rattle.std.specs.List.{AllByRecursion}
use Rattle.room_kinds.specs.declared.structure.PortKind.{PortKind}
use Rattle.room_kinds.specs.declared.structure.ReferenceKind.{ReferenceKind}
use Rattle.room_wiring.specs.declared.names.ClassNames.{ClassNames}
use Rattle.room_wiring.specs.declared.names.PortNames.{PortNames}
use Rattle.room_wiring.specs.declared.names.RefNames.{RefNames}
use Rattle.room_wiring.specs.declared.names.SignalNames.{SignalNames}
use Rattle.action_program.specs.Numbered.{ExprTree, a_number, a_datum, the_place, the_self, an_attribute, a_unary, a_chain, Steps, no_step, a_step, ArgumentTree, SendTree, StmtTree, empty, assign, choose, repeat, send, defer, recall, recall_all, frame, import_at, register, withdraw, Stmts, no_stmt, a_stmt, Branches, no_branch, a_branch}
use Rattle.action_lang.specs.action_check.Faults.{can_send, takes_names, takes_verb, takes_import}
use Rattle.chart_model.specs.chart_plan.Plan.{Trigger}
use Rattle.chart_model.specs.Chart.{Event, Transition, State, Graph, Chart}
use Rattle.chart_trees.specs.chart_codes.Events.{takes_messages}
use Rattle.chart_run.specs.chart_tables.Tables.{ArrowTree, arrow_view, plan}
use Rattle.chart_run.specs.declared.chart_tables.tables.Tables.{Tables}
use Rattle.chart_behaviour.specs.chart_asks.Asking.{GoesOn}

-- ---- ports and references

-- a class has a port of this number, of a kind that serves
pub record HasPort (serves : PortKind → Bool) (c : ClassNames) (port : ℕ) (names : PortNames) : Type 0 where
  pub is : slice_get c.ports port ≡ Some names
  pub kind : serves names.kind ≡ true

-- a class has a reference of this number, of a kind that serves
pub record HasReference (serves : ReferenceKind → Bool) (c : ClassNames) (reference : ℕ) : Type 0 where
  pub names : RefNames
  pub is : slice_get c.references reference ≡ Some names
  pub kind : serves names.kind ≡ true

-- the messages that go out at a port, and the number of the first of them
abbrev pub going : PortNames → List SignalNames
going x = if x.conjugated then x.incoming else x.outgoing

abbrev pub first_going : PortNames → ℕ
first_going x = if x.conjugated then 0 else length x.incoming

-- those that come in
abbrev pub coming : PortNames → List SignalNames
coming x = if x.conjugated then x.outgoing else x.incoming

abbrev pub first_coming : PortNames → ℕ
first_coming x = if x.conjugated then length x.incoming else 0

-- among messages that are numbered from here this number is that of one, with these names
pub record IsNumbered (first : ℕ) (messages : List SignalNames) (number : ℕ) (names : SignalNames) : Type 0 where
  pub place : ℕ
  pub is : slice_get messages place ≡ Some names
  pub number_is : number ≡ first + place

-- a class can send this message at this port, with so many numbers
pub record CanSend (c : ClassNames) (port message numbers : ℕ) : Type 0 where
  pub names : PortNames
  pub has : HasPort can_send c port names
  pub sent : SignalNames
  pub goes : IsNumbered (first_going names) (going names) message sent
  pub carries : numbers ≡ length sent.numbers

-- a class can register this port under a service name
pub record CanRegister (c : ClassNames) (port : ℕ) : Type 0 where
  pub names : PortNames
  pub has : HasPort takes_names c port names

-- a class can receive the message of an event at its port
pub record CanReceive (c : ClassNames) (e : Event) : Type 0 where
  pub names : PortNames
  pub has : HasPort takes_messages c e.port names
  pub received : SignalNames
  pub comes : IsNumbered (first_coming names) (coming names) e.signal received

-- ---- expressions

abbrev mutual
  -- each attribute that an expression names is one of so many numbers
  pub ExpressionNames : ℕ → ExprTree → Type 0
  ExpressionNames n (a_number x) = Unit {0}
  ExpressionNames n (a_datum k) = Unit {0}
  ExpressionNames n the_place = Unit {0}
  ExpressionNames n the_self = Unit {0}
  ExpressionNames n (an_attribute k) = k < n
  ExpressionNames n (a_unary op e) = ExpressionNames n e
  ExpressionNames n (a_chain e steps) = ExpressionNames n e × StepsName n steps

  pub StepsName : ℕ → Steps → Type 0
  StepsName n no_step = Unit {0}
  StepsName n (a_step op e steps) = ExpressionNames n e × StepsName n steps

-- the same of an expression that may be missing
abbrev pub IfAnyNames : ℕ → Option ExprTree → Type 0
IfAnyNames n None = Unit {0}
IfAnyNames n (Some e) = ExpressionNames n e

-- the same of the numbers of a message
abbrev pub ArgumentsName : ℕ → List ArgumentTree → Type 0
ArgumentsName n arguments = AllByRecursion (λ (a : ArgumentTree). ExpressionNames n a.value) arguments

-- ---- programs

-- a send names a message that the class can send, at a priority from 1 to 5
pub record SendNames (c : ClassNames) (n : ℕ) (s : SendTree) : Type 0 where
  pub message : CanSend c s.port s.signal (length s.arguments)
  pub place : IfAnyNames n s.place
  pub arguments : ArgumentsName n s.arguments
  pub least : 1 ≤ s.prio.0
  pub most : s.prio.0 ≤ 5

abbrev mutual
  -- each name in a statement is that of something that the class has
  pub StatementNames : ClassNames → ℕ → StmtTree → Type 0
  StatementNames c n empty = Unit {0}
  StatementNames c n (assign k kind e) = (k < n) × ExpressionNames n e
  StatementNames c n (choose branches otherwise) = BranchesName c n branches × ProgramNames c n otherwise
  StatementNames c n (repeat times body) = ProgramNames c n body
  StatementNames c n (send s) = SendNames c n s
  StatementNames c n defer = Unit {0}
  StatementNames c n recall = Unit {0}
  StatementNames c n recall_all = Unit {0}
  StatementNames c n (frame verb reference index) = HasReference (takes_verb verb) c reference × ExpressionNames n index
  StatementNames c n (import_at reference index id) = HasReference takes_import c reference × ExpressionNames n index × ExpressionNames n id
  StatementNames c n (register port name) = CanRegister c port
  StatementNames c n (withdraw port) = CanRegister c port

  -- the same of a program
  pub ProgramNames : ClassNames → ℕ → Stmts → Type 0
  ProgramNames c n no_stmt = Unit {0}
  ProgramNames c n (a_stmt s rest) = StatementNames c n s × ProgramNames c n rest

  -- the same of conditions and their blocks
  pub BranchesName : ClassNames → ℕ → Branches → Type 0
  BranchesName c n no_branch = Unit {0}
  BranchesName c n (a_branch e body rest) = ExpressionNames n e × ProgramNames c n body × BranchesName c n rest

-- ---- charts and tables

-- the events and the guard of a trigger name what the class has
pub record TriggerNames (c : ClassNames) (n : ℕ) (t : Trigger Event ExprTree) : Type 0 where
  pub events : AllByRecursion (CanReceive c) t.events
  pub guard : IfAnyNames n t.guard

-- so do the parts of a transition
pub record PartsName (c : ClassNames) (n : ℕ) (triggers : List (Trigger Event ExprTree)) (condition : Option ExprTree) (action : Stmts) : Type 0 where
  pub triggers_name : AllByRecursion (TriggerNames c n) triggers
  pub condition_names : IfAnyNames n condition
  pub action_names : ProgramNames c n action

abbrev pub TransitionNames : ClassNames → ℕ → Transition → Type 0
TransitionNames c n t = PartsName c n t.triggers t.condition t.action

abbrev pub StateNames : ClassNames → ℕ → State → Type 0
StateNames c n s = ProgramNames c n s.entry × ProgramNames c n s.exit

abbrev pub GraphNames : ClassNames → ℕ → Graph → Type 0
GraphNames c n g = AllByRecursion (StateNames c n) g.states × AllByRecursion (TransitionNames c n) g.transitions

-- all programs and conditions of a chart, and the events of its triggers, name what the class has
abbrev pub ChartNames : ClassNames → Chart → Type 0
ChartNames c chart = AllByRecursion (GraphNames c (length chart.values)) chart.graphs

-- how many numbers an actor with these tables has
abbrev pub numbers_of : Tables → ℕ
numbers_of v = length v.values.items

abbrev pub ArrowNames : ClassNames → ℕ → ArrowTree → Type 0
ArrowNames c n a = PartsName c n a.triggers a.condition a.action

-- the same of tables: of the actions of the states, of the transitions that are tried, of those that go on at a node, and of the initial one
pub record TablesName (c : ClassNames) (v : Tables) : Type 0 where
  pub entry : (s : ℕ) → ProgramNames c (numbers_of v) ((plan v).entry s)
  pub exit : (s : ℕ) → ProgramNames c (numbers_of v) ((plan v).exit s)
  pub tried : (s : ℕ) → AllByRecursion (ArrowNames c (numbers_of v)) ((plan v).tried s)
  pub nodes : (k : ℕ) → GoesOn (ArrowNames c (numbers_of v)) ((plan v).node k)
  pub initial : ArrowNames c (numbers_of v) (arrow_view v.initial)
