-- What programs may ask for, whatever numbers they have at hand.
use Rattle.std.specs.Prelude.{◌≡◌, ℕ, ℤ, Bool, true, List}
use Rattle.std.specs.List.{AllByRecursion}
use Rattle.room_kinds.specs.declared.command.Command.{Command}
use Rattle.room_kinds.specs.declared.command.Command.TheVariants as commands
use Rattle.room_kinds.specs.declared.command.FrameCommand.TheVariants as frames
use Rattle.room_kinds.specs.declared.command.NameCommand.TheVariants as names
use Rattle.action_program.specs.declared.moment.Moment.{Moment}
use Rattle.action_program.specs.Meaning.{send_command, frame_command}
use Rattle.action_program.specs.Numbered.{StmtTree, empty, assign, choose, repeat, send, defer, recall, recall_all, frame, import_at, register, withdraw, Stmts, no_stmt, a_stmt, Branches, no_branch, a_branch}
use Rattle.chart_model.specs.chart_plan.Plan.{Kind, Simple, Border, Choice, Entry, Exit}
use Rattle.chart_run.specs.chart_tables.Tables.{ArrowTree, arrow_view, plan}
use Rattle.chart_run.specs.declared.chart_tables.tables.Tables.{Tables}

abbrev mutual
  -- each command that a statement may ask for passes a test
  pub StatementAsks : (Command → Bool) → StmtTree → Type 0
  StatementAsks test empty = Unit {0}
  StatementAsks test (assign k kind e) = Unit {0}
  StatementAsks test (choose branches otherwise) = BranchesAsk test branches × ProgramAsks test otherwise
  StatementAsks test (repeat n body) = ProgramAsks test body
  StatementAsks test (send s) = (vars : List ℤ) (at : Moment) → test (send_command s vars at) ≡ true
  StatementAsks test defer = test commands.Defer ≡ true
  StatementAsks test recall = test commands.Recall ≡ true
  StatementAsks test recall_all = test commands.RecallAll ≡ true
  StatementAsks test (frame verb reference e) = (index : ℤ) → test (commands.Frame (frame_command verb reference index)) ≡ true
  StatementAsks test (import_at reference e f) = (index id : ℤ) → test (commands.Frame (frames.Import reference index id)) ≡ true
  StatementAsks test (register port name) = test (commands.Name (names.Register port name)) ≡ true
  StatementAsks test (withdraw port) = test (commands.Name (names.Withdraw port)) ≡ true

  -- the same of a program
  pub ProgramAsks : (Command → Bool) → Stmts → Type 0
  ProgramAsks test no_stmt = Unit {0}
  ProgramAsks test (a_stmt s rest) = StatementAsks test s × ProgramAsks test rest

  -- the same of the branches of a choice
  pub BranchesAsk : (Command → Bool) → Branches → Type 0
  BranchesAsk test no_branch = Unit {0}
  BranchesAsk test (a_branch e body rest) = ProgramAsks test body × BranchesAsk test rest

-- the same of a transition's action
abbrev pub ArrowAsks : (Command → Bool) → ArrowTree → Type 0
ArrowAsks test t = ProgramAsks test t.action

-- the transitions that go on at a node have this in common
abbrev pub GoesOn : {S T : Type 0} → (T → Type 0) → Kind S T → Type 0
GoesOn Q (Simple s) = Unit {0}
GoesOn Q (Border s t) = Q t
GoesOn Q (Choice ts t) = AllByRecursion Q ts × Q t
GoesOn Q (Entry s t) = Q t
GoesOn Q (Exit s t) = Q t

-- each command that an actor with these tables may ask for passes a test: so do those of its states, of the
-- transitions that are tried, of those that go on at a node, and of the initial one
pub record TablesAsk (test : Command → Bool) (v : Tables) : Type 0 where
  pub entry : (s : ℕ) → ProgramAsks test ((plan v).entry s)
  pub exit : (s : ℕ) → ProgramAsks test ((plan v).exit s)
  pub tried : (s : ℕ) → AllByRecursion (ArrowAsks test) ((plan v).tried s)
  pub nodes : (n : ℕ) → GoesOn (ArrowAsks test) ((plan v).node n)
  pub initial : ArrowAsks test (arrow_view v.initial)
