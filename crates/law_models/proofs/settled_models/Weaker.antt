-- Where the commands that tables may ask for pass a test, they pass each weaker one.
use Rattle.std.proofs.Common.{◌≡◌, ℕ, ◌≤◌, nat_le, Bool, true, not, List, [], ◌∷◌, refl, ap, arith, leb-true, lt-ltb}
use Rattle.std.specs.List.{AllByRecursion as Each}
use Rattle.std.proofs.lemmas.Bool.{and_parts, ne_eqb}
use Rattle.room_kinds.specs.declared.command.Command.{Command}
use Rattle.room_kinds.specs.declared.command.Command.TheVariants as commands
use Rattle.action_program.specs.Numbered.{StmtTree, empty, assign, choose, repeat, send, defer, recall, recall_all, frame, import_at, register, withdraw, Stmts, no_stmt, a_stmt, Branches, no_branch, a_branch}
use Rattle.action_program.specs.Meaning.{send_command, frame_command}
use Rattle.room_kinds.specs.declared.command.FrameCommand.TheVariants as frames
use Rattle.room_kinds.specs.declared.command.NameCommand.TheVariants as names
use Rattle.chart_model.specs.chart_plan.Plan.{Kind, Simple, Border, Choice, Entry, Exit}
use Rattle.chart_run.specs.chart_tables.Tables.{ArrowTree, plan}
use Rattle.chart_run.specs.declared.chart_tables.tables.Tables.{Tables}
use Rattle.chart_behaviour.specs.Asked.{is_open}
use Rattle.chart_behaviour.specs.chart_asks.Asking.{StatementAsks, ProgramAsks, BranchesAsk, ArrowAsks, GoesOn, TablesAsk}
use Rattle.chart_behaviour.specs.sends.Sends.{is_ranked}
use Rattle.law_models.specs.settled_models.Open.{is_worded}

module _ (test weaker : Command → Bool) (implies : (c : Command) → test c ≡ true → weaker c ≡ true) where
  mutual
    statement_weaker : (s : StmtTree) → StatementAsks test s → StatementAsks weaker s
    statement_weaker empty h = tt
    statement_weaker (assign k kind e) h = tt
    statement_weaker (choose branches otherwise) h = (branches_weaker branches h.0, program_weaker otherwise h.1)
    statement_weaker (repeat n body) h = program_weaker body h
    statement_weaker (send s) h = λ vars at. implies (send_command s vars at) (h vars at)
    statement_weaker defer h = implies commands.Defer h
    statement_weaker recall h = implies commands.Recall h
    statement_weaker recall_all h = implies commands.RecallAll h
    statement_weaker (frame verb reference e) h = λ index. implies (commands.Frame (frame_command verb reference index)) (h index)
    statement_weaker (import_at reference e f) h = λ index id. implies (commands.Frame (frames.Import reference index id)) (h index id)
    statement_weaker (register port name) h = implies (commands.Name (names.Register port name)) h
    statement_weaker (withdraw port) h = implies (commands.Name (names.Withdraw port)) h

    program_weaker : (ss : Stmts) → ProgramAsks test ss → ProgramAsks weaker ss
    program_weaker no_stmt h = tt
    program_weaker (a_stmt s rest) h = (statement_weaker s h.0, program_weaker rest h.1)

    branches_weaker : (bs : Branches) → BranchesAsk test bs → BranchesAsk weaker bs
    branches_weaker no_branch h = tt
    branches_weaker (a_branch e body rest) h = (program_weaker body h.0, branches_weaker rest h.1)

  arrow_weaker : (a : ArrowTree) → ArrowAsks test a → ArrowAsks weaker a
  arrow_weaker a h = program_weaker a.action h

  arrows_weaker : (ts : List ArrowTree) → Each (ArrowAsks test) ts → Each (ArrowAsks weaker) ts
  arrows_weaker [] h = tt
  arrows_weaker (t ∷ ts) h = (arrow_weaker t h.0, arrows_weaker ts h.1)

  node_weaker : (k : Kind ℕ ArrowTree) → GoesOn (ArrowAsks test) k → GoesOn (ArrowAsks weaker) k
  node_weaker (Simple s) h = tt
  node_weaker (Border s t) h = arrow_weaker t h
  node_weaker (Choice ts t) h = (arrows_weaker ts h.0, arrow_weaker t h.1)
  node_weaker (Entry s t) h = arrow_weaker t h
  node_weaker (Exit s t) h = arrow_weaker t h

  pub tables_weaker : (v : Tables) → TablesAsk test v → TablesAsk weaker v
  tables_weaker v h = record {
    entry = λ s. program_weaker ((plan v).entry s) (h.entry s);
    exit = λ s. program_weaker ((plan v).exit s) (h.exit s);
    tried = λ s. arrows_weaker ((plan v).tried s) (h.tried s);
    nodes = λ n. node_weaker ((plan v).node n) (h.nodes n);
    initial = program_weaker _ h.initial;
  }

-- who sends at a priority that has a word doesn't send at the system level
pub worded_open : (c : Command) → is_worded c ≡ true → is_open c ≡ true
worded_open (commands.Send p k signal payload prio) h =
    let least : 1 ≤ prio.0 = leb-true 1 prio.0 (and_parts (nat_le 1 prio.0) (nat_le prio.0 5) h).0 in
    ap not (ne_eqb prio.0 0 (λ e. omega (arith, least, e)))
worded_open commands.Defer h = refl
worded_open commands.Recall h = refl
worded_open commands.RecallAll h = refl
worded_open (commands.Frame c) h = refl
worded_open (commands.Name c) h = refl

-- but at one of the six priorities
pub worded_ranked : (c : Command) → is_worded c ≡ true → is_ranked c ≡ true
worded_ranked (commands.Send p k signal payload prio) h =
    let most : prio.0 ≤ 5 = leb-true prio.0 5 (and_parts (nat_le 1 prio.0) (nat_le prio.0 5) h).1 in
    lt-ltb prio.0 6 (omega (arith, most))
worded_ranked commands.Defer h = refl
worded_ranked commands.Recall h = refl
worded_ranked commands.RecallAll h = refl
worded_ranked (commands.Frame c) h = refl
worded_ranked (commands.Name c) h = refl
