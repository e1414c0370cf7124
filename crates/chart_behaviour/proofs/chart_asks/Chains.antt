-- The laws of chains.
use Rattle.std.proofs.Common.{◌≡◌, ℕ, ℤ, ◌&&◌, Bool, true, false, cond, List, [], ◌∷◌, refl, ap}
use Rattle.std.specs.List.{list_all, list_any, AllByRecursion}
use Rattle.room_kinds.specs.declared.command.Command.{Command}
use Rattle.action_program.specs.declared.moment.Moment.{Moment}
use Rattle.action_program.specs.Meaning.{Ran, notes_of}
use Rattle.action_program.specs.Numbered.{StmtTree, empty, assign, choose, repeat, send, defer, recall, recall_all, frame, import_at, register, withdraw, Stmts, no_stmt, a_stmt, Branches, no_branch, a_branch}
use Rattle.chart_model.specs.chart_plan.Plan.{Kind, Simple, Border, Choice, Entry, Exit}
use Rattle.chart_model.specs.chart_plan.Handling.{handling}
use Rattle.chart_model.specs.Acting.{acting, Standing, Handled, Deferred, Unhandled, Acted, quiet, result_of, memory_of, is_defer, handles_by, starts_by}
use Rattle.chart_model.specs.Chart.{Event}
use Rattle.chart_run.specs.chart_tables.Tables.{ArrowTree, plan, arrow_view}
use Rattle.chart_run.specs.declared.chart_tables.tables.Tables.{Tables}
use Rattle.chart_behaviour.specs.chart_asks.Asking.{StatementAsks, ProgramAsks, BranchesAsk, ArrowAsks, GoesOn, TablesAsk}
use Rattle.chart_behaviour.specs.chart_asks.Laws.{is_zero, start_at, ChainsAskOnly, ChainsNoteZeros, UnhandledAsksNothing}
use Rattle.chart_behaviour.proofs.chart_asks.Keeping.{TestsKeep, Keeps, handling-keeps, starting-keeps, unhandled-keeps}
use Rattle.chart_behaviour.proofs.chart_asks.Programs.{all_append, OnlyZero, notes_of-only, Grows, run_all-keeps}

-- ---- any fact that programs keep

-- conditions keep what notes of a zero divisor keep
tests_keep : (J : Ran → Type 0) (test : Command → Bool) → Grows J test → (at : Moment) → TestsKeep (acting at) J
tests_keep J test g at = record { test = λ c r j. g.noted (notes_of c r.vars at) r (notes_of-only c r.vars at) j }

-- the plan of tables whose programs ask only for what passes a test
plan_keeps : (J : Ran → Type 0) (test : Command → Bool) → Grows J test → (at : Moment) (v : Tables) → TablesAsk test v → Keeps (plan v) (acting at) (ArrowAsks test) J
plan_keeps J test g at v t = record {
  tests = tests_keep J test g at;
  entry = λ s r j. run_all-keeps J test g ((plan v).entry s) (t.entry s) at r j;
  exit = λ s r j. run_all-keeps J test g ((plan v).exit s) (t.exit s) at r j;
  action = λ a q r j. run_all-keeps J test g a.action q at r j;
  tried = t.tried;
  node = t.nodes;
}

-- what a chain changed, noted and asked for
abbrev told : Acted ℕ → Ran
told a = record { vars = a.vars; notes = a.notes; commands = a.commands }

-- it has a fact that programs keep, and that holds where nothing ran
starts-keeps : (J : Ran → Type 0) (test : Command → Bool) → Grows J test → (v : Tables) → TablesAsk test v → ((vars : List ℤ) → J (quiet vars)) → (at : Moment) → J (told (start_at v at))
unfolding starts_by
starts-keeps J test g v t fresh at =
    starting-keeps (plan v) (acting at) (ArrowAsks test) J (plan_keeps J test g at v t) (arrow_view v.initial) (quiet v.values.items) t.initial (fresh v.values.items)

acts-keeps : (J : Ran → Type 0) (test : Command → Bool) → Grows J test → (v : Tables) → TablesAsk test v → ((vars : List ℤ) → J (quiet vars)) → (at : Moment) (e : Event) (actor : Standing ℕ) → J (told (handles_by (plan v) at e actor))
unfolding handles_by
acts-keeps J test g v t fresh at e actor = handling-keeps (plan v) (acting at) (ArrowAsks test) J (plan_keeps J test g at v t) actor.leaf e (memory_of actor) (fresh actor.vars)

-- ---- what chains ask for

asked_grow : (test : Command → Bool) → Grows (λ r. list_all test r.commands ≡ true) test
asked_grow test = record {
  noted = λ more r z j. j;
  assigned = λ k x r j. j;
  asked = λ c r e j. all_append test r.commands (c ∷ []) j (ap (λ b. b && true) e);
}

pub ask_only : ChainsAskOnly
ask_only = record {
  starts = λ test v at t. starts-keeps (λ r. list_all test r.commands ≡ true) test (asked_grow test) v t (λ vars. refl) at;
  handles = λ test v at e actor t. acts-keeps (λ r. list_all test r.commands ≡ true) test (asked_grow test) v t (λ vars. refl) at e actor;
}

-- ---- what chains note

noted_grow : Grows (λ r. OnlyZero r.notes) (λ c. true)
noted_grow = record {
  noted = λ more r z j. all_append is_zero r.notes more j z;
  assigned = λ k x r j. j;
  asked = λ c r e j. j;
}

mutual
  statement_anything : (s : StmtTree) → StatementAsks (λ c. true) s
  statement_anything empty = tt
  statement_anything (assign k kind e) = tt
  statement_anything (choose branches otherwise) = (branches_anything branches, anything otherwise)
  statement_anything (repeat n body) = anything body
  statement_anything (send s) = λ vars at. refl
  statement_anything defer = refl
  statement_anything recall = refl
  statement_anything recall_all = refl
  statement_anything (frame verb reference e) = λ index. refl
  statement_anything (import_at reference e f) = λ index id. refl
  statement_anything (register port name) = refl
  statement_anything (withdraw port) = refl

  -- a program may ask for anything
  anything : (p : Stmts) → ProgramAsks (λ c. true) p
  anything no_stmt = tt
  anything (a_stmt s rest) = (statement_anything s, anything rest)

  branches_anything : (bs : Branches) → BranchesAsk (λ c. true) bs
  branches_anything no_branch = tt
  branches_anything (a_branch e body rest) = (anything body, branches_anything rest)

arrows_anything : (ts : List ArrowTree) → AllByRecursion (ArrowAsks (λ c. true)) ts
arrows_anything [] = tt
arrows_anything (t ∷ ts) = (anything t.action, arrows_anything ts)

node_anything : (k : Kind ℕ ArrowTree) → GoesOn (ArrowAsks (λ c. true)) k
node_anything (Simple s) = tt
node_anything (Border s t) = anything t.action
node_anything (Choice ts t) = (arrows_anything ts, anything t.action)
node_anything (Entry s t) = anything t.action
node_anything (Exit s t) = anything t.action

tables_anything : (v : Tables) → TablesAsk (λ c. true) v
tables_anything v = record {
  entry = λ s. anything ((plan v).entry s);
  exit = λ s. anything ((plan v).exit s);
  tried = λ s. arrows_anything ((plan v).tried s);
  nodes = λ n. node_anything ((plan v).node n);
  initial = anything (arrow_view v.initial).action;
}

pub note_zeros : ChainsNoteZeros
note_zeros = record {
  starts = λ v at. starts-keeps (λ r. OnlyZero r.notes) (λ c. true) noted_grow v (tables_anything v) (λ vars. refl) at;
  handles = λ v at e actor. acts-keeps (λ r. OnlyZero r.notes) (λ c. true) noted_grow v (tables_anything v) (λ vars. refl) at e actor;
}

-- ---- where nothing is enabled

-- a handling that enabled something has another result
not_enabled : (at : Moment) (enabled : Bool) (asked : List Command) → result_of at enabled asked ≡ Unhandled → enabled ≡ false
not_enabled at false asked e = refl
not_enabled at true asked e = differs (at.has_message && list_any is_defer asked) e
  where
    differs : (b : Bool) → cond b Deferred Handled ≡ Unhandled → true ≡ false
    differs true f = cc
    differs false f = cc

pub asks_nothing : UnhandledAsksNothing
unfolding handles_by
asks_nothing v at e actor unhandled =
    let moved = handling (plan v) (acting at) actor.leaf e (memory_of actor) in
    unhandled-keeps (plan v) (acting at) (λ (r : Ran). r.commands ≡ []) (record { test = λ c r j. j }) actor.leaf e (memory_of actor) refl
    (not_enabled at moved.enabled moved.memory.ran.commands unhandled)
