-- Actors whose tables name what their class has ask for nothing else.
use Rattle.std.proofs.Common.{◌≡◌, ◌∙◌, ℕ, ℤ, ◌+◌, ◌≤◌, ◌==◌, ◌&&◌, not, Bool, true, false, nat_le, nat_lt, le-leb, lt-ltb, List, [], ◌∷◌, length, Some, None, refl, ap, arith}
use Rattle.std.specs.List.{AllByRecursion as Each, list_all}
use Rattle.std.specs.Option.{option_map_or}
use Rattle.std.proofs.lemmas.Bool.{and_from, and_parts}
use Rattle.std.proofs.lemmas.Bool.Decides.{nat_tests}
use Rattle.std.proofs.lemmas.Option.{slice_get_within}
use Rattle.room_kinds.specs.declared.command.Command.{Command}
use Rattle.room_kinds.specs.declared.command.Command.TheVariants as commands
use Rattle.room_kinds.specs.declared.command.FrameCommand.TheVariants as frames
use Rattle.room_kinds.specs.declared.command.NameCommand.TheVariants as names
use Rattle.room_kinds.specs.declared.message.Msg.{Msg}
use Rattle.room_kinds.specs.declared.numbers.Incarnation.{Incarnation}
use Rattle.room_kinds.specs.declared.structure.ReferenceKind.{ReferenceKind}
use Rattle.room_wiring.specs.declared.names.ClassNames.{ClassNames}
use Rattle.room_wiring.specs.declared.names.PortNames.{PortNames}
use Rattle.room_wiring.specs.declared.names.RefNames.{RefNames}
use Rattle.action_program.specs.declared.operator.FrameVerb.{FrameVerb}
use Rattle.action_program.specs.declared.operator.FrameVerb.TheVariants as verbs
use Rattle.action_program.specs.Meaning.{frame_command}
use Rattle.action_program.specs.Numbered.{StmtTree, empty, assign, choose, repeat, send, defer, recall, recall_all, frame, import_at, register, withdraw, Stmts, no_stmt, a_stmt, Branches, no_branch, a_branch}
use Rattle.action_lang.specs.action_check.Faults.{can_send, takes_names, takes_verb, takes_import}
use Rattle.chart_model.specs.chart_plan.Plan.{Kind, Simple, Border, Choice, Entry, Exit}
use Rattle.chart_run.specs.Machines.{moment_of, moment_at_start, event_of}
use Rattle.chart_run.specs.chart_tables.Tables.{ArrowTree, arrow_view, plan}
use Rattle.chart_run.specs.declared.chart_tables.tables.Tables.{Tables}
use Rattle.chart_behaviour.specs.Asked.{is_open}
use Rattle.chart_behaviour.specs.ModelCharts.{Actor, begins, handles}
use Rattle.chart_behaviour.specs.chart_asks.Asking.{StatementAsks, ProgramAsks, BranchesAsk, ArrowAsks, GoesOn, TablesAsk}
use Rattle.chart_behaviour.proofs.chart_asks.Chains.{ask_only}
use Rattle.law_models.specs.class_laws.Commands.{goes_out, can_send_at, can_register, has_reference, can_ask, AsksWhatItCan}
use Rattle.law_models.specs.class_laws.Programs.{HasReference, CanSend, CanRegister, StatementNames, ProgramNames, BranchesName, ArrowNames, TablesName, going, first_going, numbers_of}

module _ (c : ClassNames) where
  -- ---- what is named is there

  found_reference : (serves : ReferenceKind → Bool) (reference : ℕ) → HasReference serves c reference → has_reference serves c reference ≡ true
  found_reference serves reference h = ap (λ o. option_map_or (λ (x : RefNames). serves x.kind) o false) h.is ∙ h.kind

  found_service : (port : ℕ) → CanRegister c port → can_register c port ≡ true
  found_service port h = ap (λ o. option_map_or (λ (x : PortNames). takes_names x.kind) o false) h.has.is ∙ h.has.kind

  found_message : (port message numbers : ℕ) → CanSend c port message numbers → can_send_at c port message ≡ true
  found_message port message numbers h =
      let x = h.names in
      let place = h.goes.place in
      let number = h.goes.number_is in
      let within = slice_get_within (going x) place h.sent h.goes.is in
      let least : nat_le (first_going x) message ≡ true = le-leb (first_going x) message (omega (arith, number)) in
      let most : nat_lt message (first_going x + length (going x)) ≡ true = lt-ltb message (first_going x + length (going x)) (omega (arith, number, within)) in
      ap (λ o. option_map_or (λ (y : PortNames). can_send y.kind && goes_out message y) o false) h.has.is
      ∙ and_from (can_send x.kind) (goes_out message x) h.has.kind (and_from (nat_le (first_going x) message) (nat_lt message (first_going x + length (going x))) least most)

  in_range : (p : ℕ) → 1 ≤ p → p ≤ 5 → (nat_le 1 p && nat_le p 5) ≡ true
  in_range p least most = and_from (nat_le 1 p) (nat_le p 5) (le-leb 1 p least) (le-leb p 5 most)

  -- ---- what programs ask for, by any test that all pass which the class can ask for

  module _ (test : Command → Bool) (passes : (command : Command) → can_ask c command ≡ true → test command ≡ true) where
    verb_asks : (verb : FrameVerb) (reference : ℕ) → HasReference (takes_verb verb) c reference → (index : ℤ) → test (commands.Frame (frame_command verb reference index)) ≡ true
    verb_asks verbs.Incarnate reference h index = passes (commands.Frame (frames.Incarnate reference index)) (found_reference (takes_verb verbs.Incarnate) reference h)
    verb_asks verbs.Destroy reference h index = passes (commands.Frame (frames.Destroy reference index)) (found_reference (takes_verb verbs.Destroy) reference h)
    verb_asks verbs.Deport reference h index = passes (commands.Frame (frames.Deport reference index)) (found_reference (takes_verb verbs.Deport) reference h)

    mutual
      statement_asks : (n : ℕ) (s : StmtTree) → StatementNames c n s → StatementAsks test s
      statement_asks n empty h = tt
      statement_asks n (assign k kind e) h = tt
      statement_asks n (choose branches otherwise) h = (branches_ask n branches h.0, program_asks n otherwise h.1)
      statement_asks n (repeat times body) h = program_asks n body h
      statement_asks n (send s) h = λ vars at.
          passes _ (and_from (can_send_at c s.port s.signal) (nat_le 1 s.prio.0 && nat_le s.prio.0 5)
          (found_message s.port s.signal (length s.arguments) h.message) (in_range s.prio.0 h.least h.most))
      statement_asks n defer h = passes commands.Defer refl
      statement_asks n recall h = passes commands.Recall refl
      statement_asks n recall_all h = passes commands.RecallAll refl
      statement_asks n (frame verb reference index) h = λ i. verb_asks verb reference h.0 i
      statement_asks n (import_at reference index id) h = λ i d. passes (commands.Frame (frames.Import reference i d)) (found_reference takes_import reference h.0)
      statement_asks n (register port name) h = passes (commands.Name (names.Register port name)) (found_service port h)
      statement_asks n (withdraw port) h = passes (commands.Name (names.Withdraw port)) (found_service port h)

      program_asks : (n : ℕ) (p : Stmts) → ProgramNames c n p → ProgramAsks test p
      program_asks n no_stmt h = tt
      program_asks n (a_stmt s rest) h = (statement_asks n s h.0, program_asks n rest h.1)

      branches_ask : (n : ℕ) (bs : Branches) → BranchesName c n bs → BranchesAsk test bs
      branches_ask n no_branch h = tt
      branches_ask n (a_branch e body rest) h = (program_asks n body h.1, branches_ask n rest h.2)

    arrow_asks : (n : ℕ) (a : ArrowTree) → ArrowNames c n a → ArrowAsks test a
    arrow_asks n a h = program_asks n a.action h.action_names

    arrows_ask : (n : ℕ) (arrows : List ArrowTree) → Each (ArrowNames c n) arrows → Each (ArrowAsks test) arrows
    arrows_ask n [] h = tt
    arrows_ask n (a ∷ arrows) h = (arrow_asks n a h.0, arrows_ask n arrows h.1)

    node_asks : (n : ℕ) (k : Kind ℕ ArrowTree) → GoesOn (ArrowNames c n) k → GoesOn (ArrowAsks test) k
    node_asks n (Simple s) h = tt
    node_asks n (Border s a) h = arrow_asks n a h
    node_asks n (Choice arrows a) h = (arrows_ask n arrows h.0, arrow_asks n a h.1)
    node_asks n (Entry s a) h = arrow_asks n a h
    node_asks n (Exit s a) h = arrow_asks n a h

    pub tables_ask : (v : Tables) → TablesName c v → TablesAsk test v
    tables_ask v h = record {
      entry = λ s. program_asks (numbers_of v) ((plan v).entry s) (h.entry s);
      exit = λ s. program_asks (numbers_of v) ((plan v).exit s) (h.exit s);
      tried = λ s. arrows_ask (numbers_of v) ((plan v).tried s) (h.tried s);
      nodes = λ k. node_asks (numbers_of v) ((plan v).node k) (h.nodes k);
      initial = arrow_asks (numbers_of v) (arrow_view v.initial) h.initial;
    }

  -- ---- so nothing is sent at the system's priority

  above_system : (p : ℕ) → (nat_le 1 p && nat_le p 5) ≡ true → not (p == 0) ≡ true
  above_system p h = let least = (and_parts (nat_le 1 p) (nat_le p 5) h).0 in grind (arith, nat_tests)

  is_open_too : (command : Command) → can_ask c command ≡ true → is_open command ≡ true
  is_open_too (commands.Send port place message payload prio) h = above_system prio.0 (and_parts (can_send_at c port message) (nat_le 1 prio.0 && nat_le prio.0 5) h).1
  is_open_too commands.Defer h = refl
  is_open_too commands.Recall h = refl
  is_open_too commands.RecallAll h = refl
  is_open_too (commands.Frame command) h = refl
  is_open_too (commands.Name command) h = refl

  pub tables_open : (v : Tables) → TablesName c v → TablesAsk is_open v
  tables_open v h = tables_ask is_open is_open_too v h

  -- ---- actors

  pub actors_ask : (v : Tables) → TablesName c v → AsksWhatItCan c v
  unfolding begins handles
  actors_ask v h =
      let asks = tables_ask (can_ask c) (λ command can. can) v h in
      record { begin = λ x. ask_only.starts (can_ask c) v (moment_at_start x) asks; handle = λ x m actor. by_actor asks x m actor }
    where
      by_actor : TablesAsk (can_ask c) v → (x : Incarnation) (m : Msg) (actor : Actor) → list_all (can_ask c) (handles x m (Some v) actor).commands ≡ true
      by_actor asks x m None = refl
      by_actor asks x m (Some actor) = ask_only.handles (can_ask c) v (moment_of x m) (event_of m) actor asks
