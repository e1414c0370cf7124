-- What programs note and ask for.
use Rattle.std.proofs.Common.{◌≡◌, ℕ, zero, suc, ℤ, pos, ◌&&◌, Bool, true, false, cond, List, [], ◌∷◌, ◌++◌, Option, Some, None, refl, ap, ◌∙◌}
use Rattle.std.specs.List.{list_all}
use Rattle.std.specs.Ordering.{int_eq}
use Rattle.std.proofs.lemmas.List.Folds.{list_all-append}
use Rattle.room_kinds.specs.declared.note.Note.{Note}
use Rattle.room_kinds.specs.declared.note.Note.TheVariants as notes
use Rattle.room_kinds.specs.declared.command.Command.{Command}
use Rattle.room_kinds.specs.declared.command.Command.TheVariants as commands
use Rattle.room_kinds.specs.declared.command.FrameCommand.TheVariants as frames
use Rattle.room_kinds.specs.declared.command.NameCommand.TheVariants as names
use Rattle.room_kinds.specs.Reduction.{reduced}
use Rattle.action_program.specs.declared.operator.BinaryOp.{BinaryOp}
use Rattle.action_program.specs.declared.moment.Moment.{Moment}
use Rattle.action_program.specs.Arithmetic.{is_true, divides, zero_notes}
use Rattle.action_program.specs.Meaning.{value_of, notes_of, notes_behind, carried, argument_notes, place_notes, Ran, noted, asked, assigned, send_command, send_notes, frame_command, times, run, run_all, run_branches}
use Rattle.action_program.specs.Numbered.{ExprTree, a_number, a_datum, the_place, the_self, an_attribute, a_unary, a_chain, Steps, no_step, a_step, ArgumentTree, SendTree, StmtTree, empty, assign, choose, repeat, send, defer, recall, recall_all, frame, import_at, register, withdraw, Stmts, no_stmt, a_stmt, Branches, no_branch, a_branch}
use Rattle.chart_behaviour.specs.chart_asks.Asking.{StatementAsks, ProgramAsks, BranchesAsk}
use Rattle.chart_behaviour.specs.chart_asks.Laws.{is_zero}

-- lists that pass a test pass it together
pub all_append : {A : Type 0} (test : A → Bool) (xs ys : List A) → list_all test xs ≡ true → list_all test ys ≡ true → list_all test (xs ++ ys) ≡ true
all_append test xs ys e f = list_all-append test xs ys ∙ ap (λ b. b && list_all test ys) e ∙ f

-- notes of a divisor that was 0 alone
abbrev pub OnlyZero : List Note → Type 0
OnlyZero ns = list_all is_zero ns ≡ true

only_append : (ms ns : List Note) → OnlyZero ms → OnlyZero ns → OnlyZero (ms ++ ns)
only_append = all_append is_zero

zero_notes-only : (op : BinaryOp) (y : ℤ) → OnlyZero (zero_notes op y)
zero_notes-only op y = elim (divides op && int_eq y (pos 0)) as (λ b. OnlyZero (cond b (notes.Zero ∷ []) [])) [ true ↦ refl | false ↦ refl ]

mutual
  pub notes_of-only : (e : ExprTree) (vars : List ℤ) (at : Moment) → OnlyZero (notes_of e vars at)
  notes_of-only (a_number n) vars at = refl
  notes_of-only (a_datum k) vars at = refl
  notes_of-only the_place vars at = refl
  notes_of-only the_self vars at = refl
  notes_of-only (an_attribute k) vars at = refl
  notes_of-only (a_unary op e) vars at = notes_of-only e vars at
  notes_of-only (a_chain e steps) vars at = only_append (notes_of e vars at) (notes_behind steps vars at) (notes_of-only e vars at) (notes_behind-only steps vars at)

  notes_behind-only : (s : Steps) (vars : List ℤ) (at : Moment) → OnlyZero (notes_behind s vars at)
  notes_behind-only no_step vars at = refl
  notes_behind-only (a_step op e steps) vars at =
      only_append (notes_of e vars at ++ zero_notes op (value_of e vars at)) (notes_behind steps vars at)
      (only_append (notes_of e vars at) (zero_notes op (value_of e vars at)) (notes_of-only e vars at) (zero_notes-only op (value_of e vars at)))
      (notes_behind-only steps vars at)

argument_notes-only : (args : List ArgumentTree) (vars : List ℤ) (at : Moment) → OnlyZero (argument_notes args vars at)
argument_notes-only [] vars at = refl
argument_notes-only (a ∷ rest) vars at = only_append (notes_of a.value vars at) (argument_notes rest vars at) (notes_of-only a.value vars at) (argument_notes-only rest vars at)

place_notes-only : (p : Option ExprTree) (vars : List ℤ) (at : Moment) → OnlyZero (place_notes p vars at)
place_notes-only None vars at = refl
place_notes-only (Some e) vars at = notes_of-only e vars at

send_notes-only : (s : SendTree) (vars : List ℤ) (at : Moment) → OnlyZero (send_notes s vars at)
send_notes-only s vars at =
    only_append (place_notes s.place vars at) (argument_notes (carried s.arguments) vars at) (place_notes-only s.place vars at) (argument_notes-only (carried s.arguments) vars at)

-- a fact of what ran so far that notes of a zero divisor, attributes, and commands that pass a test keep
pub record Grows (J : Ran → Type 0) (test : Command → Bool) : Type 0 where
  pub noted : (more : List Note) (r : Ran) → OnlyZero more → J r → J (noted more r)
  pub assigned : (k : ℕ) (x : ℤ) (r : Ran) → J r → J (assigned k x r)
  pub asked : (c : Command) (r : Ran) → test c ≡ true → J r → J (asked c r)

module _ (J : Ran → Type 0) (test : Command → Bool) (g : Grows J test) where
  times-keeps : (n : ℕ) (f : Ran → Ran) → ((r : Ran) → J r → J (f r)) → (r : Ran) → J r → J (times n f r)
  unfolding times
  times-keeps zero f h r j = j
  times-keeps (suc n) f h r j = times-keeps n f h (f r) (h r j)

  mutual
    run-keeps : (s : StmtTree) → StatementAsks test s → (at : Moment) (r : Ran) → J r → J (run s at r)
    run-keeps empty q at r j = j
    run-keeps (assign k kind e) q at r j = g.assigned k (reduced kind (value_of e r.vars at)) (noted (notes_of e r.vars at) r) (g.noted (notes_of e r.vars at) r (notes_of-only e r.vars at) j)
    run-keeps (choose branches otherwise) q at r j = run_branches-keeps branches q.0 (λ s. run_all otherwise at s) (λ s i. run_all-keeps otherwise q.1 at s i) at r j
    run-keeps (repeat n body) q at r j = times-keeps n (λ s. run_all body at s) (λ s i. run_all-keeps body q at s i) r j
    run-keeps (send s) q at r j =
        g.asked (send_command s r.vars at) (noted (send_notes s r.vars at) r) (q r.vars at) (g.noted (send_notes s r.vars at) r (send_notes-only s r.vars at) j)
    run-keeps defer q at r j = g.asked commands.Defer r q j
    run-keeps recall q at r j = g.asked commands.Recall r q j
    run-keeps recall_all q at r j = g.asked commands.RecallAll r q j
    run-keeps (frame verb reference e) q at r j =
        g.asked (commands.Frame (frame_command verb reference (value_of e r.vars at))) (noted (notes_of e r.vars at) r) (q (value_of e r.vars at))
        (g.noted (notes_of e r.vars at) r (notes_of-only e r.vars at) j)
    run-keeps (import_at reference e f) q at r j =
        g.asked (commands.Frame (frames.Import reference (value_of e r.vars at) (value_of f r.vars at))) (noted (notes_of e r.vars at ++ notes_of f r.vars at) r)
        (q (value_of e r.vars at) (value_of f r.vars at))
        (g.noted (notes_of e r.vars at ++ notes_of f r.vars at) r (only_append (notes_of e r.vars at) (notes_of f r.vars at) (notes_of-only e r.vars at) (notes_of-only f r.vars at)) j)
    run-keeps (register port name) q at r j = g.asked (commands.Name (names.Register port name)) r q j
    run-keeps (withdraw port) q at r j = g.asked (commands.Name (names.Withdraw port)) r q j

    pub run_all-keeps : (p : Stmts) → ProgramAsks test p → (at : Moment) (r : Ran) → J r → J (run_all p at r)
    run_all-keeps no_stmt q at r j = j
    run_all-keeps (a_stmt s rest) q at r j = run_all-keeps rest q.1 at (run s at r) (run-keeps s q.0 at r j)

    run_branches-keeps : (bs : Branches) → BranchesAsk test bs → (otherwise : Ran → Ran) → ((r : Ran) → J r → J (otherwise r)) → (at : Moment) (r : Ran) → J r → J (run_branches bs otherwise at r)
    run_branches-keeps no_branch q otherwise h at r j = h r j
    run_branches-keeps (a_branch e body rest) q otherwise h at r j =
        let now = noted (notes_of e r.vars at) r in
        let i = g.noted (notes_of e r.vars at) r (notes_of-only e r.vars at) j in
        let yes' = run_all-keeps body q.0 at now i in
        let no' = run_branches-keeps rest q.1 otherwise h at now i in
        elim (is_true (value_of e r.vars at)) as (λ b. J (cond b (run_all body at now) (run_branches rest otherwise at now))) [ true ↦ yes' | false ↦ no' ]
