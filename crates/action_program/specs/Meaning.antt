-- What a program means: a function of the program, the attributes and the moment, to attributes, notes and commands.
use Rattle.std.specs.Prelude.{ℕ, zero, suc, ℤ, pos, ◌+◌, ◌*◌, Bool, List, [], ◌∷◌, ◌++◌, take, map, Option, Some, None, option_map, slice_set, if◌then◌else◌}
use Rattle.room_kinds.specs.declared.note.Note.{Note}
use Rattle.room_kinds.specs.declared.command.Command.{Command}
use Rattle.room_kinds.specs.declared.command.Command.TheVariants as commands
use Rattle.room_kinds.specs.declared.command.FrameCommand.{FrameCommand}
use Rattle.room_kinds.specs.declared.command.FrameCommand.TheVariants as frames
use Rattle.room_kinds.specs.declared.command.NameCommand.TheVariants as names
use Rattle.room_kinds.specs.Reduction.{reduced}
use Rattle.action_program.specs.declared.operator.FrameVerb.{FrameVerb}
use Rattle.action_program.specs.declared.operator.FrameVerb.TheVariants as verbs
use Rattle.action_program.specs.declared.moment.Moment.{Moment}
use Rattle.action_program.specs.declared.moment.Effects.{Effects}
use Rattle.action_program.specs.Arithmetic.{number_at, is_true, unary_value, binary_value, zero_notes}
use Rattle.action_program.specs.Numbered.{ExprTree, a_number, a_datum, the_place, the_self, an_attribute, a_unary, a_chain, Steps, no_step, a_step, ArgumentTree, SendTree, StmtTree, empty, assign, choose, repeat, send, defer, recall, recall_all, frame, import_at, register, withdraw, Stmts, no_stmt, a_stmt, Branches, no_branch, a_branch}

-- ---- expressions

-- A number of the payload; 0 where there is none, and without a message.
abbrev pub datum : Moment → ℕ → ℤ
datum at k = if at.has_message then number_at at.payload k else pos 0

-- The place at which the message came; 0 without a message.
abbrev pub place_of : Moment → ℤ
place_of at = if at.has_message then pos at.place else pos 0

-- The number of the actor.
abbrev pub self_of : Moment → ℤ
self_of at = pos (at.me.slot.0 * 1048576 + at.me.generation.0)

abbrev mutual
  -- The value of an expression.
  pub value_of : ExprTree → List ℤ → Moment → ℤ
  value_of (a_number n) vars at = n
  value_of (a_datum k) vars at = datum at k
  value_of the_place vars at = place_of at
  value_of the_self vars at = self_of at
  value_of (an_attribute k) vars at = number_at vars k
  value_of (a_unary op e) vars at = unary_value op (value_of e vars at)
  value_of (a_chain e steps) vars at = value_behind steps vars at (value_of e vars at)

  -- The value of a chain, from the value of what stands before.
  pub value_behind : Steps → List ℤ → Moment → ℤ → ℤ
  value_behind no_step vars at x = x
  value_behind (a_step op e steps) vars at x = value_behind steps vars at (binary_value op x (value_of e vars at))

abbrev mutual
  -- The notes of an expression: each operand is evaluated, from left to right, and then its operator.
  pub notes_of : ExprTree → List ℤ → Moment → List Note
  notes_of (a_number n) vars at = []
  notes_of (a_datum k) vars at = []
  notes_of the_place vars at = []
  notes_of the_self vars at = []
  notes_of (an_attribute k) vars at = []
  notes_of (a_unary op e) vars at = notes_of e vars at
  notes_of (a_chain e steps) vars at = notes_of e vars at ++ notes_behind steps vars at

  -- The notes of the rest of a chain.
  pub notes_behind : Steps → List ℤ → Moment → List Note
  notes_behind no_step vars at = []
  notes_behind (a_step op e steps) vars at = (notes_of e vars at ++ zero_notes op (value_of e vars at)) ++ notes_behind steps vars at

-- The numbers of a message: at most 64.
unfoldable pub carried : List ArgumentTree → List ArgumentTree
carried arguments = take 64 arguments

-- The values of a message's numbers, each reduced to its type.
abbrev pub payload_of : List ArgumentTree → List ℤ → Moment → List ℤ
payload_of arguments vars at = map (λ a. reduced a.kind (value_of a.value vars at)) arguments

-- The notes of a message's numbers.
abbrev pub argument_notes : List ArgumentTree → List ℤ → Moment → List Note
argument_notes [] vars at = []
argument_notes (a ∷ rest) vars at = notes_of a.value vars at ++ argument_notes rest vars at

-- The notes of a place, if there is one.
abbrev pub place_notes : Option ExprTree → List ℤ → Moment → List Note
place_notes None vars at = []
place_notes (Some e) vars at = notes_of e vars at

-- ---- statements

-- The attributes, and what was told and asked for so far.
pub record Ran : Type 0 where
  pub vars : List ℤ
  pub notes : List Note
  pub commands : List Command

-- What stands where an evaluation holds these.
abbrev pub ran : List ℤ → Effects → Ran
ran vars out = record { vars = vars; notes = out.notes; commands = out.commands }

-- Some notes more.
abbrev pub noted : List Note → Ran → Ran
noted more r = record { vars = r.vars; notes = r.notes ++ more; commands = r.commands }

-- One command more.
abbrev pub asked : Command → Ran → Ran
asked c r = record { vars = r.vars; notes = r.notes; commands = r.commands ++ c ∷ [] }

abbrev pub assigned : ℕ → ℤ → Ran → Ran
assigned k x r = record { vars = slice_set r.vars k x; notes = r.notes; commands = r.commands }

-- The command of a send.
abbrev pub send_command : SendTree → List ℤ → Moment → Command
send_command s vars at = commands.Send s.port (option_map (λ e. value_of e vars at) s.place) s.signal (payload_of (carried s.arguments) vars at) s.prio

-- The notes of a send: first its place's, then its arguments'.
abbrev pub send_notes : SendTree → List ℤ → Moment → List Note
send_notes s vars at = place_notes s.place vars at ++ argument_notes (carried s.arguments) vars at

-- What is asked of the frame service.
abbrev pub frame_command : FrameVerb → ℕ → ℤ → FrameCommand
frame_command verbs.Incarnate reference index = frames.Incarnate reference index
frame_command verbs.Destroy reference index = frames.Destroy reference index
frame_command verbs.Deport reference index = frames.Deport reference index

-- So often, one after another.
unfoldable pub times : ℕ → (Ran → Ran) → Ran → Ran
times zero f r = r
times (suc n) f r = times n f (f r)

abbrev mutual
  -- What a statement does.
  pub run : StmtTree → Moment → Ran → Ran
  run empty at r = r
  run (assign k kind e) at r = assigned k (reduced kind (value_of e r.vars at)) (noted (notes_of e r.vars at) r)
  run (choose branches otherwise) at r = run_branches branches (λ s. run_all otherwise at s) at r
  run (repeat n body) at r = times n (λ s. run_all body at s) r
  run (send s) at r = asked (send_command s r.vars at) (noted (send_notes s r.vars at) r)
  run defer at r = asked commands.Defer r
  run recall at r = asked commands.Recall r
  run recall_all at r = asked commands.RecallAll r
  run (frame verb reference index) at r = asked (commands.Frame (frame_command verb reference (value_of index r.vars at))) (noted (notes_of index r.vars at) r)
  run (import_at reference index id) at r =
      asked (commands.Frame (frames.Import reference (value_of index r.vars at) (value_of id r.vars at))) (noted (notes_of index r.vars at ++ notes_of id r.vars at) r)
  run (register port name) at r = asked (commands.Name (names.Register port name)) r
  run (withdraw port) at r = asked (commands.Name (names.Withdraw port)) r

  -- What statements do, one after another.
  pub run_all : Stmts → Moment → Ran → Ran
  run_all no_stmt at r = r
  run_all (a_stmt s rest) at r = run_all rest at (run s at r)

  -- The block of the first branch whose condition isn't 0, else what stands behind the branches.
  pub run_branches : Branches → (Ran → Ran) → Moment → Ran → Ran
  run_branches no_branch otherwise at r = otherwise r
  run_branches (a_branch e body rest) otherwise at r =
      if is_true (value_of e r.vars at) then run_all body at (noted (notes_of e r.vars at) r) else run_branches rest otherwise at (noted (notes_of e r.vars at) r)
