-- The tokens of each tree, from left to right.
use Rattle.std.specs.Prelude.{ℕ, List, [], ◌∷◌, ◌++◌, Option, ◌==◌, if◌then◌else◌}
use Rattle.room_lexer.specs.declared.token.Mark.{Mark}
use Rattle.room_lexer.specs.declared.token.Mark.TheVariants as marks
use Rattle.room_kinds.specs.declared.numbers.Priority.{Priority}
use Rattle.room_ast.specs.Tokens.{each, maybe}
use Rattle.room_tokens.specs.action_tokens.Values.{Value, AWord, AName, ANumber, AMark}
use Rattle.room_tokens.specs.declared.action_tokens.word.ActionWord.{ActionWord}
use Rattle.room_tokens.specs.declared.action_tokens.word.ActionWord.TheVariants as words
use Rattle.action_program.specs.Named.{ExprTree, a_number, the_true, the_false, a_datum, the_place, the_self, an_attribute, a_paren, a_unary, a_chain, Steps, no_step, a_step, SendTree, StmtTree, empty, assign, choose, repeat, send, defer, recall, recall_all, frame, import_at, register, withdraw, Stmts, no_stmt, a_stmt, Branches, no_branch, a_branch, Otherwise, no_else, an_else}
use Rattle.action_program.specs.declared.operator.UnaryOp.{UnaryOp}
use Rattle.action_program.specs.declared.operator.UnaryOp.TheVariants as unary
use Rattle.action_program.specs.declared.operator.BinaryOp.{BinaryOp}
use Rattle.action_program.specs.declared.operator.BinaryOp.TheVariants as binary
use Rattle.action_program.specs.declared.operator.FrameVerb.{FrameVerb}
use Rattle.action_program.specs.declared.operator.FrameVerb.TheVariants as verbs

-- one list and then another, grouped to the right
infixr 30 ◌then◌
abbrev pub ◌then◌ : List Value → List Value → List Value
xs then ys = xs ++ ys

abbrev pub mark : Mark → List Value
mark m = AMark m ∷ []

abbrev pub word : ActionWord → List Value
word w = AWord w ∷ []

abbrev pub name : List ℕ → List Value
name n = AName n ∷ []

-- ---- expressions

abbrev pub unary_mark : UnaryOp → Mark
unary_mark unary.Negate = marks.Minus
unary_mark unary.Not = marks.Bang

abbrev pub operator_mark : BinaryOp → Mark
operator_mark binary.Or = marks.OrOr
operator_mark binary.And = marks.AndAnd
operator_mark binary.Equal = marks.EqualEqual
operator_mark binary.NotEqual = marks.NotEqual
operator_mark binary.Less = marks.Less
operator_mark binary.LessEqual = marks.AtMost
operator_mark binary.Greater = marks.Greater
operator_mark binary.GreaterEqual = marks.AtLeast
operator_mark binary.Add = marks.Plus
operator_mark binary.Subtract = marks.Minus
operator_mark binary.Multiply = marks.Star
operator_mark binary.Divide = marks.Slash
operator_mark binary.Remainder = marks.Percent

abbrev pub part : List ℕ → List Value
part n = mark marks.Dot then name n

-- the parts of a dotted name
abbrev pub path_tokens : List (List ℕ) → List Value
path_tokens [] = []
path_tokens (n ∷ ns) = name n then each part ns

abbrev pub datum_tokens : Option ℕ → List Value
datum_tokens k = word words.Data then maybe (λ n. mark marks.OpenBracket then (ANumber n ∷ []) then mark marks.CloseBracket) k

abbrev mutual
  pub expr_tokens : ExprTree → List Value
  expr_tokens (a_number n) = ANumber n ∷ []
  expr_tokens the_true = word words.True
  expr_tokens the_false = word words.False
  expr_tokens (a_datum k) = datum_tokens k
  expr_tokens the_place = word words.Place
  expr_tokens the_self = word words.Me
  expr_tokens (an_attribute path) = path_tokens path
  expr_tokens (a_paren e) = mark marks.OpenParen then expr_tokens e then mark marks.CloseParen
  expr_tokens (a_unary op e) = mark (unary_mark op) then expr_tokens e
  expr_tokens (a_chain e steps) = expr_tokens e then steps_tokens steps

  pub steps_tokens : Steps → List Value
  steps_tokens no_step = []
  steps_tokens (a_step op e steps) = mark (operator_mark op) then expr_tokens e then steps_tokens steps

-- ---- statements

-- the place of a port, or the index of a reference
abbrev pub index_tokens : Option ExprTree → List Value
index_tokens = maybe (λ e. mark marks.OpenBracket then expr_tokens e then mark marks.CloseBracket)

abbrev pub arguments_tokens : List ExprTree → List Value
arguments_tokens [] = []
arguments_tokens (e ∷ es) = expr_tokens e then each (λ x. mark marks.Comma then expr_tokens x) es

-- The words of priorities 1 to 5. No word names 0, which is the system's.
abbrev pub prio_word : ℕ → ActionWord
prio_word n = if n == 1 then words.Panic else if n == 2 then words.High else if n == 3 then words.General else if n == 4 then words.Low else words.Background

abbrev pub prio_tokens : Option Priority → List Value
prio_tokens = maybe (λ p. word words.At then word (prio_word p.0))

abbrev pub send_tokens : SendTree → List Value
send_tokens s =
    name s.port then index_tokens s.place then mark marks.Dot then name s.signal then mark marks.OpenParen then arguments_tokens s.arguments then mark marks.CloseParen then prio_tokens s.prio then mark marks.Semicolon

abbrev pub verb_word : FrameVerb → ActionWord
verb_word verbs.Incarnate = words.Incarnate
verb_word verbs.Destroy = words.Destroy
verb_word verbs.Deport = words.Deport

abbrev mutual
  pub stmt_tokens : StmtTree → List Value
  stmt_tokens empty = mark marks.Semicolon
  stmt_tokens (assign path e) = path_tokens path then mark marks.Equals then expr_tokens e then mark marks.Semicolon
  stmt_tokens (choose branches otherwise) = first_tokens branches then else_tokens otherwise
  stmt_tokens (repeat n body) = word words.Repeat then (ANumber n ∷ []) then mark marks.OpenBrace then stmts_tokens body then mark marks.CloseBrace
  stmt_tokens (send s) = send_tokens s
  stmt_tokens defer = word words.Defer then mark marks.Semicolon
  stmt_tokens recall = word words.Recall then mark marks.Semicolon
  stmt_tokens recall_all = word words.RecallAll then mark marks.Semicolon
  stmt_tokens (frame verb reference index) = word (verb_word verb) then name reference then index_tokens index then mark marks.Semicolon
  stmt_tokens (import_at reference index id) = word words.Import then name reference then index_tokens index then mark marks.Equals then expr_tokens id then mark marks.Semicolon
  stmt_tokens (register port service) = word words.Register then name port then word words.As then name service then mark marks.Semicolon
  stmt_tokens (withdraw port) = word words.Withdraw then name port then mark marks.Semicolon

  pub stmts_tokens : Stmts → List Value
  stmts_tokens no_stmt = []
  stmts_tokens (a_stmt s rest) = stmt_tokens s then stmts_tokens rest

  -- conditions with their blocks, from the first on
  pub first_tokens : Branches → List Value
  first_tokens no_branch = []
  first_tokens (a_branch e body rest) =
      word words.If then mark marks.OpenParen then expr_tokens e then mark marks.CloseParen then mark marks.OpenBrace then stmts_tokens body then mark marks.CloseBrace then more_tokens rest

  -- the ones behind the first
  pub more_tokens : Branches → List Value
  more_tokens no_branch = []
  more_tokens (a_branch e body rest) =
      word words.Else then word words.If then mark marks.OpenParen then expr_tokens e then mark marks.CloseParen then mark marks.OpenBrace then stmts_tokens body then mark marks.CloseBrace then more_tokens rest

  pub else_tokens : Otherwise → List Value
  else_tokens no_else = []
  else_tokens (an_else body) = word words.Else then mark marks.OpenBrace then stmts_tokens body then mark marks.CloseBrace
