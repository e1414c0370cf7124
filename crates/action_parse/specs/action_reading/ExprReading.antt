-- Expressions, read from left to right.
use Rattle.std.specs.Prelude.{ℕ, zero, suc, List, [], ◌∷◌, Option, Some, None, is_some, Bool, false, option_and_then, ◌==◌, nat_le, if◌then◌else◌}
use Rattle.room_lexer.specs.declared.token.Mark.{Mark}
use Rattle.room_lexer.specs.declared.token.Mark.TheVariants as marks
use Rattle.room_tokens.specs.Reader.{Reader, ◌⊕◌, reads_as, optional, all_while, rest_of}
use Rattle.room_tokens.specs.action_tokens.Values.{Value, AWord, AName, ANumber, AMark}
use Rattle.room_tokens.specs.action_tokens.Single.{comes, mark, name_at, number_at}
use Rattle.room_tokens.specs.declared.action_tokens.word.ActionWord.TheVariants as words
use Rattle.action_program.specs.Named.{ExprTree, a_number, the_true, the_false, a_datum, the_place, the_self, an_attribute, a_paren, a_unary, a_chain, steps_of}
use Rattle.action_program.specs.declared.operator.UnaryOp.TheVariants as unary
use Rattle.action_program.specs.declared.operator.BinaryOp.{BinaryOp}
use Rattle.action_program.specs.declared.operator.BinaryOp.TheVariants as binary
use Rattle.action_parse.specs.action_reading.Written.{below}

-- ---- operators

abbrev pub operator_of : Mark → Option BinaryOp
operator_of marks.OrOr = Some binary.Or
operator_of marks.AndAnd = Some binary.And
operator_of marks.EqualEqual = Some binary.Equal
operator_of marks.NotEqual = Some binary.NotEqual
operator_of marks.Less = Some binary.Less
operator_of marks.AtMost = Some binary.LessEqual
operator_of marks.Greater = Some binary.Greater
operator_of marks.AtLeast = Some binary.GreaterEqual
operator_of marks.Plus = Some binary.Add
operator_of marks.Minus = Some binary.Subtract
operator_of marks.Star = Some binary.Multiply
operator_of marks.Slash = Some binary.Divide
operator_of marks.Percent = Some binary.Remainder
operator_of m = None

-- whether an operator between two values comes
unfoldable pub operator_comes : List Value → Bool
operator_comes (AMark m ∷ ts) = is_some (operator_of m)
operator_comes ts = false

abbrev pub if_below : ℕ → Option BinaryOp → Option BinaryOp
if_below k None = None
if_below k (Some op) = if below op == k then Some op else None

-- the operator that comes, if its operands stand at this level
unfoldable pub op_at : ℕ → List Value → Option BinaryOp
op_at k (AMark m ∷ ts) = if_below k (operator_of m)
op_at k ts = None

unfoldable pub op_comes : ℕ → List Value → Bool
op_comes k ts = is_some (op_at k ts)

abbrev pub step_with : Reader Value ExprTree → List Value → Option BinaryOp → Option ((BinaryOp × ExprTree) × List Value)
step_with operand ts None = None
step_with operand ts (Some op) = reads_as (λ e. (op, e)) operand (rest_of ts)

-- an operator and its right side
unfoldable pub step_at : ℕ → Reader Value ExprTree → Reader Value (BinaryOp × ExprTree)
step_at k operand ts = step_with operand ts (op_at k ts)

abbrev pub chain_of : ExprTree × List (BinaryOp × ExprTree) → ExprTree
chain_of (e, []) = e
chain_of (e, s ∷ ss) = a_chain e (steps_of (s ∷ ss))

-- An expression of a level, over its operands. Level 0 is an operand alone.
unfoldable pub level : ℕ → Reader Value ExprTree → Reader Value ExprTree
level zero operand ts = operand ts
level (suc k) operand ts = reads_as chain_of (level k operand ⊕ all_while (op_comes k) (step_at k (level k operand))) ts

-- ---- operands

-- a dot and a name
abbrev pub part_at : Reader Value (List ℕ)
part_at = reads_as (λ x. x.1) (mark marks.Dot ⊕ name_at)

-- a dotted name
unfoldable pub path_at : Reader Value (List (List ℕ))
path_at = reads_as (λ x. x.0 ∷ x.1) (name_at ⊕ all_while (comes marks.Dot) part_at)

-- a dotted name, behind its first part
abbrev pub path_from : List ℕ → Reader Value (List (List ℕ))
path_from first = reads_as (λ names. first ∷ names) (all_while (comes marks.Dot) part_at)

abbrev pub if_small : ℕ × List Value → Option (ℕ × List Value)
if_small x = if nat_le x.0 63 then Some x else None

-- the number of a place of the payload
unfoldable pub small_number_at : Reader Value ℕ
small_number_at ts = option_and_then if_small (number_at ts)

unfoldable pub datum_at : Reader Value (Option ℕ)
datum_at = optional (comes marks.OpenBracket) (reads_as (λ x. x.1.0) (mark marks.OpenBracket ⊕ small_number_at ⊕ mark marks.CloseBracket))

-- An operand; what nests in it is read by the given reader of operands.
unfoldable pub operand_with : Reader Value ExprTree → Reader Value ExprTree
operand_with under (ANumber n ∷ ts) = Some (a_number n, ts)
operand_with under (AWord words.True ∷ ts) = Some (the_true, ts)
operand_with under (AWord words.False ∷ ts) = Some (the_false, ts)
operand_with under (AWord words.Data ∷ ts) = reads_as a_datum datum_at ts
operand_with under (AWord words.Place ∷ ts) = Some (the_place, ts)
operand_with under (AWord words.Me ∷ ts) = Some (the_self, ts)
operand_with under (AName n ∷ ts) = reads_as an_attribute path_at (AName n ∷ ts)
operand_with under (AMark marks.OpenParen ∷ ts) = reads_as (λ x. a_paren x.0) (level 5 under ⊕ mark marks.CloseParen) ts
operand_with under (AMark marks.Minus ∷ ts) = reads_as (a_unary unary.Negate) under ts
operand_with under (AMark marks.Bang ∷ ts) = reads_as (a_unary unary.Not) under ts
operand_with under ts = None

-- what nests in an operand, no deeper than the number
unfoldable pub under : ℕ → Reader Value ExprTree
under zero ts = None
under (suc depth) ts = operand_with (under depth) ts

-- an operand in which parentheses and signs nest no deeper than the number
abbrev pub operand : ℕ → Reader Value ExprTree
operand depth = operand_with (under depth)

-- an expression in which they nest no deeper than the number
abbrev pub expression : ℕ → Reader Value ExprTree
expression depth = level 5 (operand depth)
