-- The arithmetic of the action language: 64-bit signed numbers that wrap.
use Rattle.std.specs.Prelude.{ℕ, ℤ, pos, neg_ℤ, ◌+ℤ◌, ◌-ℤ◌, ◌*ℤ◌, Bool, true, false, ◌&&◌, ◌||◌, not, int_lt, int_rem, List, [], ◌∷◌, slice_index_or, if◌then◌else◌}
use Rattle.std.specs.Int.{w64, int_wrap, int_wrapping_div}
use Rattle.std.specs.Ordering.{int_eq}
use Rattle.room_kinds.specs.declared.note.Note.{Note}
use Rattle.room_kinds.specs.declared.note.Note.TheVariants as notes
use Rattle.action_program.specs.declared.operator.UnaryOp.{UnaryOp}
use Rattle.action_program.specs.declared.operator.UnaryOp.TheVariants as unary
use Rattle.action_program.specs.declared.operator.BinaryOp.{BinaryOp}
use Rattle.action_program.specs.declared.operator.BinaryOp.TheVariants as binary

-- The number at a place of a list; 0 past its end.
abbrev pub number_at : List ℤ → ℕ → ℤ
number_at numbers place = slice_index_or numbers place (pos 0)

-- What a number says as a truth: all but 0 is true.
abbrev pub is_true : ℤ → Bool
is_true x = not (int_eq x (pos 0))

-- A truth as a number.
abbrev pub truth : Bool → ℤ
truth b = if b then pos 1 else pos 0

-- The quotient, cut toward zero; 0 by a zero divisor. The least number by -1 wraps to itself.
abbrev pub quotient : ℤ → ℤ → ℤ
quotient x y = if int_eq y (pos 0) then pos 0 else int_wrapping_div w64 x y

-- The rest of that quotient, which has the sign of x; 0 by a zero divisor.
abbrev pub rest : ℤ → ℤ → ℤ
rest x y = if int_eq y (pos 0) then pos 0 else int_rem x y

abbrev pub unary_value : UnaryOp → ℤ → ℤ
unary_value unary.Negate x = int_wrap w64 (neg_ℤ x)
unary_value unary.Not x = truth (int_eq x (pos 0))

abbrev pub binary_value : BinaryOp → ℤ → ℤ → ℤ
binary_value binary.Or x y = truth (is_true x || is_true y)
binary_value binary.And x y = truth (is_true x && is_true y)
binary_value binary.Equal x y = truth (int_eq x y)
binary_value binary.NotEqual x y = truth (not (int_eq x y))
binary_value binary.Less x y = truth (int_lt x y)
binary_value binary.LessEqual x y = truth (not (int_lt y x))
binary_value binary.Greater x y = truth (int_lt y x)
binary_value binary.GreaterEqual x y = truth (not (int_lt x y))
binary_value binary.Add x y = int_wrap w64 (x +ℤ y)
binary_value binary.Subtract x y = int_wrap w64 (x -ℤ y)
binary_value binary.Multiply x y = int_wrap w64 (x *ℤ y)
binary_value binary.Divide x y = quotient x y
binary_value binary.Remainder x y = rest x y

-- Whether an operator divides.
abbrev pub divides : BinaryOp → Bool
divides binary.Divide = true
divides binary.Remainder = true
divides op = false

-- The note of an operator with this right side: one where it divides by zero.
abbrev pub zero_notes : BinaryOp → ℤ → List Note
zero_notes op y = if divides op && int_eq y (pos 0) then notes.Zero ∷ [] else []
