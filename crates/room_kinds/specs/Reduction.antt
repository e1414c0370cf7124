-- What is left of a number at a type.
use Rattle.std.specs.Prelude.{ℕ, ℤ, pos, ◌*◌, ◌^◌, ◌-ℤ◌, int_lt, if◌then◌else◌}
use Rattle.std.specs.Int.{int_rem_euclid}
use Rattle.std.specs.Ordering.{int_eq}
use Rattle.room_kinds.specs.declared.number_type.NumberType.{NumberType}
use Rattle.room_kinds.specs.declared.number_type.NumberType.TheVariants as types

-- The number from -half to half - 1 that is congruent modulo twice half.
abbrev pub around_zero : ℕ → ℤ → ℤ
around_zero half n =
    let rest : ℤ = int_rem_euclid n (pos (2 * half)) in
    if int_lt rest (pos half) then rest else (rest -ℤ pos (2 * half))

-- The value of the type that is congruent modulo two to its width; a boolean is 0 for 0 and 1 for all else.
abbrev pub reduced : NumberType → ℤ → ℤ
reduced types.Int8 n = around_zero (2 ^ 7) n
reduced types.Int16 n = around_zero (2 ^ 15) n
reduced types.Int32 n = around_zero (2 ^ 31) n
reduced types.Uint8 n = int_rem_euclid n (pos (2 ^ 8))
reduced types.Uint16 n = int_rem_euclid n (pos (2 ^ 16))
reduced types.Uint32 n = int_rem_euclid n (pos (2 ^ 32))
reduced types.Boolean n = if int_eq n (pos 0) then pos 0 else pos 1
reduced types.Plain n = n
