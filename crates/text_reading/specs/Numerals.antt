-- Decimal numerals.
use Rattle.std.specs.Prelude.{ℕ, ◌+◌, ◌-◌, ◌*◌, ◌^◌, List, [], ◌∷◌, length, Bool, ◌&&◌, ◌==◌, nat_lt, nat_le, if◌then◌else◌, Option, Some, None, ℤ, pos, negsuc}
use Rattle.std.specs.List.{list_all}
use Rattle.std.specs.Char.{is_ascii_digit}

-- one digit or more
abbrev pub are_digits : List ℕ → Bool
are_digits text = nat_lt 0 (length text) && list_all is_ascii_digit text

-- the value of digits behind digits of the value n
abbrev pub value_from : ℕ → List ℕ → ℕ
value_from n [] = n
value_from n (b ∷ bs) = value_from (10 * n + (b - 48)) bs

-- the value of decimal digits; 0 of none
unfoldable pub value_of : List ℕ → ℕ
value_of digits = value_from 0 digits

-- the number of digits, where it is at most so large
abbrev pub digits_in : ℕ → List ℕ → Option ℕ
digits_in most digits = if are_digits digits && nat_le (value_of digits) most then Some (value_of digits) else None

-- the same of digits without a leading zero, so that it isn't 0
unfoldable pub plain_in : ℕ → List ℕ → Option ℕ
plain_in most [] = None
plain_in most (b ∷ bs) = if b == 48 then None else digits_in most (b ∷ bs)

-- -n
abbrev pub minus : ℕ → ℤ
minus n = if n == 0 then pos 0 else negsuc (n - 1)

-- digits whose number is below 2^63
abbrev pub positive_in : List ℕ → Option ℤ
positive_in digits = if are_digits digits && nat_lt (value_of digits) (2 ^ 63) then Some (pos (value_of digits)) else None

-- digits behind a `-`, whose number is at most 2^63
abbrev pub negative_in : List ℕ → Option ℤ
negative_in digits = if are_digits digits && nat_le (value_of digits) (2 ^ 63) then Some (minus (value_of digits)) else None

-- a number of 64 bits: perhaps a `-`, and digits
unfoldable pub number_in : List ℕ → Option ℤ
number_in [] = None
number_in (b ∷ bs) = if b == 45 then negative_in bs else positive_in (b ∷ bs)
