-- Words, and numbers that are read from them. What isn't written as a number is read as some number.
use Rattle.std.specs.Prelude.{ℕ, List, [], ◌∷◌, Bool, false, ◌==◌, nat_lt, if◌then◌else◌, min, unwrap_or, ℤ, pos}
use Rattle.std.specs.Char.{is_ascii_digit}
use Rattle.text_reading.specs.Cuts.{cut_at}
use Rattle.text_reading.specs.Numerals as numerals

-- what stands before the first byte c
abbrev pub upto : ℕ → List ℕ → List ℕ
upto c s = (cut_at c s).0

-- what stands behind the first byte c; nothing where it doesn't come
abbrev pub past : ℕ → List ℕ → List ℕ
past c s = unwrap_or (cut_at c s).1 []

-- whether a byte comes
abbrev pub begins : ℕ → List ℕ → Bool
begins c [] = false
begins c (b ∷ bs) = b == c

-- whether a digit comes
abbrev pub begins_digit : List ℕ → Bool
begins_digit [] = false
begins_digit (b ∷ bs) = is_ascii_digit b

-- a number below a limit; 0 for another one
abbrev pub below : ℕ → ℕ → ℕ
below limit n = if nat_lt n limit then n else 0

-- the value of decimal digits; the greatest number of 64 bits for every greater one
unfoldable pub number_in : List ℕ → ℕ
number_in s = min (numerals.value_of s) 18446744073709551615

-- a number of 8 bits
unfoldable pub byte_in : List ℕ → ℕ
byte_in s = below 256 (number_in s)

-- a number of 32 bits
unfoldable pub word_in : List ℕ → ℕ
word_in s = below 4294967296 (number_in s)

-- a number of 64 bits with a sign; 0 for what is none
unfoldable pub signed_in : List ℕ → ℤ
signed_in s = unwrap_or (numerals.number_in s) (pos 0)
