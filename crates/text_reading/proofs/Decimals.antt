-- Numbers, read back from their digits.
use Rattle.std.proofs.Common.{◌≡◌, ℕ, suc, ◌-◌, ◌<◌, ◌^◌, Bool, true, false, List, [], ◌∷◌, length, refl, sym, ap, ◌∙◌, arith, rules, ℤ, pos, negsuc, Some}
use Rattle.std.specs.Prelude.{◌==◌, nat_lt, nat_le, decimal}
use Rattle.std.specs.Fmt.{signed_decimal}
use Rattle.std.specs.List.{list_all}
use Rattle.std.specs.Str.{all_ascii_digits}
use Rattle.std.specs.Char.{is_ascii_digit}
use Rattle.std.proofs.lemmas.Bool.{and_parts, and_from, lt-ltb, le-leb, ne_eqb, eqb-true}
use Rattle.std.proofs.lemmas.Str.Parse.{IsNumeralModel, numerals_by_fold}
use Rattle.std.proofs.lemmas.Fmt.{digits_decimal, digits_value-decimal, decimal_nonempty}
use Rattle.text_reading.specs.Numerals.{are_digits, value_from, value_of, positive_in, negative_in, number_in}

-- a number of 64 bits with a sign
abbrev pub IsSigned64 : ℤ → Type 0
IsSigned64 (pos n) = n < 2 ^ 63
IsSigned64 (negsuc n) = n < 2 ^ 63

pub own : IsNumeralModel (λ ds. all_ascii_digits ds ≡ true) (value_from 0)
own = numerals_by_fold _ (search rules) value_from (search rules)

digits_all : (w : List ℕ) → all_ascii_digits w ≡ true → list_all is_ascii_digit w ≡ true
digits_all [] h = refl
digits_all (b ∷ bs) h = let parts = and_parts (is_ascii_digit b) (all_ascii_digits bs) h in and_from (is_ascii_digit b) (list_all is_ascii_digit bs) parts.0 (digits_all bs parts.1)

pub digits_of_number : (n : ℕ) → n < 2 ^ 64 → list_all is_ascii_digit (decimal n) ≡ true
digits_of_number n h = digits_all (decimal n) (digits_decimal own n h)

pub some_digit : (n : ℕ) → n < 2 ^ 64 → 0 < length (decimal n)
some_digit n h = decimal_nonempty n h

are_digits_of : (n : ℕ) → n < 2 ^ 64 → are_digits (decimal n) ≡ true
are_digits_of n h = and_from (nat_lt 0 (length (decimal n))) (list_all is_ascii_digit (decimal n)) (lt-ltb 0 (length (decimal n)) (some_digit n h)) (digits_of_number n h)

pub value_back : (n : ℕ) → n < 2 ^ 64 → value_of (decimal n) ≡ n
unfolding value_of
value_back n h = digits_value-decimal own n h

positive_back : (n : ℕ) → n < 2 ^ 63 → positive_in (decimal n) ≡ Some (pos n)
positive_back n h =
    let fits : n < 2 ^ 64 = omega arith in
    let small : nat_lt n (2 ^ 63) ≡ true = lt-ltb n (2 ^ 63) h in
    rw (value_back n fits, are_digits_of n fits, small) refl

negative_back : (n : ℕ) → n < 2 ^ 63 → negative_in (decimal (suc n)) ≡ Some (negsuc n)
negative_back n h =
    let fits : suc n < 2 ^ 64 = omega arith in
    let small : nat_le (suc n) (2 ^ 63) ≡ true = le-leb (suc n) (2 ^ 63) (omega arith) in
    let some : (suc n == 0) ≡ false = ne_eqb (suc n) 0 (λ e. omega arith) in
    let less : suc n - 1 ≡ n = omega arith in
    rw (value_back (suc n) fits, are_digits_of (suc n) fits, small, some, less) refl

-- a digit is no `-`
no_minus : (b : ℕ) (t : Bool) → is_ascii_digit b ≡ true → (b == 45) ≡ t → t ≡ false
no_minus b false digit e = refl
no_minus b true digit e = let is : b ≡ 45 = eqb-true b 45 e in let other : is_ascii_digit 45 ≡ true = ap is_ascii_digit (sym is) ∙ digit in absurd cc

plain_digits : (w : List ℕ) → 0 < length w → list_all is_ascii_digit w ≡ true → number_in w ≡ positive_in w
unfolding number_in
plain_digits [] some h = absurd (omega arith)
plain_digits (b ∷ bs) some h =
    let parts = and_parts (is_ascii_digit b) (list_all is_ascii_digit bs) h in
    let other : (b == 45) ≡ false = no_minus b (b == 45) parts.0 refl in
    rw other refl

-- a number with a sign is that of its text
pub number_back : (z : ℤ) → IsSigned64 z → number_in (signed_decimal z) ≡ Some z
unfolding number_in
number_back (pos n) h = let fits : n < 2 ^ 64 = omega arith in plain_digits (decimal n) (some_digit n fits) (digits_of_number n fits) ∙ positive_back n h
number_back (negsuc n) h = negative_back n h
