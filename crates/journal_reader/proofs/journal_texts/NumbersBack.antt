-- Numbers, read back from their digits.
use Rattle.std.proofs.Common.{◌≡◌, ℕ, suc, ◌<◌, Bool, true, false, cond, List, [], ◌∷◌, ◌++◌, length, not, refl, ap, ◌∙◌, arith, min, Option, ℤ, pos, negsuc}
use Rattle.std.specs.Prelude.{◌==◌, decimal, unwrap_or}
use Rattle.std.specs.Fmt.{signed_decimal}
use Rattle.std.specs.List.{list_all}
use Rattle.std.specs.Char.{is_ascii_digit}
use Rattle.std.proofs.lemmas.Bool.{and_parts, and_from, lt-ltb}
use Rattle.std.proofs.lemmas.Bool.Decides.{nat_tests}
use Rattle.text_reading.proofs.Decimals as numerals
use Rattle.text_reading.proofs.Decimals.{digits_of_number, some_digit, value_back}
use Rattle.journal_reader.specs.journal_lines.Numerals.{begins, begins_digit, below, number_in, byte_in, word_in, signed_in}
use Rattle.journal_reader.proofs.journal_lines.Cutting.{lacks}
use Rattle.journal_reader.specs.journal_texts.InRange.{IsSigned64}

-- ---- bytes that a text lacks

pub differs : (p : ℕ → Bool) (b c : ℕ) (t : Bool) → p b ≡ true → p c ≡ false → (b == c) ≡ t → t ≡ false
differs p b c false yes_b no_c e = refl
differs p b c true yes_b no_c e = let is : b ≡ c = grind (arith, nat_tests) in let same : p b ≡ p c = ap p is in absurd cc

-- bytes of one kind lack a byte that isn't of it
pub lacks_kind : (p : ℕ → Bool) (c : ℕ) (w : List ℕ) → list_all p w ≡ true → p c ≡ false → lacks c w ≡ true
lacks_kind p c [] h n = refl
lacks_kind p c (b ∷ bs) h n =
    let parts = and_parts (p b) (list_all p bs) h in
    let other : (b == c) ≡ false = differs p b c _ parts.0 n refl in
    rw other (lacks_kind p c bs parts.1 n)

pub lacks-append : (c : ℕ) (xs ys : List ℕ) → lacks c xs ≡ true → lacks c ys ≡ true → lacks c (xs ++ ys) ≡ true
lacks-append c [] ys h k = k
lacks-append c (x ∷ xs) ys h k =
    let parts = and_parts (not (x == c)) (lacks c xs) h in
    and_from (not (x == c)) (lacks c (xs ++ ys)) parts.0 (lacks-append c xs ys parts.1 k)

-- a text of one kind doesn't begin with a byte that isn't of it
pub begins_other : (p : ℕ → Bool) (c : ℕ) (w r : List ℕ) → list_all p w ≡ true → p c ≡ false → begins c r ≡ false → begins c (w ++ r) ≡ false
begins_other p c [] r h n k = k
begins_other p c (b ∷ bs) r h n k = let parts = and_parts (p b) (list_all p bs) h in differs p b c _ parts.0 n refl

-- ---- digits

below_is : (limit n : ℕ) → n < limit → below limit n ≡ n
below_is limit n h = ap (λ (b : Bool). cond b n 0) (lt-ltb n limit h)

abbrev max : ℕ
max = 18446744073709551616

pub number_back : (n : ℕ) → n < max → number_in (decimal n) ≡ n
unfolding number_in
number_back n h = let small : min n 18446744073709551615 ≡ n = omega arith in ap (λ (v : ℕ). min v 18446744073709551615) (value_back n h) ∙ small

pub byte_back : (n : ℕ) → n < 256 → byte_in (decimal n) ≡ n
unfolding byte_in
byte_back n h = ap (below 256) (number_back n (omega arith)) ∙ below_is 256 n h

pub word_back : (n : ℕ) → n < 4294967296 → word_in (decimal n) ≡ n
unfolding word_in
word_back n h = ap (below 4294967296) (number_back n (omega arith)) ∙ below_is 4294967296 n h

pub number_lacks : (c n : ℕ) → n < max → is_ascii_digit c ≡ false → lacks c (decimal n) ≡ true
number_lacks c n h none = lacks_kind is_ascii_digit c (decimal n) (digits_of_number n h) none

first_digit : (w r : List ℕ) → 0 < length w → list_all is_ascii_digit w ≡ true → begins_digit (w ++ r) ≡ true
first_digit [] r h all = absurd (omega arith)
first_digit (b ∷ bs) r h all = let parts = and_parts (is_ascii_digit b) (list_all is_ascii_digit bs) all in parts.0

pub number_begins : (n : ℕ) (r : List ℕ) → n < max → begins_digit (decimal n ++ r) ≡ true
number_begins n r h = first_digit (decimal n) r (some_digit n h) (digits_of_number n h)

-- ---- numbers with a sign

pub signed_back : (z : ℤ) → IsSigned64 z → signed_in (signed_decimal z) ≡ z
unfolding signed_in
signed_back (pos n) h = ap (λ (o : Option ℤ). unwrap_or o (pos 0)) (numerals.number_back (pos n) h)
signed_back (negsuc n) h = ap (λ (o : Option ℤ). unwrap_or o (pos 0)) (numerals.number_back (negsuc n) h)

pub signed_lacks : (c : ℕ) (z : ℤ) → IsSigned64 z → (45 == c) ≡ false → is_ascii_digit c ≡ false → lacks c (signed_decimal z) ≡ true
signed_lacks c (pos n) h minus none = number_lacks c n (omega arith) none
signed_lacks c (negsuc n) h minus none = rw minus (number_lacks c (suc n) (omega arith) none)
