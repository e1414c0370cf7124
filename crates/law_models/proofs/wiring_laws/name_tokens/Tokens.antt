-- Names among tokens.
use Rattle.std.proofs.Common.{◌≡◌, ℕ, true, List, [], ◌∷◌, ◌++◌, refl, arith}
use Rattle.std.specs.Prelude.{◌||◌}
use Rattle.std.specs.List.{list_all, AllByRecursion}
use Rattle.std.proofs.lemmas.Bool.{and_from}
use Rattle.std.proofs.lemmas.Bool.Decides.{nat_tests}
use Rattle.room_lexer.specs.Cut.{IsRun, Each}
use Rattle.room_lexer.specs.Front.{is_letter, is_word}
use Rattle.room_ast.specs.Tokens.{each}
use Rattle.room_ast.specs.Values.{TokenValue, AWord, AName, ANumber, AString, ABlock, AMark}
use Rattle.room_wiring.specs.WellNamed.{begins_ident, is_digit, is_ident, IsIdent}
use Rattle.room_tokens.specs.token_names.Names.{IsName, HasNames}

letter_is : (b : ℕ) → is_letter b ≡ true → begins_ident b ≡ true
letter_is b h = grind (arith, nat_tests)

word_is : (b : ℕ) → is_word b ≡ true → (begins_ident b || is_digit b) ≡ true
word_is b h = grind (arith, nat_tests)

words_are : (bs : List ℕ) → Each is_word bs → list_all (λ c. begins_ident c || is_digit c) bs ≡ true
words_are [] h = refl
words_are (b ∷ bs) h = and_from (begins_ident b || is_digit b) (list_all (λ c. begins_ident c || is_digit c) bs) (word_is b h.0) (words_are bs h.1)

run_is : (text : List ℕ) → IsRun is_letter is_word text → is_ident text ≡ true
run_is [] h = absurd h
run_is (b ∷ bs) h = and_from (begins_ident b) (list_all (λ c. begins_ident c || is_digit c) bs) (letter_is b h.0) (words_are bs h.1)

-- a name of the language is an identifier
pub ident_of : (text : List ℕ) → IsName text → IsIdent text
ident_of text h = record { ident = run_is text h.identifier }

pub has_both : (xs ys : List TokenValue) → HasNames (xs ++ ys) → HasNames xs × HasNames ys
has_both [] ys h = (tt, h)
has_both (AWord w ∷ xs) ys h = has_both xs ys h
has_both (AName text ∷ xs) ys h = let rest = has_both xs ys h.1 in ((h.0, rest.0), rest.1)
has_both (ANumber n ∷ xs) ys h = has_both xs ys h
has_both (AString text v ∷ xs) ys h = has_both xs ys h
has_both (ABlock text ∷ xs) ys h = has_both xs ys h
has_both (AMark m ∷ xs) ys h = has_both xs ys h

pub each_has : {A : Type 0} (out : A → List TokenValue) (xs : List A) → HasNames (each out xs) → AllByRecursion (λ x. HasNames (out x)) xs
each_has out [] h = tt
each_has out (x ∷ xs) h = let both = has_both (out x) (each out xs) h in (both.0, each_has out xs both.1)
