-- What is read at the front is a piece that ends there, and each such piece is read.
use Rattle.std.proofs.Common.{◌≡◌, ◌≢◌, ℕ, zero, suc, ◌+◌, ◌≤◌, Bool, true, false, cond, eqb, List, [], ◌∷◌, ◌++◌, length, take, drop, Option, Some, None, Result, Ok, Err, refl, sym, ap, ◌∙◌, subst, arith, inl, inr, lit≤}
use Rattle.std.specs.Prelude.{◌&&◌, ◌||◌, nat_le, ◌==◌}
use Rattle.std.specs.List.{prefix_len}
use Rattle.std.proofs.lemmas.Bool.Decides.{nat_tests}
use Rattle.std.proofs.lemmas.Bool.{le-leb, leb-true, leb-false, eqb-true}
use Rattle.std.proofs.lemmas.List.{take_at, take-append-drop}
use Rattle.room_lexer.specs.Words.{word_of}
use Rattle.room_lexer.specs.Marks.{mark_text, mark_of, pair_of}
use Rattle.room_lexer.specs.Enclosed.{is_blank, walk, After, Closes, closed_len, begins_string}
use Rattle.room_lexer.specs.declared.enclosed.Step.TheVariants.{On}
use Rattle.room_lexer.specs.Front.{is_letter, is_digit, is_word, on_line, max_number, value, number_of, begins, begins_two, first_or_zero, number_front, enclosed, mark_front, longest_mark, front}
use Rattle.room_lexer.specs.Cut.{IsPiece, Ends, NoLonger, OpensNothing, Fits, IsOpenText, Offends}
use Rattle.room_lexer.specs.declared.enclosed.Place.{Place}
use Rattle.room_lexer.specs.declared.enclosed.Place.TheVariants as places
use Rattle.room_lexer.specs.declared.piece.Kind.{Kind}
use Rattle.room_lexer.specs.declared.piece.Kind.TheVariants.{Blank, LineComment, BlockComment, Documentation}
use Rattle.room_lexer.specs.declared.piece.Kind.TheVariants as pieces
use Rattle.room_lexer.specs.declared.piece.Cause.{Cause}
use Rattle.room_lexer.specs.declared.piece.Cause.TheVariants.{BadByte, OpenString, OpenComment, NumberTooLarge}
use Rattle.room_lexer.specs.declared.token.TokenKind.TheVariants.{Ident, Number, Str, Block}
use Rattle.room_lexer.specs.declared.token.TokenKind.TheVariants as kinds
use Rattle.room_lexer.specs.declared.token.Mark.{Mark}
use Rattle.room_lexer.specs.declared.token.Mark.TheVariants as marks
use Rattle.room_lexer.proofs.Runs.{prefix_splits, prefix_of}
use Rattle.room_lexer.proofs.Words.{word_right, word_again}
use Rattle.room_lexer.proofs.Closing.{closed_again, stays_open, closed_right, begins_string-append}

-- ---- no byte is of two classes

letter_not_blank : (b : ℕ) → is_letter b ≡ true → is_blank b ≡ false
letter_not_blank b h = grind (arith, nat_tests)

digit_not_blank : (b : ℕ) → is_digit b ≡ true → is_blank b ≡ false
digit_not_blank b h = grind (arith, nat_tests)

digit_not_letter : (b : ℕ) → is_digit b ≡ true → is_letter b ≡ false
digit_not_letter b h = grind (arith, nat_tests)

-- ---- what each first byte gives

front_blank : (b : ℕ) (bs : List ℕ) → is_blank b ≡ true → front (b ∷ bs) ≡ Ok (Blank, 1 + prefix_len is_blank bs)
unfolding front
front_blank b bs h = rw h refl

front_letter : (b : ℕ) (bs : List ℕ) → is_letter b ≡ true → front (b ∷ bs) ≡ Ok (pieces.Token (Ident (word_of (take (1 + prefix_len is_word bs) (b ∷ bs)))), 1 + prefix_len is_word bs)
unfolding front
front_letter b bs h = rw (letter_not_blank b h, h) refl

front_digit : (b : ℕ) (bs : List ℕ) → is_digit b ≡ true → front (b ∷ bs) ≡ number_front (1 + prefix_len is_digit bs) (number_of (take (1 + prefix_len is_digit bs) (b ∷ bs)))
unfolding front
front_digit b bs h = rw (digit_not_blank b h, digit_not_letter b h, h) refl

front_quote : (bs : List ℕ) → front (34 ∷ bs) ≡ enclosed (pieces.Token Str) 1 OpenString (closed_len places.Text bs)
unfolding front
front_quote bs = refl

front_line : (bs : List ℕ) → front (47 ∷ 47 ∷ bs) ≡ Ok (LineComment, 1 + prefix_len on_line (47 ∷ bs))
unfolding front
front_line bs = refl

front_comment : (bs : List ℕ) → front (47 ∷ 42 ∷ bs) ≡ enclosed BlockComment 2 OpenComment (closed_len places.Comment bs)
unfolding front
front_comment bs = refl

front_documentation : (bs : List ℕ) → begins_string bs ≡ true → front (91 ∷ bs) ≡ enclosed Documentation 1 OpenString (closed_len places.Between bs)
unfolding front
front_documentation bs h = rw h refl

front_block : (bs : List ℕ) → front (39 ∷ 39 ∷ 39 ∷ bs) ≡ enclosed (pieces.Token Block) 3 OpenString (closed_len places.Block bs)
unfolding front
front_block bs = refl

-- ---- marks

-- what comes behind the first byte of a longer mark isn't its second byte
not_pair : (m longer : Mark) (b d c : ℕ) (cs : List ℕ) → mark_text m ≡ b ∷ [] → mark_text longer ≡ b ∷ d ∷ [] → NoLonger m (c ∷ cs) → eqb c d ≡ false
not_pair m longer b d c cs short long none = by_test (eqb c d) refl
  where
    by_test : (t : Bool) → eqb c d ≡ t → t ≡ false
    by_test false e = refl
    by_test true e =
        let same : c ≡ d = eqb-true c d e in
        let longer_comes : mark_text m ++ c ∷ cs ≡ mark_text longer ++ cs = rw (short, long, same) refl in
        absurd (none longer cs (omega (arith, ap length short, ap length long)) longer_comes)

front_mark : (m : Mark) (rest : List ℕ) → NoLonger m rest → OpensNothing m rest → front (mark_text m ++ rest) ≡ Ok (pieces.Token (kinds.Mark m), length (mark_text m))
unfolding front mark_of pair_of
front_mark marks.OpenBrace rest none opens = refl
front_mark marks.CloseBrace rest none opens = refl
front_mark marks.OpenParen rest none opens = refl
front_mark marks.CloseParen rest none opens = refl
front_mark marks.OpenBracket rest none opens = rw opens refl
front_mark marks.CloseBracket rest none opens = refl
front_mark marks.Less [] none opens = refl
front_mark marks.Less (c ∷ cs) none opens = rw (not_pair marks.Less marks.AtMost 60 61 c cs refl refl none) refl
front_mark marks.Greater [] none opens = refl
front_mark marks.Greater (c ∷ cs) none opens = rw (not_pair marks.Greater marks.AtLeast 62 61 c cs refl refl none) refl
front_mark marks.Colon rest none opens = refl
front_mark marks.Comma rest none opens = refl
front_mark marks.Dot rest none opens = refl
front_mark marks.Star rest none opens = refl
front_mark marks.Minus [] none opens = refl
front_mark marks.Minus (c ∷ cs) none opens = rw (not_pair marks.Minus marks.Arrow 45 62 c cs refl refl none) refl
front_mark marks.Equals [] none opens = refl
front_mark marks.Equals (c ∷ cs) none opens = rw (not_pair marks.Equals marks.EqualEqual 61 61 c cs refl refl none) refl
front_mark marks.Bar [] none opens = refl
front_mark marks.Bar (c ∷ cs) none opens = rw (not_pair marks.Bar marks.OrOr 124 124 c cs refl refl none) refl
front_mark marks.Slash [] none opens = refl
front_mark marks.Slash (c ∷ cs) none opens = let parts = neither (eqb c 47) (eqb c 42) opens in rw (parts.0, parts.1) refl
  where
    neither : (s t : Bool) → (s || t) ≡ false → (s ≡ false) × (t ≡ false)
    neither true t e = absurd cc
    neither false t e = (refl, e)
front_mark marks.Semicolon rest none opens = refl
front_mark marks.Plus rest none opens = refl
front_mark marks.Percent rest none opens = refl
front_mark marks.Bang [] none opens = refl
front_mark marks.Bang (c ∷ cs) none opens = rw (not_pair marks.Bang marks.NotEqual 33 61 c cs refl refl none) refl
front_mark marks.Arrow rest none opens = refl
front_mark marks.EqualEqual rest none opens = refl
front_mark marks.NotEqual rest none opens = refl
front_mark marks.AtMost rest none opens = refl
front_mark marks.AtLeast rest none opens = refl
front_mark marks.AndAnd rest none opens = refl
front_mark marks.OrOr rest none opens = refl

-- ---- each piece is read

number_fits : (ds : List ℕ) (n : ℕ) → n ≡ value ds → n ≤ max_number → number_of ds ≡ Some n
unfolding number_of
number_fits ds n e fits = let yes_fits : nat_le (value ds) max_number ≡ true = le-leb (value ds) max_number (omega arith) in rw yes_fits (ap (λ (m : ℕ). Some m) (sym e))

-- what an opening opened is read to its end
enclosed_again : (kind : Kind) (k : ℕ) (cause : Cause) (place : Place) (inside rest : List ℕ) → Closes place inside → enclosed kind k cause (closed_len place (inside ++ rest)) ≡ Ok (kind, k + length inside)
enclosed_again kind k cause place inside rest h = rw (closed_again place inside rest h) refl

pub front_again : (k : Kind) (text rest : List ℕ) → IsPiece k text → Ends k rest → Fits k → front (text ++ rest) ≡ Ok (k, length text)
front_again Blank [] rest is ends fits = absurd is
front_again Blank (b ∷ bs) rest is ends fits = front_blank b (bs ++ rest) is.0 ∙ ap (λ (n : ℕ). Ok (Blank, 1 + n)) (prefix_of is_blank bs rest is.1 ends) ∙ ap (λ (n : ℕ). Ok (Blank, n)) (omega arith)
front_again LineComment text rest is ends fits =
    ap (λ (t : List ℕ). front (t ++ rest)) is.2 ∙ front_line (is.0 ++ rest)
    ∙ ap (λ (n : ℕ). Ok (LineComment, 1 + n)) (prefix_of on_line (47 ∷ is.0) rest (refl, is.1) ends)
    ∙ ap (λ (n : ℕ). Ok (LineComment, n)) (omega (arith, ap length is.2))
front_again BlockComment text rest is ends fits =
    ap (λ (t : List ℕ). front (t ++ rest)) is.2 ∙ front_comment (is.0 ++ rest) ∙ enclosed_again BlockComment 2 OpenComment places.Comment is.0 rest is.1
    ∙ ap (λ (n : ℕ). Ok (BlockComment, n)) (omega (arith, ap length is.2))
front_again Documentation text rest is ends fits =
    ap (λ (t : List ℕ). front (t ++ rest)) is.3 ∙ front_documentation (is.0 ++ rest) (begins_string-append is.0 rest is.1) ∙ enclosed_again Documentation 1 OpenString places.Between is.0 rest is.2
    ∙ ap (λ (n : ℕ). Ok (Documentation, n)) (omega (arith, ap length is.3))
front_again (pieces.Token Str) text rest is ends fits =
    ap (λ (t : List ℕ). front (t ++ rest)) is.2 ∙ front_quote (is.0 ++ rest) ∙ enclosed_again (pieces.Token Str) 1 OpenString places.Text is.0 rest is.1
    ∙ ap (λ (n : ℕ). Ok (pieces.Token Str, n)) (omega (arith, ap length is.2))
front_again (pieces.Token Block) text rest is ends fits =
    ap (λ (t : List ℕ). front (t ++ rest)) is.2 ∙ front_block (is.0 ++ rest) ∙ enclosed_again (pieces.Token Block) 3 OpenString places.Block is.0 rest is.1
    ∙ ap (λ (n : ℕ). Ok (pieces.Token Block, n)) (omega (arith, ap length is.2))
front_again (pieces.Token (kinds.Mark m)) text rest is ends fits = ap (λ (t : List ℕ). front (t ++ rest)) is ∙ front_mark m rest ends.0 ends.1 ∙ ap (λ (t : List ℕ). Ok (pieces.Token (kinds.Mark m), length t)) (sym is)
front_again (pieces.Token (Ident word)) [] rest is ends fits = absurd is.0
front_again (pieces.Token (Ident word)) (b ∷ bs) rest is ends fits =
    let len : 1 + prefix_len is_word (bs ++ rest) ≡ length (b ∷ bs) = rw (prefix_of is_word bs rest is.0.1 ends) (omega arith) in
    let same : take (1 + prefix_len is_word (bs ++ rest)) (b ∷ bs ++ rest) ≡ b ∷ bs = take_at (b ∷ bs) rest _ (sym len) in
    front_letter b (bs ++ rest) is.0.0 ∙ ap (λ (t : List ℕ). Ok (pieces.Token (Ident (word_of t)), 1 + prefix_len is_word (bs ++ rest))) same
    ∙ ap (λ (o : Option _). Ok (pieces.Token (Ident o), 1 + prefix_len is_word (bs ++ rest))) (word_again word (b ∷ bs) is.1) ∙ ap (λ (n : ℕ). Ok (pieces.Token (Ident word), n)) len
front_again (pieces.Token (Number n)) [] rest is ends fits = absurd is.0
front_again (pieces.Token (Number n)) (b ∷ bs) rest is ends fits =
    let len : 1 + prefix_len is_digit (bs ++ rest) ≡ length (b ∷ bs) = rw (prefix_of is_digit bs rest is.0.1 ends) (omega arith) in
    let same : take (1 + prefix_len is_digit (bs ++ rest)) (b ∷ bs ++ rest) ≡ b ∷ bs = take_at (b ∷ bs) rest _ (sym len) in
    front_digit b (bs ++ rest) is.0.0 ∙ ap (λ (t : List ℕ). number_front (1 + prefix_len is_digit (bs ++ rest)) (number_of t)) same ∙ ap (λ (o : Option ℕ). number_front (1 + prefix_len is_digit (bs ++ rest)) o) (number_fits (b ∷ bs) n is.1 fits)
    ∙ ap (λ (m : ℕ). Ok (pieces.Token (Number n), m)) len

-- ---- where a piece stands no byte is bad

number_not_bad : (len : ℕ) (o : Option ℕ) → number_front len o ≢ Err BadByte
number_not_bad len None e = cc
number_not_bad len (Some n) e = cc

string_not_bad : (kind : Kind) (k : ℕ) (o : Option ℕ) → enclosed kind k OpenString o ≢ Err BadByte
string_not_bad kind k None e = cc
string_not_bad kind k (Some n) e = cc

comment_not_bad : (kind : Kind) (k : ℕ) (o : Option ℕ) → enclosed kind k OpenComment o ≢ Err BadByte
comment_not_bad kind k None e = cc
comment_not_bad kind k (Some n) e = cc

longest_not_bad : (o : Option Mark) (m : Mark) → longest_mark o (Some m) ≢ Err BadByte
longest_not_bad None m e = cc
longest_not_bad (Some n) m e = cc

by_cond : {A : Type 0} (Q : A → Type 0) (t : Bool) (x y : A) → (t ≡ true → Q x) → (t ≡ false → Q y) → Q (cond t x y)
by_cond Q true x y f g = f refl
by_cond Q false x y f g = g refl

abbrev NotBad : Result (Kind × ℕ) Cause → Type 0
NotBad r = r ≢ Err BadByte

slash_not_bad : (after : List ℕ) → front (47 ∷ after) ≢ Err BadByte
unfolding front mark_of
slash_not_bad [] = longest_not_bad (pair_of 47 0) marks.Slash
slash_not_bad (c ∷ cs) =
    by_cond NotBad (eqb c 47) _ _ (λ _ e. cc) (λ _.
    by_cond NotBad (eqb c 42) _ _ (λ _. comment_not_bad BlockComment 2 (closed_len places.Comment cs)) (λ _. longest_not_bad (pair_of 47 c) marks.Slash))

bracket_not_bad : (after : List ℕ) → front (91 ∷ after) ≢ Err BadByte
unfolding front mark_of
bracket_not_bad after = by_cond NotBad (begins_string after) _ _ (λ _. string_not_bad Documentation 1 (closed_len places.Between after)) (λ _. longest_not_bad (pair_of 91 (first_or_zero after)) marks.OpenBracket)

and_not_bad : longest_mark (pair_of 38 38) None ≢ Err BadByte
unfolding pair_of
and_not_bad e = cc

mark_not_bad : (m : Mark) (after : List ℕ) → front (mark_text m ++ after) ≢ Err BadByte
unfolding front mark_of
mark_not_bad marks.Slash after = slash_not_bad after
mark_not_bad marks.OpenBracket after = bracket_not_bad after
mark_not_bad marks.OpenBrace after = longest_not_bad (pair_of 123 (first_or_zero after)) marks.OpenBrace
mark_not_bad marks.CloseBrace after = longest_not_bad (pair_of 125 (first_or_zero after)) marks.CloseBrace
mark_not_bad marks.OpenParen after = longest_not_bad (pair_of 40 (first_or_zero after)) marks.OpenParen
mark_not_bad marks.CloseParen after = longest_not_bad (pair_of 41 (first_or_zero after)) marks.CloseParen
mark_not_bad marks.CloseBracket after = longest_not_bad (pair_of 93 (first_or_zero after)) marks.CloseBracket
mark_not_bad marks.Less after = longest_not_bad (pair_of 60 (first_or_zero after)) marks.Less
mark_not_bad marks.Greater after = longest_not_bad (pair_of 62 (first_or_zero after)) marks.Greater
mark_not_bad marks.Colon after = longest_not_bad (pair_of 58 (first_or_zero after)) marks.Colon
mark_not_bad marks.Comma after = longest_not_bad (pair_of 44 (first_or_zero after)) marks.Comma
mark_not_bad marks.Dot after = longest_not_bad (pair_of 46 (first_or_zero after)) marks.Dot
mark_not_bad marks.Star after = longest_not_bad (pair_of 42 (first_or_zero after)) marks.Star
mark_not_bad marks.Minus after = longest_not_bad (pair_of 45 (first_or_zero after)) marks.Minus
mark_not_bad marks.Equals after = longest_not_bad (pair_of 61 (first_or_zero after)) marks.Equals
mark_not_bad marks.Bar after = longest_not_bad (pair_of 124 (first_or_zero after)) marks.Bar
mark_not_bad marks.Semicolon after = longest_not_bad (pair_of 59 (first_or_zero after)) marks.Semicolon
mark_not_bad marks.Plus after = longest_not_bad (pair_of 43 (first_or_zero after)) marks.Plus
mark_not_bad marks.Percent after = longest_not_bad (pair_of 37 (first_or_zero after)) marks.Percent
mark_not_bad marks.Bang after = longest_not_bad (pair_of 33 (first_or_zero after)) marks.Bang
mark_not_bad marks.Arrow after = longest_not_bad (pair_of 45 62) marks.Minus
mark_not_bad marks.EqualEqual after = longest_not_bad (pair_of 61 61) marks.Equals
mark_not_bad marks.NotEqual after = longest_not_bad (pair_of 33 61) marks.Bang
mark_not_bad marks.AtMost after = longest_not_bad (pair_of 60 61) marks.Less
mark_not_bad marks.AtLeast after = longest_not_bad (pair_of 62 61) marks.Greater
mark_not_bad marks.AndAnd after = and_not_bad
mark_not_bad marks.OrOr after = longest_not_bad (pair_of 124 124) marks.Bar

front_not_bad : (k : Kind) (text after : List ℕ) → IsPiece k text → front (text ++ after) ≢ Err BadByte
front_not_bad Blank [] after is e = is
front_not_bad Blank (b ∷ bs) after is e = let found = sym (front_blank b (bs ++ after) is.0) ∙ e in cc
front_not_bad LineComment text after is e = let found = sym (ap (λ (t : List ℕ). front (t ++ after)) is.2 ∙ front_line (is.0 ++ after)) ∙ e in cc
front_not_bad BlockComment text after is e = comment_not_bad _ _ _ (sym (ap (λ (t : List ℕ). front (t ++ after)) is.2 ∙ front_comment (is.0 ++ after)) ∙ e)
front_not_bad Documentation text after is e = string_not_bad _ _ _ (sym (ap (λ (t : List ℕ). front (t ++ after)) is.3 ∙ front_documentation (is.0 ++ after) (begins_string-append is.0 after is.1)) ∙ e)
front_not_bad (pieces.Token Str) text after is e = string_not_bad _ _ _ (sym (ap (λ (t : List ℕ). front (t ++ after)) is.2 ∙ front_quote (is.0 ++ after)) ∙ e)
front_not_bad (pieces.Token Block) text after is e = string_not_bad _ _ _ (sym (ap (λ (t : List ℕ). front (t ++ after)) is.2 ∙ front_block (is.0 ++ after)) ∙ e)
front_not_bad (pieces.Token (kinds.Mark m)) text after is e = mark_not_bad m after (ap (λ (t : List ℕ). front (t ++ after)) (sym is) ∙ e)
front_not_bad (pieces.Token (Ident word)) [] after is e = is.0
front_not_bad (pieces.Token (Ident word)) (b ∷ bs) after is e = let found = sym (front_letter b (bs ++ after) is.0.0) ∙ e in cc
front_not_bad (pieces.Token (Number n)) [] after is e = is.0
front_not_bad (pieces.Token (Number n)) (b ∷ bs) after is e = number_not_bad _ _ (sym (front_digit b (bs ++ after) is.0.0) ∙ e)

-- what opens a string, a block or a documentation is no strange byte
open_not_bad : (rest : List ℕ) → IsOpenText rest → front rest ≢ Err BadByte
open_not_bad rest (inl o) e = string_not_bad _ _ _ (sym (ap front o.1 ∙ front_quote o.0) ∙ e)
open_not_bad rest (inr (inl o)) e = string_not_bad _ _ _ (sym (ap front o.1 ∙ front_block o.0) ∙ e)
open_not_bad rest (inr (inr o)) e = bracket_not_bad o.0.0 (sym (ap front o.0.1) ∙ e)

pub bad_offends : (bytes : List ℕ) → front bytes ≡ Err BadByte → Offends BadByte bytes
bad_offends bytes h = ((λ k text after is e. front_not_bad k text after is (ap front e ∙ h)), (λ o. open_not_bad bytes o h))

-- ---- what is read is a piece

-- what an answer says of the bytes
abbrev pub Right : Result (Kind × ℕ) Cause → List ℕ → Type 0
Right (Ok x) bytes = IsPiece x.0 (take x.1 bytes) × Ends x.0 (drop x.1 bytes) × Fits x.0 × (x.1 ≤ length bytes)
Right (Err BadByte) bytes = Unit {0}
Right (Err OpenString) bytes = Offends OpenString bytes
Right (Err OpenComment) bytes = Offends OpenComment bytes
Right (Err NumberTooLarge) bytes = Offends NumberTooLarge bytes

both : (a b : Bool) → (a && b) ≡ true → (a ≡ true) × (b ≡ true)
both true true e = (refl, refl)
both true false e = absurd cc
both false b e = absurd cc

-- a byte that comes stands there
begins_is : (c : ℕ) (bs : List ℕ) → begins c bs ≡ true → bs ≡ c ∷ drop 1 bs
begins_is c [] e = absurd cc
begins_is c (b ∷ bs) e = ap (λ (x : ℕ). x ∷ bs) (eqb-true b c e)

begins_two_is : (c d : ℕ) (bs : List ℕ) → begins_two c d bs ≡ true → bs ≡ c ∷ d ∷ drop 2 bs
begins_two_is c d [] e = absurd cc
begins_two_is c d (b ∷ bs) e =
    let parts = both (eqb b c) (begins d bs) e in
    let first : b ≡ c = eqb-true b c parts.0 in
    let second : bs ≡ d ∷ drop 1 bs = begins_is d bs parts.1 in
    ap (λ (x : ℕ). x ∷ bs) first ∙ ap (λ (xs : List ℕ). c ∷ xs) second

run_right : (b : ℕ) (bs : List ℕ) → is_blank b ≡ true → Right (Ok (Blank, 1 + prefix_len is_blank bs)) (b ∷ bs)
run_right b bs h =
    let s = prefix_splits is_blank bs in
    let n : 1 + prefix_len is_blank bs ≡ suc (prefix_len is_blank bs) = omega arith in
    rw n ((h, s.passes), s.stops, tt, omega (arith, s.short))

word_run : (b : ℕ) (bs : List ℕ) → is_letter b ≡ true → Right (Ok (pieces.Token (Ident (word_of (take (1 + prefix_len is_word bs) (b ∷ bs)))), 1 + prefix_len is_word bs)) (b ∷ bs)
word_run b bs h =
    let s = prefix_splits is_word bs in
    let n : 1 + prefix_len is_word bs ≡ suc (prefix_len is_word bs) = omega arith in
    rw n (((h, s.passes), word_right (b ∷ take (prefix_len is_word bs) bs)), s.stops, tt, omega (arith, s.short))

number_right : (b : ℕ) (bs : List ℕ) (t : Bool) → is_digit b ≡ true → nat_le (value (b ∷ take (prefix_len is_digit bs) bs)) max_number ≡ t
    → Right (number_front (suc (prefix_len is_digit bs)) (cond t (Some (value (b ∷ take (prefix_len is_digit bs) bs))) None)) (b ∷ bs)
number_right b bs true h e = let s = prefix_splits is_digit bs in (((h, s.passes), refl), s.stops, leb-true _ _ e, omega (arith, s.short))
number_right b bs false h e =
    let s = prefix_splits is_digit bs in
    (value (b ∷ take (prefix_len is_digit bs) bs), b ∷ take (prefix_len is_digit bs) bs, drop (prefix_len is_digit bs) bs, ((h, s.passes), refl), ap (λ (t : List ℕ). b ∷ t) (sym (take-append-drop (prefix_len is_digit bs) bs)), s.stops, leb-false _ _ e)

digits_right : (b : ℕ) (bs : List ℕ) → is_digit b ≡ true → Right (number_front (1 + prefix_len is_digit bs) (number_of (take (1 + prefix_len is_digit bs) (b ∷ bs)))) (b ∷ bs)
unfolding number_of
digits_right b bs h =
    let n : 1 + prefix_len is_digit bs ≡ suc (prefix_len is_digit bs) = omega arith in
    rw n (number_right b bs _ h refl)

-- ---- what is enclosed

by_closed : (Q : Result (Kind × ℕ) Cause → Type 0) (kind : Kind) (k : ℕ) (cause : Cause) (o : Option ℕ) → (o ≡ None → Q (Err cause)) → ((n : ℕ) → o ≡ Some n → Q (Ok (kind, k + n))) → Q (enclosed kind k cause o)
by_closed Q kind k cause None f g = f refl
by_closed Q kind k cause (Some n) f g = g n refl

quote_right : (bs : List ℕ) → Right (enclosed (pieces.Token Str) 1 OpenString (closed_len places.Text bs)) (34 ∷ bs)
quote_right bs =
    by_closed (λ r. Right r (34 ∷ bs)) (pieces.Token Str) 1 OpenString (closed_len places.Text bs) (λ none. inl (bs, refl, stays_open places.Text bs none)) (λ n some.
    let c = closed_right places.Text bs n some in
    let more : 1 + n ≡ suc n = omega arith in
    rw more ((take n bs, c.closes, refl), tt, tt, omega (arith, c.short)))

comment_right : (bs : List ℕ) → Right (enclosed BlockComment 2 OpenComment (closed_len places.Comment bs)) (47 ∷ 42 ∷ bs)
comment_right bs =
    by_closed (λ r. Right r (47 ∷ 42 ∷ bs)) BlockComment 2 OpenComment (closed_len places.Comment bs) (λ none. (bs, refl, stays_open places.Comment bs none)) (λ n some.
    let c = closed_right places.Comment bs n some in
    let more : 2 + n ≡ suc (suc n) = omega arith in
    rw more ((take n bs, c.closes, refl), tt, tt, omega (arith, c.short)))

block_right : (bs : List ℕ) → Right (enclosed (pieces.Token Block) 3 OpenString (closed_len places.Block bs)) (39 ∷ 39 ∷ 39 ∷ bs)
block_right bs =
    by_closed (λ r. Right r (39 ∷ 39 ∷ 39 ∷ bs)) (pieces.Token Block) 3 OpenString (closed_len places.Block bs) (λ none. inr (inl (bs, refl, stays_open places.Block bs none))) (λ n some.
    let c = closed_right places.Block bs n some in
    let more : 3 + n ≡ suc (suc (suc n)) = omega arith in
    rw more ((take n bs, c.closes, refl), tt, tt, omega (arith, c.short)))

-- the string that begins a documentation stands in what is taken of it
walk_blank : (b : ℕ) → is_blank b ≡ true → walk places.Between b ≡ On places.Between
unfolding walk
walk_blank b h =
    let not_end : eqb b 93 ≡ false = grind (arith, nat_tests) in
    let not_quote : eqb b 34 ≡ false = grind (arith, nat_tests) in
    rw (not_end, not_quote, h) refl

within_step : (b : ℕ) (bs : List ℕ) (t r s : Bool) → is_blank b ≡ t → After (λ q. Closes q bs) bs (walk places.Between b) → (Closes places.Between bs → r ≡ true → s ≡ true) → cond t r (eqb b 34) ≡ true → cond t s (eqb b 34) ≡ true
within_step b bs true r s blank closes more h = more (rw (walk_blank b blank) at closes) h
within_step b bs false r s blank closes more h = h

string_within : (n : ℕ) (bs : List ℕ) → Closes places.Between (take n bs) → begins_string bs ≡ true → begins_string (take n bs) ≡ true
unfolding begins_string
string_within zero bs closes h = absurd closes
string_within (suc n) [] closes h = absurd cc
string_within (suc n) (b ∷ bs) closes h = within_step b (take n bs) (is_blank b) (begins_string bs) (begins_string (take n bs)) refl closes (λ c more. string_within n bs c more) h

documentation_right : (bs : List ℕ) → begins_string bs ≡ true → Right (enclosed Documentation 1 OpenString (closed_len places.Between bs)) (91 ∷ bs)
documentation_right bs string =
    by_closed (λ r. Right r (91 ∷ bs)) Documentation 1 OpenString (closed_len places.Between bs) (λ none. inr (inr ((bs, refl, stays_open places.Between bs none), string))) (λ n some.
    let c = closed_right places.Between bs n some in
    let more : 1 + n ≡ suc n = omega arith in
    rw more ((take n bs, string_within n bs c.closes string, c.closes, refl), tt, tt, omega (arith, c.short)))

-- ---- what is read as a mark

mark_short : (m : Mark) → length (mark_text m) ≤ 2
mark_short marks.OpenBrace = lit≤ tt
mark_short marks.CloseBrace = lit≤ tt
mark_short marks.OpenParen = lit≤ tt
mark_short marks.CloseParen = lit≤ tt
mark_short marks.OpenBracket = lit≤ tt
mark_short marks.CloseBracket = lit≤ tt
mark_short marks.Less = lit≤ tt
mark_short marks.Greater = lit≤ tt
mark_short marks.Colon = lit≤ tt
mark_short marks.Comma = lit≤ tt
mark_short marks.Dot = lit≤ tt
mark_short marks.Star = lit≤ tt
mark_short marks.Minus = lit≤ tt
mark_short marks.Equals = lit≤ tt
mark_short marks.Bar = lit≤ tt
mark_short marks.Slash = lit≤ tt
mark_short marks.Semicolon = lit≤ tt
mark_short marks.Plus = lit≤ tt
mark_short marks.Percent = lit≤ tt
mark_short marks.Bang = lit≤ tt
mark_short marks.Arrow = lit≤ tt
mark_short marks.EqualEqual = lit≤ tt
mark_short marks.NotEqual = lit≤ tt
mark_short marks.AtMost = lit≤ tt
mark_short marks.AtLeast = lit≤ tt
mark_short marks.AndAnd = lit≤ tt
mark_short marks.OrOr = lit≤ tt

-- nothing is longer than two bytes
longest_pair : (m : Mark) (rest : List ℕ) → 2 ≡ length (mark_text m) → NoLonger m rest
longest_pair m rest two longer after lt e = absurd (omega (arith, mark_short longer))

clash : (longer : Mark) (b c d : ℕ) (bs after : List ℕ) → pair_of c d ≡ Some longer → b ∷ bs ≡ c ∷ d ∷ after → pair_of b (first_or_zero bs) ≢ None
clash longer b c d bs after some e none =
    let first : b ≡ c = cc in
    let others : bs ≡ d ∷ after = cc in
    let second : first_or_zero bs ≡ d = ap first_or_zero others in
    let found : pair_of b (first_or_zero bs) ≡ Some longer = rw (first, second) some in
    cc

-- where no two bytes are a mark, none that is longer stands
no_longer : (m : Mark) (b : ℕ) (bs : List ℕ) → mark_text m ≡ b ∷ [] → pair_of b (first_or_zero bs) ≡ None → NoLonger m bs
unfolding pair_of
no_longer m b bs one none marks.OpenBrace after lt e = absurd (omega (arith, ap length one))
no_longer m b bs one none marks.CloseBrace after lt e = absurd (omega (arith, ap length one))
no_longer m b bs one none marks.OpenParen after lt e = absurd (omega (arith, ap length one))
no_longer m b bs one none marks.CloseParen after lt e = absurd (omega (arith, ap length one))
no_longer m b bs one none marks.OpenBracket after lt e = absurd (omega (arith, ap length one))
no_longer m b bs one none marks.CloseBracket after lt e = absurd (omega (arith, ap length one))
no_longer m b bs one none marks.Less after lt e = absurd (omega (arith, ap length one))
no_longer m b bs one none marks.Greater after lt e = absurd (omega (arith, ap length one))
no_longer m b bs one none marks.Colon after lt e = absurd (omega (arith, ap length one))
no_longer m b bs one none marks.Comma after lt e = absurd (omega (arith, ap length one))
no_longer m b bs one none marks.Dot after lt e = absurd (omega (arith, ap length one))
no_longer m b bs one none marks.Star after lt e = absurd (omega (arith, ap length one))
no_longer m b bs one none marks.Minus after lt e = absurd (omega (arith, ap length one))
no_longer m b bs one none marks.Equals after lt e = absurd (omega (arith, ap length one))
no_longer m b bs one none marks.Bar after lt e = absurd (omega (arith, ap length one))
no_longer m b bs one none marks.Slash after lt e = absurd (omega (arith, ap length one))
no_longer m b bs one none marks.Semicolon after lt e = absurd (omega (arith, ap length one))
no_longer m b bs one none marks.Plus after lt e = absurd (omega (arith, ap length one))
no_longer m b bs one none marks.Percent after lt e = absurd (omega (arith, ap length one))
no_longer m b bs one none marks.Bang after lt e = absurd (omega (arith, ap length one))
no_longer m b bs one none marks.Arrow after lt e = clash marks.Arrow b 45 62 bs after refl (ap (λ (t : List ℕ). t ++ bs) (sym one) ∙ e) none
no_longer m b bs one none marks.EqualEqual after lt e = clash marks.EqualEqual b 61 61 bs after refl (ap (λ (t : List ℕ). t ++ bs) (sym one) ∙ e) none
no_longer m b bs one none marks.NotEqual after lt e = clash marks.NotEqual b 33 61 bs after refl (ap (λ (t : List ℕ). t ++ bs) (sym one) ∙ e) none
no_longer m b bs one none marks.AtMost after lt e = clash marks.AtMost b 60 61 bs after refl (ap (λ (t : List ℕ). t ++ bs) (sym one) ∙ e) none
no_longer m b bs one none marks.AtLeast after lt e = clash marks.AtLeast b 62 61 bs after refl (ap (λ (t : List ℕ). t ++ bs) (sym one) ∙ e) none
no_longer m b bs one none marks.AndAnd after lt e = clash marks.AndAnd b 38 38 bs after refl (ap (λ (t : List ℕ). t ++ bs) (sym one) ∙ e) none
no_longer m b bs one none marks.OrOr after lt e = clash marks.OrOr b 124 124 bs after refl (ap (λ (t : List ℕ). t ++ bs) (sym one) ∙ e) none

one_byte : (b : ℕ) (bs : List ℕ) (c : ℕ) → (b == c) ≡ true → take 1 (b ∷ bs) ≡ c ∷ []
one_byte b bs c h = ap (λ (x : ℕ). x ∷ []) (eqb-true b c h)

-- what is known where no comment and no documentation begins
record NothingOpens (b : ℕ) (bs : List ℕ) : Type 0 where
  line : (b == 47 && begins 47 bs) ≡ false
  comment : (b == 47 && begins 42 bs) ≡ false
  documentation : (b == 91 && begins_string bs) ≡ false

slash_stops : (b : ℕ) (bs : List ℕ) → NothingOpens b bs → (b == 47) ≡ true → OpensNothing marks.Slash bs
slash_stops b [] none h = tt
slash_stops b (c ∷ cs) none h =
    let first : eqb c 47 ≡ false = rw h at none.line in
    let second : eqb c 42 ≡ false = rw h at none.comment in
    rw (first, second) refl

bracket_stops : (b : ℕ) (bs : List ℕ) → NothingOpens b bs → (b == 91) ≡ true → OpensNothing marks.OpenBracket bs
bracket_stops b bs none h = rw h at none.documentation

abbrev Marks : ℕ → List ℕ → Option Mark → Type 0
Marks b bs o = Right (mark_front o) (b ∷ bs)

single : (m : Mark) (b c : ℕ) (bs : List ℕ) → mark_text m ≡ c ∷ [] → (b == c) ≡ true → pair_of b (first_or_zero bs) ≡ None → OpensNothing m bs → Marks b bs (Some m)
single m b c bs text same none opens =
    let first : b ≡ c = eqb-true b c same in
    let one : mark_text m ≡ b ∷ [] = text ∙ ap (λ (x : ℕ). x ∷ []) (sym first) in
    (sym one, (no_longer m b bs one none, opens), tt, omega arith)

-- a mark that is one byte
mark_right : (b : ℕ) (bs : List ℕ) → NothingOpens b bs → pair_of b (first_or_zero bs) ≡ None → Marks b bs (mark_of b)
unfolding mark_of
mark_right b bs nothing none =
    by_cond (Marks b bs) (b == 123) _ _ (λ h. single marks.OpenBrace b 123 bs refl h none tt) (λ _.
    by_cond (Marks b bs) (b == 125) _ _ (λ h. single marks.CloseBrace b 125 bs refl h none tt) (λ _.
    by_cond (Marks b bs) (b == 40) _ _ (λ h. single marks.OpenParen b 40 bs refl h none tt) (λ _.
    by_cond (Marks b bs) (b == 41) _ _ (λ h. single marks.CloseParen b 41 bs refl h none tt) (λ _.
    by_cond (Marks b bs) (b == 91) _ _ (λ h. single marks.OpenBracket b 91 bs refl h none (bracket_stops b bs nothing h)) (λ _.
    by_cond (Marks b bs) (b == 93) _ _ (λ h. single marks.CloseBracket b 93 bs refl h none tt) (λ _.
    by_cond (Marks b bs) (b == 60) _ _ (λ h. single marks.Less b 60 bs refl h none tt) (λ _.
    by_cond (Marks b bs) (b == 62) _ _ (λ h. single marks.Greater b 62 bs refl h none tt) (λ _.
    by_cond (Marks b bs) (b == 58) _ _ (λ h. single marks.Colon b 58 bs refl h none tt) (λ _.
    by_cond (Marks b bs) (b == 44) _ _ (λ h. single marks.Comma b 44 bs refl h none tt) (λ _.
    by_cond (Marks b bs) (b == 46) _ _ (λ h. single marks.Dot b 46 bs refl h none tt) (λ _.
    by_cond (Marks b bs) (b == 42) _ _ (λ h. single marks.Star b 42 bs refl h none tt) (λ _.
    by_cond (Marks b bs) (b == 45) _ _ (λ h. single marks.Minus b 45 bs refl h none tt) (λ _.
    by_cond (Marks b bs) (b == 61) _ _ (λ h. single marks.Equals b 61 bs refl h none tt) (λ _.
    by_cond (Marks b bs) (b == 124) _ _ (λ h. single marks.Bar b 124 bs refl h none tt) (λ _.
    by_cond (Marks b bs) (b == 47) _ _ (λ h. single marks.Slash b 47 bs refl h none (slash_stops b bs nothing h)) (λ _.
    by_cond (Marks b bs) (b == 59) _ _ (λ h. single marks.Semicolon b 59 bs refl h none tt) (λ _.
    by_cond (Marks b bs) (b == 43) _ _ (λ h. single marks.Plus b 43 bs refl h none tt) (λ _.
    by_cond (Marks b bs) (b == 37) _ _ (λ h. single marks.Percent b 37 bs refl h none tt) (λ _.
    by_cond (Marks b bs) (b == 33) _ _ (λ h. single marks.Bang b 33 bs refl h none tt) (λ _.
    tt))))))))))))))))))))

-- a mark that is two bytes
abbrev IsPair : ℕ → ℕ → Option Mark → Type 0
IsPair b c None = Unit {0}
IsPair b c (Some m) = (mark_text m ≡ b ∷ c ∷ []) × ((rest : List ℕ) → OpensNothing m rest)

two_bytes : (m : Mark) (b c d e : ℕ) → mark_text m ≡ d ∷ e ∷ [] → (b == d && c == e) ≡ true → mark_text m ≡ b ∷ c ∷ []
two_bytes m b c d e text same =
    let parts = both (b == d) (c == e) same in
    let first : b ≡ d = eqb-true b d parts.0 in
    let second : c ≡ e = eqb-true c e parts.1 in
    rw (first, second) text

pair_right : (b c : ℕ) → IsPair b c (pair_of b c)
unfolding pair_of
pair_right b c =
    by_cond (IsPair b c) (b == 45 && c == 62) _ _ (λ h. (two_bytes marks.Arrow b c 45 62 refl h, λ rest. tt)) (λ _.
    by_cond (IsPair b c) (b == 61 && c == 61) _ _ (λ h. (two_bytes marks.EqualEqual b c 61 61 refl h, λ rest. tt)) (λ _.
    by_cond (IsPair b c) (b == 33 && c == 61) _ _ (λ h. (two_bytes marks.NotEqual b c 33 61 refl h, λ rest. tt)) (λ _.
    by_cond (IsPair b c) (b == 60 && c == 61) _ _ (λ h. (two_bytes marks.AtMost b c 60 61 refl h, λ rest. tt)) (λ _.
    by_cond (IsPair b c) (b == 62 && c == 61) _ _ (λ h. (two_bytes marks.AtLeast b c 62 61 refl h, λ rest. tt)) (λ _.
    by_cond (IsPair b c) (b == 38 && c == 38) _ _ (λ h. (two_bytes marks.AndAnd b c 38 38 refl h, λ rest. tt)) (λ _.
    by_cond (IsPair b c) (b == 124 && c == 124) _ _ (λ h. (two_bytes marks.OrOr b c 124 124 refl h, λ rest. tt)) (λ _.
    tt)))))))

and_no : (t : Bool) → (t && false) ≡ false
and_no true = refl
and_no false = refl

pair_zero : (b : ℕ) → pair_of b 0 ≡ None
unfolding pair_of
pair_zero b = simp and_no

by_pair : (b c : ℕ) (cs : List ℕ) → NothingOpens b (c ∷ cs) → (o : Option Mark) → pair_of b c ≡ o → IsPair b c o → Right (longest_mark o (mark_of b)) (b ∷ c ∷ cs)
by_pair b c cs nothing None e is = mark_right b (c ∷ cs) nothing e
by_pair b c cs nothing (Some m) e is = (sym is.0, (longest_pair m cs (sym (ap length is.0)), is.1 cs), tt, omega arith)

marks_right : (b : ℕ) (bs : List ℕ) → NothingOpens b bs → Right (longest_mark (pair_of b (first_or_zero bs)) (mark_of b)) (b ∷ bs)
marks_right b [] nothing = rw (pair_zero b) (mark_right b [] nothing (pair_zero b))
marks_right b (c ∷ cs) nothing = by_pair b c cs nothing (pair_of b c) refl (pair_right b c)

-- ---- the whole front

line_right : (b : ℕ) (bs : List ℕ) → (b == 47 && begins 47 bs) ≡ true → Right (Ok (LineComment, 1 + prefix_len on_line bs)) (b ∷ bs)
line_right b [] h = absurd (let parts = both (b == 47) false h in cc parts.1)
line_right b (c ∷ cs) h =
    let parts = both (b == 47) (c == 47) h in
    let first : b ≡ 47 = eqb-true b 47 parts.0 in
    let second : c ≡ 47 = eqb-true c 47 parts.1 in
    let n : 1 + prefix_len on_line (c ∷ cs) ≡ suc (suc (prefix_len on_line cs)) = rw second (omega arith) in
    let t = prefix_splits on_line cs in
    rw n ((take (prefix_len on_line cs) cs, t.passes, rw (first, second) refl), t.stops, tt, omega (arith, t.short))

comment_here : (b : ℕ) (bs : List ℕ) → (b == 47 && begins 42 bs) ≡ true → Right (enclosed BlockComment 2 OpenComment (closed_len places.Comment (drop 1 bs))) (b ∷ bs)
comment_here b bs h =
    let parts = both (b == 47) (begins 42 bs) h in
    let whole : b ∷ bs ≡ 47 ∷ 42 ∷ drop 1 bs = ap (λ (x : ℕ). x ∷ bs) (eqb-true b 47 parts.0) ∙ ap (λ (t : List ℕ). 47 ∷ t) (begins_is 42 bs parts.1) in
    subst (Right (enclosed BlockComment 2 OpenComment (closed_len places.Comment (drop 1 bs)))) (sym whole) (comment_right (drop 1 bs))

documentation_here : (b : ℕ) (bs : List ℕ) → (b == 91 && begins_string bs) ≡ true → Right (enclosed Documentation 1 OpenString (closed_len places.Between bs)) (b ∷ bs)
documentation_here b bs h =
    let parts = both (b == 91) (begins_string bs) h in
    let whole : b ∷ bs ≡ 91 ∷ bs = ap (λ (x : ℕ). x ∷ bs) (eqb-true b 91 parts.0) in
    subst (Right (enclosed Documentation 1 OpenString (closed_len places.Between bs))) (sym whole) (documentation_right bs parts.1)

block_here : (b : ℕ) (bs : List ℕ) → (b == 39 && begins_two 39 39 bs) ≡ true → Right (enclosed (pieces.Token Block) 3 OpenString (closed_len places.Block (drop 2 bs))) (b ∷ bs)
block_here b bs h =
    let parts = both (b == 39) (begins_two 39 39 bs) h in
    let whole : b ∷ bs ≡ 39 ∷ 39 ∷ 39 ∷ drop 2 bs = ap (λ (x : ℕ). x ∷ bs) (eqb-true b 39 parts.0) ∙ ap (λ (t : List ℕ). 39 ∷ t) (begins_two_is 39 39 bs parts.1) in
    subst (Right (enclosed (pieces.Token Block) 3 OpenString (closed_len places.Block (drop 2 bs)))) (sym whole) (block_right (drop 2 bs))

quote_here : (b : ℕ) (bs : List ℕ) → (b == 34) ≡ true → Right (enclosed (pieces.Token Str) 1 OpenString (closed_len places.Text bs)) (b ∷ bs)
quote_here b bs h = subst (λ (x : ℕ). Right (enclosed (pieces.Token Str) 1 OpenString (closed_len places.Text bs)) (x ∷ bs)) (sym (eqb-true b 34 h)) (quote_right bs)

abbrev At : ℕ → List ℕ → Result (Kind × ℕ) Cause → Type 0
At b bs r = Right r (b ∷ bs)

pub front_right : (bytes : List ℕ) → Right (front bytes) bytes
unfolding front
front_right [] = tt
front_right (b ∷ bs) =
    by_cond (At b bs) (is_blank b) _ _ (run_right b bs) (λ _.
    by_cond (At b bs) (is_letter b) _ _ (word_run b bs) (λ _.
    by_cond (At b bs) (is_digit b) _ _ (digits_right b bs) (λ _.
    by_cond (At b bs) (b == 34) _ _ (quote_here b bs) (λ _.
    by_cond (At b bs) (b == 47 && begins 47 bs) _ _ (line_right b bs) (λ no_line.
    by_cond (At b bs) (b == 47 && begins 42 bs) _ _ (comment_here b bs) (λ no_comment.
    by_cond (At b bs) (b == 91 && begins_string bs) _ _ (documentation_here b bs) (λ no_documentation.
    by_cond (At b bs) (b == 39 && begins_two 39 39 bs) _ _ (block_here b bs) (λ _.
    marks_right b bs (record { line = no_line; comment = no_comment; documentation = no_documentation })))))))))
