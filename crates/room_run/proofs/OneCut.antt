-- A text is cut in one way: it has tokens, or one byte at which it can't be cut.
use Rattle.std.proofs.Common.{◌≡◌, ◌≢◌, ℕ, zero, suc, ◌+◌, ◌<◌, nat_le, true, false, List, [], ◌∷◌, ◌++◌, length, take, drop, Option, Some, None, Result, Ok, Err, inl, inr, refl, sym, ap, ◌∙◌, subst, length-append, length-drop, arith}
use Rattle.std.specs.List.{prefix_len}
use Rattle.std.proofs.lemmas.List.{take_at, drop_at, take-append-drop}
use Rattle.std.proofs.lemmas.Bool.{lt-leb}
use Rattle.std.proofs.lemmas.Bool.Decides.{nat_tests}
use Rattle.room_lexer.specs.Front.{front, is_digit, is_letter, max_number, value, number_of, number_front, enclosed}
use Rattle.room_lexer.specs.Enclosed.{is_blank, Closes, closed_len}
use Rattle.room_lexer.specs.Cutting.{cut, tokens, go_on, map_ok, tokens_of, fault_at}
use Rattle.room_lexer.specs.Cut.{Piece, CutTo, placed, end_of, IsRun, IsOpenText, Offends, FailsAt}
use Rattle.room_lexer.specs.declared.enclosed.Place.{Place}
use Rattle.room_lexer.specs.declared.enclosed.Place.TheVariants as places
use Rattle.room_lexer.specs.declared.piece.Kind.{Kind}
use Rattle.room_lexer.specs.declared.piece.Kind.TheVariants as pieces
use Rattle.room_lexer.specs.declared.piece.Cause.{Cause}
use Rattle.room_lexer.specs.declared.piece.Cause.TheVariants.{BadByte, OpenString, OpenComment, NumberTooLarge}
use Rattle.room_lexer.specs.declared.token.TokenKind.TheVariants as kinds
use Rattle.room_lexer.specs.declared.token.Token.{Token}
use Rattle.room_lexer.specs.declared.fault.LexFault.{LexFault}
use Rattle.room_lexer.specs.declared.fault.LexFault.TheVariants as faults
use Rattle.room_lexer.proofs.Runs.{prefix_of}
use Rattle.room_lexer.proofs.Closing.{closed_right}
use Rattle.room_lexer.proofs.Front.{Right, front_right, front_again}
use Rattle.room_lexer.proofs.Cut.{cut_again, front_within}

-- the place of a fault
abbrev place_of : LexFault → ℕ
place_of (faults.BadByte at) = at
place_of (faults.OpenString at) = at
place_of (faults.OpenComment at) = at
place_of (faults.NumberTooLarge at) = at
place_of faults.Memory = 0

place_is : (cause : Cause) (at : ℕ) → place_of (fault_at cause at) ≡ at
place_is BadByte at = refl
place_is OpenString at = refl
place_is OpenComment at = refl
place_is NumberTooLarge at = refl

err_is : (a b : LexFault) → ◌≡◌ {A = Result (List Token) LexFault} (Err a) (Err b) → a ≡ b
err_is a b e = cc

map_err : (f : List Token → List Token) (r : Result (List Token) LexFault) (e : LexFault) → map_ok f r ≡ Err e → r ≡ Err e
map_err f (Ok ts) e h = absurd cc
map_err f (Err x) e h = h

-- ---- a fault stands at a byte

cut_within : (n at : ℕ) (bytes : List ℕ) (cause : Cause) (place : ℕ) → cut n at bytes ≡ Err (fault_at cause place)
    → place < at + length bytes
unfolding cut
cut_within zero at bytes cause place h = absurd cc
cut_within (suc n) at [] cause place h = absurd cc
cut_within (suc n) at (b ∷ bs) cause place h =
    go (front (b ∷ bs)) refl h (λ len k. cut_within n (at + len) (drop len (b ∷ bs)) cause place k)
  where
    go : (r : Result (Kind × ℕ) Cause) → front (b ∷ bs) ≡ r
        → go_on (λ len. cut n (at + len) (drop len (b ∷ bs))) at r ≡ Err (fault_at cause place)
        → ((len : ℕ) → cut n (at + len) (drop len (b ∷ bs)) ≡ Err (fault_at cause place) → place < at + len + length (drop len (b ∷ bs)))
        → place < at + length (b ∷ bs)
    go (Err f) is k more =
        let same : at ≡ place = sym (place_is f at) ∙ ap place_of (err_is (fault_at f at) (fault_at cause place) k) ∙ place_is cause place in
        omega (arith, same)
    go (Ok x) is k more =
        let within = front_within (b ∷ bs) x.0 x.1 is in
        let later = more x.1 (map_err (λ ts. tokens_of x.0 at (at + x.1) ++ ts) (cut n (at + x.1) (drop x.1 (b ∷ bs))) (fault_at cause place) k) in
        omega (arith, within.0, within.1, later, length-drop x.1 (b ∷ bs))

pub fails_within : (text : List ℕ) (cause : Cause) (at : ℕ) → tokens text ≡ Err (fault_at cause at) → at < length text
unfolding tokens
fails_within text cause at h = let within = cut_within (length text + 1) 0 text cause at h in omega (arith, within)

-- ---- where a text offends, no piece begins

never_closed : (place : Place) (more : List ℕ) → ((inside after : List ℕ) → Closes place inside → more ≢ inside ++ after)
    → closed_len place more ≡ None
never_closed place more never = go (closed_len place more) refl
  where
    go : (o : Option ℕ) → closed_len place more ≡ o → o ≡ None
    go None e = refl
    go (Some n) e = absurd (never (take n more) (drop n more) (closed_right place more n e).closes (sym (take-append-drop n more)))

not_open : (kind : Kind) (opening : ℕ) (cause : Cause) (place : Place) (more : List ℕ) (x : Kind × ℕ)
    → ((inside after : List ℕ) → Closes place inside → more ≢ inside ++ after) → enclosed kind opening cause (closed_len place more) ≡ Ok x → ⊥
not_open kind opening cause place more x never e =
    let none : enclosed kind opening cause (closed_len place more) ≡ Err cause = ap (enclosed kind opening cause) (never_closed place more never) in
    cc

not_text : (rest : List ℕ) (x : Kind × ℕ) → IsOpenText rest → front rest ≡ Ok x → ⊥
unfolding front
not_text rest x (inl s) e = not_open (pieces.Token kinds.Str) 1 OpenString places.Text s.0 x s.2 (sym (ap front s.1) ∙ e)
not_text rest x (inr (inl s)) e = not_open (pieces.Token kinds.Block) 3 OpenString places.Block s.0 x s.2 (sym (ap front s.1) ∙ e)
not_text rest x (inr (inr d)) e =
    let begins : front (91 ∷ d.0.0) ≡ enclosed pieces.Documentation 1 OpenString (closed_len places.Between d.0.0) = rw d.1 refl in
    not_open pieces.Documentation 1 OpenString places.Between d.0.0 x d.0.2 (sym begins ∙ sym (ap front d.0.1) ∙ e)

not_comment : (rest : List ℕ) (x : Kind × ℕ) → Offends OpenComment rest → front rest ≡ Ok x → ⊥
unfolding front
not_comment rest x s e = not_open pieces.BlockComment 2 OpenComment places.Comment s.0 x s.2 (sym (ap front s.1) ∙ e)

digit_not_blank : (b : ℕ) → is_digit b ≡ true → is_blank b ≡ false
digit_not_blank b h = grind (arith, nat_tests)

digit_not_letter : (b : ℕ) → is_digit b ≡ true → is_letter b ≡ false
digit_not_letter b h = grind (arith, nat_tests)

too_large : (n : ℕ) (ds : List ℕ) → n ≡ value ds → max_number < n → number_of ds ≡ None
unfolding number_of
too_large n ds e large =
    let above : nat_le (value ds) max_number ≡ false = lt-leb (value ds) max_number (omega (arith, e, large)) in rw above refl

not_number : (rest : List ℕ) (x : Kind × ℕ) → Offends NumberTooLarge rest → front rest ≡ Ok x → ⊥
unfolding front
not_number rest x o e = go o.1 o.3 o.4
  where
    go : (text : List ℕ) → IsRun is_digit is_digit text × (o.0 ≡ value text) → rest ≡ text ++ o.2 → ⊥
    go [] is whole = absurd is.0
    go (b ∷ bs) is whole =
        let len : 1 + prefix_len is_digit (bs ++ o.2) ≡ length (b ∷ bs) = rw (prefix_of is_digit bs o.2 is.0.1 o.5) (omega arith) in
        let same : take (1 + prefix_len is_digit (bs ++ o.2)) (b ∷ (bs ++ o.2)) ≡ b ∷ bs = take_at (b ∷ bs) o.2 _ (sym len) in
        let none : number_of (take (1 + prefix_len is_digit (bs ++ o.2)) (b ∷ (bs ++ o.2))) ≡ None = ap number_of same ∙ too_large o.0 (b ∷ bs) is.1 o.6 in
        let begins : front (b ∷ (bs ++ o.2)) ≡ number_front (1 + prefix_len is_digit (bs ++ o.2)) (number_of (take (1 + prefix_len is_digit (bs ++ o.2)) (b ∷ (bs ++ o.2)))) =
        rw (digit_not_blank b is.0.0, digit_not_letter b is.0.0, is.0.0) refl in
        let fault : front rest ≡ Err NumberTooLarge = ap front whole ∙ begins ∙ ap (number_front (1 + prefix_len is_digit (bs ++ o.2))) none in
        cc

stops_here : (cause : Cause) (rest : List ℕ) (x : Kind × ℕ) → Offends cause rest → front rest ≡ Ok x → ⊥
stops_here BadByte rest x o e =
    let right : Right (Ok x) rest = subst (λ (r : Result (Kind × ℕ) Cause). Right r rest) e (front_right rest) in
    o.0 x.0 (take x.1 rest) (drop x.1 rest) right.0 (take-append-drop x.1 rest)
stops_here OpenString rest x o e = not_text rest x o e
stops_here OpenComment rest x o e = not_comment rest x o e
stops_here NumberTooLarge rest x o e = not_number rest x o e

-- ---- a text is cut in one way

cut_piece : (n at : ℕ) (k : Kind) (text after : List ℕ) → 0 < length text → front (text ++ after) ≡ Ok (k, length text)
    → cut (suc n) at (text ++ after) ≡ map_ok (λ ts. tokens_of k at (at + length text) ++ ts) (cut n (at + length text) after)
unfolding cut
cut_piece n at k [] after some h = absurd (omega arith)
cut_piece n at k (b ∷ bs) after some h = rw (h, drop_at (b ∷ bs) after _ refl) refl

-- where the cut stops before a byte, a fault is read at its place
record Stops (r : Result (List Token) LexFault) (at : ℕ) : Type 0 where
  cause : Cause
  is : r ≡ Err (fault_at cause at)

cut_stops : (ps : List Piece) (n at : ℕ) (bytes rest : List ℕ) (cause : Cause) → length bytes < n → CutTo bytes ps rest
    → 0 < length rest → Offends cause rest
    → Stops (cut n at bytes) (end_of at ps)
unfolding cut
cut_stops [] zero at bytes rest cause lt h some o = absurd (omega arith)
cut_stops [] (suc n) at [] rest cause lt h some o = absurd (omega (arith, ap length h, some))
cut_stops [] (suc n) at (b ∷ bs) rest cause lt h some o = go (front (b ∷ bs)) refl
  where
    go : (r : Result (Kind × ℕ) Cause) → front (b ∷ bs) ≡ r → Stops (cut (suc n) at (b ∷ bs)) at
    go (Ok x) e = absurd (stops_here cause (b ∷ bs) x (subst (Offends cause) (sym h) o) e)
    go (Err f) e = record { cause = f; is = ap (go_on (λ len. cut n (at + len) (drop len (b ∷ bs))) at) e }
cut_stops (p ∷ ps) zero at bytes rest cause lt h some o = absurd (omega arith)
cut_stops (p ∷ ps) (suc n) at bytes rest cause lt h some o =
    let read = front_again p.kind p.text h.0 h.2 h.3 h.4 in
    let long : 0 < length p.text = (front_within (p.text ++ h.0) p.kind (length p.text) read).0 in
    let shorter : length h.0 < n = omega (arith, lt, ap length h.1, length-append p.text h.0, long) in
    let more = cut_stops ps n (at + length p.text) h.0 rest cause shorter h.5 some o in
    record {
      cause = more.cause;
      is = ap (cut (suc n) at) h.1 ∙ cut_piece n at p.kind p.text h.0 long read
          ∙ ap (map_ok (λ ts. tokens_of p.kind at (at + length p.text) ++ ts)) more.is;
    }

cut_length : (ps : List Piece) (at : ℕ) (bytes rest : List ℕ) → CutTo bytes ps rest → end_of at ps + length rest ≡ at + length bytes
cut_length [] at bytes rest h = ap (λ (xs : List ℕ). at + length xs) (sym h)
cut_length (p ∷ ps) at bytes rest h =
    let more = cut_length ps (at + length p.text) h.0 rest h.5 in omega (arith, more, ap length h.1, length-append p.text h.0)

-- a fault at a byte is the one that is read
fault_read : (text : List ℕ) (cause : Cause) (at : ℕ) → FailsAt cause at text → at < length text → Stops (tokens text) at
unfolding tokens
fault_read text cause at h within =
    let long = cut_length h.0 0 text h.1 h.2 in
    let place = h.3 in
    subst (Stops (cut (length text + 1) 0 text)) (sym h.3) (cut_stops h.0 (length text + 1) 0 text h.1 cause (omega arith) h.2 (omega (arith, long, place, within)) h.4)

-- a text that can't be cut at a byte has no tokens
pub not_both_cut : (text : List ℕ) (cause : Cause) (at : ℕ) (ps : List Piece) → FailsAt cause at text → at < length text
    → CutTo text ps [] → ⊥
unfolding tokens
not_both_cut text cause at ps h within whole =
    let fault = fault_read text cause at h within in
    let read : tokens text ≡ Ok (placed 0 ps) = cut_again ps (length text + 1) 0 text (omega arith) whole in
    let is = fault.is in cc

-- and it can't be cut at one byte alone
pub one_fault : (text : List ℕ) (cause other : Cause) (at place : ℕ) → FailsAt cause at text → at < length text
    → FailsAt other place text → place < length text → at ≡ place
one_fault text cause other at place h within k inside =
    let a = fault_read text cause at h within in
    let b = fault_read text other place k inside in
    sym (place_is a.cause at) ∙ ap place_of (err_is (fault_at a.cause at) (fault_at b.cause place) (sym a.is ∙ b.is)) ∙ place_is b.cause place

-- no text has two lists of tokens
pub one_cut : (text : List ℕ) (ps qs : List Piece) → CutTo text ps [] → CutTo text qs [] → placed 0 ps ≡ placed 0 qs
one_cut text ps qs h k =
    let both : ◌≡◌ {A = Result (List Token) LexFault} (Ok (placed 0 ps)) (Ok (placed 0 qs)) =
    sym (cut_again ps (length text + 1) 0 text (omega arith) h) ∙ cut_again qs (length text + 1) 0 text (omega arith) k in
    cc
