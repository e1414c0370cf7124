-- The tokens are those of the cut, and a fault is where the cut can't go on.
use Rattle.std.proofs.Common.{◌≡◌, ℕ, zero, suc, ◌+◌, ◌<◌, ◌≤◌, List, [], ◌∷◌, ◌++◌, length, take, drop, Result, Ok, Err, refl, sym, ap, ◌∙◌, subst, lit<, append_assoc, length-append, length-drop, arith}
use Rattle.std.proofs.lemmas.List.{length-take}
use Rattle.std.proofs.lemmas.List.{take_at, drop_at, take-append-drop}
use Rattle.room_lexer.specs.Front.{front}
use Rattle.std.proofs.lemmas.List.{map-append}
use Rattle.std.specs.Prelude.{map, IfOk, ◌-◌}
use Rattle.std.specs.Global.{Vec}
use Rattle.room_lexer.specs.Cutting.{Gives, cut, tokens, go_on, map_ok, tokens_of, fault_at}
use Rattle.room_lexer.specs.Marks.{mark_text}
use Rattle.room_lexer.specs.Cut.{Piece, IsPiece, CutTo, placed, end_of, Offends, FailsAt, slice, text_if_token, token_texts, Rises}
use Rattle.room_lexer.specs.declared.piece.Kind.TheVariants.{Blank, LineComment, BlockComment, Documentation}
use Rattle.room_lexer.specs.declared.piece.Kind.TheVariants as pieces
use Rattle.room_lexer.specs.declared.token.TokenKind.TheVariants.{Ident, Number, Str, Block}
use Rattle.room_lexer.specs.declared.token.TokenKind.TheVariants as kinds
use Rattle.room_lexer.specs.declared.token.Mark.{Mark}
use Rattle.room_lexer.specs.declared.token.Mark.TheVariants as marks
use Rattle.room_lexer.specs.declared.piece.Kind.{Kind}
use Rattle.room_lexer.specs.declared.piece.Cause.{Cause}
use Rattle.room_lexer.specs.declared.piece.Cause.TheVariants.{BadByte, OpenString, OpenComment, NumberTooLarge}
use Rattle.room_lexer.specs.declared.fault.LexFault.{LexFault}
use Rattle.room_lexer.specs.declared.token.Token.{Token}
use Rattle.room_lexer.proofs.Front.{Right, front_right, front_again, bad_offends}

-- ---- what has a cut is read so

pub mark_some : (m : Mark) → 0 < length (mark_text m)
mark_some marks.OpenBrace = lit< tt
mark_some marks.CloseBrace = lit< tt
mark_some marks.OpenParen = lit< tt
mark_some marks.CloseParen = lit< tt
mark_some marks.OpenBracket = lit< tt
mark_some marks.CloseBracket = lit< tt
mark_some marks.Less = lit< tt
mark_some marks.Greater = lit< tt
mark_some marks.Colon = lit< tt
mark_some marks.Comma = lit< tt
mark_some marks.Dot = lit< tt
mark_some marks.Star = lit< tt
mark_some marks.Minus = lit< tt
mark_some marks.Equals = lit< tt
mark_some marks.Bar = lit< tt
mark_some marks.Slash = lit< tt
mark_some marks.Semicolon = lit< tt
mark_some marks.Plus = lit< tt
mark_some marks.Percent = lit< tt
mark_some marks.Bang = lit< tt
mark_some marks.Arrow = lit< tt
mark_some marks.EqualEqual = lit< tt
mark_some marks.NotEqual = lit< tt
mark_some marks.AtMost = lit< tt
mark_some marks.AtLeast = lit< tt
mark_some marks.AndAnd = lit< tt
mark_some marks.OrOr = lit< tt

piece_some : (k : Kind) (text : List ℕ) → IsPiece k text → 0 < length text
piece_some Blank [] is = absurd is
piece_some Blank (b ∷ bs) is = omega arith
piece_some LineComment text is = omega (arith, ap length is.2)
piece_some BlockComment text is = omega (arith, ap length is.2)
piece_some Documentation text is = omega (arith, ap length is.3)
piece_some (pieces.Token Str) text is = omega (arith, ap length is.2)
piece_some (pieces.Token Block) text is = omega (arith, ap length is.2)
piece_some (pieces.Token (kinds.Mark m)) text is = omega (arith, ap length is, mark_some m)
piece_some (pieces.Token (Ident word)) [] is = absurd is.0
piece_some (pieces.Token (Ident word)) (b ∷ bs) is = omega arith
piece_some (pieces.Token (Number n)) [] is = absurd is.0
piece_some (pieces.Token (Number n)) (b ∷ bs) is = omega arith

cut_piece : (n at : ℕ) (k : Kind) (text after : List ℕ) → 0 < length text → front (text ++ after) ≡ Ok (k, length text)
    → cut (suc n) at (text ++ after) ≡ map_ok (λ ts. tokens_of k at (at + length text) ++ ts) (cut n (at + length text) after)
unfolding cut
cut_piece n at k [] after some h = absurd (omega arith)
cut_piece n at k (b ∷ bs) after some h = rw (h, drop_at (b ∷ bs) after _ refl) refl

pub cut_again : (ps : List Piece) (n at : ℕ) (bytes : List ℕ) → length bytes < n → CutTo bytes ps [] → cut n at bytes ≡ Ok (placed at ps)
unfolding cut
cut_again [] zero at bytes lt h = absurd (omega arith)
cut_again [] (suc n) at bytes lt h = ap (cut (suc n) at) h
cut_again (p ∷ ps) zero at bytes lt h = absurd (omega arith)
cut_again (p ∷ ps) (suc n) at bytes lt h =
    let some = piece_some p.kind p.text h.2 in
    let shorter : length h.0 < n = omega (arith, ap length h.1, length-append p.text h.0, some) in
    ap (cut (suc n) at) h.1
    ∙ cut_piece n at p.kind p.text h.0 some (front_again p.kind p.text h.0 h.2 h.3 h.4)
    ∙ ap (map_ok (λ ts. tokens_of p.kind at (at + length p.text) ++ ts)) (cut_again ps n (at + length p.text) h.0 shorter h.5)

-- ---- what is read is cut so

-- a text of which this was read from the place on
abbrev pub Explains : Result (List Token) LexFault → ℕ → List ℕ → Type 0
Explains (Ok ts) at bytes = (ps : List Piece) × CutTo bytes ps [] × (ts ≡ placed at ps)
Explains (Err e) at bytes = (cause : Cause) × (ps : List Piece) × (rest : List ℕ) × CutTo bytes ps rest × (e ≡ fault_at cause (end_of at ps)) × Offends cause rest

-- one piece more
extend : (k : Kind) (len at : ℕ) (bytes : List ℕ) (r : Result (List Token) LexFault) → Right (Ok (k, len)) bytes → Explains r (at + len) (drop len bytes) → Explains (map_ok (λ ts. tokens_of k at (at + len) ++ ts) r) at bytes
extend k len at bytes (Ok ts) right more =
    let n : length (take len bytes) ≡ len = omega (arith, length-take len bytes, right.3) in
    (record { kind = k; text = take len bytes } ∷ more.0, (drop len bytes, sym (take-append-drop len bytes), right.0, right.1, right.2, more.1), rw (n, more.2) refl)
extend k len at bytes (Err e) right more =
    let n : length (take len bytes) ≡ len = omega (arith, length-take len bytes, right.3) in
    (more.0, record { kind = k; text = take len bytes } ∷ more.1, more.2, (drop len bytes, sym (take-append-drop len bytes), right.0, right.1, right.2, more.3), rw n more.4, more.5)

explain : (n at b : ℕ) (bs : List ℕ) (r : Result (Kind × ℕ) Cause) → front (b ∷ bs) ≡ r → Right r (b ∷ bs) → ((len : ℕ) → 0 < len → Explains (cut n (at + len) (drop len (b ∷ bs))) (at + len) (drop len (b ∷ bs)))
    → Explains (go_on (λ len. cut n (at + len) (drop len (b ∷ bs))) at r) at (b ∷ bs)
explain n at b bs (Ok x) h right more =
    let some : 0 < x.1 = omega (arith, piece_some x.0 (take x.1 (b ∷ bs)) right.0, length-take x.1 (b ∷ bs)) in
    extend x.0 x.1 at (b ∷ bs) (cut n (at + x.1) (drop x.1 (b ∷ bs))) right (more x.1 some)
explain n at b bs (Err BadByte) h right more = (BadByte, [], b ∷ bs, refl, refl, bad_offends (b ∷ bs) h)
explain n at b bs (Err OpenString) h right more = (OpenString, [], b ∷ bs, refl, refl, right)
explain n at b bs (Err OpenComment) h right more = (OpenComment, [], b ∷ bs, refl, refl, right)
explain n at b bs (Err NumberTooLarge) h right more = (NumberTooLarge, [], b ∷ bs, refl, refl, right)

pub cut_explains : (n at : ℕ) (bytes : List ℕ) → length bytes < n → Explains (cut n at bytes) at bytes
unfolding cut
cut_explains zero at bytes lt = absurd (omega arith)
cut_explains (suc n) at [] lt = ([], refl, refl)
cut_explains (suc n) at (b ∷ bs) lt =
    explain n at b bs (front (b ∷ bs)) refl (front_right (b ∷ bs)) (λ len some. cut_explains n (at + len) (drop len (b ∷ bs)) (omega (arith, length-drop len (b ∷ bs))))

-- what is found at the front is no longer than the bytes, and not empty
pub front_within : (bytes : List ℕ) (k : Kind) (len : ℕ) → front bytes ≡ Ok (k, len) → (0 < len) × (len ≤ length bytes)
front_within bytes k len e =
    let right = rw e at (front_right bytes) in
    (omega (arith, piece_some k (take len bytes) right.0, length-take len bytes), right.3)

-- ---- the answer

pub found : (r : Result (Vec Token) LexFault) (bytes : List ℕ) → Gives r (tokens bytes) → IfOk r (λ v. (ps : List Piece) × CutTo bytes ps [] × (v.items ≡ placed 0 ps))
unfolding tokens
found (Ok v) bytes h = rw h at (cut_explains (length bytes + 1) 0 bytes (omega arith))
found (Err e) bytes h = tt

pub only : (r : Result (Vec Token) LexFault) (bytes : List ℕ) → Gives r (tokens bytes) → (ps : List Piece) → CutTo bytes ps [] → Gives r (Ok (placed 0 ps))
unfolding tokens
only r bytes h ps is = rw (← cut_again ps (length bytes + 1) 0 bytes (omega arith) is) h

fault_is : (cause other : Cause) (at place : ℕ) → fault_at cause at ≡ fault_at other place → (cause ≡ other) × (at ≡ place)
fault_is BadByte BadByte at place e = (refl, cc)
fault_is BadByte OpenString at place e = absurd cc
fault_is BadByte OpenComment at place e = absurd cc
fault_is BadByte NumberTooLarge at place e = absurd cc
fault_is OpenString BadByte at place e = absurd cc
fault_is OpenString OpenString at place e = (refl, cc)
fault_is OpenString OpenComment at place e = absurd cc
fault_is OpenString NumberTooLarge at place e = absurd cc
fault_is OpenComment BadByte at place e = absurd cc
fault_is OpenComment OpenString at place e = absurd cc
fault_is OpenComment OpenComment at place e = (refl, cc)
fault_is OpenComment NumberTooLarge at place e = absurd cc
fault_is NumberTooLarge BadByte at place e = absurd cc
fault_is NumberTooLarge OpenString at place e = absurd cc
fault_is NumberTooLarge OpenComment at place e = absurd cc
fault_is NumberTooLarge NumberTooLarge at place e = (refl, cc)

gives_err : (r : Result (Vec Token) LexFault) (read : Result (List Token) LexFault) (cause : Cause) (at : ℕ) → Gives r read → r ≡ Err (fault_at cause at) → read ≡ Err (fault_at cause at)
gives_err r read BadByte at h e = rw e at h
gives_err r read OpenString at h e = rw e at h
gives_err r read OpenComment at h e = rw e at h
gives_err r read NumberTooLarge at h e = rw e at h

-- a fault that was returned is the one that is read
pub gives_fault : (read : Result (List Token) LexFault) (cause : Cause) (at : ℕ) → read ≡ Err (fault_at cause at) → Gives (Err (fault_at cause at)) read
gives_fault read BadByte at e = e
gives_fault read OpenString at e = e
gives_fault read OpenComment at e = e
gives_fault read NumberTooLarge at e = e

pub failed : (r : Result (Vec Token) LexFault) (bytes : List ℕ) (cause : Cause) → Gives r (tokens bytes) → (at : ℕ) → r ≡ Err (fault_at cause at) → FailsAt cause at bytes
unfolding tokens
failed r bytes cause h at e =
    let x = rw (gives_err r (cut (length bytes + 1) 0 bytes) cause at h e) at (cut_explains (length bytes + 1) 0 bytes (omega arith)) in
    let same = fault_is cause x.0 at (end_of 0 x.1) x.4 in
    (x.1, x.2, x.3, same.1, subst (λ (c : Cause). Offends c x.2) (sym same.0) x.5)

-- ---- the spans

map-tokens : (bytes : List ℕ) (k : Kind) (at : ℕ) (text before after : List ℕ) → length before ≡ at → bytes ≡ before ++ (text ++ after) → map (slice bytes) (tokens_of k at (at + length text)) ≡ text_if_token k text
map-tokens bytes Blank at text before after n e = refl
map-tokens bytes LineComment at text before after n e = refl
map-tokens bytes BlockComment at text before after n e = refl
map-tokens bytes Documentation at text before after n e = refl
map-tokens bytes (pieces.Token k) at text before after n e =
    let len : at + length text - at ≡ length text = omega arith in
    ap (λ (t : List ℕ). t ∷ []) (rw (len, e, drop_at before (text ++ after) at n) (take_at text after _ refl))

pub texts : (bytes : List ℕ) (ps : List Piece) (at : ℕ) (before rest : List ℕ) → length before ≡ at → bytes ≡ before ++ rest → CutTo rest ps [] → map (slice bytes) (placed at ps) ≡ token_texts ps
texts bytes [] at before rest n e h = refl
texts bytes (p ∷ ps) at before rest n e h =
    let whole : bytes ≡ before ++ (p.text ++ h.0) = e ∙ ap (λ (t : List ℕ). before ++ t) h.1 in
    map-append (slice bytes) (tokens_of p.kind at (at + length p.text)) (placed (at + length p.text) ps)
    ∙ ap (λ (ts : List (List ℕ)). ts ++ map (slice bytes) (placed (at + length p.text) ps)) (map-tokens bytes p.kind at p.text before h.0 n whole)
    ∙ ap (λ (ts : List (List ℕ)). text_if_token p.kind p.text ++ ts) (texts bytes ps (at + length p.text) (before ++ p.text) h.0 (omega (arith, length-append before p.text)) (whole ∙ sym (append_assoc before p.text h.0)) h.5)

rise_from : (at later : ℕ) (ts : List Token) → at ≤ later → Rises later ts → Rises at ts
rise_from at later [] le h = tt
rise_from at later (t ∷ ts) le h = (omega (arith, h.0), h.1, h.2)

with_kind : (k : Kind) (at len : ℕ) (ts : List Token) → 0 < len → Rises (at + len) ts → Rises at (tokens_of k at (at + len) ++ ts)
with_kind Blank at len ts some h = rise_from at (at + len) _ (omega arith) h
with_kind LineComment at len ts some h = rise_from at (at + len) _ (omega arith) h
with_kind BlockComment at len ts some h = rise_from at (at + len) _ (omega arith) h
with_kind Documentation at len ts some h = rise_from at (at + len) _ (omega arith) h
with_kind (pieces.Token k) at len ts some h = (omega arith, omega arith, h)

pub rise : (ps : List Piece) (at : ℕ) (bytes : List ℕ) → CutTo bytes ps [] → Rises at (placed at ps)
rise [] at bytes h = tt
rise (p ∷ ps) at bytes h = with_kind p.kind at (length p.text) _ (piece_some p.kind p.text h.2) (rise ps (at + length p.text) h.0 h.5)
