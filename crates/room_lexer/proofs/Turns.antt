-- The turns of the loop over a text.
use Rattle.std.proofs.Common.{◌≡◌, ℕ, zero, suc, ◌+◌, ◌-◌, ◌<◌, List, [], ◌∷◌, ◌++◌, length, drop, Result, Ok, Err, refl, sym, ap, ◌∙◌, append_assoc, append-nil, arith}
use Rattle.room_lexer.specs.Front.{front}
use Rattle.room_lexer.specs.Cutting.{cut, map_ok, tokens_of, fault_at}
use Rattle.room_lexer.specs.declared.piece.Kind.{Kind}
use Rattle.room_lexer.specs.declared.piece.Cause.{Cause}
use Rattle.room_lexer.specs.declared.fault.LexFault.{LexFault}
use Rattle.room_lexer.specs.declared.token.Token.{Token}

pub with_none : (r : Result (List Token) LexFault) → map_ok (λ ts. [] ++ ts) r ≡ r
with_none (Ok ts) = refl
with_none (Err e) = refl

regroup : (so_far more : List Token) (r : Result (List Token) LexFault) → map_ok (λ ts. so_far ++ ts) (map_ok (λ ts. more ++ ts) r) ≡ map_ok (λ ts. (so_far ++ more) ++ ts) r
regroup so_far more (Ok ts) = ap Ok (sym (append_assoc so_far more ts))
regroup so_far more (Err e) = refl

pub goes : (found : List Token) (n at : ℕ) (bytes : List ℕ) (kind : Kind) (len : ℕ) (total : Result (List Token) LexFault) → 0 < length bytes → length bytes < n → front bytes ≡ Ok (kind, len)
    → map_ok (λ ts. found ++ ts) (cut n at bytes) ≡ total → map_ok (λ ts. (found ++ tokens_of kind at (at + len)) ++ ts) (cut (n - 1) (at + len) (drop len bytes)) ≡ total
unfolding cut
goes found zero at bytes kind len total some lt h so_far = absurd (omega arith)
goes found (suc n) at [] kind len total some lt h so_far = absurd (omega arith)
goes found (suc n) at (b ∷ bs) kind len total some lt h so_far =
    let less : suc n - 1 ≡ n = omega arith in
    let one : map_ok (λ ts. found ++ ts) (cut (suc n) at (b ∷ bs)) ≡ map_ok (λ ts. (found ++ tokens_of kind at (at + len)) ++ ts) (cut n (at + len) (drop len (b ∷ bs))) =
    rw h (regroup found (tokens_of kind at (at + len)) (cut n (at + len) (drop len (b ∷ bs)))) in
    rw less (sym one ∙ so_far)

pub fails : (found : List Token) (n at : ℕ) (bytes : List ℕ) (f : Cause) (total : Result (List Token) LexFault) → 0 < length bytes → length bytes < n → front bytes ≡ Err f → map_ok (λ ts. found ++ ts) (cut n at bytes) ≡ total → total ≡ Err (fault_at f at)
unfolding cut
fails found zero at bytes f total some lt h so_far = absurd (omega arith)
fails found (suc n) at [] f total some lt h so_far = absurd (omega arith)
fails found (suc n) at (b ∷ bs) f total some lt h so_far =
    let one : map_ok (λ ts. found ++ ts) (cut (suc n) at (b ∷ bs)) ≡ Err (fault_at f at) = rw h refl in
    sym so_far ∙ one

pub is_done : (found : List Token) (n at : ℕ) (bytes : List ℕ) (total : Result (List Token) LexFault) → length bytes ≡ 0 → length bytes < n → map_ok (λ ts. found ++ ts) (cut n at bytes) ≡ total → total ≡ Ok found
unfolding cut
is_done found zero at bytes total none lt so_far = absurd (omega arith)
is_done found (suc n) at [] total none lt so_far =
    let one : map_ok (λ ts. found ++ ts) (cut (suc n) at []) ≡ Ok found = ap Ok (append-nil found) in
    sym so_far ∙ one
is_done found (suc n) at (b ∷ bs) total none lt so_far = absurd (omega arith)
