-- The contents of a STRING, byte by byte.
use Rattle.std.proofs.Common.{◌≡◌, ℕ, suc, ◌+◌, ◌<◌, ◌≤◌, Bool, List, ◌∷◌, ◌++◌, length, get_or, drop, sym, ap, ◌∙◌, append_assoc, append-nil, add-one, drop-cons}
use Rattle.std.specs.Prelude.{option_to_list}
use Rattle.std.proofs.lemmas.List.{drop_all}
use Rattle.room_tokens.specs.Contents.{written, takes, unescaped}

-- one byte more
pub unescaped-step : (front : List ℕ) (taken : Bool) (i : ℕ) (bs whole : List ℕ) → i < length bs → front ++ unescaped taken (drop i bs) ≡ whole
    → (front ++ option_to_list (written taken (get_or bs i 0))) ++ unescaped (takes taken (get_or bs i 0)) (drop (i + 1) bs) ≡ whole
unfolding unescaped
unescaped-step front taken i bs whole h so_far =
    let first : drop i bs ≡ get_or bs i 0 ∷ drop (suc i) bs = drop-cons bs i 0 h in
    rw add-one (append_assoc front (option_to_list (written taken (get_or bs i 0))) (unescaped (takes taken (get_or bs i 0)) (drop (suc i) bs)) ∙ sym (ap (λ (t : List ℕ). front ++ unescaped taken t) first) ∙ so_far)

-- no byte is left
pub unescaped-end : (front : List ℕ) (taken : Bool) (i : ℕ) (bs whole : List ℕ) → length bs ≤ i → front ++ unescaped taken (drop i bs) ≡ whole → front ≡ whole
unfolding unescaped
unescaped-end front taken i bs whole h so_far = sym (append-nil front) ∙ sym (ap (λ (t : List ℕ). front ++ unescaped taken t) (drop_all i bs h)) ∙ so_far
