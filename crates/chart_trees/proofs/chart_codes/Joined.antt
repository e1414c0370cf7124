-- Texts joined by line feeds.
use Rattle.std.proofs.Common.{◌≡◌, ℕ, ◌+◌, ◌-◌, ◌<◌, ◌≤◌, drop, arith, List, [], ◌∷◌, ◌++◌, length, take, get_or, map, refl, sym, ap, ◌∙◌, append_assoc}
use Rattle.std.specs.List.{join_with_byte, flat_map}
use Rattle.std.proofs.lemmas.List.{take_more, take_all, append-nil}
use Rattle.std.proofs.lemmas.List.Concat.{flat_map-append}

-- texts, each behind a line feed
abbrev pub lines : {X : Type 0} → (X → List ℕ) → List X → List ℕ
lines v xs = flat_map (λ x. 10 ∷ v x) xs

pub join_is : {X : Type 0} (v : X → List ℕ) (x : X) (xs : List X) → join_with_byte 10 (map v (x ∷ xs)) ≡ v x ++ lines v xs
join_is v x [] = sym (append-nil (v x))
join_is v x (y ∷ ys) = ap (λ zs. v x ++ (10 ∷ zs)) (join_is v y ys)

lines_more : {X : Type 0} (v : X → List ℕ) (xs : List X) (x : X) → lines v (xs ++ x ∷ []) ≡ lines v xs ++ (10 ∷ v x)
lines_more v xs x = flat_map-append (λ y. 10 ∷ v y) xs (x ∷ []) ∙ ap (λ zs. lines v xs ++ (10 ∷ zs)) (append-nil (v x))

-- one text more
pub lines_next : {X : Type 0} (v : X → List ℕ) (xs : List X) (i : ℕ) (x : X) (start old new : List ℕ) → i < length xs → x ≡ get_or xs i x → old ≡ start ++ lines v (take i xs) → new ≡ old ++ (10 ∷ v x) → new ≡ start ++ lines v (take (i + 1) xs)
lines_next v xs i x start old new lt is so_far more =
    more ∙ ap (λ ys. ys ++ (10 ∷ v x)) so_far ∙ append_assoc start (lines v (take i xs)) (10 ∷ v x) ∙ ap (λ y. start ++ (lines v (take i xs) ++ (10 ∷ v y))) is
    ∙ ap (λ ys. start ++ ys) (sym (ap (lines v) (take_more xs i x lt) ∙ lines_more v (take i xs) (get_or xs i x)))

-- the texts behind the first one
behind : {A : Type 0} (x : A) (xs : List A) → take (length (x ∷ xs) - 1) (drop 1 (x ∷ xs)) ≡ xs
behind x xs = take_all (length (x ∷ xs) - 1) xs (omega arith)

pub joined_end : {X : Type 0} (v : X → List ℕ) (xs : List X) (first : X) (start bytes : List ℕ) (i : ℕ) → 1 ≤ length xs → first ≡ get_or xs 0 first → start ≡ v first → length (take (length xs - 1) (drop 1 xs)) ≤ i → bytes ≡ start ++ lines v (take i (take (length xs - 1) (drop 1 xs))) → bytes ≡ join_with_byte 10 (map v xs)
joined_end v [] first start bytes i some is begins all so_far = absurd (omega arith)
joined_end v (x ∷ xs) first start bytes i some is begins all so_far =
    so_far ∙ ap (λ ys. ys ++ lines v (take i (take (length (x ∷ xs) - 1) (drop 1 (x ∷ xs))))) (begins ∙ ap v is)
    ∙ ap (λ ys. v x ++ lines v ys) (take_all i (take (length (x ∷ xs) - 1) (drop 1 (x ∷ xs))) all ∙ behind x xs) ∙ sym (join_is v x xs)
