-- Texts, cut at a byte.
use Rattle.std.proofs.Common.{◌≡◌, ℕ, suc, ◌+◌, ◌-◌, ◌<◌, ◌≤◌, Bool, true, false, cond, List, [], ◌∷◌, length, take, drop, not, refl, ap, ◌∙◌, arith, Option, Some, None}
use Rattle.std.specs.Prelude.{◌==◌}
use Rattle.std.specs.List.{prefix_len}
use Rattle.std.proofs.lemmas.List.{take_all}
use Rattle.text_reading.specs.Cuts.{cut_at}

one_more : (n : ℕ) → 1 + n ≡ suc n
one_more n = omega arith

-- what stands behind the byte in front
abbrev behind_one : List ℕ → Option (List ℕ)
behind_one [] = None
behind_one (b ∷ bs) = Some bs

pub cut_front : (c : ℕ) (s : List ℕ) → take (prefix_len (λ b. not (b == c)) s) s ≡ (cut_at c s).0
cut_front c [] = refl
cut_front c (b ∷ s) = by_test (b == c) (prefix_len (λ b. not (b == c)) s) (cut_front c s)
  where
    by_test : (t : Bool) (n : ℕ) → take n s ≡ (cut_at c s).0 → take (cond (not t) (1 + n) 0) (b ∷ s) ≡ (let cut : List ℕ × Option (List ℕ) = cond t ([], Some s) (b ∷ (cut_at c s).0, (cut_at c s).1) in cut.0)
    by_test true n rest = refl
    by_test false n rest = ap (λ (k : ℕ). take k (b ∷ s)) (one_more n) ∙ ap (λ (xs : List ℕ). b ∷ xs) rest

cut_back : (c : ℕ) (s : List ℕ) → behind_one (drop (prefix_len (λ b. not (b == c)) s) s) ≡ (cut_at c s).1
cut_back c [] = refl
cut_back c (b ∷ s) = by_test (b == c) (prefix_len (λ b. not (b == c)) s) (cut_back c s)
  where
    by_test : (t : Bool) (n : ℕ) → behind_one (drop n s) ≡ (cut_at c s).1 → behind_one (drop (cond (not t) (1 + n) 0) (b ∷ s)) ≡ (let cut : List ℕ × Option (List ℕ) = cond t ([], Some s) (b ∷ (cut_at c s).0, (cut_at c s).1) in cut.1)
    by_test true n rest = refl
    by_test false n rest = ap (λ (k : ℕ). behind_one (drop k (b ∷ s))) (one_more n) ∙ rest

-- nothing stands behind
nothing_behind : (r : List ℕ) → length r < 1 → None ≡ behind_one r
nothing_behind [] h = refl
nothing_behind (b ∷ bs) h = absurd (omega arith)

something_behind : (r : List ℕ) → 1 ≤ length r → Some (take (length r - 1) (drop 1 r)) ≡ behind_one r
something_behind [] h = absurd (omega arith)
something_behind (b ∷ bs) h = ap Some (take_all (length (b ∷ bs) - 1) bs (omega arith))

pub cut_none : (c n : ℕ) (s r : List ℕ) → n ≡ prefix_len (λ b. not (b == c)) s → r ≡ drop n s → length r < 1 → None ≡ (cut_at c s).1
cut_none c n s r n_is r_is h = nothing_behind r h ∙ ap behind_one r_is ∙ ap (λ (k : ℕ). behind_one (drop k s)) n_is ∙ cut_back c s

pub cut_some : (c n : ℕ) (s r : List ℕ) → n ≡ prefix_len (λ b. not (b == c)) s → r ≡ drop n s → 1 ≤ length r → Some (take (length r - 1) (drop 1 r)) ≡ (cut_at c s).1
cut_some c n s r n_is r_is h = something_behind r h ∙ ap behind_one r_is ∙ ap (λ (k : ℕ). behind_one (drop k s)) n_is ∙ cut_back c s
