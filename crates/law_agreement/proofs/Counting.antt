-- How often something stands in a list, and lists of which one number's part alone isn't empty.
use Rattle.std.proofs.Common.{◌≡◌, ℕ, zero, suc, ◌+◌, ◌<◌, ◌≤◌, ◌==◌, Bool, true, false, cond, if◌then◌else◌, List, [], ◌∷◌, ◌++◌, filter, flat_map, reverse, length, refl, sym, ap, ◌∙◌, eq-eqb, eqb-true, append-nil, arith, ◌⊎◌, inl, inr}
use mathlib.Core.List.{reverse_aux}
use Rattle.std.specs.Prelude.{count_by}
use Rattle.std.specs.List.{range_with_len}
use Rattle.std.proofs.lemmas.Bool.{cases_eq, ne_eqb}
use Rattle.std.proofs.lemmas.List.Sums.{sum_by-cons}
use Rattle.room_wiring.specs.declared.tables.Tables.{Tables}
use Rattle.actor_duties.specs.Words.{slots_of}
use Rattle.law_agreement.proofs.Pairing.{times}

module _ {X : Type 0} (p : X → Bool) where
  pub count_cons : (x : X) (xs : List X) → count_by p (x ∷ xs) ≡ (if p x then suc (count_by p xs) else count_by p xs)
  count_cons x xs = sum_by-cons (λ y. cond (p y) 1 0) x xs ∙ go (p x) (count_by p xs)
    where
      go : (b : Bool) (n : ℕ) → cond b 1 0 + n ≡ (if b then suc n else n)
      go true n = omega arith
      go false n = omega arith

  -- one more at the end
  pub count_more : (xs : List X) (x : X) → count_by p (xs ++ x ∷ []) ≡ (if p x then suc (count_by p xs) else count_by p xs)
  count_more [] x = count_cons x []
  count_more (y ∷ xs) x =
      count_cons y (xs ++ x ∷ []) ∙ ap (λ n. if p y then suc n else n) (count_more xs x) ∙ swap (p y) (p x) (count_by p xs)
      ∙ ap (λ n. if p x then suc n else n) (sym (count_cons y xs))
    where
      swap : (a b : Bool) (n : ℕ)
          → (if a then suc (if b then suc n else n) else (if b then suc n else n)) ≡ (if b then suc (if a then suc n else n) else (if a then suc n else n))
      swap true true n = refl
      swap true false n = refl
      swap false true n = refl
      swap false false n = refl

  -- a filter that passes what counts, or none of it
  pub count_passed : (q : X → Bool) → ((x : X) → p x ≡ true → q x ≡ true) → (xs : List X) → count_by p (filter q xs) ≡ count_by p xs
  count_passed q h [] = refl
  count_passed q h (x ∷ xs) = go (q x) refl (p x) refl (count_passed q h xs) ∙ sym (count_cons x xs)
    where
      go : (b : Bool) → q x ≡ b → (a : Bool) → p x ≡ a → count_by p (filter q xs) ≡ count_by p xs
          → count_by p (cond b (x ∷ filter q xs) (filter q xs)) ≡ (if a then suc (count_by p xs) else count_by p xs)
      go true e true d rest = count_cons x (filter q xs) ∙ rw d (ap (λ n. suc n) rest)
      go true e false d rest = count_cons x (filter q xs) ∙ rw d rest
      go false e false d rest = rest
      go false e true d rest = absurd (let z : true ≡ false = sym (h x d) ∙ e in cc)

  pub count_none : (q : X → Bool) → ((x : X) → p x ≡ true → q x ≡ false) → (xs : List X) → count_by p (filter q xs) ≡ 0
  count_none q h [] = refl
  count_none q h (x ∷ xs) = go (q x) refl (p x) refl (count_none q h xs)
    where
      go : (b : Bool) → q x ≡ b → (a : Bool) → p x ≡ a → count_by p (filter q xs) ≡ 0 → count_by p (cond b (x ∷ filter q xs) (filter q xs)) ≡ 0
      go true e true d rest = absurd (let z : true ≡ false = sym e ∙ h x d in cc)
      go true e false d rest = count_cons x (filter q xs) ∙ rw d rest
      go false e a d rest = rest

  count_onto : (xs acc : List X) → count_by p (reverse_aux xs acc) ≡ count_by p xs + count_by p acc
  count_onto [] acc = omega arith
  count_onto (x ∷ xs) acc = count_onto xs (x ∷ acc) ∙ ap (λ n. count_by p xs + n) (count_cons x acc) ∙ go (p x) (count_by p xs) (count_by p acc) ∙ ap (λ n. n + count_by p acc) (sym (count_cons x xs))
    where
      go : (b : Bool) (m n : ℕ) → m + (if b then suc n else n) ≡ (if b then suc m else m) + n
      go true m n = omega arith
      go false m n = refl

  pub count_reverse : (xs : List X) → count_by p (reverse xs) ≡ count_by p xs
  count_reverse xs = (let e : count_by p (reverse xs) ≡ count_by p xs + 0 = count_onto xs [] in e) ∙ (omega arith)

-- how often a number stands in a list
abbrev pub often : ℕ → List ℕ → ℕ
often s ks = count_by (λ k. k == s) ks

often_later : (s a k : ℕ) → s < a → often s (range_with_len a k) ≡ 0
often_later s a zero h = refl
often_later s a (suc k) h =
    count_cons (λ k. k == s) a (range_with_len (a + 1) k) ∙ ap (λ (b : Bool). if b then suc (often s (range_with_len (a + 1) k)) else often s (range_with_len (a + 1) k)) (ne_eqb a s (λ e. omega (arith, h, e)))
    ∙ often_later s (a + 1) k (omega (arith, h))

often_range : (s a k : ℕ) → a ≤ s → s < a + k → often s (range_with_len a k) ≡ 1
often_range s a zero h l = absurd (omega (arith, h, l))
often_range s a (suc k) h l = count_cons (λ k. k == s) a (range_with_len (a + 1) k) ∙ go (cases_eq a s) (λ far. often_range s (a + 1) k far (omega (arith, l)))
  where
    go : (a ≡ s) ⊎ (a ≡ s → ⊥) → (a + 1 ≤ s → often s (range_with_len (a + 1) k) ≡ 1)
        → (if a == s then suc (often s (range_with_len (a + 1) k)) else often s (range_with_len (a + 1) k)) ≡ 1
    go (inl e) rest = rw (eq-eqb a s e) (ap (λ n. suc n) (often_later s (a + 1) k (omega (arith, e))))
    go (inr f) rest = rw (ne_eqb a s f) (rest (omega (arith, h, f)))

often_passed : (s : ℕ) (q : ℕ → Bool) (ks : List ℕ) → often s (filter q ks) ≡ (if q s then often s ks else 0)
often_passed s q ks = go (q s) refl
  where
    go : (b : Bool) → q s ≡ b → often s (filter q ks) ≡ (if b then often s ks else 0)
    go true e = count_passed (λ k. k == s) q (λ k d. ap q (eqb-true k s d) ∙ e) ks
    go false e = count_none (λ k. k == s) q (λ k d. ap q (eqb-true k s d) ∙ e) ks

module _ {X : Type 0} (f : ℕ → List X) (s : ℕ) (alone : (k : ℕ) → (k == s) ≡ false → f k ≡ []) where
  flat_times : (ks : List ℕ) → flat_map f ks ≡ times (often s ks) (f s)
  flat_times [] = refl
  flat_times (k ∷ ks) = go (k == s) refl (flat_times ks) ∙ ap (λ n. times n (f s)) (sym (count_cons (λ k. k == s) k ks))
    where
      go : (b : Bool) → (k == s) ≡ b → flat_map f ks ≡ times (often s ks) (f s)
          → f k ++ flat_map f ks ≡ times (if b then suc (often s ks) else often s ks) (f s)
      go true e rest = ap (λ n. f n ++ flat_map f ks) (eqb-true k s e) ∙ ap (λ (z : List X). f s ++ z) rest
      go false e rest = ap (λ (z : List X). z ++ flat_map f ks) (alone k e) ∙ rest

  module _ (t : Tables) (q : ℕ → Bool) (there : q s ≡ true → s < length t.slots) where
    once : often s (filter q (slots_of t)) ≡ (if q s then 1 else 0)
    once = often_passed s q (slots_of t) ∙ go (q s) refl
      where
        go : (b : Bool) → q s ≡ b → (if b then often s (slots_of t) else 0) ≡ (if b then 1 else 0)
        go true e = often_range s 0 (length t.slots) (omega arith) (let l = there e in omega (arith, l))
        go false e = refl

    one : times (if q s then 1 else 0) (f s) ≡ (if q s then f s else [])
    one = go (q s)
      where
        go : (b : Bool) → times (if b then 1 else 0) (f s) ≡ (if b then f s else [])
        go true = append-nil (f s)
        go false = refl

    -- of the slots that pass a test one number's part alone
    pub picked : flat_map f (filter q (slots_of t)) ≡ (if q s then f s else [])
    picked = flat_times (filter q (slots_of t)) ∙ ap (λ n. times n (f s)) once ∙ one

    -- the same in descending order
    pub picked_down : flat_map f (reverse (filter q (slots_of t))) ≡ (if q s then f s else [])
    picked_down =
        flat_times (reverse (filter q (slots_of t)))
        ∙ ap (λ n. times n (f s)) (count_reverse (λ k. k == s) (filter q (slots_of t)) ∙ once) ∙ one
