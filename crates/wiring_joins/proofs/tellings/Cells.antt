-- The marks of slots and controllers in a row.
use Rattle.std.proofs.Common.{◌≡◌, ◌≢◌, ◌∙◌, ◌⊎◌, inl, inr, ℕ, ◌+◌, ◌*◌, ◌<◌, ◌≤◌, ◌==◌, ◌&&◌, ◌||◌, Bool, true, false, List, length, get_or, set, refl, sym, ap, arith}
use Rattle.std.proofs.Math.Nat.{suc-mul, mul-le-mul_right}
use Rattle.std.proofs.lemmas.List.{get_or-set_other}
use Rattle.std.proofs.lemmas.Bool.Decides.{eqb_tells}
use Rattle.std.proofs.lemmas.Grind.{get_or-set_at}

-- a slot's marks end before those of a later slot
before_next : (s t k : ℕ) → s < t → s * k + k ≤ t * k
before_next s t k lt =
    let next = suc-mul s k in
    let le : (s + 1) * k ≤ t * k = mul-le-mul_right k (omega arith) in
    omega (arith, next, le)

-- a mark stands within the row
pub cell_within : (s d n k : ℕ) → s < n → d < k → s * k + d < n * k
cell_within s d n k below lt = let end = before_next s n k below in omega (arith, end)

-- the marks of different slots stand at different places
pub slots_apart : (s t d e k : ℕ) → d < k → e < k → s * k + d ≡ t * k + e → s ≡ t
slots_apart s t d e k dk ek same = by_order (eqb_tells s t)
  where
    less : s < t → s ≡ t
    less lt = let end = before_next s t k lt in absurd (omega arith)

    more : t < s → s ≡ t
    more lt = let end = before_next t s k lt in absurd (omega arith)

    by_order : ((s == t) ≡ true × (s ≡ t)) ⊎ (((s == t) ≡ false) × (s ≢ t)) → s ≡ t
    by_order (inl h) = h.1
    by_order (inr h) = grind (arith, less, more)

-- marks of one slot for all
pub all_marked : (slot s : ℕ) (xs : List Bool) (b : Bool) → slot < length xs → (get_or (set xs slot true) s false || b) ≡ ((slot == s) || (get_or xs s false || b))
all_marked slot s xs b lt = go (eqb_tells slot s)
  where
    go : (((slot == s) ≡ true) × (slot ≡ s)) ⊎ (((slot == s) ≡ false) × (slot ≢ s)) → (get_or (set xs slot true) s false || b) ≡ ((slot == s) || (get_or xs s false || b))
    go (inl h) = rw h.0 (rw (get_or-set_at xs slot s true false (sym h.1) lt) refl)
    go (inr h) = rw h.0 (rw (get_or-set_other xs slot s true false (λ e. h.1 (sym e))) refl)

-- a mark of one slot for one controller
pub one_marked : (slot c s d n k : ℕ) (xs : List Bool) (b : Bool) → length xs ≡ n * k → c < k → slot * k + c < length xs → s < n → d < k → (b || get_or (set xs (slot * k + c) true) (s * k + d) false) ≡ (((slot == s) && (c == d)) || (b || get_or xs (s * k + d) false))
one_marked slot c s d n k xs b size ck within sn dk = go (eqb_tells slot s) (eqb_tells c d)
  where
    at : List Bool
    at = set xs (slot * k + c) true

    elsewhere : (s * k + d ≢ slot * k + c) → (b || get_or at (s * k + d) false) ≡ (b || get_or xs (s * k + d) false)
    elsewhere apart = ap (λ (x : Bool). b || x) (get_or-set_other xs (slot * k + c) (s * k + d) true false apart)

    or_true : (x : Bool) → (x || true) ≡ true
    or_true true = refl
    or_true false = refl

    go : (((slot == s) ≡ true) × (slot ≡ s)) ⊎ (((slot == s) ≡ false) × (slot ≢ s)) → (((c == d) ≡ true) × (c ≡ d)) ⊎ (((c == d) ≡ false) × (c ≢ d))
        → (b || get_or at (s * k + d) false) ≡ (((slot == s) && (c == d)) || (b || get_or xs (s * k + d) false))
    go (inl h) (inl i) =
        let same : s * k + d ≡ slot * k + c = ap (λ (t : ℕ). t * k + d) (sym h.1) ∙ ap (λ (e : ℕ). slot * k + e) (sym i.1) in
        rw (h.0, i.0) (ap (λ (x : Bool). b || x) (get_or-set_at xs (slot * k + c) (s * k + d) true false same within) ∙ or_true b)
    go (inl h) (inr i) = rw (h.0, i.0) (elsewhere (λ e. i.1 (let first = ap (λ (t : ℕ). t * k + d) h.1 in omega arith)))
    go (inr h) e = rw h.0 (elsewhere (λ q. h.1 (slots_apart slot s c d k ck dk (sym q))))
