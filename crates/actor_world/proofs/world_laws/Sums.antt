-- Sums over slots, and counts of messages.
use Rattle.std.proofs.Common.{◌≡◌, ℕ, zero, suc, ◌+◌, ◌<◌, ◌≤◌, ◌==◌, ◌&&◌, Bool, true, false, cond, if◌then◌else◌, List, [], ◌∷◌, ◌++◌, filter, refl, eq-eqb, arith, ◌⊎◌, inl, inr, ap, sym, ◌∙◌}
use Rattle.std.specs.List.{range_with_len, flat_map}
use Rattle.std.proofs.lemmas.Bool.{cases_eq, ne_eqb}
use Rattle.room_kinds.specs.declared.message.Msg.{Msg}
use Rattle.actor_world.specs.world_laws.Counting.{count, of_priority}

-- the sum of a number of each slot
abbrev pub total : (ℕ → ℕ) → List ℕ → ℕ
total f [] = 0
total f (s ∷ ss) = f s + total f ss

pub total_same : (f g : ℕ → ℕ) → ((s : ℕ) → f s ≡ g s) → (ss : List ℕ) → total f ss ≡ total g ss
total_same f g h [] = refl
total_same f g h (s ∷ ss) = let a = h s in let b = total_same f g h ss in omega (arith, a, b)

pub total_add : (f g : ℕ → ℕ) (ss : List ℕ) → total (λ s. f s + g s) ss ≡ total f ss + total g ss
total_add f g [] = omega arith
total_add f g (s ∷ ss) = let b = total_add f g ss in omega (arith, b)

pub total_zero : (f : ℕ → ℕ) → ((s : ℕ) → f s ≡ 0) → (ss : List ℕ) → total f ss ≡ 0
total_zero f h [] = refl
total_zero f h (s ∷ ss) = let a = h s in let b = total_zero f h ss in omega (arith, a, b)

-- a number at one slot alone
abbrev pub only_at : ℕ → ℕ → ℕ → ℕ
only_at x k s = if s == x then k else 0

pub only_here : (x k s : ℕ) → s ≡ x → only_at x k s ≡ k
only_here x k s e = rw (eq-eqb s x e) refl

pub only_there : (x k s : ℕ) → (s ≡ x → ⊥) → only_at x k s ≡ 0
only_there x k s n = rw (ne_eqb s x n) refl

total_below : (x k a n : ℕ) → x < a → total (only_at x k) (range_with_len a n) ≡ 0
total_below x k a zero h = refl
total_below x k a (suc n) h =
    let e = only_there x k a (λ e. omega arith) in
    let r = total_below x k (a + 1) n (omega arith) in omega (arith, e, r)

pub total_point : (x k a n : ℕ) → a ≤ x → x < a + n → total (only_at x k) (range_with_len a n) ≡ k
total_point x k a zero h l = absurd (omega arith)
total_point x k a (suc n) h l = go (cases_eq a x) (total_point x k (a + 1) n)
  where
    go : (a ≡ x) ⊎ (a ≡ x → ⊥) → (a + 1 ≤ x → x < (a + 1) + n → total (only_at x k) (range_with_len (a + 1) n) ≡ k)
        → only_at x k a + total (only_at x k) (range_with_len (a + 1) n) ≡ k
    go (inl e) ih =
        let p = only_here x k a e in
        let z = total_below x k (a + 1) n (omega arith) in omega (arith, p, z)
    go (inr f) ih =
        let p = only_there x k a f in
        let z = ih (omega arith) (omega arith) in omega (arith, p, z)

total_none : (f : ℕ → ℕ) (a n : ℕ) → total f (range_with_len a n) ≡ 0 → (r : ℕ) → a ≤ r → r < a + n → f r ≡ 0
total_none f a zero h r l k = absurd (omega arith)
total_none f a (suc n) h r l k = go (cases_eq a r) (total_none f (a + 1) n)
  where
    go : (a ≡ r) ⊎ (a ≡ r → ⊥) → (total f (range_with_len (a + 1) n) ≡ 0 → (r : ℕ) → a + 1 ≤ r → r < (a + 1) + n → f r ≡ 0) → f r ≡ 0
    go (inl e) ih = let z : f a ≡ 0 = omega (arith, h) in ap f (sym e) ∙ z
    go (inr d) ih = ih (omega (arith, h)) r (omega arith) (omega arith)

-- where a sum is 1, one slot has 1 and the others have 0
pub record OneSlot (f : ℕ → ℕ) (a n : ℕ) : Type 0 where
  pub slot : ℕ
  pub one : f slot ≡ 1
  pub others : (r : ℕ) → a ≤ r → r < a + n → (r ≡ slot → ⊥) → f r ≡ 0

pub total_one : (f : ℕ → ℕ) (a n : ℕ) → total f (range_with_len a n) ≡ 1 → OneSlot f a n
total_one f a zero h = absurd (omega (arith, h))
total_one f a (suc n) h = go (f a) refl (total_one f (a + 1) n)
  where
    go : (k : ℕ) → f a ≡ k → (total f (range_with_len (a + 1) n) ≡ 1 → OneSlot f (a + 1) n) → OneSlot f a (suc n)
    go zero e ih =
        let rest : OneSlot f (a + 1) n = ih (omega (arith, h, e)) in
        record {
          slot = rest.slot;
          one = rest.one;
          others = λ r l k d. pick r l k rest (cases_eq r a) d;
        }
      where
        pick : (r : ℕ) → a ≤ r → r < a + suc n → (rest : OneSlot f (a + 1) n) → (r ≡ a) ⊎ (r ≡ a → ⊥) → (r ≡ rest.slot → ⊥) → f r ≡ 0
        pick r l k rest (inl s) d = ap f s ∙ e
        pick r l k rest (inr s) d = rest.others r (omega arith) (omega arith) d
    go (suc k) e ih =
        let z : total f (range_with_len (a + 1) n) ≡ 0 = omega (arith, h, e) in
        record {
          slot = a;
          one = omega (arith, h, e);
          others = λ r l j d. total_none f (a + 1) n z r (let x : (r ≡ a → ⊥) = d in omega arith) (omega arith);
        }

pub count-append : (which : Msg → Bool) (a b : List Msg) → count which (a ++ b) ≡ count which a + count which b
count-append which [] b = omega arith
count-append which (m ∷ a) b = let h = count-append which a b in omega (arith, h)

-- a count over the lists of those slots that pass a test
pub count_flat : (which : Msg → Bool) (f : ℕ → List Msg) (q : ℕ → Bool) (ss : List ℕ)
    → count which (flat_map f (filter q ss)) ≡ total (λ s. if q s then count which (f s) else 0) ss
count_flat which f q [] = refl
count_flat which f q (s ∷ ss) = go (q s) (count_flat which f q ss)
  where
    go : (b : Bool) → count which (flat_map f (filter q ss)) ≡ total (λ s. if q s then count which (f s) else 0) ss
        → count which (flat_map f (cond b (s ∷ filter q ss) (filter q ss)))
        ≡ (if b then count which (f s) else 0) + total (λ s. if q s then count which (f s) else 0) ss
    go true ih = let h = count-append which (f s) (flat_map f (filter q ss)) in omega (arith, h, ih)
    go false ih = omega (arith, ih)

-- messages of another priority do not count
pub count_priority : (p : ℕ) (which : Msg → Bool) (ms : List Msg)
    → count (of_priority p which) (filter (λ (m : Msg). m.prio.0 == p) ms) ≡ count (of_priority p which) ms
count_priority p which [] = refl
count_priority p which (m ∷ ms) = go (m.prio.0 == p) refl (count_priority p which ms)
  where
    go : (b : Bool) → (m.prio.0 == p) ≡ b
        → count (of_priority p which) (filter (λ (m : Msg). m.prio.0 == p) ms) ≡ count (of_priority p which) ms
        → count (of_priority p which) (cond b (m ∷ filter (λ (m : Msg). m.prio.0 == p) ms) (filter (λ (m : Msg). m.prio.0 == p) ms))
        ≡ (if (m.prio.0 == p) && which m then 1 else 0) + count (of_priority p which) ms
    go true e ih = omega (arith, ih)
    go false e ih = rw e (omega (arith, ih))
