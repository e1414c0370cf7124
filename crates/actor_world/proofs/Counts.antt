-- Counting incarnations: how often one was created and destroyed, by the last generation of its slot.
use Rattle.std.proofs.Common.{◌≡◌, ℕ, zero, suc, ◌+◌, ◌<◌, ◌≤◌, ◌==◌, nat_lt, nat_le, Bool, true, false, not, cond, ◌&&◌, ◌||◌, if◌then◌else◌, List, [], ◌∷◌, ◌++◌, map, filter, reverse, refl, sym, ap, ◌∙◌, subst, eq-eqb, arith, add_assoc, ◌⊎◌, inl, inr}
use mathlib.Core.List.{reverse_aux}
use Rattle.std.specs.List.{range_with_len}
use Rattle.std.proofs.lemmas.Bool.{cases_eq, ne_eqb}
use Rattle.std.proofs.lemmas.Bool.Decides.{nat_tests}
use Rattle.room_kinds.specs.declared.numbers.Incarnation.{Incarnation}
use Rattle.actor_duties.specs.Words.{incarnation}
use Rattle.actor_world.specs.Life.{once, born, dead}

-- 1 at this number alone
abbrev pub at_only : ℕ → ℕ → ℕ
at_only g n = if n == g then 1 else 0

pub born_next : (g last : ℕ) → born g last + at_only g (last + 1) ≡ born g (last + 1)
born_next g last = grind (arith, nat_tests)

pub dead_next : (g last : ℕ) → dead g last false ≡ dead g (last + 1) true
dead_next g last = grind (arith, nat_tests)

pub dead_ends : (g last : ℕ) → 1 ≤ last → dead g last true + at_only g last ≡ dead g last false
dead_ends g last h = grind (arith, nat_tests)

pub born_once : (g last : ℕ) → born g last ≤ 1
born_once g last = grind (arith, nat_tests)

pub dead_after : (g last : ℕ) (lives : Bool) → dead g last lives ≤ born g last
dead_after g last true = grind (arith, nat_tests)
dead_after g last false = grind (arith, nat_tests)

pub born_last : (last : ℕ) → 1 ≤ last → born last last ≡ 1
born_last last h = grind (arith, nat_tests)

-- of a slot in which nothing was ever made
pub born_none : (g : ℕ) → born g 0 ≡ 0
born_none g = grind (arith, nat_tests)

pub dead_none : (g : ℕ) (lives : Bool) → dead g 0 lives ≡ 0
dead_none g true = grind (arith, nat_tests)
dead_none g false = grind (arith, nat_tests)

pub dead_last : (last : ℕ) → dead last last true ≡ 0
dead_last last = grind (arith, nat_tests)

-- how often an incarnation stands in a list
abbrev pub times : Incarnation → List Incarnation → ℕ
times x [] = 0
times x (y ∷ ys) = once y x + times x ys

times-append : (x : Incarnation) (ys zs : List Incarnation) → times x (ys ++ zs) ≡ times x ys + times x zs
times-append x [] zs = omega arith
times-append x (y ∷ ys) zs = ap (λ k. once y x + k) (times-append x ys zs) ∙ sym (add_assoc (once y x) (times x ys) (times x zs))

times-onto : (x : Incarnation) (f : ℕ → Incarnation) (ss acc : List ℕ) → times x (map f (reverse_aux ss acc)) ≡ times x (map f ss) + times x (map f acc)
times-onto x f [] acc = omega arith
times-onto x f (s ∷ ss) acc = let ih = times-onto x f ss (s ∷ acc) in omega (arith, ih)

pub times-reverse : (x : Incarnation) (f : ℕ → Incarnation) (ss : List ℕ) → times x (map f (reverse ss)) ≡ times x (map f ss)
times-reverse x f ss = let h = times-onto x f ss [] in omega (arith, h)

-- the incarnations of slots that pass a test, each with its generation
abbrev pub passing : (ℕ → Bool) → (ℕ → ℕ) → List ℕ → List Incarnation
passing p f ss = map (λ s. incarnation s (f s)) (filter p ss)

-- whether an incarnation is among those
abbrev pub hit : (ℕ → Bool) → (ℕ → ℕ) → Incarnation → Bool
hit p f x = p x.slot.0 && (f x.slot.0 == x.generation.0)

once_other : (x : Incarnation) (s g : ℕ) → (s == x.slot.0) ≡ false → once (incarnation s g) x ≡ 0
once_other x s g h = rw h refl

hit_self : (p : ℕ → Bool) (f : ℕ → ℕ) (x : Incarnation) → p x.slot.0 ≡ true → once (incarnation x.slot.0 (f x.slot.0)) x ≡ (if hit p f x then 1 else 0)
hit_self p f x q = rw (q, eq-eqb x.slot.0 x.slot.0 refl) refl

passing_below : (p : ℕ → Bool) (f : ℕ → ℕ) (x : Incarnation) (a k : ℕ) → x.slot.0 < a → times x (passing p f (range_with_len a k)) ≡ 0
passing_below p f x a zero h = refl
passing_below p f x a (suc k) h = go (p a) (passing_below p f x (a + 1) k (omega arith))
  where
    go : (b : Bool) → times x (passing p f (range_with_len (a + 1) k)) ≡ 0
        → times x (map (λ s. incarnation s (f s)) (cond b (a ∷ filter p (range_with_len (a + 1) k)) (filter p (range_with_len (a + 1) k)))) ≡ 0
    go false ih = ih
    go true ih = let z : once (incarnation a (f a)) x ≡ 0 = once_other x a (f a) (ne_eqb a x.slot.0 (λ e. omega arith)) in omega (arith, ih)

pub passing_hit : (p : ℕ → Bool) (f : ℕ → ℕ) (x : Incarnation) (a k : ℕ) → a ≤ x.slot.0 → x.slot.0 < a + k
    → times x (passing p f (range_with_len a k)) ≡ (if hit p f x then 1 else 0)
passing_hit p f x a zero h l = absurd (omega arith)
passing_hit p f x a (suc k) h l = go (cases_eq a x.slot.0) (p a) refl (passing_hit p f x (a + 1) k)
  where
    go : (a ≡ x.slot.0) ⊎ (a ≡ x.slot.0 → ⊥) → (b : Bool) → p a ≡ b
        → (a + 1 ≤ x.slot.0 → x.slot.0 < (a + 1) + k → times x (passing p f (range_with_len (a + 1) k)) ≡ (if hit p f x then 1 else 0))
        → times x (map (λ s. incarnation s (f s)) (cond b (a ∷ filter p (range_with_len (a + 1) k)) (filter p (range_with_len (a + 1) k))))
        ≡ (if hit p f x then 1 else 0)
    go (inl e) true r ih =
        let z : times x (passing p f (range_with_len (a + 1) k)) ≡ 0 = passing_below p f x (a + 1) k (omega arith) in
        let q : p x.slot.0 ≡ true = subst (λ s. p s ≡ true) e r in
        let o : once (incarnation a (f a)) x ≡ (if hit p f x then 1 else 0) =
        subst (λ s. once (incarnation s (f s)) x ≡ (if hit p f x then 1 else 0)) (sym e) (hit_self p f x q) in omega (arith, z, o)
    go (inl e) false r ih =
        let z : times x (passing p f (range_with_len (a + 1) k)) ≡ 0 = passing_below p f x (a + 1) k (omega arith) in
        let q : p x.slot.0 ≡ false = subst (λ s. p s ≡ false) e r in
        rw q z
    go (inr n) true r ih =
        let o : once (incarnation a (f a)) x ≡ 0 = once_other x a (f a) (ne_eqb a x.slot.0 n) in
        let t : times x (passing p f (range_with_len (a + 1) k)) ≡ (if hit p f x then 1 else 0) = ih (omega arith) (omega arith) in
        omega (arith, o, t)
    go (inr n) false r ih = ih (omega arith) (omega arith)

-- a slot that fails the test is not among those that pass
pub passing_miss : (p : ℕ → Bool) (f : ℕ → ℕ) (x : Incarnation) → p x.slot.0 ≡ false → (ss : List ℕ) → times x (passing p f ss) ≡ 0
passing_miss p f x h [] = refl
passing_miss p f x h (a ∷ ss) = go (p a) refl (passing_miss p f x h ss)
  where
    go : (b : Bool) → p a ≡ b → times x (passing p f ss) ≡ 0
        → times x (map (λ s. incarnation s (f s)) (cond b (a ∷ filter p ss) (filter p ss))) ≡ 0
    go false e ih = ih
    go true e ih =
        let z : once (incarnation a (f a)) x ≡ 0 = once_other x a (f a) (ne_eqb a x.slot.0 (λ s. let k : p x.slot.0 ≡ true = subst (λ z. p z ≡ true) s e in cc)) in
        omega (arith, ih)
