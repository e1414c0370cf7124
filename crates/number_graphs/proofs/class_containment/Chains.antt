-- Chains of parts: circles, and orders without circles.
use Rattle.std.proofs.Common.{◌≡◌, ◌⊎◌, inl, inr, ℕ, zero, suc, ◌+◌, ◌<◌, ◌≤◌, Bool, true, false, nat_eq, List, [], ◌∷◌, length, refl, sym, ap, ◌∙◌, subst, arith}
use Rattle.std.specs.Prelude.{slice_index, ◌||◌}
use Rattle.std.specs.List.{list_any}
use Rattle.std.proofs.lemmas.Bool.{or_cases, eqb-true, eq-eqb, cases_lt}
use Rattle.number_graphs.specs.class_containment.Containment.{parts_of, has_part, Contains, directly, through, NoneContainsItself, IsContainmentOrder, has_chain, contains_itself}
use Rattle.number_graphs.specs.class_containment.Walks.{is_in, IsChain}

-- one more part at the end
pub contains_part : (classes : List (List ℕ)) (i k j : ℕ) → Contains classes i k → has_part classes k j ≡ true → Contains classes i j
contains_part classes i k j (directly _ _ h) part = through i k j h (directly k j part)
contains_part classes i k j (through _ m _ h rest) part = through i m j h (contains_part classes m k j rest part)

-- each class of a chain contains the first
along : (classes : List (List ℕ)) (x : ℕ) (ys : List ℕ) (z : ℕ) → IsChain classes (x ∷ ys) → is_in ys z ≡ true → Contains classes z x
along classes x [] z chain h = absurd cc
along classes x (y ∷ ys) z chain h = elim (or_cases (nat_eq z y) (is_in ys z) h) [
  | inl e ↦ let Q : ℕ → Type 0 = λ n. Contains classes n x in subst Q (sym (eqb-true z y e)) (directly y x chain.0)
  | inr r ↦ contains_part classes z y x (along classes y ys z chain.1 r) chain.0
]

-- a part of the innermost class that was reached and not left closes a circle
pub circle : (classes : List (List ℕ)) (x : ℕ) (up : List ℕ) (part : ℕ) → IsChain classes (x ∷ up) → is_in (x ∷ up) part ≡ true → has_part classes x part ≡ true → Contains classes part part
circle classes x up part chain h has = elim (or_cases (nat_eq part x) (is_in up part) h) [
  | inl e ↦ let Q : ℕ → Type 0 = λ n. Contains classes n part in subst Q (sym (eqb-true part x e)) (directly x part has)
  | inr r ↦ contains_part classes part x part (along classes x up part chain r) has
]

-- ---- an order leaves no circle

has_part_range : (classes : List (List ℕ)) (i j : ℕ) → has_part classes i j ≡ true → i < length classes
has_part_range [] i j h = absurd cc
has_part_range (c ∷ cs) zero j h = omega arith
has_part_range (c ∷ cs) (suc i) j h = omega (arith, has_part_range cs i j h)

begins_in : (classes : List (List ℕ)) (i j : ℕ) → Contains classes i j → i < length classes
begins_in classes i j (directly _ _ h) = has_part_range classes i j h
begins_in classes i j (through _ k _ h rest) = has_part_range classes i k h

module _ (classes : List (List ℕ)) (order : List ℕ) (is : IsContainmentOrder classes order) where
  -- what a class at a place contains, if it is a class, stands earlier
  below : (i j k : ℕ) → k < length order → slice_index order k ≡ i → Contains classes i j → j < length classes → (e : ℕ) × (e < k) × (slice_index order e ≡ j)
  below i j k lt at (directly _ _ h) within = is.sorted k j lt (let Q : ℕ → Type 0 = λ n. has_part classes n j ≡ true in subst Q (sym at) h) within
  below i j k lt at (through _ m _ h rest) within =
      let s = is.sorted k m lt (let Q : ℕ → Type 0 = λ n. has_part classes n m ≡ true in subst Q (sym at) h) (begins_in classes m j rest) in
      let t = below m j s.0 (omega (arith, s.1, lt)) s.2 rest within in
      (t.0, omega (arith, t.1, s.1), t.2)

  -- no class stands at a place and contains itself
  no_circle_at : (most k i : ℕ) → k < most → k < length order → slice_index order k ≡ i → Contains classes i i → ⊥
  no_circle_at zero k i small lt at h = omega arith
  no_circle_at (suc most) k i small lt at h =
      let s = below i i k lt at h (begins_in classes i i h) in
      no_circle_at most s.0 i (omega (arith, s.1, small)) (omega (arith, s.1, lt)) s.2 h

  pub no_circle : NoneContainsItself classes
  no_circle i h = let w = is.whole i (begins_in classes i i h) in no_circle_at (suc w.0) w.0 i (omega arith) w.1 w.2 h

-- ---- the test

any_at : (p : ℕ → Bool) (xs : List ℕ) (j : ℕ) → list_any (nat_eq j) xs ≡ true → p j ≡ true → list_any p xs ≡ true
any_at p [] j h e = h
any_at p (x ∷ xs) j h e = elim (or_cases (nat_eq j x) (list_any (nat_eq j) xs) h) [
  | inl f ↦ let Q : ℕ → Type 0 = λ n. p n ≡ true in ap (λ b. b || list_any p xs) (subst Q (eqb-true j x f) e)
  | inr g ↦ or_right (p x) (list_any p xs) (any_at p xs j g e)
]
  where
    or_right : (a b : Bool) → b ≡ true → (a || b) ≡ true
    or_right true b e = refl
    or_right false b e = e

-- a class that contains itself begins chains of any length, and so does each class that contains it
endless : (classes : List (List ℕ)) (i : ℕ) → Contains classes i i → (n z : ℕ) → Contains classes z i → has_chain n classes z ≡ true
endless classes i c zero z h = refl
endless classes i c (suc n) z (directly _ _ part) = any_at (has_chain n classes) (parts_of classes z) i part (endless classes i c n i c)
endless classes i c (suc n) z (through _ m _ part h) = any_at (has_chain n classes) (parts_of classes z) m part (endless classes i c n m h)

any_class : (p : List ℕ → Bool) (classes : List (List ℕ)) (i : ℕ) → i < length classes → p (parts_of classes i) ≡ true → list_any p classes ≡ true
any_class p [] i lt h = absurd (omega arith)
any_class p (c ∷ cs) zero lt h = ap (λ b. b || list_any p cs) h
any_class p (c ∷ cs) (suc i) lt h = or_right (p c) (list_any p cs) (any_class p cs i (omega arith) h)
  where
    or_right : (a b : Bool) → b ≡ true → (a || b) ≡ true
    or_right true b e = refl
    or_right false b e = e

pub circle_is_seen : (classes : List (List ℕ)) (i : ℕ) → Contains classes i i → contains_itself classes ≡ true
unfolding contains_itself
circle_is_seen classes i c = any_class (list_any (has_chain (length classes) classes)) classes i (begins_in classes i i c) (endless classes i c (suc (length classes)) i c)

-- ---- no chain is long where there is an order

any_none : (p : ℕ → Bool) (xs : List ℕ) → ((j : ℕ) → list_any (nat_eq j) xs ≡ true → p j ≡ false) → list_any p xs ≡ false
any_none p [] h = refl
any_none p (x ∷ xs) h = both (p x) (list_any p xs) (h x (ap (λ b. b || list_any (nat_eq x) xs) (eq-eqb x x refl))) (any_none p xs (λ j e. h j (or_right (nat_eq j x) (list_any (nat_eq j) xs) e)))
  where
    or_right : (a b : Bool) → b ≡ true → (a || b) ≡ true
    or_right true b e = refl
    or_right false b e = e

    both : (a b : Bool) → a ≡ false → b ≡ false → (a || b) ≡ false
    both true b e f = e
    both false b e f = f

no_class : (classes : List (List ℕ)) (j n : ℕ) → length classes ≤ j → has_chain (suc n) classes j ≡ false
no_class classes j n ge = any_none (has_chain n classes) (parts_of classes j) (λ k e. absurd (outside k e))
  where
    outside : (k : ℕ) → has_part classes j k ≡ true → ⊥
    outside k e = let lt : j < length classes = has_part_range classes j k e in omega (arith, lt, ge)

module _ (classes : List (List ℕ)) (order : List ℕ) (is : IsContainmentOrder classes order) where
  no_long : (n j : ℕ) → 1 ≤ n → length classes ≤ j → has_chain n classes j ≡ false
  no_long zero j le ge = absurd (omega arith)
  no_long (suc n) j le ge = no_class classes j n ge

  -- no part of the class at place k begins a chain of n steps, where none of the classes at earlier places does
  part_short : (k n i : ℕ) → k < length order → slice_index order k ≡ i → 1 ≤ n → ((e j : ℕ) → e < k → slice_index order e ≡ j → has_chain n classes j ≡ false) → (j : ℕ) → has_part classes i j ≡ true → has_chain n classes j ≡ false
  part_short k n i lt at le earlier j part =
      elim (cases_lt j (length classes)) [
        | inl within ↦ let s = is.sorted k j lt (let Q : ℕ → Type 0 = λ m. has_part classes m j ≡ true in subst Q (sym at) part) within in earlier s.0 j s.1 s.2
        | inr ge ↦ no_long n j le ge
      ]

  -- the class at place k begins no chain of k + 2 steps or more
  short_chain : (most k n i : ℕ) → k < most → k < length order → slice_index order k ≡ i → k + 2 ≤ n → has_chain n classes i ≡ false
  short_chain zero k n i small lt at long = absurd (omega arith)
  short_chain (suc most) k zero i small lt at long = absurd (omega arith)
  short_chain (suc most) k (suc n) i small lt at long =
      any_none (has_chain n classes) (parts_of classes i) (part_short k n i lt at (omega arith) (λ e j less there. short_chain most e n j (omega (arith, less, small)) (omega (arith, less, lt)) there (omega (arith, less, long))))

  -- no part of a class begins a chain of as many steps as there are classes
  no_part_long : (i : ℕ) → i < length classes → list_any (has_chain (length classes) classes) (parts_of classes i) ≡ false
  no_part_long i lt =
      let w = is.whole i lt in
      let most = is.short in
      any_none (has_chain (length classes) classes) (parts_of classes i)
      (part_short w.0 (length classes) i w.1 w.2 (omega arith) (λ e j less there. short_chain (suc e) e (length classes) j (omega arith) (omega (arith, less, w.1)) there (omega (arith, less, w.1, most))))

no_class_passes : (p : List ℕ → Bool) (classes : List (List ℕ)) → ((i : ℕ) → i < length classes → p (parts_of classes i) ≡ false) → list_any p classes ≡ false
no_class_passes p [] h = refl
no_class_passes p (c ∷ cs) h = both (p c) (list_any p cs) (h 0 (omega arith)) (no_class_passes p cs (λ i lt. h (suc i) (omega arith)))
  where
    both : (a b : Bool) → a ≡ false → b ≡ false → (a || b) ≡ false
    both true b e f = e
    both false b e f = f

pub order_is_seen : (classes : List (List ℕ)) (order : List ℕ) → IsContainmentOrder classes order → contains_itself classes ≡ false
unfolding contains_itself
order_is_seen classes order is = no_class_passes (list_any (has_chain (length classes) classes)) classes (no_part_long classes order is)
