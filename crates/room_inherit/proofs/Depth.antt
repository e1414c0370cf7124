-- An order in which each class that is taken has its bases before it.
use Rattle.std.proofs.Common.{◌≡◌, inl, inr, ℕ, zero, suc, ◌+◌, ◌<◌, ◌≤◌, Bool, true, false, List, [], ◌∷◌, length, map, replicate, Option, Some, refl, sym, ap, ◌∙◌, subst, arith}
use Rattle.std.specs.Prelude.{◌&&◌, ◌||◌, nat_eq, slice_set, slice_index}
use Rattle.std.specs.Global.{Vec}
use Rattle.std.specs.List.{list_all, list_any, slice_index_or}
use Rattle.std.proofs.lemmas.Bool.{cases_eq, eqb-true}
use Rattle.number_graphs.specs.class_containment.Containment.{parts_of, has_part, IsContainmentOrder}
use Rattle.number_graphs.specs.class_containment.Walks.{Orders}
use Rattle.room_inherit.specs.Ordering.{is_placed, IsMarked}
use Rattle.room_inherit.proofs.Places.{set_length}

pub mark_past : (xs : List Bool) (k : ℕ) → length xs ≤ k → slice_set xs k true ≡ xs
mark_past [] k le = refl
mark_past (x ∷ xs) zero le = absurd (omega arith)
mark_past (x ∷ xs) (suc k) le = ap (λ ys. x ∷ ys) (mark_past xs k (omega (arith, le)))

still_placed : (xs : List Bool) (k i : ℕ) → (i ≡ k → ⊥) → is_placed (slice_set xs k true) i ≡ is_placed xs i
still_placed [] k i ne = refl
still_placed (x ∷ xs) zero zero ne = absurd (ne refl)
still_placed (x ∷ xs) zero (suc i) ne = refl
still_placed (x ∷ xs) (suc k) zero ne = refl
still_placed (x ∷ xs) (suc k) (suc i) ne = still_placed xs k i (λ e. ne (ap suc e))

unplaced : (n i : ℕ) → i < n → is_placed (replicate n false) i ≡ false
unplaced zero i lt = absurd (omega arith)
unplaced (suc n) zero lt = refl
unplaced (suc n) (suc i) lt = unplaced n i (omega (arith, lt))

never : false ≡ true → ⊥
never e = absurd cc

pub none_marked : (bases : List (List ℕ)) (order : List ℕ) (placed : List Bool) → placed ≡ replicate (length bases) false → length placed ≡ length bases → IsMarked bases order 0 placed
none_marked bases order placed none sized = record {
  sized = sized;
  stands = λ i lt is. absurd (never (sym (unplaced (length bases) i lt) ∙ sym (ap (λ xs. is_placed xs i) none) ∙ is));
  sorted = λ k j lt part within. absurd (omega (arith, lt));
}

one_of : (p : ℕ → Bool) (xs : List ℕ) (j : ℕ) → list_all p xs ≡ true → list_any (nat_eq j) xs ≡ true → p j ≡ true
one_of p [] j all any = absurd (never any)
one_of p (x ∷ xs) j all any = go (p x) refl (nat_eq j x) refl (one_of p xs j)
  where
    go : (t : Bool) → p x ≡ t → (s : Bool) → nat_eq j x ≡ s → (list_all p xs ≡ true → list_any (nat_eq j) xs ≡ true → p j ≡ true) → p j ≡ true
    go false e s f again = absurd (never (sym (ap (λ b. b && list_all p xs) e) ∙ all))
    go true e true f again = ap p (eqb-true j x f) ∙ e
    go true e false f again = again (sym (ap (λ b. b && list_all p xs) e) ∙ all) (sym (ap (λ b. b || list_any (nat_eq j) xs) f) ∙ any)

pub one_marked : (bases : List (List ℕ)) (order : List ℕ) (n c : ℕ) (placed : List Bool) (parts : List ℕ) → IsMarked bases order n placed → c ≡ slice_index order n → parts ≡ parts_of bases c → list_all (is_placed placed) parts ≡ true → IsMarked bases order (n + 1) (slice_set placed c true)
one_marked bases order n c placed parts marked here its all = record {
  sized = set_length placed c true ∙ marked.sized;
  stands = λ i lt is. elim (cases_eq i c) [
    | inl same ↦ (n, omega arith, sym here ∙ sym same)
    | inr ne ↦ let s = marked.stands i lt (sym (still_placed placed c i ne) ∙ is) in (s.0, omega (arith, s.1), s.2)
  ];
  sorted = λ k j lt part within. elim (cases_eq k n) [
    | inl same ↦
        let mine : has_part bases c j ≡ true = subst (λ x. has_part bases x j ≡ true) (ap (slice_index order) same ∙ sym here) part in
        let is : is_placed placed j ≡ true = one_of (is_placed placed) (parts_of bases c) j (subst (λ xs. list_all (is_placed placed) xs ≡ true) its all) mine in
        let s = marked.stands j within is in
        (s.0, omega (arith, s.1, same), s.2)
    | inr ne ↦ marked.sorted k j (omega (arith, lt, ne)) part within
  ];
}

all_true : (xs : List Bool) (i : ℕ) → list_all (λ b. b) xs ≡ true → is_placed xs i ≡ true
all_true [] i all = refl
all_true (true ∷ xs) zero all = refl
all_true (false ∷ xs) i all = absurd (never all)
all_true (true ∷ xs) (suc i) all = all_true xs i all

pub all_marked : (bases : List (List ℕ)) (order : List ℕ) (n : ℕ) (placed : List Bool) → IsMarked bases order n placed → n ≡ length order → list_all (λ b. b) placed ≡ true → length order ≤ length bases → IsContainmentOrder bases order
all_marked bases order n placed marked done all short = record {
  whole = λ i lt. let s = marked.stands i lt (all_true placed i all) in (s.0, omega (arith, s.1, done), s.2);
  sorted = λ k j lt part within. marked.sorted k j (omega (arith, lt, done)) part within;
  short = short;
}

pub deep_orders : (bases : List (List ℕ)) (order deep : Vec ℕ) → Orders bases (Some order) → IsContainmentOrder bases deep.items → Orders bases (Some deep)
deep_orders bases order deep h is = (is, h.1)
