-- Lists of names behind references.
use Rattle.std.proofs.Common.{inl, inr, take, drop, get_or, subst, append_assoc, ◌≡◌, ℕ, suc, ◌+◌, ◌<◌, Bool, true, false, cond, List, [], ◌∷◌, ◌++◌, length, Bor, not, refl, sym, ap, ◌∙◌}
use Rattle.std.specs.Prelude.{◌||◌, position}
use Rattle.std.specs.List.{list_any, position_or_len, IsDistinct, AllByRecursion}
use Rattle.std.proofs.lemmas.Bool.{or_cases, not-true, not-false}
use Rattle.std.proofs.lemmas.List.{take_more, take-append-drop}
use lib.Pointwise.{bytes_decides}
use Rattle.name_tables.specs.name_numbers.Names.{same, is_among, AreDistinct, names_of}

pub any_names : (x : List ℕ) (ks : List (Bor (List ℕ))) → list_any (λ (k : Bor (List ℕ)). same x k.now) ks ≡ is_among (names_of ks) x
any_names x [] = refl
any_names x (k ∷ ks) = ap (λ b. same x k.now || b) (any_names x ks)

prefix_names : (x : List ℕ) (ks : List (Bor (List ℕ))) → position_or_len (λ (k : Bor (List ℕ)). same x k.now) ks ≡ position_or_len (same x) (names_of ks)
prefix_names x [] = refl
prefix_names x (k ∷ ks) = ap (λ n. cond (not (same x k.now)) (1 + n) 0) (prefix_names x ks)

length_names : (ks : List (Bor (List ℕ))) → length ks ≡ length (names_of ks)
length_names [] = refl
length_names (k ∷ ks) = ap suc (length_names ks)

pub position_names : (x : List ℕ) (ks : List (Bor (List ℕ))) → position (λ (k : Bor (List ℕ)). same x k.now) ks ≡ position (same x) (names_of ks)
position_names x ks = rw (prefix_names x ks, length_names ks) refl

-- ---- distinct names

same_is : (a b : List ℕ) → same a b ≡ true → a ≡ b
same_is a b e = (bytes_decides a b).0 e

same_own : (a : List ℕ) → same a a ≡ true
same_own a = (bytes_decides a a).1 refl

pub same_back : (a b : List ℕ) (t : Bool) → same b a ≡ t → same a b ≡ false → t ≡ false
same_back a b false e h = refl
same_back a b true e h = let own : same a b ≡ true = subst (λ x. same x b ≡ true) (same_is b a e) (same_own b) in absurd cc

apart_push : (x : List ℕ) (xs : List (List ℕ)) (y : List ℕ) → AllByRecursion (λ z. same x z ≡ false) xs → same x y ≡ false → AllByRecursion (λ z. same x z ≡ false) (xs ++ y ∷ [])
apart_push x [] y h k = (k, tt)
apart_push x (z ∷ zs) y h k = (h.0, apart_push x zs y h.1 k)

or_parts : (a b : Bool) → (a || b) ≡ false → (a ≡ false) × (b ≡ false)
or_parts false b h = (refl, h)
or_parts true b h = absurd cc

pub distinct_push : (xs : List (List ℕ)) (y : List ℕ) → AreDistinct xs → is_among xs y ≡ false → AreDistinct (xs ++ y ∷ [])
unfolding IsDistinct
distinct_push [] y h k = (tt, tt)
distinct_push (x ∷ xs) y h k =
    let parts = or_parts (same y x) (is_among xs y) k in
    (apart_push x xs y h.0 (same_back y x (same x y) refl parts.0), distinct_push xs y h.1 parts.1)

apart_middle : (x : List ℕ) (xs : List (List ℕ)) (y : List ℕ) (zs : List (List ℕ)) → AllByRecursion (λ z. same x z ≡ false) (xs ++ y ∷ zs) → same x y ≡ false
apart_middle x [] y zs h = h.0
apart_middle x (u ∷ us) y zs h = apart_middle x us y zs h.1

pub twice : (xs : List (List ℕ)) (y : List ℕ) (zs : List (List ℕ)) → is_among xs y ≡ true → AreDistinct (xs ++ y ∷ zs) → ⊥
unfolding IsDistinct
twice [] y zs among h = cc
twice (x ∷ xs) y zs among h =
    elim (or_cases (same y x) (is_among xs y) among) [
      | inl e ↦ let off : same y x ≡ false = same_back x y (same y x) refl (apart_middle x xs y zs h.0) in cc
      | inr e ↦ twice xs y zs e h.1
    ]

pub distinct_none : AreDistinct []
unfolding IsDistinct
distinct_none = tt

pub distinct_tail : (x : List ℕ) (xs : List (List ℕ)) → AreDistinct (x ∷ xs) → AreDistinct xs
unfolding IsDistinct
distinct_tail x xs h = h.1

names-append : (xs ys : List (Bor (List ℕ))) → names_of (xs ++ ys) ≡ names_of xs ++ names_of ys
names-append [] ys = refl
names-append (x ∷ xs) ys = ap (λ ts. x.now ∷ ts) (names-append xs ys)

-- the names up to the next one, and those behind it
pub names_next : (refs : List (Bor (List ℕ))) (i : ℕ) (d : Bor (List ℕ)) → i < length refs → names_of (take (i + 1) refs) ≡ names_of (take i refs) ++ (get_or refs i d).now ∷ []
names_next refs i d lt = ap names_of (take_more refs i d lt) ∙ names-append (take i refs) (get_or refs i d ∷ [])

pub names_split : (refs : List (Bor (List ℕ))) (i : ℕ) (d : Bor (List ℕ)) → i < length refs → names_of refs ≡ names_of (take i refs) ++ (get_or refs i d).now ∷ names_of (drop (i + 1) refs)
names_split refs i d lt =
    ap names_of (sym (take-append-drop (i + 1) refs)) ∙ names-append (take (i + 1) refs) (drop (i + 1) refs) ∙ ap (λ ts. ts ++ names_of (drop (i + 1) refs)) (names_next refs i d lt)
    ∙ append_assoc (names_of (take i refs)) ((get_or refs i d).now ∷ []) (names_of (drop (i + 1) refs))

-- ---- numbering names

pub number_next : (refs : List (Bor (List ℕ))) (i : ℕ) (d : Bor (List ℕ)) (b : Bool) (numbers new : List (List ℕ)) → i < length refs → (numbers ≡ names_of (take i refs)) × AreDistinct numbers → b ≡ true → b ≡ not (is_among numbers (get_or refs i d).now)
    → new ≡ cond b (numbers ++ (get_or refs i d).now ∷ []) numbers → (new ≡ names_of (take (i + 1) refs)) × AreDistinct new
number_next refs i d false numbers new lt h is fresh e = absurd cc
number_next refs i d true numbers new lt h is fresh e =
    let other : is_among numbers (get_or refs i d).now ≡ false = not-true _ (sym fresh) in
    (e ∙ ap (λ ns. ns ++ (get_or refs i d).now ∷ []) h.0 ∙ sym (names_next refs i d lt), rw e (distinct_push numbers (get_or refs i d).now h.1 other))

pub number_twice : (refs : List (Bor (List ℕ))) (i : ℕ) (d : Bor (List ℕ)) (b : Bool) (numbers : List (List ℕ)) → i < length refs → (numbers ≡ names_of (take i refs)) × AreDistinct numbers → b ≡ false → b ≡ not (is_among numbers (get_or refs i d).now) → AreDistinct (names_of refs) → ⊥
number_twice refs i d true numbers lt h is old k = cc
number_twice refs i d false numbers lt h is old k =
    let there : is_among (names_of (take i refs)) (get_or refs i d).now ≡ true = rw h.0 at (not-false _ (sym old)) in
    twice (names_of (take i refs)) (get_or refs i d).now (names_of (drop (i + 1) refs)) there (subst AreDistinct (names_split refs i d lt) k)
