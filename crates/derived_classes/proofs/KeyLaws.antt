-- Keys tell paths apart.
use Rattle.std.proofs.Common.{◌≡◌, ℕ, ◌+◌, ◌<◌, ◌≤◌, Bool, true, false, List, [], ◌∷◌, ◌++◌, length, map, get_or, drop, refl, sym, ap, ◌∙◌, append_assoc, nat_eq}
use Rattle.std.specs.Prelude.{◌&&◌}
use Rattle.std.specs.List.{list_any}
use Rattle.std.proofs.lemmas.List.{drop_all, drop_more, append-nil}
use Rattle.name_tables.specs.distinct_names.Distinct.{is_distinct}
use Rattle.name_tables.specs.name_numbers.Names.{same, is_among}
use Rattle.room_ast.specs.Found.{same_path}
use Rattle.derived_classes.specs.Keys.{code, codes}
use Rattle.derived_classes.specs.Derived.{paths_differ}

-- ---- keys as the code writes them

pub code_start : (out s : List ℕ) → out ++ code (drop 0 s) ≡ out ++ code s
code_start out s = refl

code_cons : (out : List ℕ) (b : ℕ) (rest : List ℕ) → ((out ++ 1 ∷ []) ++ b ∷ []) ++ code rest ≡ out ++ code (b ∷ rest)
unfolding code
code_cons out b rest = rw (append_assoc, append_assoc) refl

pub code_next : (out s : List ℕ) (i d : ℕ) → i < length s → ((out ++ 1 ∷ []) ++ get_or s i d ∷ []) ++ code (drop (i + 1) s) ≡ out ++ code (drop i s)
code_next out s i d h = code_cons out (get_or s i d) (drop (i + 1) s) ∙ ap (λ r. out ++ code r) (sym (drop_more s i d h))

code_end : (out : List ℕ) → out ++ code [] ≡ out ++ 0 ∷ []
unfolding code
code_end out = refl

pub code_done : (out first s : List ℕ) (n : ℕ) → length s ≤ n → out ++ code (drop n s) ≡ first → out ++ 0 ∷ [] ≡ first
code_done out first s n h e = sym (code_end out) ∙ ap (λ r. out ++ code r) (sym (drop_all n s h)) ∙ e

pub codes_start : (out : List ℕ) (p : List (List ℕ)) → out ++ codes (drop 0 p) ≡ out ++ codes p
codes_start out p = refl

codes_cons : (out n : List ℕ) (rest : List (List ℕ)) → (out ++ code n) ++ codes rest ≡ out ++ codes (n ∷ rest)
unfolding codes
codes_cons out n rest = append_assoc out (code n) (codes rest)

pub codes_next : (out : List ℕ) (p : List (List ℕ)) (i : ℕ) (d : List ℕ) → i < length p → (out ++ code (get_or p i d)) ++ codes (drop (i + 1) p) ≡ out ++ codes (drop i p)
codes_next out p i d h = codes_cons out (get_or p i d) (drop (i + 1) p) ∙ ap (λ r. out ++ codes r) (sym (drop_more p i d h))

codes_end : (out : List ℕ) → out ++ codes [] ≡ out
unfolding codes
codes_end out = append-nil out

pub codes_done : (out first : List ℕ) (p : List (List ℕ)) (n : ℕ) → length p ≤ n → out ++ codes (drop n p) ≡ first → out ≡ first
codes_done out first p n h e = sym (codes_end out) ∙ ap (λ r. out ++ codes r) (sym (drop_all n p h)) ∙ e

pub codes_none : codes [] ≡ []
unfolding codes
codes_none = refl

pub codes_one : (n : List ℕ) (p : List (List ℕ)) → codes (n ∷ p) ≡ code n ++ codes p
unfolding codes
codes_one n p = refl

-- ---- keys are the same where the names are

and_assoc : (a b c : Bool) → (a && (b && c)) ≡ ((a && b) && c)
and_assoc true b c = refl
and_assoc false b c = refl

same_code : (a b x y : List ℕ) → same (code a ++ x) (code b ++ y) ≡ (same a b && same x y)
unfolding code
same_code [] [] x y = refl
same_code [] (b ∷ bs) x y = refl
same_code (a ∷ «as») [] x y = refl
same_code (a ∷ «as») (b ∷ bs) x y = ap (λ t. nat_eq a b && t) (same_code «as» bs x y) ∙ and_assoc (nat_eq a b) (same «as» bs) (same x y)

same_none : (n r : List ℕ) → same [] (code n ++ r) ≡ false
unfolding code
same_none [] r = refl
same_none (b ∷ bs) r = refl

none_same : (n r : List ℕ) → same (code n ++ r) [] ≡ false
unfolding code
none_same [] r = refl
none_same (b ∷ bs) r = refl

same_codes : (p q : List (List ℕ)) → same (codes p) (codes q) ≡ same_path p q
unfolding codes
same_codes [] [] = refl
same_codes [] (m ∷ ms) = same_none m (codes ms)
same_codes (n ∷ ns) [] = none_same n (codes ns)
same_codes (n ∷ ns) (m ∷ ms) = same_code n m (codes ns) (codes ms) ∙ ap (λ t. same n m && t) (same_codes ns ms)

among_keys : (p : List (List ℕ)) (qs : List (List (List ℕ))) → is_among (map codes qs) (codes p) ≡ list_any (same_path p) qs
among_keys p [] = refl
among_keys p (q ∷ qs) = rw (same_codes p q, among_keys p qs) refl

-- paths differ where their keys are distinct
pub keys_differ : (ps : List (List (List ℕ))) → is_distinct (map codes ps) ≡ paths_differ ps
keys_differ [] = refl
keys_differ (p ∷ ps) = rw (among_keys p ps, keys_differ ps) refl
