-- Names that are known stay, new ones are added at the end.
use Rattle.std.proofs.Common.{◌≡◌, ℕ, suc, ◌+◌, ◌<◌, ◌≤◌, Bool, true, false, cond, not, nat_lt, nat_eq, List, [], ◌∷◌, ◌++◌, length, Option, Some, None, refl, sym, ap, ◌∙◌, subst, arith, zero-add}
use Rattle.std.specs.Prelude.{◌||◌, position, MatchOption}
use Rattle.std.specs.List.{position_or_len, list_any}
use Rattle.std.specs.Global.{Vec}
use Rattle.std.proofs.lemmas.List.{length-map}
use Rattle.std.proofs.lemmas.List.Sums.{prefix_len-le-length}
use Rattle.std.proofs.lemmas.Bool.Decides.{nat_tests}
use lib.Pointwise.{pointwise, bytes_decides}
use Rattle.indexmap.specs.IndexSet.{insert_key}
use Rattle.room_ast.specs.Found.{same_name}
use Rattle.action_lang.specs.action_check.Answers.{Grows}
use Rattle.action_lang.specs.action_check.ServiceNames.{texts, with_name, number_from, number_of}

known_from : (k : ℕ) (names : List (List ℕ)) (name : List ℕ) → number_from k names name < k + length names → with_name names name ≡ names
known_from k [] name h = absurd (omega arith)
known_from k (n ∷ ns) name h = by_test (same_name n name) (λ p. known_from (k + 1) ns name p) h
  where
    by_test : (b : Bool) → (number_from (k + 1) ns name < (k + 1) + length ns → with_name ns name ≡ ns) → cond b k (number_from (k + 1) ns name) < k + suc (length ns) → cond b (n ∷ ns) (n ∷ with_name ns name) ≡ n ∷ ns
    by_test true go h = refl
    by_test false go h = ap (λ ms. n ∷ ms) (go (omega arith))

new_from : (k : ℕ) (names : List (List ℕ)) (name : List ℕ) → k + length names ≤ number_from k names name → with_name names name ≡ names ++ name ∷ []
new_from k [] name h = refl
new_from k (n ∷ ns) name h = by_test (same_name n name) (λ p. new_from (k + 1) ns name p) h
  where
    by_test : (b : Bool) → ((k + 1) + length ns ≤ number_from (k + 1) ns name → with_name ns name ≡ ns ++ name ∷ []) → k + suc (length ns) ≤ cond b k (number_from (k + 1) ns name) → cond b (n ∷ ns) (n ∷ with_name ns name) ≡ n ∷ (ns ++ name ∷ [])
    by_test true go h = absurd (omega arith)
    by_test false go h = ap (λ ms. n ∷ ms) (go (omega arith))

pub known_stays : (names : List (List ℕ)) (name : List ℕ) → number_of names name < length names → with_name names name ≡ names
known_stays names name h = known_from 0 names name (omega arith)

pub new_added : (names : List (List ℕ)) (name : List ℕ) → length names ≤ number_of names name → with_name names name ≡ names ++ name ∷ []
new_added names name h = new_from 0 names name (omega arith)

append_none : (names : List (List ℕ)) → names ≡ names ++ []
append_none [] = refl
append_none (n ∷ ns) = ap (λ ms. n ∷ ms) (append_none ns)

-- a name more is growing
pub name_grows : (names : List (List ℕ)) (name : List ℕ) → Grows names (with_name names name)
name_grows [] name = (name ∷ [], refl)
name_grows (n ∷ ns) name = by_test (same_name n name) (name_grows ns name)
  where
    by_test : (b : Bool) → Grows ns (with_name ns name) → Grows (n ∷ ns) (cond b (n ∷ ns) (n ∷ with_name ns name))
    by_test true go = ([], append_none (n ∷ ns))
    by_test false go = (go.0, ap (λ ms. n ∷ ms) go.1)

-- ---- the numbers of names that vectors of bytes are

same_is : (a b : List ℕ) → same_name a b ≡ true → a ≡ b
same_is a b e = (bytes_decides a b).0 e

same_own : (a : List ℕ) → same_name a a ≡ true
same_own a = (bytes_decides a a).1 refl

same_turned : (a b : List ℕ) → same_name a b ≡ same_name b a
same_turned a b = go (same_name a b) (same_name b a) refl refl
  where
    go : (s t : Bool) → same_name a b ≡ s → same_name b a ≡ t → s ≡ t
    go true true e f = refl
    go false false e f = refl
    go true false e f = let is : a ≡ b = same_is a b e in let own : same_name b a ≡ true = subst (λ (x : List ℕ). same_name b x ≡ true) (sym is) (same_own b) in absurd cc
    go false true e f = let is : b ≡ a = same_is b a f in let own : same_name a b ≡ true = subst (λ (x : List ℕ). same_name a x ≡ true) (sym is) (same_own a) in absurd cc

number_place : (k : ℕ) (names : List (Vec ℕ)) (name : List ℕ) → number_from k (texts names) name ≡ k + position_or_len (λ (v : Vec ℕ). pointwise nat_eq name v.items) names
number_place k [] name = omega arith
number_place k (n ∷ ns) name = ap (λ b. cond b k (number_from (k + 1) (texts ns) name)) (same_turned n.items name) ∙ by_test (same_name name n.items) (number_place (k + 1) ns name)
  where
    by_test : (b : Bool) → number_from (k + 1) (texts ns) name ≡ (k + 1) + position_or_len (λ (v : Vec ℕ). pointwise nat_eq name v.items) ns
        → cond b k (number_from (k + 1) (texts ns) name) ≡ k + cond (not b) (1 + position_or_len (λ (v : Vec ℕ). pointwise nat_eq name v.items) ns) 0
    by_test true go = omega arith
    by_test false go = omega (arith, go)

length_texts : (names : List (Vec ℕ)) → length (texts names) ≡ length names
length_texts names = length-map names (λ (v : Vec ℕ). v.items)

-- what a look-up finds
abbrev Finds : Option ℕ → ℕ → ℕ → Type 0
Finds found number most = MatchOption found (number ≡ most) (λ k. (k ≡ number) × (number < most))

found_plain : (n most : ℕ) (b : Bool) → nat_lt n most ≡ b → n ≤ most → Finds (cond b (Some n) None) n most
found_plain n most true e le = grind (arith, nat_tests)
found_plain n most false e le = grind (arith, nat_tests)

within : {X : Type 0} (p : X → Bool) (xs : List X) → position_or_len p xs ≤ length xs
within p xs = prefix_len-le-length (λ x. not (p x)) xs

pub look_up : (found : Option ℕ) (names : List (Vec ℕ)) (name : List ℕ) → found ≡ position (λ (v : Vec ℕ). pointwise nat_eq name v.items) names → Finds found (number_of (texts names) name) (length (texts names))
look_up found names name e =
    let test : Vec ℕ → Bool = λ v. pointwise nat_eq name v.items in
    let place : number_of (texts names) name ≡ position_or_len test names = number_place 0 names name ∙ zero-add (position_or_len test names) in
    rw (e, place, length_texts names) (found_plain (position_or_len test names) (length names) (nat_lt (position_or_len test names) (length names)) refl (within test names))

texts-append : (xs ys : List (Vec ℕ)) → texts (xs ++ ys) ≡ texts xs ++ texts ys
texts-append [] ys = refl
texts-append (x ∷ xs) ys = ap (λ ts. x.items ∷ ts) (texts-append xs ys)

any_place : {X : Type 0} (p : X → Bool) (xs : List X) → length xs ≤ position_or_len p xs → list_any p xs ≡ false
any_place p [] h = refl
any_place p (x ∷ xs) h = by_test (p x) (any_place p xs) h
  where
    by_test : (b : Bool) → (length xs ≤ position_or_len p xs → list_any p xs ≡ false) → suc (length xs) ≤ cond (not b) (1 + position_or_len p xs) 0 → (b || list_any p xs) ≡ false
    by_test true go h = absurd (omega arith)
    by_test false go h = go (omega arith)

-- a name without a number goes to the end
pub added_last : (names : List (Vec ℕ)) (name : Vec ℕ) → length (texts names) ≤ number_of (texts names) name.items → texts (insert_key (λ (a b : Vec ℕ). pointwise nat_eq a.items b.items) names name) ≡ texts names ++ name.items ∷ []
added_last names name h =
    let test : Vec ℕ → Bool = λ v. pointwise nat_eq name.items v.items in
    let place : number_of (texts names) name.items ≡ position_or_len test names = number_place 0 names name.items ∙ zero-add (position_or_len test names) in
    let long = length_texts names in
    let none : list_any test names ≡ false = any_place test names (omega (arith, place, long, h)) in
    ap (λ b. texts (cond b names (names ++ name ∷ []))) none ∙ texts-append names (name ∷ [])
