-- Graphs are found by keys of their paths.
use Rattle.std.proofs.Common.{◌≡◌, ℕ, ◌+◌, ◌≤◌, Bool, true, false, cond, not, List, [], ◌∷◌, length, map, refl, sym, ap, ◌∙◌, subst, Some, None, arith, nat_lt}
use Rattle.std.specs.Prelude.{position, option_and_then, slice_get}
use Rattle.std.specs.List.{find, position_or_len}
use Rattle.std.proofs.lemmas.List.{length-map}
use Rattle.std.proofs.lemmas.List.Folds.{find_at}
use Rattle.std.proofs.lemmas.Option.{none-some, same_Some, slice_get_past}
use Rattle.std.proofs.lemmas.Bool.Decides.{nat_tests}
use Rattle.name_tables.specs.name_numbers.Names.{same}
use Rattle.chart_model.specs.Chart.{Path, Graph}
use Rattle.chart_model.specs.Named.{first, same_path}
use Rattle.chart_reader.proofs.chart_nodes.Onward.{path_is, path_own}

same_turn : (p q : Path) → same_path p q ≡ same_path q p
same_turn p q = split (same_path p q) (same_path q p) refl refl
  where
    split : (a b : Bool) → same_path p q ≡ a → same_path q p ≡ b → a ≡ b
    split true true e f = refl
    split true false e f = let own : same_path q p ≡ true = subst (λ r. same_path q r ≡ true) (sym (path_is p q e)) (path_own q) in absurd cc
    split false true e f = let own : same_path p q ≡ true = subst (λ r. same_path r q ≡ true) (path_is q p f) (path_own q) in absurd cc
    split false false e f = refl

-- ---- the first item that passes a test

first_is_find : {A : Type 0} (p : A → Bool) (xs : List A) → first p xs ≡ find p xs
first_is_find p [] = refl
first_is_find p (x ∷ xs) = ap (λ o. cond (p x) (Some x) o) (first_is_find p xs)

-- it is the one at the first place
pub first_at : {A : Type 0} (p : A → Bool) (xs : List A) → first p xs ≡ option_and_then (λ i. slice_get xs i) (position p xs)
first_at p xs = first_is_find p xs ∙ find_at p xs ∙ split xs (position_or_len p xs) (nat_lt (position_or_len p xs) (length xs)) refl
  where
    split : {A : Type 0} (xs : List A) (n : ℕ) (b : Bool) → nat_lt n (length xs) ≡ b → slice_get xs n ≡ option_and_then (λ i. slice_get xs i) (cond b (Some n) None)
    split xs n true e = refl
    split xs n false e = slice_get_past xs n (let past : length xs ≤ n = grind (arith, nat_tests) in past)

pub first_passes : {A : Type 0} (p : A → Bool) (xs : List A) (x : A) → first p xs ≡ Some x → p x ≡ true
first_passes p [] x e = absurd (none-some x e)
first_passes p (y ∷ xs) x e = split p y xs x (p y) refl (first_passes p xs x) e
  where
    split : {A : Type 0} (p : A → Bool) (y : A) (xs : List A) (x : A) (b : Bool) → p y ≡ b → (first p xs ≡ Some x → p x ≡ true) → cond b (Some y) (first p xs) ≡ Some x → p x ≡ true
    split p y xs x true t again e = subst (λ z. p z ≡ true) (same_Some y x e) t
    split p y xs x false t again e = again e

prefix_agree : {A B : Type 0} (q : B → Bool) (p : A → Bool) (f : A → B) → ((x : A) → q (f x) ≡ p x) → (xs : List A) → position_or_len q (map f xs) ≡ position_or_len p xs
prefix_agree q p f same [] = refl
prefix_agree q p f same (x ∷ xs) = ap (λ b. cond (not b) (1 + position_or_len q (map f xs)) 0) (same x) ∙ ap (λ n. cond (not (p x)) (1 + n) 0) (prefix_agree q p f same xs)

pub position_agree : {A B : Type 0} (q : B → Bool) (p : A → Bool) (f : A → B) → ((x : A) → q (f x) ≡ p x) → (xs : List A) → position q (map f xs) ≡ position p xs
position_agree q p f same xs = rw (prefix_agree q p f same xs, length-map xs f) refl

-- ---- graphs by keys that are the same where their paths are

module _ (key_of : Path → List ℕ) (keyed : (p q : Path) → same (key_of p) (key_of q) ≡ same_path p q) where
  pub place_is : (gs : List Graph) (path : Path) → position (same (key_of path)) (map (λ (g : Graph). key_of g.owner) gs) ≡ position (λ (g : Graph). same_path g.owner path) gs
  place_is gs path = position_agree (same (key_of path)) (λ (g : Graph). same_path g.owner path) (λ (g : Graph). key_of g.owner) (λ g. keyed path g.owner ∙ same_turn path g.owner) gs

  pub graph_is : (gs : List Graph) (path : Path) → option_and_then (λ i. slice_get gs i) (position (same (key_of path)) (map (λ (g : Graph). key_of g.owner) gs)) ≡ first (λ (g : Graph). same_path g.owner path) gs
  graph_is gs path = ap (option_and_then (λ i. slice_get gs i)) (place_is gs path) ∙ sym (first_at (λ (g : Graph). same_path g.owner path) gs)
