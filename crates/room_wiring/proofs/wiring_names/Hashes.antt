-- Slots that are found by the hashes of their paths.
use Rattle.std.proofs.Common.{◌≡◌, ℕ, suc, zero, ◌+◌, ◌<◌, ◌≤◌, Bool, true, false, cond, List, [], ◌∷◌, ◌++◌, length, map, take, drop, get_or, not, refl, sym, ap, ◌∙◌, subst, Option, Some, None, arith, nat_lt}
use Rattle.std.specs.Prelude.{position, slice_get, nat_eq, option_map}
use Rattle.std.specs.List.{position_or_len}
use Rattle.std.proofs.lemmas.Bool.Decides.{nat_tests}
use Rattle.std.proofs.lemmas.Option.{get_or_from_slice_get, slice_get_within}
use Rattle.std.proofs.lemmas.List.{take_more, map-append, length-map, length-take}
use Rattle.std.proofs.lemmas.List.Sums.{prefix_len-le-length}
use lib.Pointwise.{bytes_decides}
use Rattle.name_tables.specs.name_numbers.Names.{same}
use Rattle.name_tables.specs.name_index.Places.{earlier_or}
use Rattle.name_tables.proofs.name_index.Lists.{position_push}

same_is : (a b : List ℕ) → same a b ≡ true → a ≡ b
same_is a b e = (bytes_decides a b).0 e

same_own : (a : List ℕ) → same a a ≡ true
same_own a = (bytes_decides a a).1 refl

-- ---- one more hash at the end

within : {X : Type 0} (p : X → Bool) (xs : List X) → position_or_len p xs ≤ length xs
within p xs = prefix_len-le-length (λ x. not (p x)) xs

hashes_next : {A : Type 0} (hash : A → ℕ) (xs : List A) (i : ℕ) (x : A) → slice_get xs i ≡ Some x → map hash (take (i + 1) xs) ≡ map hash (take i xs) ++ hash x ∷ []
hashes_next hash xs i x e =
    ap (map hash) (take_more xs i x (slice_get_within xs i x e)) ∙ map-append hash (take i xs) (get_or xs i x ∷ [])
    ∙ ap (λ y. map hash (take i xs) ++ hash y ∷ []) (get_or_from_slice_get xs i x x e)

hashes_len : {A : Type 0} (hash : A → ℕ) (xs : List A) (i : ℕ) → i < length xs → length (map hash (take i xs)) ≡ i
hashes_len hash xs i lt = length-map (take i xs) hash ∙ omega (arith, length-take i xs)

-- the next hash of a list, noted
pub place_next : {A : Type 0} (hash : A → ℕ) (xs : List A) (i : ℕ) (x : A) (old new : ℕ → Option ℕ) → slice_get xs i ≡ Some x → ((q : ℕ) → old q ≡ position (nat_eq q) (map hash (take i xs))) → ((q : ℕ) → new q ≡ earlier_or (old q) (cond (nat_eq q (hash x)) (Some i) None))
    → (q : ℕ) → new q ≡ position (nat_eq q) (map hash (take (i + 1) xs))
place_next hash xs i x old new e is note q =
    let before = map hash (take i xs) in
    note q ∙ ap (λ (o : Option ℕ). earlier_or o (cond (nat_eq q (hash x)) (Some i) None)) (is q)
    ∙ ap (λ (k : ℕ). earlier_or (position (nat_eq q) before) (cond (nat_eq q (hash x)) (Some k) None)) (sym (hashes_len hash xs i (slice_get_within xs i x e)))
    ∙ sym (ap (position (nat_eq q)) (hashes_next hash xs i x e) ∙ position_push (nat_eq q) before (hash x))

-- ---- no path stands before the first place of its hash

-- equal paths have equal hashes
hash_same : (hash : List ℕ → ℕ) (w x : List ℕ) (t : Bool) → same w x ≡ t → nat_eq (hash w) (hash x) ≡ false → t ≡ false
hash_same hash w x false e h = refl
hash_same hash w x true e h =
    let is : hash w ≡ hash x = ap hash (same_is w x e) in
    let own : nat_eq (hash w) (hash x) ≡ true = grind (arith, nat_tests) in
    absurd cc

pub hash_first : {A : Type 0} (hash : List ℕ → ℕ) (name : A → List ℕ) (w : List ℕ) (xs : List A) → position_or_len (nat_eq (hash w)) (map (λ (x : A). hash (name x)) xs) ≤ position_or_len (same w) (map name xs)
hash_first hash name w [] = omega arith
hash_first {A} hash name w (x ∷ xs) = step (nat_eq (hash w) (hash (name x))) (same w (name x)) (hash_first hash name w xs) (hash_same hash w (name x) (same w (name x)) refl)
  where
    step : {n m : ℕ} (b t : Bool) → n ≤ m → (b ≡ false → t ≡ false) → cond (not b) (1 + n) 0 ≤ cond (not t) (1 + m) 0
    step true t le h = omega arith
    step false true le h = absurd (let off : true ≡ false = h refl in cc)
    step false false le h = omega arith

place_least : (n most k : ℕ) → cond (nat_lt n most) (Some n) None ≡ Some k → k ≡ n
place_least n most k e = go (nat_lt n most) e
  where
    go : (t : Bool) → cond t (Some n) None ≡ Some k → k ≡ n
    go true h = cc
    go false h = absurd cc

-- the path stands no earlier than the place that its hash has
pub found_least : {A : Type 0} (hash : List ℕ → ℕ) (name : A → List ℕ) (w : List ℕ) (xs : List A) (k : ℕ) → position (nat_eq (hash w)) (map (λ (x : A). hash (name x)) xs) ≡ Some k → k ≤ position_or_len (same w) (map name xs)
found_least {A} hash name w xs k e =
    let hashes = map (λ (x : A). hash (name x)) xs in
    let is : k ≡ position_or_len (nat_eq (hash w)) hashes = place_least (position_or_len (nat_eq (hash w)) hashes) (length hashes) k e in
    let le = hash_first hash name w xs in
    omega arith

past_all : (n most m : ℕ) → cond (nat_lt n most) (Some n) None ≡ None → n ≤ m → None ≡ cond (nat_lt m most) (Some m) None
past_all n most m e le = go (nat_lt n most) refl e
  where
    go : (t : Bool) → nat_lt n most ≡ t → cond t (Some n) None ≡ None → None ≡ cond (nat_lt m most) (Some m) None
    go true is h = absurd cc
    go false is h = let past : nat_lt m most ≡ false = grind (arith, nat_tests) in rw past refl

-- a path whose hash has no place is none of these
pub found_none : {A : Type 0} (hash : List ℕ → ℕ) (name : A → List ℕ) (w : List ℕ) (xs : List A) → position (nat_eq (hash w)) (map (λ (x : A). hash (name x)) xs) ≡ None → None ≡ position (same w) (map name xs)
found_none {A} hash name w xs e =
    let n = position_or_len (nat_eq (hash w)) (map (λ (x : A). hash (name x)) xs) in
    let m = position_or_len (same w) (map name xs) in
    let long : length (map (λ (x : A). hash (name x)) xs) ≡ length (map name xs) = length-map xs (λ (x : A). hash (name x)) ∙ sym (length-map xs name) in
    past_all n (length (map name xs)) m (subst (λ (l : ℕ). cond (nat_lt n l) (Some n) None ≡ None) long e) (hash_first hash name w xs)

-- ---- a search that begins further on

pub same_turn : (a b : List ℕ) → same a b ≡ same b a
same_turn a b = by_tests (same a b) (same b a) refl refl
  where
    by_tests : (t u : Bool) → same a b ≡ t → same b a ≡ u → t ≡ u
    by_tests true true e f = refl
    by_tests false false e f = refl
    by_tests true false e f = let own : same b a ≡ true = subst (λ (x : List ℕ). same x a ≡ true) (same_is a b e) (same_own a) in absurd cc
    by_tests false true e f = let own : same a b ≡ true = subst (λ (x : List ℕ). same x b ≡ true) (same_is b a f) (same_own b) in absurd cc

pub named_place : {A : Type 0} (name : A → List ℕ) (w : List ℕ) (xs : List A) → position_or_len (same w) (map name xs) ≡ position_or_len (λ (x : A). same (name x) w) xs
named_place name w [] = refl
named_place name w (x ∷ xs) = ap (λ (t : Bool). cond (not t) (1 + position_or_len (same w) (map name xs)) 0) (same_turn w (name x)) ∙ ap (λ (n : ℕ). cond (not (same (name x) w)) (1 + n) 0) (named_place name w xs)

skipped : {A : Type 0} (p : A → Bool) (xs : List A) (k : ℕ) → k ≤ position_or_len p xs → position_or_len p xs ≡ k + position_or_len p (drop k xs)
skipped p xs zero le = omega arith
skipped p [] (suc k) le = absurd (omega arith)
skipped p (x ∷ xs) (suc k) le = step (p x) le (λ h. skipped p xs k h)
  where
    step : (t : Bool) → suc k ≤ cond (not t) (1 + position_or_len p xs) 0 → (k ≤ position_or_len p xs → position_or_len p xs ≡ k + position_or_len p (drop k xs)) → cond (not t) (1 + position_or_len p xs) 0 ≡ suc k + position_or_len p (drop k xs)
    step true h go = absurd (omega arith)
    step false h go = let rest = go (omega arith) in omega arith

long_rest : {A : Type 0} (xs : List A) (k : ℕ) → k ≤ length xs → length xs ≡ k + length (drop k xs)
long_rest xs zero le = omega arith
long_rest [] (suc k) le = absurd (omega arith)
long_rest (x ∷ xs) (suc k) le = let rest = long_rest xs k (omega arith) in omega arith

moved : (k m most : ℕ) → cond (nat_lt (k + m) (k + most)) (Some (k + m)) None ≡ option_map (λ (i : ℕ). k + i) (cond (nat_lt m most) (Some m) None)
moved k m most = go (nat_lt m most) refl
  where
    go : (t : Bool) → nat_lt m most ≡ t → cond (nat_lt (k + m) (k + most)) (Some (k + m)) None ≡ option_map (λ (i : ℕ). k + i) (cond t (Some m) None)
    go true e = let on : nat_lt (k + m) (k + most) ≡ true = grind (arith, nat_tests) in rw on refl
    go false e = let off : nat_lt (k + m) (k + most) ≡ false = grind (arith, nat_tests) in rw off refl

-- where none stands before a place, the first from there on is the first
pub found_from : {A : Type 0} (name : A → List ℕ) (w : List ℕ) (xs : List A) (k : ℕ) → k ≤ position_or_len (same w) (map name xs) → position (same w) (map name xs) ≡ option_map (λ (i : ℕ). k + i) (position (λ (x : A). same (name x) w) (drop k xs))
found_from {A} name w xs k le =
    let p : A → Bool = λ x. same (name x) w in
    let at : position_or_len (same w) (map name xs) ≡ position_or_len p xs = named_place name w xs in
    let early : k ≤ position_or_len p xs = omega arith in
    let most : position_or_len p xs ≤ length xs = within p xs in
    let whole : position_or_len (same w) (map name xs) ≡ k + position_or_len p (drop k xs) = at ∙ skipped p xs k early in
    let long : length (map name xs) ≡ k + length (drop k xs) = length-map xs name ∙ long_rest xs k (omega arith) in
    ap (λ (n : ℕ). cond (nat_lt n (length (map name xs))) (Some n) None) whole ∙ ap (λ (l : ℕ). cond (nat_lt (k + position_or_len p (drop k xs)) l) (Some (k + position_or_len p (drop k xs))) None) long
    ∙ moved k (position_or_len p (drop k xs)) (length (drop k xs))

-- the first from a place on lies within the list
pub from_within : {A : Type 0} (name : A → List ℕ) (w : List ℕ) (xs : List A) (k : ℕ) → k ≤ position_or_len (same w) (map name xs) → k ≤ length xs
from_within name w xs k le =
    let most : position_or_len (same w) (map name xs) ≤ length (map name xs) = within (same w) (map name xs) in
    let long : length (map name xs) ≡ length xs = length-map xs name in
    omega arith
