-- First places in lists of names.
use Rattle.std.proofs.Common.{◌≡◌, ℕ, suc, ◌+◌, ◌<◌, ◌≤◌, Bool, true, false, cond, not, List, [], ◌∷◌, ◌++◌, length, take, get_or, map, Option, Some, None, Bor, refl, sym, ap, ◌∙◌, subst, arith, nat_lt}
use Rattle.std.specs.Prelude.{position, is_some, ◌||◌}
use Rattle.std.specs.List.{position_or_len, list_any}
use Rattle.std.proofs.lemmas.List.{length-append, length-map, length-take}
use Rattle.std.proofs.lemmas.List.Folds.{position_or_len_push}
use Rattle.std.proofs.lemmas.Bool.Decides.{nat_tests}
use Rattle.std.proofs.lemmas.List.Sums.{prefix_len-le-length}
use lib.Dec.{eqb}
use lib.Pointwise.{bytes_decides}
use Rattle.name_tables.specs.name_numbers.Names.{same, names_of}
use Rattle.name_tables.proofs.name_numbers.Lists.{names_next}
use Rattle.name_tables.specs.name_index.Places.{earlier_or, place_called}

-- ---- one more name at the end

push_plain : (n most : ℕ) (b : Bool) → n ≤ most → cond (nat_lt (cond (eqb n most) (most + cond b 0 1) n) (most + 1)) (Some (cond (eqb n most) (most + cond b 0 1) n)) None ≡ earlier_or (cond (nat_lt n most) (Some n) None) (cond b (Some most) None)
push_plain n most true le = grind (arith, nat_tests)
push_plain n most false le = grind (arith, nat_tests)

within : {X : Type 0} (p : X → Bool) (xs : List X) → position_or_len p xs ≤ length xs
within p xs = prefix_len-le-length (λ x. not (p x)) xs

pub position_push : {X : Type 0} (p : X → Bool) (xs : List X) (y : X) → position p (xs ++ y ∷ []) ≡ earlier_or (position p xs) (cond (p y) (Some (length xs)) None)
position_push p xs y = rw (position_or_len_push p xs y, length-append xs (y ∷ [])) (push_plain (position_or_len p xs) (length xs) (p y) (within p xs))

-- ---- noting a name in a map

same_is : (a b : List ℕ) → same a b ≡ true → a ≡ b
same_is a b e = (bytes_decides a b).0 e

same_own : (a : List ℕ) → same a a ≡ true
same_own a = (bytes_decides a a).1 refl

same_turn : (a b : List ℕ) (t : Bool) → same b a ≡ t → same a b ≡ false → t ≡ false
same_turn a b false e h = refl
same_turn a b true e h = let own : same a b ≡ true = subst (λ x. same x b ≡ true) (same_is b a e) (same_own b) in absurd cc

keeps : (o : Option ℕ) → earlier_or o None ≡ o
keeps (Some n) = refl
keeps None = refl

stays : (o other : Option ℕ) → is_some o ≡ true → o ≡ earlier_or o other
stays (Some n) other h = refl
stays None other h = absurd cc

nothing : (o : Option ℕ) → is_some o ≡ false → o ≡ None
nothing (Some n) h = absurd cc
nothing None h = refl

-- a name that had no place
pub note_new : (old new : List ℕ → Option ℕ) (name : List ℕ) (place : ℕ) → ((q : List ℕ) → new q ≡ cond (same name q) (Some place) (old q)) → is_some (old name) ≡ false → (q : List ℕ) → new q ≡ earlier_or (old q) (cond (same q name) (Some place) None)
note_new old new name place up gone q = go (same q name) refl
  where
    go : (b : Bool) → same q name ≡ b → new q ≡ earlier_or (old q) (cond b (Some place) None)
    go true e =
        let is : name ≡ q = sym (same_is q name e) in
        let fresh : old q ≡ None = subst (λ (x : List ℕ). old x ≡ None) is (nothing (old name) gone) in
        let now : new q ≡ Some place = up q ∙ ap (λ t. cond t (Some place) (old q)) (subst (λ (x : List ℕ). same x q ≡ true) (sym is) (same_own q)) in
        rw fresh now
    go false e = up q ∙ ap (λ t. cond t (Some place) (old q)) (same_turn q name (same name q) refl e) ∙ sym (keeps (old q))

-- a name that had one
pub note_old : (old : List ℕ → Option ℕ) (name : List ℕ) (place : ℕ) → is_some (old name) ≡ true → (q : List ℕ) → old q ≡ earlier_or (old q) (cond (same q name) (Some place) None)
note_old old name place there q = go (same q name) refl
  where
    go : (b : Bool) → same q name ≡ b → old q ≡ earlier_or (old q) (cond b (Some place) None)
    go true e = stays (old q) (Some place) (subst (λ (x : List ℕ). is_some (old x) ≡ true) (sym (same_is q name e)) there)
    go false e = sym (keeps (old q))

names_len : (refs : List (Bor (List ℕ))) (i : ℕ) → i < length refs → length (names_of (take i refs)) ≡ i
names_len refs i lt = length-map (take i refs) (λ (r : Bor (List ℕ)). r.now) ∙ omega (arith, length-take i refs)

-- the next name of a list, noted
pub place_next : (refs : List (Bor (List ℕ))) (i : ℕ) (d : Bor (List ℕ)) (old new : List ℕ → Option ℕ) → i < length refs → ((q : List ℕ) → old q ≡ position (same q) (names_of (take i refs))) → ((q : List ℕ) → new q ≡ earlier_or (old q) (cond (same q (get_or refs i d).now) (Some i) None))
    → (q : List ℕ) → new q ≡ position (same q) (names_of (take (i + 1) refs))
place_next refs i d old new lt is note q =
    let long : length (names_of (take i refs)) ≡ i = names_len refs i lt in
    note q ∙ ap (λ (o : Option ℕ). earlier_or o (cond (same q (get_or refs i d).now) (Some i) None)) (is q)
    ∙ ap (λ (k : ℕ). earlier_or (position (same q) (names_of (take i refs))) (cond (same q (get_or refs i d).now) (Some k) None)) (sym long)
    ∙ sym (ap (position (same q)) (names_next refs i d lt) ∙ position_push (same q) (names_of (take i refs)) (get_or refs i d).now)

-- ---- whether there is a place

step_first : (b rest : Bool) (n most : ℕ) → nat_lt n most ≡ rest → nat_lt (cond (not b) (1 + n) 0) (suc most) ≡ (b || rest)
step_first true rest n most h = grind (arith, nat_tests)
step_first false rest n most h = grind (arith, nat_tests)

some_first : {X : Type 0} (p : X → Bool) (xs : List X) → nat_lt (position_or_len p xs) (length xs) ≡ list_any p xs
some_first p [] = refl
some_first p (x ∷ xs) = step_first (p x) (list_any p xs) (position_or_len p xs) (length xs) (some_first p xs)

pub some_place : {X : Type 0} (p : X → Bool) (xs : List X) → is_some (position p xs) ≡ list_any p xs
some_place p xs = some_of (nat_lt (position_or_len p xs) (length xs)) (position_or_len p xs) ∙ some_first p xs
  where
    some_of : (b : Bool) (n : ℕ) → is_some (cond b (Some n) None) ≡ b
    some_of true n = refl
    some_of false n = refl

-- ---- names compared one by one

position_or_len_map : {X Y : Type 0} (f : X → Y) (p : Y → Bool) (xs : List X) → position_or_len p (map f xs) ≡ position_or_len (λ x. p (f x)) xs
position_or_len_map f p [] = refl
position_or_len_map f p (x ∷ xs) = ap (λ n. cond (not (p (f x))) (1 + n) 0) (position_or_len_map f p xs)

position_map : {X Y : Type 0} (f : X → Y) (p : Y → Bool) (xs : List X) → position p (map f xs) ≡ position (λ x. p (f x)) xs
position_map f p xs = rw (position_or_len_map f p xs, length-map xs f) refl

-- the references that were looked at are those of the list
pub called_place : (name : List ℕ) (refs : List (Bor (List ℕ))) → place_called name refs ≡ position (same name) (names_of refs)
called_place name refs = sym (position_map (λ (r : Bor (List ℕ)). r.now) (same name) refs)

pub names_length : (refs : List (Bor (List ℕ))) → length (names_of refs) ≡ length refs
names_length refs = length-map refs (λ (r : Bor (List ℕ)). r.now)
