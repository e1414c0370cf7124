-- Numbers of names as guesses of their places.
use Rattle.std.proofs.Common.{◌≡◌, ℕ, suc, zero, ◌+◌, ◌-◌, ◌<◌, ◌≤◌, min, Bool, true, false, cond, List, [], ◌∷◌, ◌++◌, length, map, not, refl, sym, ap, subst, append_assoc, append-nil, arith, Option, Some, None, nat_lt}
use Rattle.std.specs.Prelude.{position, slice_get, ◌||◌}
use Rattle.std.specs.Option.{option_map_or}
use Rattle.std.specs.List.{position_or_len, list_any}
use Rattle.std.proofs.lemmas.Bool.Decides.{nat_tests}
use Rattle.std.proofs.lemmas.Option.{slice_get_within}
use lib.Pointwise.{bytes_decides}
use Rattle.name_tables.specs.name_numbers.Names.{same, is_among}
use Rattle.room_wiring.specs.wiring_names.Lookup.{added, numbering, numbered, narrowed, place_of}
use Rattle.inject_reader.specs.Guesses.{IsNoLater}
use Rattle.room_wiring.proofs.wiring_names.Hashes.{named_place}

-- ---- names that stand twice are numbered once, no later than at their first place

step_le : (t : Bool) (n m : ℕ) → n ≤ m → cond (not t) (1 + n) 0 ≤ cond (not t) (1 + m) 0
step_le true n m h = omega arith
step_le false n m h = omega arith

-- an item that doesn't pass moves the first place back, if at all
past_item : {A : Type 0} (p : A → Bool) (x : A) (front back : List A) → p x ≡ false → position_or_len p (front ++ back) ≤ position_or_len p (front ++ x ∷ back)
past_item p x [] back e = rw e (omega arith)
past_item p x (y ∷ ys) back e = step_le (p y) (position_or_len p (ys ++ back)) (position_or_len p (ys ++ x ∷ back)) (past_item p x ys back e)

or_true : (a b : Bool) → (a || b) ≡ true → a ≡ false → b ≡ true
or_true true b h e = absurd cc
or_true false b h e = h

-- where an item in front passes, what follows changes nothing
past_first : {A : Type 0} (p : A → Bool) (front xs ys : List A) → list_any p front ≡ true → position_or_len p (front ++ xs) ≤ position_or_len p (front ++ ys)
past_first p [] xs ys h = absurd cc
past_first p (z ∷ zs) xs ys h = by_test (p z) refl (λ k. past_first p zs xs ys k)
  where
    by_test : (t : Bool) → p z ≡ t → (list_any p zs ≡ true → position_or_len p (zs ++ xs) ≤ position_or_len p (zs ++ ys)) → cond (not t) (1 + position_or_len p (zs ++ xs)) 0 ≤ cond (not t) (1 + position_or_len p (zs ++ ys)) 0
    by_test true e go = omega arith
    by_test false e go = step_le false (position_or_len p (zs ++ xs)) (position_or_len p (zs ++ ys)) (go (or_true (p z) (list_any p zs) h e))

same_is : (a b : List ℕ) → same a b ≡ true → a ≡ b
same_is a b e = (bytes_decides a b).0 e

same_own : (a : List ℕ) → same a a ≡ true
same_own a = (bytes_decides a a).1 refl

without_twin : (w n : List ℕ) (names ns : List (List ℕ)) → is_among names n ≡ true → position_or_len (same w) (names ++ ns) ≤ position_or_len (same w) (names ++ n ∷ ns)
without_twin w n names ns among = by_test (same w n) refl
  where
    by_test : (t : Bool) → same w n ≡ t → position_or_len (same w) (names ++ ns) ≤ position_or_len (same w) (names ++ n ∷ ns)
    by_test true e = past_first (same w) names ns (n ∷ ns) (subst (λ (x : List ℕ). is_among names x ≡ true) (sym (same_is w n e)) among)
    by_test false e = past_item (same w) n names ns e

one_added : (w n : List ℕ) (names ns : List (List ℕ)) → position_or_len (same w) (added names n ++ ns) ≤ position_or_len (same w) (names ++ n ∷ ns)
one_added w n names ns = by_test (is_among names n) refl
  where
    by_test : (t : Bool) → is_among names n ≡ t → position_or_len (same w) (cond t names (names ++ n ∷ []) ++ ns) ≤ position_or_len (same w) (names ++ n ∷ ns)
    by_test true e = without_twin w n names ns e
    by_test false e = let whole : position_or_len (same w) ((names ++ n ∷ []) ++ ns) ≡ position_or_len (same w) (names ++ n ∷ ns) = ap (position_or_len (same w)) (append_assoc names (n ∷ []) ns) in omega arith

numbering_le : (w : List ℕ) (names ns : List (List ℕ)) → position_or_len (same w) (numbering names ns) ≤ position_or_len (same w) (names ++ ns)
numbering_le w names [] = let whole : position_or_len (same w) (names ++ []) ≡ position_or_len (same w) names = ap (position_or_len (same w)) (append-nil names) in omega arith
numbering_le w names (n ∷ ns) =
    let rest : position_or_len (same w) (numbering (added names n) ns) ≤ position_or_len (same w) (added names n ++ ns) = numbering_le w (added names n) ns in
    let here : position_or_len (same w) (added names n ++ ns) ≤ position_or_len (same w) (names ++ n ∷ ns) = one_added w n names ns in
    omega arith

narrowed_le : (i n : ℕ) → narrowed (cond (nat_lt i n) (Some i) None) ≤ i
narrowed_le i n = by_test (nat_lt i n) (nat_lt i 65536)
  where
    chosen : (u : Bool) → cond u i 0 ≤ i
    chosen true = omega arith
    chosen false = omega arith

    by_test : (t u : Bool) → narrowed (cond t (Some i) None) ≤ i
    by_test true u = chosen (nat_lt i 65536)
    by_test false u = omega arith

number_le : (w : List ℕ) (ns : List (List ℕ)) → place_of (numbered ns) w ≤ position_or_len (same w) ns
unfolding place_of numbered
number_le w ns =
    let few : position_or_len (same w) (numbering [] ns) ≤ position_or_len (same w) ns = numbering_le w [] ns in
    let small : narrowed (position (same w) (numbering [] ns)) ≤ position_or_len (same w) (numbering [] ns) = narrowed_le (position_or_len (same w) (numbering [] ns)) (length (numbering [] ns)) in
    omega arith

-- ---- the same of items with names

-- the number of a name among those of some items is no later than the first item with this name
pub named_le : {A : Type 0} (name : A → List ℕ) (w : List ℕ) (xs : List A) → place_of (numbered (map name xs)) w ≤ position_or_len (λ (x : A). same (name x) w) xs
named_le name w xs =
    let le : place_of (numbered (map name xs)) w ≤ position_or_len (same w) (map name xs) = number_le w (map name xs) in
    let whole : position_or_len (same w) (map name xs) ≡ position_or_len (λ x. same (name x) w) xs = named_place name w xs in
    omega arith

-- and so it is where the names aren't numbered
pub placed_le : {A : Type 0} (name : A → List ℕ) (w : List ℕ) (xs : List A) → place_of (map name xs) w ≤ position_or_len (λ (x : A). same (name x) w) xs
unfolding place_of
placed_le name w xs =
    let small : narrowed (position (same w) (map name xs)) ≤ position_or_len (same w) (map name xs) = narrowed_le (position_or_len (same w) (map name xs)) (length (map name xs)) in
    let whole : position_or_len (same w) (map name xs) ≡ position_or_len (λ x. same (name x) w) xs = named_place name w xs in
    omega arith

-- ---- a guess that is right

there : {A : Type 0} (p : A → Bool) (xs : List A) (k : ℕ) (o : Option A) → slice_get xs k ≡ o → option_map_or p o false ≡ true → (x : A) × (slice_get xs k ≡ Some x) × (p x ≡ true)
there p xs k None e h = absurd cc
there p xs k (Some x) e h = (x, e, h)

-- the first place is no later than one that passes
no_later : {A : Type 0} (p : A → Bool) (xs : List A) (k : ℕ) (x : A) → slice_get xs k ≡ Some x → p x ≡ true → position_or_len p xs ≤ k
no_later p [] k x e h = absurd cc
no_later p (y ∷ ys) zero x e h = let is : y ≡ x = cc in let passes : p y ≡ true = rw is h in rw passes (omega arith)
no_later p (y ∷ ys) (suc k) x e h = step (p y) (position_or_len p ys) (no_later p ys k x e h)
  where
    step : (t : Bool) (n : ℕ) → n ≤ k → cond (not t) (1 + n) 0 ≤ suc k
    step true n le = omega arith
    step false n le = omega arith

position_is : {A : Type 0} (p : A → Bool) (xs : List A) (k : ℕ) → position_or_len p xs ≡ k → k < length xs → position p xs ≡ Some k
position_is p xs k e lt =
    let inside : nat_lt (position_or_len p xs) (length xs) ≡ true = grind (arith, nat_tests) in
    rw inside (ap Some e)

pub guess_right : {A : Type 0} (p : A → Bool) (xs : List A) (k : ℕ) → IsNoLater k p xs → option_map_or p (slice_get xs k) false ≡ true → position p xs ≡ Some k
guess_right p xs k le h =
    let at = there p xs k (slice_get xs k) refl h in
    let lt : k < length xs = slice_get_within xs k at.0 at.1 in
    let most : position_or_len p xs ≤ k = no_later p xs k at.0 at.1 at.2 in
    let least : min k (length xs) ≤ position_or_len p xs = le in
    position_is p xs k (omega arith) lt

-- ---- searching item by item

pub search_ends : {A : Type 0} (p : A → Bool) (xs : List A) → length xs ≤ position_or_len p xs → None ≡ position p xs
search_ends p xs le =
    let past : nat_lt (position_or_len p xs) (length xs) ≡ false = grind (arith, nat_tests) in
    rw past refl

pub search_goes_on : {A : Type 0} (p : A → Bool) (xs : List A) (k : ℕ) (x : A) → k ≤ position_or_len p xs → slice_get xs k ≡ Some x → p x ≡ false → k + 1 ≤ position_or_len p xs
search_goes_on p [] k x le e h = absurd cc
search_goes_on p (y ∷ ys) zero x le e h = let is : y ≡ x = cc in let fails : p y ≡ false = rw is h in rw fails (omega arith)
search_goes_on p (y ∷ ys) (suc k) x le e h = step (p y) (position_or_len p ys) le (λ le'. search_goes_on p ys k x le' e h)
  where
    step : (t : Bool) (n : ℕ) → suc k ≤ cond (not t) (1 + n) 0 → (k ≤ n → k + 1 ≤ n) → suc k + 1 ≤ cond (not t) (1 + n) 0
    step true n le go = absurd (omega arith)
    step false n le go = let more : k + 1 ≤ n = go (omega arith) in omega arith

pub search_found : {A : Type 0} (p : A → Bool) (xs : List A) (k : ℕ) (x : A) → k ≤ position_or_len p xs → slice_get xs k ≡ Some x → p x ≡ true → Some k ≡ position p xs
search_found p xs k x le e h =
    let most : position_or_len p xs ≤ k = no_later p xs k x e h in
    sym (position_is p xs k (omega arith) (slice_get_within xs k x e))

-- ---- places among two lists

pub front_guess : {A : Type 0} (p : A → Bool) (xs ys : List A) (k : ℕ) → k ≤ position_or_len p (xs ++ ys) → IsNoLater k p xs
front_guess p [] ys k le = omega arith
front_guess p (x ∷ xs) ys k le = step (p x) k (length xs) (position_or_len p (xs ++ ys)) (position_or_len p xs) le (λ j lj. front_guess p xs ys j lj)
  where
    step : (t : Bool) (k len n m : ℕ) → k ≤ cond (not t) (1 + n) 0 → ((j : ℕ) → j ≤ n → min j len ≤ m) → min k (suc len) ≤ cond (not t) (1 + m) 0
    step true k len n m le go = omega arith
    step false zero len n m le go = omega arith
    step false (suc k) len n m le go = let more : min k len ≤ m = go k (omega arith) in omega arith

back_le : {A : Type 0} (p : A → Bool) (xs ys : List A) (k : ℕ) → k ≤ position_or_len p (xs ++ ys) → k - length xs ≤ position_or_len p ys
back_le p [] ys k le = let same : k ≤ position_or_len p ys = le in omega arith
back_le p (x ∷ xs) ys k le = step (p x) k (length xs) (position_or_len p (xs ++ ys)) (position_or_len p ys) le (λ j lj. back_le p xs ys j lj)
  where
    step : (t : Bool) (k len n m : ℕ) → k ≤ cond (not t) (1 + n) 0 → ((j : ℕ) → j ≤ n → j - len ≤ m) → k - suc len ≤ m
    step true k len n m le go = omega arith
    step false zero len n m le go = omega arith
    step false (suc k) len n m le go = let more : k - len ≤ m = go k (omega arith) in omega arith

pub back_guess : {A : Type 0} (p : A → Bool) (xs ys : List A) (k : ℕ) → k ≤ position_or_len p (xs ++ ys) → IsNoLater (k - length xs) p ys
back_guess p xs ys k le = let small : k - length xs ≤ position_or_len p ys = back_le p xs ys k le in omega arith
