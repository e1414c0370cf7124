-- Groups of steps are the steps with a key.
use Rattle.std.proofs.Common.{◌≡◌, ◌≢◌, ℕ, zero, suc, ◌+◌, ◌<◌, Bool, true, false, cond, List, [], ◌∷◌, ◌++◌, length, get_or, take, map, set, replicate, option_map, refl, sym, ap, ◌∙◌, arith, Option, Some, None, nat_eq, append_assoc}
use Rattle.std.specs.Prelude.{position, fold, slice_get}
use Rattle.std.specs.List.{filter, cons_option}
use Rattle.std.proofs.lemmas.List.{append-nil, map-append, map-set, take_more, get_or-set_same, get_or-set_other, length-map, length-set, length-replicate, get_or-replicate}
use Rattle.std.proofs.lemmas.List.Elements.{filter_agree, filter_map-append}
use Rattle.std.proofs.lemmas.List.Quantifiers.{position-Some}
use Rattle.std.proofs.lemmas.List.Sums.{fold_push}
use Rattle.std.proofs.lemmas.Option.{get_or_from_slice_get, slice_get-get_or, slice_get-map}
use Rattle.std.proofs.lemmas.Bool.Decides.{nat_tests}
use lib.Pointwise.{bytes_decides}
use Rattle.name_tables.specs.name_numbers.Names.{same}
use Rattle.chart_reader.specs.chart_nodes.Steps.{StepTree}
use Rattle.chart_compile.specs.chart_places.Groups.{IsGrouped, picked, put, put_by, put_number, groups_of}

-- whether a number is this one
abbrev pub is_at : Option ℕ → ℕ → Bool
is_at (Some n) k = nat_eq n k
is_at None k = false

length-put : (o : Option ℕ) (s : StepTree) (groups : List (List StepTree)) → length (put o s groups) ≡ length groups
unfolding put
length-put (Some k) s groups = length-set groups k (get_or groups k [] ++ s ∷ [])
length-put None s groups = refl

length-put_at : (o : Option ℕ) (i : ℕ) (groups : List (List ℕ)) → length (put_number o i groups) ≡ length groups
unfolding put_number
length-put_at (Some k) i groups = length-set groups k (get_or groups k [] ++ i ∷ [])
length-put_at None i groups = refl

pub length-put_number : (keys : List (List ℕ)) (s : StepTree) (i : ℕ) (groups new : List (List ℕ)) (n : ℕ) → length groups ≡ n → new ≡ put_number (position (same s.origin) keys) i groups → length new ≡ n
length-put_number keys s i groups new n e l = ap length l ∙ length-put_at (position (same s.origin) keys) i groups ∙ e

put_at : (o : Option ℕ) (s : StepTree) (groups : List (List StepTree)) (k : ℕ) → k < length groups → get_or (put o s groups) k [] ≡ get_or groups k [] ++ cond (is_at o k) (s ∷ []) []
unfolding put
put_at (Some n) s groups k h = split (nat_eq n k) refl
  where
    split : (b : Bool) → nat_eq n k ≡ b → get_or (set groups n (get_or groups n [] ++ s ∷ [])) k [] ≡ get_or groups k [] ++ cond (nat_eq n k) (s ∷ []) []
    split true e =
        let one : n ≡ k = grind (arith, nat_tests) in
        rw (e, one) (get_or-set_same groups k (get_or groups k [] ++ s ∷ []) [] h)
    split false e =
        let other : k ≢ n = grind (arith, nat_tests) in
        rw e (get_or-set_other groups n k (get_or groups n [] ++ s ∷ []) [] other ∙ sym (append-nil (get_or groups k [])))
put_at None s groups k h = sym (append-nil (get_or groups k []))

filter_next : (p : StepTree → Bool) (s : StepTree) (steps : List StepTree) (b : Bool) → p s ≡ b → cond b (s ∷ []) [] ++ filter p steps ≡ filter p (s ∷ steps)
filter_next p s steps true e = rw e refl
filter_next p s steps false e = rw e refl

all_put : (keys : List (List ℕ)) (groups : List (List StepTree)) (steps : List StepTree) (k : ℕ) → k < length groups → get_or (fold (put_by keys) groups steps) k [] ≡ get_or groups k [] ++ filter (λ (s : StepTree). is_at (position (same s.origin) keys) k) steps
all_put keys groups [] k h = sym (append-nil (get_or groups k []))
all_put keys groups (s ∷ steps) k h =
    let p = λ (s : StepTree). is_at (position (same s.origin) keys) k in
    let long : k < length (put_by keys groups s) = omega (arith, length-put (position (same s.origin) keys) s groups) in
    all_put keys (put_by keys groups s) steps k long ∙ ap (λ l. l ++ filter p steps) (put_at (position (same s.origin) keys) s groups k h) ∙ append_assoc (get_or groups k []) (cond (p s) (s ∷ []) []) (filter p steps) ∙ ap (λ l. get_or groups k [] ++ l) (filter_next p s steps (p s) refl)

key_is : (a b : List ℕ) → same a b ≡ true → a ≡ b
key_is a b = (bytes_decides a b).0

key_own : (a b : List ℕ) → a ≡ b → same a b ≡ true
key_own a b = (bytes_decides a b).1

-- the steps at a number are those with its key
at_key : (keys : List (List ℕ)) (k : ℕ) (key origin : List ℕ) → position (same key) keys ≡ Some k → is_at (position (same origin) keys) k ≡ same origin key
at_key keys k key origin e = split (same origin key) refl
  where
    number : (o : Option ℕ) → is_at o k ≡ true → o ≡ Some k
    number (Some n) h = let one : n ≡ k = grind (arith, nat_tests) in ap Some one
    number None h = absurd cc

    own : nat_eq k k ≡ true
    own = grind (arith, nat_tests)

    other : (b : Bool) → is_at (position (same origin) keys) k ≡ b → same origin key ≡ false → b ≡ false
    other true t f =
        let found = position-Some (same origin) keys k [] (number (position (same origin) keys) t) in
        let there = position-Some (same key) keys k [] e in
        let one : same origin key ≡ true = key_own origin key (key_is origin (get_or keys k []) found.1 ∙ sym (key_is key (get_or keys k []) there.1)) in
        absurd cc
    other false t f = refl

    split : (b : Bool) → same origin key ≡ b → is_at (position (same origin) keys) k ≡ same origin key
    split true t = rw (ap (λ o. position (same o) keys) (key_is origin key t) ∙ e, t) own
    split false t = other (is_at (position (same origin) keys) k) refl t ∙ sym t

-- the group of a key with a number is the steps that begin at its place
pub group_is : (keys : List (List ℕ)) (steps : List StepTree) (k : ℕ) (key : List ℕ) → position (same key) keys ≡ Some k → get_or (groups_of keys steps) k [] ≡ filter (λ (s : StepTree). same s.origin key) steps
group_is keys steps k key e =
    let none : List StepTree = [] in
    let within : k < length keys = (position-Some (same key) keys k [] e).0 in
    let long : k < length (replicate (length keys) none) = omega (arith, length-replicate (length keys) none) in
    all_put keys (replicate (length keys) none) steps k long ∙ ap (λ l. l ++ filter (λ (s : StepTree). is_at (position (same s.origin) keys) k) steps) (get_or-replicate (length keys) k none none within) ∙ filter_agree (λ (s : StepTree). is_at (position (same s.origin) keys) k) (λ (s : StepTree). same s.origin key) (λ s. at_key keys k key s.origin e) steps

read_made : (steps : List StepTree) (groups : List (List ℕ)) (k : ℕ) → picked steps (get_or groups k []) ≡ get_or (map (picked steps) groups) k []
read_made steps [] k = refl
read_made steps (g ∷ groups) zero = refl
read_made steps (g ∷ groups) (suc k) = read_made steps groups k

picked_push : (steps : List StepTree) (numbers : List ℕ) (i : ℕ) (s : StepTree) → slice_get steps i ≡ Some s → picked steps (numbers ++ i ∷ []) ≡ picked steps numbers ++ s ∷ []
picked_push steps numbers i s e = filter_map-append (λ j. slice_get steps j) numbers (i ∷ []) ∙ ap (λ o. picked steps numbers ++ cons_option o []) e

-- a number at the end of a group stands for its step there
picked_put : (steps : List StepTree) (o : Option ℕ) (i : ℕ) (s : StepTree) (groups : List (List ℕ)) → slice_get steps i ≡ Some s → map (picked steps) (put_number o i groups) ≡ put o s (map (picked steps) groups)
unfolding put_number put
picked_put steps (Some k) i s groups e =
    map-set (picked steps) groups k (get_or groups k [] ++ i ∷ []) ∙ ap (set (map (picked steps) groups) k) (picked_push steps (get_or groups k []) i s e ∙ ap (λ l. l ++ s ∷ []) (read_made steps groups k))
picked_put steps None i s groups e = refl

none_picked : (steps : List StepTree) (n : ℕ) → map (picked steps) (replicate n []) ≡ replicate n []
none_picked steps zero = refl
none_picked steps (suc n) = ap (λ l. [] ∷ l) (none_picked steps n)

pub none_put : (steps : List StepTree) (groups : List (List ℕ)) (n m : ℕ) → groups ≡ replicate n [] → n ≡ m → map (picked steps) groups ≡ replicate m []
none_put steps groups n m e h = ap (map (picked steps)) e ∙ none_picked steps n ∙ ap (λ k. replicate k []) h

-- one more step
pub put_more : {A : Type 0} (v : A → StepTree) (keys : List (List ℕ)) (none : List (List StepTree)) (old new : List (List ℕ)) (steps : List A) (i : ℕ) (s : A) → i < length steps → s ≡ get_or steps i s → map (picked (map v steps)) old ≡ fold (put_by keys) none (map v (take i steps))
    → new ≡ put_number (position (same (v s).origin) keys) i old → map (picked (map v steps)) new ≡ fold (put_by keys) none (map v (take (i + 1) steps))
put_more v keys none old new steps i s h is e l =
    let there : slice_get (map v steps) i ≡ Some (v s) = slice_get-map v steps i ∙ ap (option_map v) (slice_get-get_or steps i s h ∙ ap Some (sym is)) in
    ap (map (picked (map v steps))) l ∙ picked_put (map v steps) (position (same (v s).origin) keys) i (v s) old there ∙ ap (λ r. put_by keys r (v s)) e ∙ sym (fold_push (put_by keys) none (map v (take i steps)) (v s)) ∙ ap (λ t. fold (put_by keys) none t) (sym (map-append v (take i steps) (s ∷ [])) ∙ ap (map v) (ap (λ x. take i steps ++ x ∷ []) is ∙ sym (take_more steps i s h)))

-- the group that has the number of a key
pub group_at : (keys : List (List ℕ)) (steps : List StepTree) (groups : List (List ℕ)) (k : ℕ) (group key : List ℕ) → IsGrouped keys groups steps → position (same key) keys ≡ Some k → slice_get groups k ≡ Some group → picked steps group ≡ filter (λ (s : StepTree). same s.origin key) steps
group_at keys steps groups k group key g e h =
    ap (picked steps) (sym (get_or_from_slice_get groups k group [] h)) ∙ read_made steps groups k ∙ ap (λ l. get_or l k []) g ∙ group_is keys steps k key e

fold_long : (keys : List (List ℕ)) (groups : List (List StepTree)) (steps : List StepTree) → length (fold (put_by keys) groups steps) ≡ length groups
fold_long keys groups [] = refl
fold_long keys groups (s ∷ steps) = fold_long keys (put_by keys groups s) steps ∙ length-put (position (same s.origin) keys) s groups

-- there are as many groups as keys
pub groups_many : (keys groups : List (List ℕ)) (steps : List StepTree) → IsGrouped keys groups steps → length groups ≡ length keys
groups_many keys groups steps grouped =
    let none : List StepTree = [] in
    sym (length-map groups (picked steps)) ∙ ap length grouped ∙ fold_long keys (replicate (length keys) none) steps ∙ length-replicate (length keys) none
