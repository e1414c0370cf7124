-- Names that differ, numbered in their order.
use Rattle.std.proofs.Common.{take, get_or, subst, append_assoc, append-nil, ◌≡◌, ℕ, suc, zero, ◌+◌, ◌<◌, Bool, true, false, cond, List, [], ◌∷◌, ◌++◌, length, map, not, refl, sym, ap, ◌∙◌, Some, arith}
use Rattle.std.specs.Prelude.{slice_get}
use Rattle.std.specs.List.{position_or_len, IsDistinct, AllByRecursion}
use Rattle.std.proofs.lemmas.List.{take_more, map-append}
use lib.Pointwise.{bytes_decides}
use Rattle.name_tables.specs.name_numbers.Names.{same, is_among, AreDistinct}
use Rattle.name_tables.proofs.name_numbers.Lists.{twice}
use Rattle.room_wiring.specs.WellNamed.{NamesDiffer}
use Rattle.room_wiring.specs.wiring_names.Lookup.{added, numbering, numbered}

-- a name behind other ones, of names that differ, is a new one
pub fresh : (xs : List (List ℕ)) (y : List ℕ) (zs : List (List ℕ)) (b : Bool) → AreDistinct (xs ++ y ∷ zs) → is_among xs y ≡ b → b ≡ false
fresh xs y zs false h e = refl
fresh xs y zs true h e = absurd (twice xs y zs e h)

pub numbering-append : (names xs ys : List (List ℕ)) → numbering names (xs ++ ys) ≡ numbering (numbering names xs) ys
numbering-append names [] ys = refl
numbering-append names (x ∷ xs) ys = numbering-append (added names x) xs ys

added_by : (names : List (List ℕ)) (name : List ℕ) (among b : Bool) → is_among names name ≡ among → b ≡ not among → cond b (names ++ name ∷ []) names ≡ added names name
added_by names name true b e is = rw (is, e) refl
added_by names name false b e is = rw (is, e) refl

pub next_added : {T : Type 0} (name : T → List ℕ) (init : List (List ℕ)) (items : List T) (i : ℕ) (d : T) (b : Bool) (now new : List (List ℕ)) → i < length items
    → now ≡ numbering init (map name (take i items)) → b ≡ not (is_among now (name (get_or items i d))) → new ≡ cond b (now ++ name (get_or items i d) ∷ []) now → new ≡ numbering init (map name (take (i + 1) items))
next_added name init items i d b now new lt is fresh_is new_is =
    let item = name (get_or items i d) in
    new_is ∙ added_by now item _ b refl fresh_is ∙ ap (λ (ns : List (List ℕ)). added ns item) is
    ∙ sym (numbering-append init (map name (take i items)) (item ∷ []))
    ∙ ap (numbering init) (sym (map-append name (take i items) (get_or items i d ∷ []))) ∙ ap (λ xs. numbering init (map name xs)) (sym (take_more items i d lt))

pub numbering_distinct : (names ns : List (List ℕ)) → AreDistinct (names ++ ns) → numbering names ns ≡ names ++ ns
numbering_distinct names [] h = sym (append-nil names)
numbering_distinct names (n ∷ ns) h =
    let new : is_among names n ≡ false = fresh names n ns _ h refl in
    let next : added names n ≡ names ++ n ∷ [] = rw new refl in
    let step : (names ++ n ∷ []) ++ ns ≡ names ++ n ∷ ns = append_assoc names (n ∷ []) ns in
    ap (λ xs. numbering xs ns) next ∙ numbering_distinct (names ++ n ∷ []) ns (subst AreDistinct (sym step) h) ∙ step

-- distinct names are numbered as they stand
pub numbered_distinct : (ns : List (List ℕ)) → AreDistinct ns → numbered ns ≡ ns
unfolding numbered
numbered_distinct ns h = numbering_distinct [] ns h

same_is : (a b : List ℕ) → same a b ≡ true → a ≡ b
same_is a b e = (bytes_decides a b).0 e

pub same_own : (a : List ℕ) → same a a ≡ true
same_own a = (bytes_decides a a).1 refl

pub same_not : (a b : List ℕ) (t : Bool) → (a ≡ b → ⊥) → same a b ≡ t → same a b ≡ false
same_not a b false ne e = e
same_not a b true ne e = absurd (ne (same_is a b e))

differ_tail : {A : Type 0} (name : A → List ℕ) (x : A) (xs : List A) → NamesDiffer name (x ∷ xs) → NamesDiffer name xs
differ_tail name x xs h i j y z ey ez e = let s : suc i ≡ suc j = h (suc i) (suc j) y z ey ez e in omega arith

apart_all : {A : Type 0} (name : A → List ℕ) (x : A) (xs : List A) → ((j : ℕ) (y : A) → slice_get xs j ≡ Some y → name x ≡ name y → ⊥) → AllByRecursion (λ z. same (name x) z ≡ false) (map name xs)
apart_all name x [] h = tt
apart_all name x (y ∷ ys) h = (same_not (name x) (name y) _ (h 0 y refl) refl, apart_all name x ys (λ j z e. h (suc j) z e))

-- items whose names differ have distinct names
pub distinct_names : {A : Type 0} (name : A → List ℕ) (xs : List A) → NamesDiffer name xs → AreDistinct (map name xs)
unfolding IsDistinct
distinct_names name [] h = tt
distinct_names name (x ∷ xs) h =
    (apart_all name x xs (λ j y e same_name. let s : 0 ≡ suc j = h 0 (suc j) x y refl e same_name in omega arith), distinct_names name xs (differ_tail name x xs h))

pub place_or_len : {A : Type 0} (name : A → List ℕ) (xs : List A) (i : ℕ) (x : A) → NamesDiffer name xs → slice_get xs i ≡ Some x → position_or_len (same (name x)) (map name xs) ≡ i
place_or_len name [] i x h e = absurd cc
place_or_len name (y ∷ ys) zero x h e = let is : y ≡ x = cc in rw (is, same_own (name x)) refl
place_or_len name (y ∷ ys) (suc i) x h e =
    let other : same (name x) (name y) ≡ false = same_not (name x) (name y) _ (λ same_name. let s : suc i ≡ 0 = h (suc i) 0 x y e refl same_name in omega arith) refl in
    let rest = place_or_len name ys i x (differ_tail name y ys h) e in
    rw (other, rest) (omega arith)
