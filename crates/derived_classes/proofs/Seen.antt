-- The names of states before a place, of which only those count that refinements lead to.
use Rattle.std.proofs.Common.{◌≡◌, ℕ, ◌+◌, ◌<◌, ◌≤◌, Bool, true, false, suc, Option, Some, None, List, [], ◌∷◌, ◌++◌, length, refl, sym, ap, ◌∙◌, subst, arith}
use Rattle.std.specs.Prelude.{◌||◌, if◌then◌else◌}
use Rattle.std.specs.List.{cons_option}
use lib.Pointwise.{bytes_decides}
use Rattle.name_tables.specs.name_numbers.Names.{same, is_among}
use Rattle.room_ast.specs.ChartTree.{GraphItemTree, AState, AChoice, APoint, ATransition, ARefinement, ChangeTree, StateOf, GraphItems, no_items, item}
use Rattle.derived_classes.specs.Refining.{Refining, GivesTheSame, below, step_into, meant_for, with_name, with_state, refined_body, refined_items, refined_item}
use Rattle.derived_classes.specs.Views.{refining_views}
use Rattle.derived_classes.specs.declared.refining.paths.Pending.{Pending}

pub same_is : (a b : List ℕ) → same a b ≡ true → a ≡ b
same_is a b e = (bytes_decides a b).0 e

pub same_own : (a : List ℕ) → same a a ≡ true
same_own a = (bytes_decides a a).1 refl

or_swap : (a b : Bool) → (a || b) ≡ (b || a)
or_swap true true = refl
or_swap true false = refl
or_swap false true = refl
or_swap false false = refl

or_group : (a b c : Bool) → (a || (b || c)) ≡ ((a || b) || c)
or_group true b c = refl
or_group false b c = refl

pub among_push : (es : List (List ℕ)) (n m : List ℕ) → is_among (es ++ n ∷ []) m ≡ (is_among es m || same m n)
among_push [] n m = or_swap (same m n) false
among_push (e ∷ es) n m = ap (λ b. same m e || b) (among_push es n m) ∙ or_group (same m e) (is_among es m) (same m n)

-- a name is among the names with one more
pub among_with : (es : List (List ℕ)) (n m : List ℕ) → is_among (with_name n es) m ≡ (same m n || is_among es m)
among_with es n m = go (is_among es n) refl (same m n) refl
  where
    go : (b : Bool) → is_among es n ≡ b → (s : Bool) → same m n ≡ s → is_among (if b then es else (es ++ n ∷ [])) m ≡ (s || is_among es m)
    go true e true f = subst (λ x. is_among es x ≡ true) (sym (same_is m n f)) e
    go true e false f = refl
    go false e s f = among_push es n m ∙ ap (λ t. is_among es m || t) f ∙ or_swap (is_among es m) s

meant_with : (rs : List Refining) (es : List (List ℕ)) (n m : List ℕ) → meant_for (with_name n es) m rs ≡ (if same m n then [] else meant_for es m rs)
meant_with rs es n m = ap (λ (b : Bool). if b then [] else below m rs) (among_with es n m) ∙ go (same m n) (is_among es m)
  where
    go : (s a : Bool) → (if s || a then [] else below m rs) ≡ (if s then [] else (if a then [] else below m rs))
    go true a = refl
    go false a = refl

-- where no refinement leads to a name, none is meant for it
pub none_for : (rs : List Refining) (es : List (List ℕ)) (n : List ℕ) → below n rs ≡ [] → meant_for es n rs ≡ []
none_for rs es n e = go (is_among es n)
  where
    go : (b : Bool) → (if b then [] else below n rs) ≡ []
    go true = refl
    go false = e

-- and then it doesn't count among those seen
pub none_seen : (rs : List Refining) (es : List (List ℕ)) (n : List ℕ) → below n rs ≡ [] → GivesTheSame rs es (with_name n es)
none_seen rs es n e m = sym (meant_with rs es n m ∙ go (same m n) refl)
  where
    go : (s : Bool) → same m n ≡ s → (if s then [] else meant_for es m rs) ≡ meant_for es m rs
    go true f = sym (subst (λ x. meant_for es x rs ≡ []) (sym (same_is m n f)) (none_for rs es n e))
    go false f = refl

next_name : (rs : List Refining) (es fs : List (List ℕ)) (n : List ℕ) → GivesTheSame rs es fs → GivesTheSame rs (with_name n es) (with_name n fs)
next_name rs es fs n h m = meant_with rs es n m ∙ ap (λ ms. if same m n then [] else ms) (h m) ∙ sym (meant_with rs fs n m)

next_item : (rs : List Refining) (es fs : List (List ℕ)) (i : GraphItemTree) → GivesTheSame rs es fs → GivesTheSame rs (with_state i es) (with_state i fs)
next_item rs es fs (AState (StateOf n b)) h = next_name rs es fs n h
next_item rs es fs (AChoice c) h = h
next_item rs es fs (APoint p) h = h
next_item rs es fs (ATransition t) h = h
next_item rs es fs (ARefinement path change) h = h

item_alike : (rs : List Refining) (es fs : List (List ℕ)) (i : GraphItemTree) → GivesTheSame rs es fs → refined_item i es rs ≡ refined_item i fs rs
item_alike rs es fs (AState (StateOf n b)) h = ap (λ ms. AState (StateOf n (refined_body b ms))) (h n)
item_alike rs es fs (AChoice c) h = refl
item_alike rs es fs (APoint p) h = refl
item_alike rs es fs (ATransition t) h = refl
item_alike rs es fs (ARefinement path change) h = refl

-- names that give the same make the same graph
pub items_alike : (rs : List Refining) (es fs : List (List ℕ)) (g : GraphItems) → GivesTheSame rs es fs → refined_items g es rs ≡ refined_items g fs rs
items_alike rs es fs no_items h = refl
items_alike rs es fs (item i is) h =
    ap (λ j. item j (refined_items is (with_state i es) rs)) (item_alike rs es fs i h) ∙ ap (item (refined_item i fs rs)) (items_alike rs (with_state i es) (with_state i fs) is (next_item rs es fs i h))

-- ---- how many names refinements have left

abbrev pub names_left : List Refining → ℕ
names_left [] = 0
names_left (r ∷ rs) = length r.path + names_left rs

step_left : (name : List ℕ) (path : List (List ℕ)) (change : ChangeTree) (found : List Refining) (n : ℕ) → names_left found + length found ≤ n
    → names_left (cons_option (step_into name path change) found) + length (cons_option (step_into name path change) found) ≤ length path + n
step_left name [] change found n le = omega (arith, le)
step_left name (first ∷ others) change found n le = go (same first name)
  where
    go : (b : Bool) → let one : Option Refining = if b then Some (record { path = others; change = change }) else None in names_left (cons_option one found) + length (cons_option one found) ≤ suc (length others) + n
    go true = omega (arith, le)
    go false = omega (arith, le)

below_left : (name : List ℕ) (rs : List Refining) → names_left (below name rs) + length (below name rs) ≤ names_left rs
below_left name [] = omega arith
below_left name (r ∷ rs) = step_left name r.path r.change (below name rs) (names_left rs) (below_left name rs)

fewer : (rs : List Refining) (es : List (List ℕ)) (n : List ℕ) (ms : List Refining) → ms ≡ meant_for es n rs → (length ms ≡ 0 → ⊥) → names_left ms < names_left rs
fewer rs es n ms e some = subst (λ xs. (length xs ≡ 0 → ⊥) → names_left xs < names_left rs) (sym e) (go (is_among es n)) some
  where
    go : (b : Bool) → let xs : List Refining = if b then [] else below n rs in (length xs ≡ 0 → ⊥) → names_left xs < names_left rs
    go true h = absurd (h refl)
    go false h = omega (arith, below_left n rs, h)

-- those that a state gets have less
pub fewer_left : (rs : List Refining) (es : List (List ℕ)) (n : List ℕ) (ps : List Pending) → refining_views ps ≡ meant_for es n rs → (length ps ≡ 0 → ⊥) → names_left (refining_views ps) < names_left rs
fewer_left rs es n [] e some = absurd (some refl)
fewer_left rs es n (p ∷ ps) e some = fewer rs es n (refining_views (p ∷ ps)) e (λ z. absurd (omega (arith, z)))
