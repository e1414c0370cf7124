-- What the numbers of tables stand for.
use Rattle.std.proofs.Common.{◌≡◌, ℕ, zero, suc, ◌+◌, ◌<◌, ◌≤◌, Bool, true, false, List, [], ◌∷◌, ◌++◌, length, get_or, map, replicate, refl, sym, ap, ◌∙◌, subst, arith, Some, None, nat_eq}
use Rattle.std.specs.Prelude.{slice_get, position}
use Rattle.std.specs.List.{filter, IsDistinct, AllByRecursion}
use Rattle.std.specs.Option.{option_map_or}
use Rattle.std.proofs.lemmas.List.{get_or-map, length-map, length-replicate}
use Rattle.std.proofs.lemmas.List.Quantifiers.{position-Some}
use Rattle.std.proofs.lemmas.Bool.Decides.{nat_tests}
use lib.Pointwise.{bytes_decides, pointwise_long}
use lib.Dec.{eqb}
use Rattle.name_tables.specs.name_numbers.Names.{same, AreDistinct}
use Rattle.chart_model.specs.chart_plan.Same.{Each, none, more}
use Rattle.chart_model.specs.Chart.{Name, Path, Source, initial, from_state, from_point, from_choice, from_entry, from_exit, Transition, Graph, Chart}
use Rattle.chart_model.specs.Named.{same_name, same_path, Placed, Node, a_choice, from, graph_at, is_from_choice}
use Rattle.chart_run.specs.chart_tables.Tables.{ArrowTree}
use Rattle.chart_run.specs.ByName.{Names, IsPath, IsNode, IsTransition}
use Rattle.chart_reader.specs.chart_nodes.Keys.{codes, node_key}
use Rattle.chart_reader.specs.chart_nodes.Steps.{StepTree}
use Rattle.chart_reader.proofs.chart_nodes.KeyLaws.{same_codes}
use Rattle.chart_reader.proofs.chart_nodes.Onward.{path_is}
use Rattle.chart_reader.proofs.chart_nodes.CircleLaws.{target_is, nodes_are}
use Rattle.chart_compile.specs.chart_places.Places.{PlaceTree, state_key}
use Rattle.chart_compile.specs.chart_parts.Parts.{IsArrow, IsNumber, IsState, key_of, target_of}
use Rattle.chart_compile.specs.chart_parts.Nodes.{node_after}

-- ---- lists that are related one by one

pub each_length : {A B : Type 0} {R : A → B → Type 0} {xs : List A} {ys : List B} → Each R xs ys → length xs ≡ length ys
each_length none = refl
each_length (more r e) = ap suc (each_length e)

pub each_map : {A B : Type 0} {R S : A → B → Type 0} {xs : List A} {ys : List B} → ((x : A) (y : B) → R x y → S x y) → Each R xs ys → Each S xs ys
each_map f none = none
each_map f (more {x} {y} r e) = more (f x y r) (each_map f e)

pub each_made : {A B C : Type 0} {R : A → B → Type 0} {S : A → C → Type 0} {xs : List A} {ys : List B} (g : B → C) → ((x : A) (y : B) → R x y → S x (g y)) → Each R xs ys → Each S xs (map g ys)
each_made g f none = none
each_made g f (more {x} {y} r e) = more (f x y r) (each_made g f e)

pub each_join : {A B : Type 0} {R : A → B → Type 0} {xs xs' : List A} {ys ys' : List B} → Each R xs ys → Each R xs' ys' → Each R (xs ++ xs') (ys ++ ys')
each_join none f = f
each_join (more r e) f = more r (each_join e f)

-- the items at a place
pub each_at : {A B : Type 0} {R : A → B → Type 0} {xs : List A} {ys : List B} (i : ℕ) → i < length ys → Each R xs ys → (x : A) × (y : B) × (slice_get xs i ≡ Some x) × (slice_get ys i ≡ Some y) × R x y
each_at i h none = absurd (omega arith)
each_at zero h (more {x} {y} r e) = (x, y, refl, refl, r)
each_at (suc i) h (more r e) = each_at i (omega arith) e

pub each_past : {A B : Type 0} {R : A → B → Type 0} {xs : List A} {ys : List B} (i : ℕ) → length ys ≤ i → Each R xs ys → slice_get xs i ≡ None
each_past i h none = refl
each_past zero h (more r e) = absurd (omega arith)
each_past (suc i) h (more r e) = each_past i (omega arith) e

-- ---- a name that no choice point has

abbrev pub source_size : Source → ℕ
source_size (from_choice c) = length c
source_size _ = 0

abbrev pub total_size : List Transition → ℕ
total_size [] = 0
total_size (t ∷ ts) = source_size t.source + total_size ts

abbrev pub transitions_at : Chart → Path → List Transition
transitions_at chart path = option_map_or (λ (g : Graph). g.transitions) (graph_at chart path) []

-- longer than each name of a choice point where transitions begin
pub fresh : Chart → Path → Name
fresh chart path = replicate (suc (total_size (transitions_at chart path))) 0

not_same : (c d : Name) (b : Bool) → same_name d c ≡ b → length d < length c → b ≡ false
not_same c d true e h = let long : length d ≡ length c = pointwise_long eqb d c e in absurd (omega arith)
not_same c d false e h = refl

not_from : (c : Name) (s : Source) → source_size s < length c → is_from_choice c s ≡ false
not_from c initial h = refl
not_from c (from_state s) h = refl
not_from c (from_point p) h = refl
not_from c (from_choice d) h = not_same c d (same_name d c) refl h
not_from c (from_entry e) h = refl
not_from c (from_exit x s) h = refl

none_from : (c : Name) (ts : List Transition) → total_size ts < length c → filter (λ (t : Transition). is_from_choice c t.source) ts ≡ []
none_from c [] h = refl
none_from c (t ∷ ts) h = rw (not_from c t.source (omega arith)) (none_from c ts (omega arith))

pub none_fresh : (chart : Chart) (path : Path) → from (is_from_choice (fresh chart path)) chart path ≡ []
unfolding fresh
none_fresh chart path =
    let c : Name = replicate (suc (total_size (transitions_at chart path))) 0 in
    let long : total_size (transitions_at chart path) < length c = omega (arith, length-replicate (suc (total_size (transitions_at chart path))) (let z : ℕ = 0 in z)) in
    ap (map (λ (t : Transition). let p : Placed = record { graph = path; transition = t } in p)) (none_from c (transitions_at chart path) long)

-- ---- nodes by their keys

paths_are : (p q : Path) → same (codes p) (codes q) ≡ true → p ≡ q
paths_are p q e = path_is p q (sym (same_codes p q) ∙ e)

-- ---- the names

abbrev pub path_at : List PlaceTree → ℕ → Path
path_at places s = option_map_or (λ (p : PlaceTree). p.path) (slice_get places s) []

-- what no transition leads to
abbrev pub absent : Chart → List PlaceTree → Node
absent chart places = a_choice (path_at places 0) (fresh chart (path_at places 0))

abbrev pub node_named : Chart → List PlaceTree → List StepTree → ℕ → Node
node_named chart places targets n = option_map_or node_after (slice_get targets n) (absent chart places)

abbrev pub names_of : Chart → List PlaceTree → List StepTree → Names
names_of chart places targets = record { paths = path_at places; nodes = node_named chart places targets }

key_is : (a b : List ℕ) → same a b ≡ true → a ≡ b
key_is a b = (bytes_decides a b).0

-- the item at a place that a list is known to have
pub item_at : {A : Type 0} (xs : List A) (i : ℕ) → i < length xs → (x : A) × (slice_get xs i ≡ Some x)
item_at [] i h = absurd (omega arith)
item_at (x ∷ xs) zero h = (x, refl)
item_at (x ∷ xs) (suc i) h = item_at xs i (omega arith)

pub get_of : {A : Type 0} (xs : List A) (i : ℕ) (x d : A) → slice_get xs i ≡ Some x → get_or xs i d ≡ x
get_of [] i x d e = absurd cc
get_of (y ∷ xs) zero x d e = some_is y x e
  where
    some_is : {A : Type 0} (y x : A) → Some y ≡ Some x → y ≡ x
    some_is y x e = cc
get_of (y ∷ xs) (suc i) x d e = get_of xs i x d e

-- what a number of a key that is made of items says
pub made_at : {A : Type 0} (f : A → List ℕ) (xs : List A) (key : List ℕ) (n : ℕ) → position (same key) (map f xs) ≡ Some n → (x : A) × (n < length xs) × (slice_get xs n ≡ Some x) × (same key (f x) ≡ true)
made_at f xs key n e =
    let found = position-Some (same key) (map f xs) n [] e in
    let within : n < length xs = omega (arith, found.0, length-map xs f) in
    let x = item_at xs n within in
    let at : get_or (map f xs) n [] ≡ f x.0 = get_or-map f xs n x.0 [] within ∙ ap f (get_of xs n x.0 x.0 x.1) in
    (x.0, within, x.1, subst (λ k. same key k ≡ true) at found.1)

-- the number of a state stands for its path
pub state_named : (chart : Chart) (places : List PlaceTree) (targets : List StepTree) (count : ℕ) (n : ℕ) (path : Path) → count ≡ length places → IsState (map key_of places) n path → IsPath count (names_of chart places targets) n path
state_named chart places targets count n path c e =
    let found = made_at key_of places (state_key path) n e in
    let one : path ≡ found.0.path = path_is path found.0.path (sym (same_codes path found.0.path) ∙ found.3) in
    record { known = omega (arith, found.1, c); is = ap (λ o. option_map_or (λ (p : PlaceTree). p.path) o []) found.2 ∙ sym one }

-- the number of a node stands for it
pub node_numbered : (chart : Chart) (places : List PlaceTree) (targets : List StepTree) (n : ℕ) (s : StepTree) → IsNumber (map target_of targets) (target_of s) n → IsNode (names_of chart places targets) n (node_after s)
node_numbered chart places targets n s e =
    let found = made_at target_of targets (target_of s) n e in
    let t = found.0 in
    let keys : same (node_key (node_after s)) (node_key (node_after t)) ≡ true =
    subst (λ k. same k (node_key (node_after t)) ≡ true) (target_is s.placed.graph s.placed.transition.target) (subst (λ k. same (target_of s) k ≡ true) (target_is t.placed.graph t.placed.transition.target) found.3)
    in
    record { is = ap (λ o. option_map_or node_after o (absent chart places)) found.2 ∙ sym (nodes_are (node_after s) (node_after t) keys) }

-- an arrow is a transition
pub arrow_named : (chart : Chart) (places : List PlaceTree) (targets : List StepTree) (a : ArrowTree) (s : StepTree) → IsArrow (map target_of targets) a s → IsTransition (names_of chart places targets) a s.placed
arrow_named chart places targets a s h = record {
  triggers = h.triggers;
  condition = h.condition;
  action = h.action;
  target = node_numbered chart places targets a.target s h.target;
}

pub arrows_named : (chart : Chart) (places : List PlaceTree) (targets : List StepTree) (xs : List ArrowTree) (ys : List StepTree) → Each (IsArrow (map target_of targets)) xs ys → Each (IsTransition (names_of chart places targets)) xs (map (λ (s : StepTree). s.placed) ys)
arrows_named chart places targets xs ys e = each_made (λ (s : StepTree). s.placed) (arrow_named chart places targets) e

-- ---- distinct paths have distinct numbers

apart : (x : List ℕ) (xs : List (List ℕ)) (i : ℕ) (y : List ℕ) → AllByRecursion (λ z. same x z ≡ false) xs → slice_get xs i ≡ Some y → x ≡ y → ⊥
apart x [] i y h e s = absurd cc
apart x (z ∷ xs) zero y h e s =
    let one : same x z ≡ true = (bytes_decides x z).1 (s ∙ sym (some_of z y e)) in
    absurd (let no : same x z ≡ false = h.0 in cc)
  where
    some_of : (z y : List ℕ) → Some z ≡ Some y → z ≡ y
    some_of z y e = cc
apart x (z ∷ xs) (suc i) y h e s = apart x xs i y h.1 e s

pub distinct_at : (xs : List (List ℕ)) (i j : ℕ) (x y : List ℕ) → AreDistinct xs → slice_get xs i ≡ Some x → slice_get xs j ≡ Some y → x ≡ y → i ≡ j
unfolding IsDistinct
distinct_at [] i j x y d e f s = absurd cc
distinct_at (z ∷ xs) zero zero x y d e f s = refl
distinct_at (z ∷ xs) zero (suc j) x y d e f s = absurd (apart z xs j y d.0 f (some_of z x e ∙ s))
  where
    some_of : (z y : List ℕ) → Some z ≡ Some y → z ≡ y
    some_of z y e = cc
distinct_at (z ∷ xs) (suc i) zero x y d e f s = absurd (apart z xs i x d.0 e (some_of z y f ∙ sym s))
  where
    some_of : (z y : List ℕ) → Some z ≡ Some y → z ≡ y
    some_of z y e = cc
distinct_at (z ∷ xs) (suc i) (suc j) x y d e f s = ap suc (distinct_at xs i j x y d.1 e f s)

key_at : (places : List PlaceTree) (n : ℕ) (path : Path) → n < length places → path_at places n ≡ path → slice_get (map key_of places) n ≡ Some (state_key path)
key_at [] n path h e = absurd (omega arith)
key_at (p ∷ places) zero path h e = ap (λ q. Some (state_key q)) e
key_at (p ∷ places) (suc n) path h e = key_at places n path (omega arith) e

-- numbers are the same where their paths are
pub same_named : (places : List PlaceTree) (a b : ℕ) (p q : Path) → AreDistinct (map key_of places) → a < length places → b < length places → path_at places a ≡ p → path_at places b ≡ q → nat_eq a b ≡ same_path p q
same_named places a b p q d ha hb ea eb = split (nat_eq a b) (same_path p q) refl refl
  where
    own : (p : Path) → same_path p p ≡ true
    own p = sym (same_codes p p) ∙ (bytes_decides (codes p) (codes p)).1 refl

    split : (s t : Bool) → nat_eq a b ≡ s → same_path p q ≡ t → s ≡ t
    split true true e f = refl
    split true false e f =
        let one : a ≡ b = grind (arith, nat_tests) in
        let paths : p ≡ q = sym ea ∙ ap (path_at places) one ∙ eb in
        let yes : same_path p q ≡ true = subst (λ r. same_path p r ≡ true) paths (own p) in
        absurd cc
    split false true e f =
        let paths : p ≡ q = path_is p q f in
        let one : a ≡ b = distinct_at (map key_of places) a b (state_key p) (state_key q) d (key_at places a p ha ea) (key_at places b q hb eb) (ap state_key paths) in
        let yes : nat_eq a b ≡ true = grind (arith, nat_tests) in
        absurd cc
    split false false e f = refl
