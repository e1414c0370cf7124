-- Nodes that are numbered in an order of containment lead to lower ones.
use Rattle.std.proofs.Common.{Bor, ◌≡◌, ◌⊎◌, inl, inr, ℕ, zero, suc, ◌+◌, ◌<◌, ◌≤◌, Bool, true, false, cond, not, List, [], ◌∷◌, ◌++◌, length, get_or, map, replicate, refl, sym, ap, ◌∙◌, subst, arith, Option, Some, None, option_map, nat_eq, append_assoc}
use Rattle.std.specs.Prelude.{slice_get, position, ◌||◌, ◌&&◌, fold, is_some}
use Rattle.std.specs.List.{Contains, IsDistinct, cons_option}
use Rattle.std.specs.Option.{option_map_or}
use Rattle.std.proofs.lemmas.Bool.{cases_lt}
use Rattle.std.proofs.lemmas.Bool.Decides.{nat_tests}
use Rattle.std.proofs.lemmas.List.{append-nil, length-append, length-map, length-replicate, map-append, get_or-map}
use Rattle.std.proofs.lemmas.List.Elements.{filter_map-append}
use Rattle.std.proofs.lemmas.List.Folds.{list_any-append}
use Rattle.std.proofs.lemmas.List.Quantifiers.{position-Some}
use Rattle.std.proofs.lemmas.Map.Keys.{IsDistinct-push}
use Rattle.std.proofs.lemmas.Option.{slice_get-get_or, slice_get-map, slice_get_within}
use Rattle.std.specs.Cmp.{IsEquivalence}
use lib.Pointwise.{bytes_decides}
use Rattle.name_tables.specs.name_numbers.Names.{same, is_among}
use Rattle.name_tables.specs.name_index.Places.{earlier_or}
use Rattle.name_tables.proofs.name_index.Lists.{position_push, some_place}
use Rattle.number_graphs.specs.class_containment.Containment.{has_part, IsContainmentOrder}
use Rattle.chart_reader.specs.chart_nodes.Steps.{StepTree}
use Rattle.chart_reader.specs.chart_nodes.Circles.{number_of, parts_of, targets_of}
use Rattle.chart_reader.proofs.chart_nodes.Linking.{is_at, goes, length-parts, part_is}
use Rattle.chart_reader.proofs.chart_nodes.Members.{In-from_Contains, In_any}
use Rattle.chart_reader.proofs.chart_nodes.CircleLaws.{number_after}
use Rattle.chart_compile.specs.chart_places.Groups.{picked}
use Rattle.chart_compile.specs.chart_numbers.Order.{AllNumbered, AreNumbered, Numbering, is_number, numbered, numbering, with_first, with_node, with_step}
use Rattle.chart_compile.proofs.chart_numbers.Members.{In-slice_get, get_pushed}

key_is : (a b : List ℕ) → same a b ≡ true → a ≡ b
key_is a b = (bytes_decides a b).0

pub key_own : (a : List ℕ) → same a a ≡ true
key_own a = (bytes_decides a a).1 refl

same_turn : (a b : List ℕ) → same a b ≡ same b a
same_turn a b = split (same a b) (same b a) refl refl
  where
    split : (x y : Bool) → same a b ≡ x → same b a ≡ y → same a b ≡ same b a
    split true y e f = subst (λ z. same a z ≡ same z a) (key_is a b e) refl
    split false true e f = subst (λ z. same z b ≡ same b z) (key_is b a f) refl
    split false false e f = e ∙ sym f

pub same_laws : IsEquivalence same
same_laws = record { refl = key_own; symm = same_turn; congr = λ x y z e. ap (λ w. same w z) (key_is x y e) }

-- ---- what is reached

-- the nodes of the first steps among these have numbers
abbrev Reached : List StepTree → List ℕ → List (List ℕ) → Type 0
Reached steps done keys = (e i : ℕ) (s : StepTree) → e < length done → get_or done e 0 ≡ i → slice_get steps i ≡ Some s → number_of (targets_of steps) s.target ≡ Some i → is_among keys s.target ≡ true

record State (steps : List StepTree) (done : List ℕ) (n : Numbering) : Type 0 where
  numbers : AreNumbered steps n.node_keys n.node_steps
  reached : Reached steps done n.node_keys

-- each node to which the node of a step leads is that of a step among these
abbrev Ready : List StepTree → List ℕ → ℕ → Type 0
Ready steps done i = (j : ℕ) → has_part (parts_of steps) i j ≡ true → j < length steps → (e : ℕ) × (e < length done) × (get_or done e 0 ≡ j)

-- ---- one more number

get_or-first : (xs ys : List ℕ) (e : ℕ) → e < length xs → get_or (xs ++ ys) e 0 ≡ get_or xs e 0
get_or-first [] ys e h = absurd (omega arith)
get_or-first (x ∷ xs) ys zero h = refl
get_or-first (x ∷ xs) ys (suc e) h = get_or-first xs ys e (omega arith)

get_or-next : (xs ys : List ℕ) (y : ℕ) → get_or (xs ++ y ∷ ys) (length xs) 0 ≡ y
get_or-next [] ys y = refl
get_or-next (x ∷ xs) ys y = get_or-next xs ys y

reached_more : (steps : List StepTree) (done : List ℕ) (old new : List (List ℕ)) (i : ℕ) → Reached steps done old → ((key : List ℕ) → is_among old key ≡ true → is_among new key ≡ true)
    → ((s : StepTree) → slice_get steps i ≡ Some s → number_of (targets_of steps) s.target ≡ Some i → is_among new s.target ≡ true) → Reached steps (done ++ i ∷ []) new
reached_more steps done old new i before keeps here e j s h is at first = split (cases_lt e (length done))
  where
    split : (e < length done) ⊎ (length done ≤ e) → is_among new s.target ≡ true
    split (inl l) = keeps s.target (before e j s l (sym (get_or-first done (i ∷ []) e l) ∙ is) at first)
    split (inr l) =
        let last : e ≡ length done = omega (arith, length-append done (i ∷ []), h) in
        let one : i ≡ j = sym (get_or-next done [] i) ∙ ap (λ k. get_or (done ++ i ∷ []) k 0) (sym last) ∙ is in
        here s (ap (slice_get steps) one ∙ at) (first ∙ ap Some (sym one))

pub or_first : (a b : Bool) → a ≡ true → (a || b) ≡ true
or_first true b e = refl
or_first false b e = absurd cc

pub or_second : (a b : Bool) → b ≡ true → (a || b) ≡ true
or_second true b e = refl
or_second false b e = e

among_more : (keys : List (List ℕ)) (key k : List ℕ) → is_among keys k ≡ true → is_among (keys ++ key ∷ []) k ≡ true
among_more keys key k e = list_any-append (same k) keys (key ∷ []) ∙ or_first (is_among keys k) (same k key || false) e

among_last : (keys : List (List ℕ)) (key : List ℕ) → is_among (keys ++ key ∷ []) key ≡ true
among_last keys key = list_any-append (same key) keys (key ∷ []) ∙ or_second (is_among keys key) (same key key || false) (or_first (same key key) false (key_own key))

some_number : (o : Option ℕ) → is_some o ≡ true → (i : ℕ) × (o ≡ Some i)
some_number (Some i) h = (i, refl)
some_number None h = absurd cc

-- a key among keys has a number, which one more key keeps
number_kept : (keys : List (List ℕ)) (key k : List ℕ) (q : ℕ) → position (same k) keys ≡ Some q → position (same k) (keys ++ key ∷ []) ≡ Some q
number_kept keys key k q e = position_push (same k) keys key ∙ ap (λ o. earlier_or o (cond (same k key) (Some (length keys)) None)) e

pub number_among : (keys : List (List ℕ)) (k : List ℕ) → is_among keys k ≡ true → (q : ℕ) × (position (same k) keys ≡ Some q) × (q < length keys)
number_among keys k e =
    let found = some_number (position (same k) keys) (some_place (same k) keys ∙ e) in
    (found.0, found.1, (position-Some (same k) keys found.0 [] found.1).0)

number_own : (o : Option ℕ) (i : ℕ) → o ≡ Some i → is_at o i ≡ true
number_own o i e = rw e (let s : nat_eq i i ≡ true = grind (arith, nat_tests) in s)

-- the steps that begin at the node of a step that comes next lead to nodes with numbers
leads_known : (steps : List StepTree) (done : List ℕ) (keys : List (List ℕ)) (i : ℕ) (s t : StepTree) → Reached steps done keys → Ready steps done i → slice_get steps i ≡ Some s → number_of (targets_of steps) s.target ≡ Some i → Contains steps t → same t.origin s.target ≡ true → is_among keys t.target ≡ true
leads_known steps done keys i s t reached ready at first there begins =
    let inside = In-from_Contains steps t there in
    let origin : number_of (targets_of steps) t.origin ≡ Some i = ap (number_of (targets_of steps)) (key_is t.origin s.target begins) ∙ first in
    let next = number_after steps t inside in
    let k = next.0 in
    let within : i < length steps = slice_get_within steps i s at in
    let does : goes (targets_of steps) i k t ≡ true = ap (λ b. b && is_at (number_of (targets_of steps) t.target) k) (number_own (number_of (targets_of steps) t.origin) i origin) ∙ number_own (number_of (targets_of steps) t.target) k next.1 in
    let part : has_part (parts_of steps) i k ≡ true = part_is steps i k within ∙ In_any (goes (targets_of steps) i k) steps t inside does in
    let found = position-Some (same t.target) (targets_of steps) k t.target next.1 in
    let small : k < length steps = omega (arith, found.0, length-map steps (λ (s : StepTree). s.target)) in
    let e = ready k part small in
    let u = get_or steps k t in
    let u_at : slice_get steps k ≡ Some u = slice_get-get_or steps k t small in
    let key : t.target ≡ u.target = key_is t.target u.target (subst (λ x. same t.target x ≡ true) (get_or-map (λ (s : StepTree). s.target) steps k t t.target small) found.1) in
    ap (is_among keys) key ∙ reached e.0 k u e.1 e.2 u_at (ap (number_of (targets_of steps)) (sym key) ∙ next.1)

picked_push : (steps : List StepTree) (targets : List ℕ) (i : ℕ) (s : StepTree) → slice_get steps i ≡ Some s → picked steps (targets ++ i ∷ []) ≡ picked steps targets ++ s ∷ []
picked_push steps targets i s e = filter_map-append (λ j. slice_get steps j) targets (i ∷ []) ∙ ap (λ o. picked steps targets ++ cons_option o []) e

-- one more node keeps the numbering
numbers_more : (steps : List StepTree) (done : List ℕ) (keys : List (List ℕ)) (targets : List ℕ) (i : ℕ) (s : StepTree) → AreNumbered steps keys targets → Reached steps done keys → Ready steps done i → slice_get steps i ≡ Some s → number_of (targets_of steps) s.target ≡ Some i
    → is_among keys s.target ≡ false → AreNumbered steps (keys ++ s.target ∷ []) (targets ++ i ∷ [])
numbers_more steps done keys targets i s old reached ready at first fresh = record {
  named = ap (λ l. l ++ s.target ∷ []) old.named ∙ sym (map-append (λ (s : StepTree). s.target) (picked steps targets) (s ∷ [])) ∙ ap (map (λ (s : StepTree). s.target)) (sym (picked_push steps targets i s at));
  as_many = length-append keys (s.target ∷ []) ∙ ap (λ n. n + 1) old.as_many ∙ sym (length-append targets (i ∷ []));
  distinct = IsDistinct-push same_laws keys s.target old.distinct fresh;
  lower = λ p key t at_p there begins. split p key t there begins (get_pushed keys s.target p key at_p);
}
  where
    split : (p : ℕ) (key : List ℕ) (t : StepTree) → Contains steps t → same t.origin key ≡ true → ((p < length keys) × (slice_get keys p ≡ Some key)) ⊎ ((p ≡ length keys) × (s.target ≡ key)) → (q : ℕ) × (position (same t.target) (keys ++ s.target ∷ []) ≡ Some q) × (q < p)
    split p key t there begins (inl h) =
        let r = old.lower p key t h.1 there begins in
        (r.0, number_kept keys s.target t.target r.0 r.1, r.2)
    split p key t there begins (inr h) =
        let known = leads_known steps done keys i s t reached ready at first there (subst (λ k. same t.origin k ≡ true) (sym h.1) begins) in
        let r = number_among keys t.target known in
        (r.0, number_kept keys s.target t.target r.0 r.1, omega (arith, h.0, r.2))

number_is : (o : Option ℕ) (i : ℕ) → is_number o i ≡ true → o ≡ Some i
number_is (Some n) i e = let same_ : n ≡ i = grind (arith, nat_tests) in ap Some same_
number_is None i e = absurd cc

number_not : (o : Option ℕ) (i : ℕ) → is_number o i ≡ false → o ≡ Some i → ⊥
number_not (Some n) i e is = let same_ : n ≡ i = cc in grind (arith, nat_tests)
number_not None i e is = cc

same_step : (o : Option StepTree) (s t : StepTree) → o ≡ Some s → o ≡ Some t → s ≡ t
same_step o s t e f = cc

node_split : (steps : List StepTree) (done : List ℕ) (n : Numbering) (i : ℕ) (s : StepTree) (b : Bool) → is_among n.node_keys s.target ≡ b → State steps done n → Ready steps done i → slice_get steps i ≡ Some s → number_of (targets_of steps) s.target ≡ Some i
    → State steps (done ++ i ∷ []) (with_node (not b) i s.target n)
unfolding with_node
node_split steps done n i s true e old ready at first = record {
  numbers = old.numbers;
  reached = reached_more steps done n.node_keys n.node_keys i old.reached (λ key h. h) (λ t u f. subst (λ (x : StepTree). is_among n.node_keys x.target ≡ true) (same_step (slice_get steps i) s t at u) e);
}
node_split steps done n i s false e old ready at first = record {
  numbers = numbers_more steps done n.node_keys n.node_steps i s old.numbers old.reached ready at first e;
  reached = reached_more steps done n.node_keys (n.node_keys ++ s.target ∷ []) i old.reached (among_more n.node_keys s.target) (λ t u f. subst (λ (x : StepTree). is_among (n.node_keys ++ s.target ∷ []) x.target ≡ true) (same_step (slice_get steps i) s t at u) (among_last n.node_keys s.target));
}

first_split : (steps : List StepTree) (done : List ℕ) (n : Numbering) (i : ℕ) (s : StepTree) (b : Bool) → is_number (number_of (targets_of steps) s.target) i ≡ b → State steps done n → Ready steps done i → slice_get steps i ≡ Some s
    → State steps (done ++ i ∷ []) (cond b (with_node (not (is_among n.node_keys s.target)) i s.target n) n)
first_split steps done n i s true e old ready at = node_split steps done n i s (is_among n.node_keys s.target) refl old ready at (number_is (number_of (targets_of steps) s.target) i e)
first_split steps done n i s false e old ready at = record {
  numbers = old.numbers;
  reached = reached_more steps done n.node_keys n.node_keys i old.reached (λ key h. h) (λ t u f. absurd (number_not (number_of (targets_of steps) s.target) i e (subst (λ (x : StepTree). number_of (targets_of steps) x.target ≡ Some i) (sym (same_step (slice_get steps i) s t at u)) f)));
}

step_split : (steps : List StepTree) (done : List ℕ) (n : Numbering) (i : ℕ) (o : Option StepTree) → slice_get steps i ≡ o → State steps done n → Ready steps done i → State steps (done ++ i ∷ []) (option_map_or (with_first steps i n) o n)
step_split steps done n i (Some s) at old ready = first_split steps done n i s (is_number (number_of (targets_of steps) s.target) i) refl old ready at
step_split steps done n i None at old ready = record {
  numbers = old.numbers;
  reached = reached_more steps done n.node_keys n.node_keys i old.reached (λ key h. h) (λ t u f. let no : ◌≡◌ {A = Option StepTree} None (Some t) = sym at ∙ u in absurd cc);
}

step_more : (steps : List StepTree) (done : List ℕ) (n : Numbering) (i : ℕ) → State steps done n → Ready steps done i → State steps (done ++ i ∷ []) (with_step steps n i)
unfolding with_step
step_more steps done n i old ready = step_split steps done n i (slice_get steps i) refl old ready

-- ---- the whole order

-- in an order of containment the parts of each are among those before it
ready_at : (steps : List StepTree) (order done rest : List ℕ) (i : ℕ) → IsContainmentOrder (parts_of steps) order → length (parts_of steps) ≡ length steps → order ≡ done ++ i ∷ rest → Ready steps done i
ready_at steps order done rest i o size e j part small =
    let before : length done < length order = omega (arith, ap length e, length-append done (i ∷ rest)) in
    let here : get_or order (length done) 0 ≡ i = ap (λ (l : List ℕ). get_or l (length done) 0) e ∙ get_or-next done rest i in
    let found = o.sorted (length done) j before (subst (λ k. has_part (parts_of steps) k j ≡ true) (sym here) part) (omega (arith, size, small)) in
    (found.0, found.1, sym (get_or-first done (i ∷ rest) found.0 found.1) ∙ ap (λ (l : List ℕ). get_or l found.0 0) (sym e) ∙ found.2)

go : (steps : List StepTree) (order done rest : List ℕ) (n : Numbering) → IsContainmentOrder (parts_of steps) order → length (parts_of steps) ≡ length steps → order ≡ done ++ rest → State steps done n → State steps order (fold (with_step steps) n rest)
go steps order done [] n o size e st = subst (λ d. State steps d n) (sym (e ∙ append-nil done)) st
go steps order done (i ∷ rest) n o size e st =
    go steps order (done ++ i ∷ []) rest (with_step steps n i) o size (e ∙ sym (append_assoc done (i ∷ []) rest)) (step_more steps done n i st (ready_at steps order done rest i o size e))

nothing : (steps : List StepTree) → State steps [] (numbering [] [])
unfolding IsDistinct
nothing steps = record {
  numbers = record { named = refl; as_many = refl; distinct = tt; lower = λ p key s at there begins. absurd (omega (arith, slice_get_within (let none : List (List ℕ) = [] in none) p key at)) };
  reached = λ e i s h is at first. absurd (omega arith);
}

-- the nodes of steps, gone through in an order of containment, lead to lower ones
pub in_order : (steps : List StepTree) (order targets : List ℕ) (keys : List (List ℕ)) → IsContainmentOrder (parts_of steps) order → numbering keys targets ≡ numbered steps order → AreNumbered steps keys targets
in_order steps order targets keys o e =
    let size : length (parts_of steps) ≡ length steps = length-parts (targets_of steps) (replicate (length steps) []) steps ∙ length-replicate (length steps) (let none : List ℕ = [] in none) in
    let all = go steps order [] order (numbering [] []) o size refl (nothing steps) in
    subst (λ (n : Numbering). AreNumbered steps n.node_keys n.node_steps) (sym e) all.numbers

-- and each step leads to one of them
pub all_in_order : (steps : List StepTree) (order targets : List ℕ) (keys : List (List ℕ)) → IsContainmentOrder (parts_of steps) order → numbering keys targets ≡ numbered steps order → AllNumbered steps keys
all_in_order steps order targets keys o e = λ i s at.
    let size : length (parts_of steps) ≡ length steps = length-parts (targets_of steps) (replicate (length steps) []) steps ∙ length-replicate (length steps) (let none : List ℕ = [] in none) in
    let all = go steps order [] order (numbering [] []) o size refl (nothing steps) in
    let next = number_after steps s (In-slice_get steps i s at) in
    let k = next.0 in
    let found = position-Some (same s.target) (targets_of steps) k s.target next.1 in
    let small : k < length steps = omega (arith, found.0, length-map steps (λ (s : StepTree). s.target)) in
    let u = get_or steps k s in
    let u_at : slice_get steps k ≡ Some u = slice_get-get_or steps k s small in
    let key : s.target ≡ u.target = key_is s.target u.target (subst (λ x. same s.target x ≡ true) (get_or-map (λ (s : StepTree). s.target) steps k s s.target small) found.1) in
    let place = o.whole k (omega (arith, small, size)) in
    let there : is_among (numbered steps order).node_keys u.target ≡ true = all.reached place.0 k u place.1 place.2 u_at (ap (number_of (targets_of steps)) (sym key) ∙ next.1) in
    subst (λ (n : Numbering). is_among n.node_keys s.target ≡ true) (sym e) (subst (λ x. is_among (numbered steps order).node_keys x ≡ true) (sym key) there)

-- ---- what the code does with a step

-- the step that a number has, and that it has none
pub found_step : {A : Type 0} (v : A → StepTree) (steps : List A) (i : ℕ) (r : Option (Bor A)) (s : Bor A) → option_map (λ (s : Bor A). s.now) r ≡ slice_get steps i → r ≡ Some s → slice_get (map v steps) i ≡ Some (v s.now)
found_step v steps i r s e is = slice_get-map v steps i ∙ ap (option_map v) (sym e ∙ ap (option_map (λ (s : Bor _). s.now)) is)

pub no_step : {A : Type 0} (v : A → StepTree) (steps : List A) (i : ℕ) (r : Option (Bor A)) → option_map (λ (s : Bor A). s.now) r ≡ slice_get steps i → r ≡ None → slice_get (map v steps) i ≡ None
no_step v steps i r e is = slice_get-map v steps i ∙ ap (option_map v) (sym e ∙ ap (option_map (λ (s : Bor _). s.now)) is)

pub with_none : (steps : List StepTree) (i : ℕ) (n : Numbering) → slice_get steps i ≡ None → n ≡ with_step steps n i
unfolding with_step
with_none steps i n e = sym (ap (λ o. option_map_or (with_first steps i n) o n) e)

-- whether the step is the first to its node, as the code finds it
pub first_as : (steps : List StepTree) (index : List (List ℕ)) (i : ℕ) (key target : List ℕ) (b : Bool) → index ≡ targets_of steps → key ≡ target → b ≡ is_number (number_of index key) i → is_number (number_of (targets_of steps) target) i ≡ b
first_as steps index i key target b e k is = ap (λ k. is_number (number_of (targets_of steps) k) i) (sym k) ∙ ap (λ t. is_number (number_of t key) i) (sym e) ∙ sym is

pub with_later : (steps : List StepTree) (i : ℕ) (n : Numbering) (s : StepTree) → slice_get steps i ≡ Some s → is_number (number_of (targets_of steps) s.target) i ≡ false → n ≡ with_step steps n i
unfolding with_step
with_later steps i n s at e = sym (ap (λ o. option_map_or (with_first steps i n) o n) at ∙ ap (λ b. cond b (with_node (not (is_among n.node_keys s.target)) i s.target n) n) e)

pub with_next : (steps : List StepTree) (i : ℕ) (n new : Numbering) (s : StepTree) (key : List ℕ) → slice_get steps i ≡ Some s → is_number (number_of (targets_of steps) s.target) i ≡ true → key ≡ s.target → new ≡ with_node (not (is_among n.node_keys key)) i key n → new ≡ with_step steps n i
unfolding with_step
with_next steps i n new s key at e k made = made ∙ ap (λ k. with_node (not (is_among n.node_keys k)) i k n) k ∙ sym (ap (λ o. option_map_or (with_first steps i n) o n) at ∙ ap (λ b. cond b (with_node (not (is_among n.node_keys s.target)) i s.target n) n) e)
