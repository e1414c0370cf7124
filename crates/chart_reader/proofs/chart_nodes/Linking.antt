-- What nodes lead to, by number.
use Rattle.std.proofs.Common.{◌≡◌, ◌≢◌, ◌⊎◌, inl, inr, ℕ, ◌+◌, ◌<◌, ◌≤◌, Bool, true, false, List, [], ◌∷◌, ◌++◌, length, get_or, map, set, take, replicate, refl, sym, ap, ◌∙◌, arith, Option, Some, None, nat_eq}
use Rattle.std.specs.Prelude.{◌||◌, ◌&&◌, fold}
use Rattle.std.specs.List.{list_any}
use Rattle.std.proofs.lemmas.List.{map-append, take_more, get_or-set_same, get_or-set_other, length-set, length-replicate, get_or-replicate, get_or_past}
use Rattle.std.proofs.lemmas.List.Folds.{list_any-append}
use Rattle.std.proofs.lemmas.Bool.{cases_lt}
use Rattle.std.proofs.lemmas.Bool.Decides.{nat_tests}
use Rattle.number_graphs.specs.class_containment.Containment.{has_part}
use Rattle.chart_reader.specs.chart_nodes.Steps.{StepTree}
use Rattle.chart_reader.specs.chart_nodes.Circles.{linked, linked_by, number_of, parts_of, targets_of}

-- whether a number is this one
abbrev pub is_at : Option ℕ → ℕ → Bool
is_at (Some n) i = nat_eq n i
is_at None i = false

-- whether a step leads from one node to another
abbrev pub goes : List (List ℕ) → ℕ → ℕ → StepTree → Bool
goes nodes i k s = is_at (number_of nodes s.origin) i && is_at (number_of nodes s.target) k

length-linked : (o p : Option ℕ) (rows : List (List ℕ)) → length (linked o p rows) ≡ length rows
unfolding linked
length-linked (Some n) (Some next) rows = length-set rows n (get_or rows n [] ++ next ∷ [])
length-linked (Some n) None rows = refl
length-linked None p rows = refl

or_none : (b : Bool) → b ≡ (b || false)
or_none true = refl
or_none false = refl

turn_eq : (k n : ℕ) → nat_eq k n ≡ nat_eq n k
turn_eq k n = grind (arith, nat_tests)

linked_part : (o p : Option ℕ) (rows : List (List ℕ)) (i k : ℕ) → i < length rows → has_part (linked o p rows) i k ≡ (has_part rows i k || (is_at o i && is_at p k))
unfolding linked
linked_part (Some n) (Some next) rows i k h = split (nat_eq n i) refl
  where
    split : (b : Bool) → nat_eq n i ≡ b → list_any (nat_eq k) (get_or (set rows n (get_or rows n [] ++ next ∷ [])) i []) ≡ (has_part rows i k || (nat_eq n i && nat_eq next k))
    split true e =
        let same : n ≡ i = grind (arith, nat_tests) in
        let long : n < length rows = omega arith in
        rw (e, same, get_or-set_same rows i (get_or rows i [] ++ next ∷ []) [] h, list_any-append (nat_eq k) (get_or rows i []) (next ∷ []), ← or_none (nat_eq k next)) (ap (λ b. has_part rows i k || b) (turn_eq k next))
    split false e =
        let other : i ≢ n = grind (arith, nat_tests) in
        rw (e, get_or-set_other rows n i (get_or rows n [] ++ next ∷ []) [] other) (or_none (has_part rows i k))
linked_part (Some n) None rows i k h = none (nat_eq n i)
  where
    none : (b : Bool) → has_part rows i k ≡ (has_part rows i k || (b && false))
    none true = or_none (has_part rows i k)
    none false = or_none (has_part rows i k)
linked_part None p rows i k h = or_none (has_part rows i k)

or_assoc : (a b c : Bool) → ((a || b) || c) ≡ (a || (b || c))
or_assoc true b c = refl
or_assoc false b c = refl

all_linked : (nodes : List (List ℕ)) (rows : List (List ℕ)) (steps : List StepTree) (i k : ℕ) → i < length rows → has_part (fold (linked_by nodes) rows steps) i k ≡ (has_part rows i k || list_any (goes nodes i k) steps)
all_linked nodes rows [] i k h = or_none (has_part rows i k)
all_linked nodes rows (s ∷ steps) i k h =
    let long : i < length (linked_by nodes rows s) = omega (arith, length-linked (number_of nodes s.origin) (number_of nodes s.target) rows) in
    all_linked nodes (linked_by nodes rows s) steps i k long ∙ ap (λ b. b || list_any (goes nodes i k) steps) (linked_part (number_of nodes s.origin) (number_of nodes s.target) rows i k h) ∙ or_assoc (has_part rows i k) (goes nodes i k s) (list_any (goes nodes i k) steps)

pub length-parts : (nodes : List (List ℕ)) (rows : List (List ℕ)) (steps : List StepTree) → length (fold (linked_by nodes) rows steps) ≡ length rows
length-parts nodes rows [] = refl
length-parts nodes rows (s ∷ steps) = length-parts nodes (linked_by nodes rows s) steps ∙ length-linked (number_of nodes s.origin) (number_of nodes s.target) rows

-- within the numbers, parts are what steps lead to
pub part_is : (steps : List StepTree) (i k : ℕ) → i < length steps → has_part (parts_of steps) i k ≡ list_any (goes (targets_of steps) i k) steps
part_is steps i k h =
    let long : i < length (replicate (length steps) []) = omega (arith, length-replicate (length steps) (let e : List ℕ = [] in e)) in
    all_linked (targets_of steps) (replicate (length steps) []) steps i k long ∙ ap (λ l. list_any (nat_eq k) l || list_any (goes (targets_of steps) i k) steps) (get_or-replicate (length steps) i (let e : List ℕ = [] in e) [] h)

-- past them there are none
pub part_within : (steps : List StepTree) (i k : ℕ) → has_part (parts_of steps) i k ≡ true → i < length steps
part_within steps i k h = split (cases_lt i (length steps))
  where
    long : length (parts_of steps) ≡ length steps
    long = length-parts (targets_of steps) (replicate (length steps) []) steps ∙ length-replicate (length steps) (let e : List ℕ = [] in e)

    split : (i < length steps) ⊎ (length steps ≤ i) → i < length steps
    split (inl l) = l
    split (inr l) =
        let past : get_or (parts_of steps) i [] ≡ [] = get_or_past (parts_of steps) i [] (omega (arith, long)) in
        let none : has_part (parts_of steps) i k ≡ false = ap (λ l. list_any (nat_eq k) l) past in
        absurd cc

fold_push : {X Y : Type 0} (f : Y → X → Y) (z : Y) (xs : List X) (x : X) → fold f z (xs ++ x ∷ []) ≡ f (fold f z xs) x
fold_push f z [] x = refl
fold_push f z (y ∷ xs) x = fold_push f (f z y) xs x

-- the links of one more step
pub linked_more : {A : Type 0} (v : A → StepTree) (nodes nodes' : List (List ℕ)) (none rows new : List (List ℕ)) (steps : List A) (i : ℕ) (s : A) → i < length steps → s ≡ get_or steps i s → nodes' ≡ nodes → rows ≡ fold (linked_by nodes) none (map v (take i steps))
    → new ≡ linked_by nodes' rows (v s) → new ≡ fold (linked_by nodes) none (map v (take (i + 1) steps))
linked_more v nodes nodes' none rows new steps i s h is n e l =
    l ∙ ap (λ t. linked_by t rows (v s)) n ∙ ap (λ r. linked_by nodes r (v s)) e ∙ sym (fold_push (linked_by nodes) none (map v (take i steps)) (v s)) ∙ ap (λ t. fold (linked_by nodes) none t) (sym (map-append v (take i steps) (s ∷ [])) ∙ ap (map v) (ap (λ x. take i steps ++ x ∷ []) is ∙ sym (take_more steps i s h)))

pub length-linked_by : (nodes rows new : List (List ℕ)) (s : StepTree) (n : ℕ) → length rows ≡ n → new ≡ linked_by nodes rows s → length new ≡ n
length-linked_by nodes rows new s n e l = ap length l ∙ length-linked (number_of nodes s.origin) (number_of nodes s.target) rows ∙ e
