-- Keys that are among others.
use Rattle.std.proofs.Common.{◌≡◌, ℕ, zero, suc, ◌<◌, true, List, [], ◌∷◌, length, get_or, map, sym, ap, subst, arith, Option, Some, None}
use Rattle.std.specs.Prelude.{slice_get}
use Rattle.std.specs.List.{cons_option}
use Rattle.name_tables.specs.name_numbers.Names.{same, is_among}
use Rattle.chart_reader.specs.chart_nodes.Steps.{StepTree}
use Rattle.chart_reader.specs.chart_nodes.Circles.{targets_of}
use Rattle.chart_compile.specs.chart_places.Groups.{picked}
use Rattle.chart_compile.proofs.chart_numbers.Ordering.{key_own, or_first, or_second}

here : (key own : List ℕ) (keys : List (List ℕ)) → key ≡ own → is_among (own ∷ keys) key ≡ true
here key own keys e = or_first (same key own) (is_among keys key) (subst (λ (k : List ℕ). same key k ≡ true) e (key_own key))

-- the key of an item is among the keys of all
pub among_made : {A B : Type 0} (f : B → List ℕ) (v : A → B) (xs : List A) (i : ℕ) (x : A) → i < length xs → x ≡ get_or xs i x → is_among (map f (map v xs)) (f (v x)) ≡ true
among_made f v [] i x h is = absurd (omega arith)
among_made f v (y ∷ xs) zero x h is = here (f (v x)) (f (v y)) (map f (map v xs)) (ap (λ z. f (v z)) is)
among_made f v (y ∷ xs) (suc i) x h is = or_second (same (f (v x)) (f (v y))) (is_among (map f (map v xs)) (f (v x))) (among_made f v xs i x (omega arith) is)

pub among_keys : (keys : List (List ℕ)) (i : ℕ) (key : List ℕ) → i < length keys → key ≡ get_or keys i key → is_among keys key ≡ true
among_keys [] i key h is = absurd (omega arith)
among_keys (k ∷ keys) zero key h is = here key k keys is
among_keys (k ∷ keys) (suc i) key h is = or_second (same key k) (is_among keys key) (among_keys keys i key (omega arith) is)

later : (o : Option StepTree) (steps : List StepTree) (key : List ℕ) → is_among (targets_of steps) key ≡ true → is_among (targets_of (cons_option o steps)) key ≡ true
later None steps key e = e
later (Some s) steps key e = or_second (same key s.target) (is_among (targets_of steps) key) e

-- the node of a step is among those of the steps with some numbers, if the step's is one of them
pub among_picked : (steps : List StepTree) (numbers : List ℕ) (i : ℕ) (s : StepTree) → i < length numbers → slice_get steps (get_or numbers i 0) ≡ Some s → is_among (targets_of (picked steps numbers)) s.target ≡ true
among_picked steps [] i s h at = absurd (omega arith)
among_picked steps (n ∷ numbers) zero s h at =
    subst (λ (o : Option StepTree). is_among (targets_of (cons_option o (picked steps numbers))) s.target ≡ true) (sym at) (or_first (same s.target s.target) (is_among (targets_of (picked steps numbers)) s.target) (key_own s.target))
among_picked steps (n ∷ numbers) (suc i) s h at = later (slice_get steps n) (picked steps numbers) s.target (among_picked steps numbers i s (omega arith) at)

-- what an item at a place is seen as
pub view_at : {A B : Type 0} (v : A → B) (xs : List A) (i : ℕ) (x : A) → i < length xs → x ≡ get_or xs i x → slice_get (map v xs) i ≡ Some (v x)
view_at v [] i x h is = absurd (omega arith)
view_at v (y ∷ xs) zero x h is = ap (λ z. Some (v z)) (sym is)
view_at v (y ∷ xs) (suc i) x h is = view_at v xs i x (omega arith) is
