-- Lists of named things.
use Rattle.std.proofs.Common.{◌≡◌, ◌∙◌, ℕ, zero, suc, true, List, [], ◌∷◌, map, Some, refl, ap}
use Rattle.std.specs.Prelude.{All, slice_get}
use Rattle.std.specs.List.{list_all}
use Rattle.std.proofs.lemmas.Bool.{and_parts}
use Rattle.std.proofs.lemmas.List.Elements.{All-nil, All-cons, All-head, All-tail}
use Rattle.room_wiring.specs.WellNamed.{is_ident, IsIdent, NamesDiffer}
use Rattle.name_tables.specs.name_numbers.Names.{AreDistinct}
use Rattle.wiring_plan.specs.wiring_classes.Labels.{label_of}
use Rattle.law_models.proofs.wiring_laws.model_paths.Names.{label_is, apart_at}

get_map : {A B : Type 0} (f : A → B) (xs : List A) (i : ℕ) (x : A) → slice_get xs i ≡ Some x → slice_get (map f xs) i ≡ Some (f x)
get_map f [] i x e = absurd cc
get_map f (y ∷ ys) zero x e = let is : y ≡ x = cc in ap (λ z. Some (f z)) is
get_map f (y ∷ ys) (suc i) x e = get_map f ys i x e

-- things with distinct names are called differently
pub differ_of : {A : Type 0} (name : A → List ℕ) (xs : List A) → AreDistinct (map name xs) → NamesDiffer name xs
differ_of name xs h = λ i j x y ex ey e. apart_at (map name xs) h i j (name x) (name y) (get_map name xs i x ex) (get_map name xs j y ey) e

pub idents_of : {A : Type 0} (name : A → List ℕ) (xs : List A) → All IsIdent (map name xs) → All (λ x. IsIdent (name x)) xs
idents_of name [] h = All-nil (λ x. IsIdent (name x))
idents_of name (x ∷ xs) h = All-cons (λ y. IsIdent (name y)) x xs (All-head IsIdent (name x) (map name xs) h) (idents_of name xs (All-tail IsIdent (name x) (map name xs) h))

-- the labels of identifiers are the identifiers
pub labels_are : (ns : List (List ℕ)) → All IsIdent ns → map label_of ns ≡ ns
labels_are [] h = refl
labels_are (n ∷ ns) h =
    ap (λ x. x ∷ map label_of ns) (label_is n (All-head IsIdent n ns h)) ∙ ap (λ xs. n ∷ xs) (labels_are ns (All-tail IsIdent n ns h))

-- identifiers by the test
pub all_idents : (ws : List (List ℕ)) → list_all is_ident ws ≡ true → All IsIdent ws
all_idents [] h = All-nil IsIdent
all_idents (w ∷ ws) h = let parts = and_parts (is_ident w) (list_all is_ident ws) h in All-cons IsIdent w ws (record { ident = parts.0 }) (all_idents ws parts.1)
