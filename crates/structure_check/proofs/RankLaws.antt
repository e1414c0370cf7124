-- The rank of classes falls along references where none contains itself.
use Rattle.std.proofs.Common.{◌≡◌, ◌⊎◌, inl, inr, ℕ, zero, suc, ◌<◌, ◌≤◌, Bool, true, false, cond, nat_eq, List, [], ◌∷◌, length, map, refl, sym, ap, ◌∙◌, subst, arith}
use Rattle.std.specs.Prelude.{not, ◌||◌}
use Rattle.std.specs.List.{list_any, slice_index_or}
use Rattle.std.proofs.lemmas.Bool.{or_cases, eqb-true, cases_eq}
use Rattle.std.proofs.lemmas.List.{length-map}
use Rattle.room_ast.specs.Trees.{ModelTree}
use Rattle.room_ast.specs.model_parts.Classes.{actors, actor_names, protocol_names}
use Rattle.check_tables.specs.class_tables.Containers.{actor_container, actor_containers}
use Rattle.number_graphs.specs.class_containment.Containment.{parts_of, has_part, Contains, directly, through, has_chain, contains_itself}
use Rattle.check_tables.specs.containment_rules.Circles.{classes_of_container, actors_are_finite}
use Rattle.structure_check.specs.Ranks.{reference_classes, longest_chain, class_rank, ReferencesFall}

-- ---- the longest chain

there_by : (n : ℕ) (classes : List (List ℕ)) (i k : ℕ) → has_chain k classes i ≡ true → (b : Bool) → has_chain (suc n) classes i ≡ b → has_chain (cond b (suc n) k) classes i ≡ true
there_by n classes i k h true e = e
there_by n classes i k h false e = h

chain_there : (n : ℕ) (classes : List (List ℕ)) (i : ℕ) → has_chain (longest_chain n classes i) classes i ≡ true
chain_there zero classes i = refl
chain_there (suc n) classes i = there_by n classes i (longest_chain n classes i) (chain_there n classes i) (has_chain (suc n) classes i) refl

few_by : (n k : ℕ) → k ≤ n → (b : Bool) → cond b (suc n) k ≤ suc n
few_by n k le true = omega arith
few_by n k le false = omega arith

chain_few : (n : ℕ) (classes : List (List ℕ)) (i : ℕ) → longest_chain n classes i ≤ n
chain_few zero classes i = omega arith
chain_few (suc n) classes i = few_by n (longest_chain n classes i) (chain_few n classes i) (has_chain (suc n) classes i)

most_by : (n : ℕ) (classes : List (List ℕ)) (i k m : ℕ) → k ≤ suc n → has_chain k classes i ≡ true → (k ≤ n → k ≤ m) → (k ≡ suc n) ⊎ (k ≡ suc n → ⊥) → (b : Bool) → has_chain (suc n) classes i ≡ b → k ≤ cond b (suc n) m
most_by n classes i k m le e rest side true f = le
most_by n classes i k m le e rest (inl same) false f = let P : ℕ → Type 0 = λ x. has_chain x classes i ≡ true in let g : false ≡ true = sym f ∙ subst P same e in absurd cc
most_by n classes i k m le e rest (inr other) false f = rest (omega (arith, le, other))

chain_most : (n : ℕ) (classes : List (List ℕ)) (i k : ℕ) → k ≤ n → has_chain k classes i ≡ true → k ≤ longest_chain n classes i
chain_most zero classes i k le e = le
chain_most (suc n) classes i k le e = most_by n classes i k (longest_chain n classes i) le e (λ l. chain_most n classes i k l e) (cases_eq k (suc n)) (has_chain (suc n) classes i) refl

any_at : (p : ℕ → Bool) (xs : List ℕ) (j : ℕ) → list_any (nat_eq j) xs ≡ true → p j ≡ true → list_any p xs ≡ true
any_at p [] j h e = h
any_at p (x ∷ xs) j h e = elim (or_cases (nat_eq j x) (list_any (nat_eq j) xs) h) [
  | inl f ↦ let Q : ℕ → Type 0 = λ n. p n ≡ true in ap (λ b. b || list_any p xs) (subst Q (eqb-true j x f) e)
  | inr g ↦ or_right (p x) (list_any p xs) (any_at p xs j g e)
]
  where
    or_right : (a b : Bool) → b ≡ true → (a || b) ≡ true
    or_right true b e = refl
    or_right false b e = e

any_class : (p : List ℕ → Bool) (classes : List (List ℕ)) (i : ℕ) → p (slice_index_or classes i []) ≡ true → p [] ≡ false → list_any p classes ≡ true
any_class p [] i h none = let f : true ≡ false = sym h ∙ none in absurd cc
any_class p (c ∷ cs) zero h none = ap (λ b. b || list_any p cs) h
any_class p (c ∷ cs) (suc i) h none = or_right (p c) (list_any p cs) (any_class p cs i h none)
  where
    or_right : (a b : Bool) → b ≡ true → (a || b) ≡ true
    or_right true b e = refl
    or_right false b e = e

-- where no class contains itself, no chain of as many steps as there are classes begins at a part
part_short : (classes : List (List ℕ)) (i j : ℕ) → contains_itself classes ≡ false → has_part classes i j ≡ true → has_chain (length classes) classes j ≡ true → ⊥
unfolding contains_itself
part_short classes i j none part chain =
    let f : list_any (list_any (has_chain (length classes) classes)) classes ≡ true = any_class (list_any (has_chain (length classes) classes)) classes i (any_at (has_chain (length classes) classes) (parts_of classes i) j part chain) refl in
    let g : true ≡ false = sym f ∙ none in cc

part_falls : (classes : List (List ℕ)) (i j : ℕ) → contains_itself classes ≡ false → has_part classes i j ≡ true → longest_chain (length classes) classes j < longest_chain (length classes) classes i
part_falls classes i j none part =
    let few = chain_few (length classes) classes j in
    let chain = chain_there (length classes) classes j in
    let P : ℕ → Type 0 = λ n. has_chain n classes j ≡ true in
    elim (cases_eq (longest_chain (length classes) classes j) (length classes)) [
      | inl same ↦ absurd (part_short classes i j none part (subst P same chain))
      | inr other ↦
          let more = chain_most (length classes) classes i (suc (longest_chain (length classes) classes j)) (omega (arith, few, other)) (any_at (has_chain (longest_chain (length classes) classes j) classes) (parts_of classes i) j part chain) in
          omega (arith, more)
    ]

contained_falls : (classes : List (List ℕ)) → contains_itself classes ≡ false → (i j : ℕ) → Contains classes i j → longest_chain (length classes) classes j < longest_chain (length classes) classes i
contained_falls classes none i j (directly _ _ part) = part_falls classes i j none part
contained_falls classes none i j (through _ k _ part rest) =
    let first = part_falls classes i k none part in
    let second = contained_falls classes none k j rest in
    omega (arith, first, second)

-- ---- the references of a model

not_true : (b : Bool) → not b ≡ true → b ≡ false
not_true true e = sym e
not_true false e = refl

no_circle : (m : ModelTree) → actors_are_finite m ≡ true → contains_itself (reference_classes m) ≡ false
unfolding actors_are_finite
no_circle m e = not_true (contains_itself (reference_classes m)) e

as_many : (m : ModelTree) → length (reference_classes m) ≡ length (actors m)
unfolding actor_containers
as_many m = length-map (map (actor_container (protocol_names m) (actor_names m)) (actors m)) classes_of_container ∙ length-map (actors m) (actor_container (protocol_names m) (actor_names m))

pub references_fall : (m : ModelTree) → actors_are_finite m ≡ true → ReferencesFall m
unfolding class_rank
references_fall m e = record {
  falls = λ i j part. part_falls (reference_classes m) i j (no_circle m e) part;
  few = λ i. let a = chain_few (length (reference_classes m)) (reference_classes m) i in omega (arith, a, as_many m);
  none = λ i circle. let less : longest_chain (length (reference_classes m)) (reference_classes m) i < longest_chain (length (reference_classes m)) (reference_classes m) i = contained_falls (reference_classes m) (no_circle m e) i i circle in omega (arith, less);
}
