-- The loop that pairs subsystem classes with what they know.
use Rattle.std.proofs.Common.{◌≡◌, ℕ, ◌+◌, ◌<◌, ◌≤◌, List, [], ◌∷◌, ◌++◌, Some, None, length, map, get_or, drop, drop-cons, add-one, append_assoc, append-nil, sym, ◌∙◌, ap, refl}
use Rattle.std.specs.List.{filter_map}
use Rattle.std.proofs.lemmas.List.{drop_all, map-append}
use Rattle.room_ast.specs.Trees.{ClassTree, SubsystemTree, class_view}
use Rattle.room_ast.specs.declared.model.Class.{Class}
use Rattle.room_ast.specs.model_parts.Classes.{as_subsystem}
use Rattle.check_tables.specs.class_tables.Containers.{subsystem_container, subsystem_containers}
use Rattle.check_tables.specs.declared.class_tables.container.Container.{Container}
use Rattle.check_mappings.specs.mapping_rules.Rules.{wired, wired_in}
use Rattle.check_mappings.specs.mapping_rules.Wireds.{wired_view}
use Rattle.check_mappings.specs.declared.mapping_rules.wired.Wired.{Wired as CodeWired}

-- the classes from the i-th on
abbrev rest : List Class → ℕ → List ClassTree
rest cs i = map class_view (drop i cs)

-- where the containers are those of all classes, what is left are those of the rest, and what was paired goes on
pub record Paired (cs : List Class) (all left : List Container) (found : List CodeWired) (i : ℕ) : Type 0 where
  pub those : (actors : List (List ℕ)) → all ≡ subsystem_containers actors (map class_view cs) → left ≡ map (subsystem_container actors) (filter_map as_subsystem (rest cs i))
  pub so_far : (actors : List (List ℕ)) → all ≡ subsystem_containers actors (map class_view cs) → map wired_view found ++ wired_in actors (rest cs i) ≡ wired_in actors (map class_view cs)

pub paired_start : (cs : List Class) (all : List Container) (found : List CodeWired) → found ≡ [] → Paired cs all all found 0
unfolding subsystem_containers
paired_start cs all found none = record { those = λ actors e. e; so_far = λ actors e. rw none refl }

some_subsystem : (c : ClassTree) (s : SubsystemTree) (cs : List ClassTree) → as_subsystem c ≡ Some s → filter_map as_subsystem (c ∷ cs) ≡ s ∷ filter_map as_subsystem cs
some_subsystem c s cs e = rw e refl

no_subsystem : (c : ClassTree) (cs : List ClassTree) → as_subsystem c ≡ None → filter_map as_subsystem (c ∷ cs) ≡ filter_map as_subsystem cs
no_subsystem c cs e = rw e refl

no_first : (x : Container) (xs : List Container) → [] ≡ x ∷ xs → ⊥
no_first x xs e = cc

first_is : (x y : Container) (xs ys : List Container) → x ∷ xs ≡ y ∷ ys → x ≡ y
first_is x y xs ys e = cc

others_are : (x y : Container) (xs ys : List Container) → x ∷ xs ≡ y ∷ ys → xs ≡ ys
others_are x y xs ys e = cc

module _ (cs : List Class) (all left : List Container) (found : List CodeWired) (i : ℕ) (inv : Paired cs all left found i) (c : Class) (l : i < length cs) (is : c ≡ get_or cs i c) where
  now : rest cs i ≡ class_view c ∷ rest cs (i + 1)
  now = rw (add-one, drop-cons cs i c, ← is) refl

  pub paired_other : as_subsystem (class_view c) ≡ None → Paired cs all left found (i + 1)
  paired_other none = record {
    those = λ actors e. inv.those actors e ∙ ap (λ x. map (subsystem_container actors) (filter_map as_subsystem x)) now ∙ ap (map (subsystem_container actors)) (no_subsystem (class_view c) (rest cs (i + 1)) none);
    so_far = λ actors e. ap (λ x. map wired_view found ++ map (wired actors) x) (sym (ap (filter_map as_subsystem) now ∙ no_subsystem (class_view c) (rest cs (i + 1)) none)) ∙ inv.so_far actors e;
  }

  module _ (s : SubsystemTree) (some : as_subsystem (class_view c) ≡ Some s) where
    all_left : (actors : List (List ℕ)) → all ≡ subsystem_containers actors (map class_view cs) → left ≡ subsystem_container actors s ∷ map (subsystem_container actors) (filter_map as_subsystem (rest cs (i + 1)))
    all_left actors e = inv.those actors e ∙ ap (λ x. map (subsystem_container actors) (filter_map as_subsystem x)) now ∙ ap (map (subsystem_container actors)) (some_subsystem (class_view c) s (rest cs (i + 1)) some)

    pub paired_more : (x : Container) (others : List Container) (w : CodeWired) → left ≡ x ∷ others → wired_view w ≡ record { items = s.items; container = x } → Paired cs all others (found ++ w ∷ []) (i + 1)
    paired_more x others w e v = record {
      those = λ actors a. others_are x (subsystem_container actors s) others (map (subsystem_container actors) (filter_map as_subsystem (rest cs (i + 1)))) (sym e ∙ all_left actors a);
      so_far = λ actors a.
          let same : x ≡ subsystem_container actors s = first_is x (subsystem_container actors s) others (map (subsystem_container actors) (filter_map as_subsystem (rest cs (i + 1)))) (sym e ∙ all_left actors a) in
          let this : wired_view w ≡ wired actors s = v ∙ ap (λ y. record { items = s.items; container = y }) same in
          ap (λ ys. ys ++ wired_in actors (rest cs (i + 1))) (map-append wired_view found (w ∷ [])) ∙ append_assoc (map wired_view found) (wired_view w ∷ []) (wired_in actors (rest cs (i + 1)))
          ∙ ap (λ y. map wired_view found ++ y ∷ wired_in actors (rest cs (i + 1))) this
          ∙ ap (λ y. map wired_view found ++ map (wired actors) y) (sym (ap (filter_map as_subsystem) now ∙ some_subsystem (class_view c) s (rest cs (i + 1)) some)) ∙ inv.so_far actors a;
    }

    pub none_missing : left ≡ [] → (actors : List (List ℕ)) → all ≡ subsystem_containers actors (map class_view cs) → map wired_view found ≡ wired_in actors (map class_view cs)
    none_missing e actors a = absurd (no_first (subsystem_container actors s) (map (subsystem_container actors) (filter_map as_subsystem (rest cs (i + 1)))) (sym e ∙ all_left actors a))

pub paired_end : (cs : List Class) (all left : List Container) (found : List CodeWired) (i : ℕ) → Paired cs all left found i → length cs ≤ i → (actors : List (List ℕ)) → all ≡ subsystem_containers actors (map class_view cs) → map wired_view found ≡ wired_in actors (map class_view cs)
paired_end cs all left found i inv l actors a =
    sym (append-nil (map wired_view found)) ∙ ap (λ x. map wired_view found ++ wired_in actors (map class_view x)) (sym (drop_all i cs l)) ∙ inv.so_far actors a
