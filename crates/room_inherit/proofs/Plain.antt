-- A model in which nothing is extended keeps the rules, and is its own flattening.
use Rattle.std.proofs.Common.{◌≡◌, ℕ, zero, suc, Bool, true, false, List, [], ◌∷◌, length, map, Option, Some, None, refl, sym, ap, ◌∙◌}
use Rattle.std.specs.Prelude.{not, is_some, ◌&&◌, option_map, if◌then◌else◌}
use Rattle.std.specs.List.{list_all, list_any}
use Rattle.std.specs.Option.{option_map_or, option_and_then, option_to_list}
use Rattle.number_graphs.specs.class_containment.Containment.{contains_itself, has_chain}
use Rattle.room_ast.specs.ChartTree.{AState, AChoice, APoint, ATransition, ARefinement, GraphItems, no_items, item}
use Rattle.room_ast.specs.Trees.{ModelTree, ClassTree, ASystem, ASubsystem, AnActor, AProtocol, AData, ActorTree}
use Rattle.room_ast.specs.model_parts.Charts.{chart_of}
use Rattle.room_ast.specs.model_parts.Classes.{class_name, number_in}
use Rattle.room_inherit.specs.Flat.{actor_at, base_in, over_base, flat_with, flat_actor, flat_class, flat}
use Rattle.room_inherit.specs.Flattening.{size_rule}
use Rattle.derived_classes.specs.Derived.{once_of, refines_known, refines_once}
use Rattle.derived_classes.specs.Refining.{refinements}
use Rattle.room_inherit.specs.Rules as rules

and_both : (a b : Bool) → (a && b) ≡ true → (a ≡ true) × (b ≡ true)
and_both true b e = (refl, e)
and_both false b e = cc

plain_parts : {A : Type 0} (base : Option A) (plain : Bool) → (not (is_some base) && plain) ≡ true → (base ≡ None) × (plain ≡ true)
plain_parts None plain e = (refl, e)
plain_parts (Some b) plain e = cc

-- ---- a plain graph has no refinements

none_refined : (g : GraphItems) → rules.is_plain g ≡ true → refinements g ≡ []
none_refined no_items e = refl
none_refined (item (AState s) is) e = none_refined is (and_both (rules.state_is_plain s) (rules.is_plain is) e).1
none_refined (item (AChoice c) is) e = none_refined is e
none_refined (item (APoint p) is) e = none_refined is e
none_refined (item (ATransition t) is) e = none_refined is e
none_refined (item (ARefinement path change) is) e = cc

none_in_chart : (chart : Option GraphItems) → option_map_or rules.is_plain chart true ≡ true → option_map_or refinements chart [] ≡ []
none_in_chart None e = refl
none_in_chart (Some g) e = none_refined g e

-- ---- each class

-- a rule on actor classes that every plain class keeps
all_keep : (p : ActorTree → Bool) → ((a : ActorTree) → rules.class_is_plain a ≡ true → p a ≡ true) → (cs : List ClassTree) → list_all (rules.of_actor rules.class_is_plain) cs ≡ true → list_all (rules.of_actor p) cs ≡ true
all_keep p h [] e = refl
all_keep p h (ASystem s ∷ cs) e = all_keep p h cs e
all_keep p h (ASubsystem s ∷ cs) e = all_keep p h cs e
all_keep p h (AProtocol q ∷ cs) e = all_keep p h cs e
all_keep p h (AData d ∷ cs) e = all_keep p h cs e
all_keep p h (AnActor a ∷ cs) e =
    let both = and_both (rules.class_is_plain a) (list_all (rules.of_actor rules.class_is_plain) cs) e in
    ap (λ b. b && list_all (rules.of_actor p) cs) (h a both.0) ∙ all_keep p h cs both.1

no_base : (a : ActorTree) → rules.class_is_plain a ≡ true → a.base ≡ None
no_base a e = (plain_parts a.base (option_map_or rules.is_plain (chart_of a) true) e).0

plain_chart : (a : ActorTree) → rules.class_is_plain a ≡ true → option_map_or rules.is_plain (chart_of a) true ≡ true
plain_chart a e = (plain_parts a.base (option_map_or rules.is_plain (chart_of a) true) e).1

no_base_in : (classes : List ClassTree) (a : ActorTree) → rules.class_is_plain a ≡ true → base_in classes a ≡ None
no_base_in classes a e = ap (λ o. option_and_then (actor_at classes) (option_and_then (number_in (map class_name classes)) o)) (no_base a e)

known_base : (classes : List ClassTree) (a : ActorTree) → rules.class_is_plain a ≡ true → rules.has_known_base classes a ≡ true
known_base classes a e = ap (λ (o : Option (List ℕ)). if is_some o then is_some (base_in classes a) else true) (no_base a e)

stands_right : (a : ActorTree) → rules.class_is_plain a ≡ true → rules.refines_rightly a ≡ true
stands_right a e = ap (λ (o : Option (List ℕ)). option_map_or (if is_some o then rules.is_plain_inside else rules.is_plain) (chart_of a) true) (no_base a e) ∙ plain_chart a e

known_names : (classes : List ClassTree) (a : ActorTree) → rules.class_is_plain a ≡ true → rules.names_known classes a ≡ true
known_names classes a e = ap (λ o. option_map_or (λ b. refines_known (flat_actor classes b) a) o true) (no_base_in classes a e)

once : (a : ActorTree) → rules.class_is_plain a ≡ true → refines_once a ≡ true
unfolding once_of
once a e = ap once_of (none_in_chart (chart_of a) (plain_chart a e))

-- ---- no circles

none_extended : (classes cs : List ClassTree) → list_all (rules.of_actor rules.class_is_plain) cs ≡ true → (n : ℕ) (all : List (List ℕ)) → list_any (list_any (has_chain n all)) (map (rules.extended classes) cs) ≡ false
none_extended classes [] e n all = refl
none_extended classes (ASystem s ∷ cs) e n all = none_extended classes cs e n all
none_extended classes (ASubsystem s ∷ cs) e n all = none_extended classes cs e n all
none_extended classes (AProtocol q ∷ cs) e n all = none_extended classes cs e n all
none_extended classes (AData d ∷ cs) e n all = none_extended classes cs e n all
none_extended classes (AnActor a ∷ cs) e n all =
    let both = and_both (rules.class_is_plain a) (list_all (rules.of_actor rules.class_is_plain) cs) e in
    ap (λ o. list_any (list_any (has_chain n all)) (option_to_list (option_and_then (number_in (map class_name classes)) o) ∷ map (rules.extended classes) cs)) (no_base a both.0) ∙ none_extended classes cs both.1 n all

no_circle : (m : ModelTree) → rules.extends_nothing m ≡ true → rules.none_extends_itself m ≡ true
unfolding rules.extends_nothing rules.none_extends_itself contains_itself
no_circle m e = ap not (none_extended m.classes m.classes e (length (map (rules.extended m.classes) m.classes)) (map (rules.extended m.classes) m.classes))

-- ---- the model

pub plain_keeps : (m : ModelTree) → rules.extends_nothing m ≡ true → rules.lowest_broken m ≡ size_rule m
unfolding rules.extends_nothing rules.bases_are_known rules.refinements_stand_right rules.refinements_are_known rules.refinements_differ
plain_keeps m e =
    let known : rules.bases_are_known m ≡ true = all_keep (rules.has_known_base m.classes) (known_base m.classes) m.classes e in
    let circle : rules.none_extends_itself m ≡ true = no_circle m e in
    let right : rules.refinements_stand_right m ≡ true = all_keep rules.refines_rightly stands_right m.classes e in
    let names : rules.refinements_are_known m ≡ true = all_keep (rules.names_known m.classes) (known_names m.classes) m.classes e in
    let differ : rules.refinements_differ m ≡ true = all_keep refines_once once m.classes e in
    rw (known, circle, right, names, differ)

flat_itself : (classes : List ClassTree) (a : ActorTree) → rules.class_is_plain a ≡ true → flat_actor classes a ≡ a
unfolding flat_actor
flat_itself classes a e = go (length classes)
  where
    go : (n : ℕ) → flat_with n classes a ≡ a
    go zero = refl
    go (suc n) = ap (λ o. over_base a (option_map (flat_with n classes) o)) (no_base_in classes a e)

flat_all : (classes cs : List ClassTree) → list_all (rules.of_actor rules.class_is_plain) cs ≡ true → map (flat_class classes) cs ≡ cs
flat_all classes [] e = refl
flat_all classes (ASystem s ∷ cs) e = ap (λ xs. ASystem s ∷ xs) (flat_all classes cs e)
flat_all classes (ASubsystem s ∷ cs) e = ap (λ xs. ASubsystem s ∷ xs) (flat_all classes cs e)
flat_all classes (AProtocol q ∷ cs) e = ap (λ xs. AProtocol q ∷ xs) (flat_all classes cs e)
flat_all classes (AData d ∷ cs) e = ap (λ xs. AData d ∷ xs) (flat_all classes cs e)
flat_all classes (AnActor a ∷ cs) e =
    let both = and_both (rules.class_is_plain a) (list_all (rules.of_actor rules.class_is_plain) cs) e in
    ap (λ b. AnActor b ∷ map (flat_class classes) cs) (flat_itself classes a both.0) ∙ ap (λ xs. AnActor a ∷ xs) (flat_all classes cs both.1)

pub plain_is_flat : (m : ModelTree) → rules.extends_nothing m ≡ true → m ≡ flat m
unfolding rules.extends_nothing
plain_is_flat m e = ap (λ cs. record m { classes = cs }) (sym (flat_all m.classes m.classes e))
