-- Where no actor class of a model contains itself, no class of its structure does.
use Rattle.std.proofs.Common.{◌≡◌, ◌∙◌, ℕ, ◌≤◌, Bool, true, false, not, List, [], ◌∷◌, length, map, unwrap_or, option_and_then, filter_map, refl, sym, ap, arith}
use Rattle.std.specs.List.{list_all}
use Rattle.std.proofs.lemmas.Bool.{and_parts}
use Rattle.std.specs.List.{cons_option}
use Rattle.name_tables.specs.name_numbers.Names.{is_among}
use Rattle.room_ast.specs.Trees.{ModelTree, ClassTree, ASystem, ASubsystem, AnActor, AProtocol, AData, ActorTree}
use Rattle.room_ast.specs.declared.actor.ActorRef.{ActorRef}
use Rattle.room_ast.specs.declared.actor.StructureItem.{StructureItem}
use Rattle.room_ast.specs.declared.actor.StructureItem.TheVariants as structures
use Rattle.room_ast.specs.model_parts.Classes.{number_in, as_actor, actors, actor_names, protocol_names}
use Rattle.room_ast.specs.model_parts.Ports.{structure_of}
use Rattle.room_ast.specs.model_parts.References.{references_in, reference_entry}
use Rattle.number_graphs.specs.class_containment.Containment.{contains_itself}
use Rattle.check_tables.specs.class_tables.Containers.{tables_of, actor_container, actor_containers}
use Rattle.check_tables.specs.declared.class_tables.container.Container.{Container}
use Rattle.check_classes.specs.class_rules.Ends.{structure_has_class, references_have_classes, has_known_actors}
use Rattle.check_tables.specs.containment_rules.Circles.{class_of_reference, classes_of_container, actors_are_finite}
use Rattle.check_mappings.specs.count_rules.Counts.{has_few_parts}
use Rattle.wiring_plan.specs.structure_plan.Parts.{short, reference_plan}
use Rattle.wiring_plan.specs.structure_plan.Plans.{actor_plan, plan_of}
use Rattle.wiring_plan.specs.declared.structure_plan.plan.ClassPlan.{ClassPlan}
use Rattle.wiring_plan.specs.declared.structure_plan.plan.ReferencePlan.{ReferencePlan}
use Rattle.wiring_joins.specs.slot_references.Referred.{reference_classes, IsFinite}
use Rattle.binding_expand.proofs.plan_laws.Numbers.{number_found, class_is, names_few}

module _ (names : List (List ℕ)) (few : length names ≤ 60000) where
  -- the classes of references by number, kept in 16 bits, and as the rule sees them
  abbrev kept : List ActorRef → List ℕ
  kept rs = map (λ (r : ReferencePlan). r.class) (map reference_plan (map (reference_entry names) rs))

  abbrev seen : List ActorRef → List ℕ
  seen rs = filter_map class_of_reference (map (reference_entry names) rs)

  one_more : (r : ActorRef) (rs : List ActorRef) → is_among names r.class ≡ true → kept rs ≡ seen rs → kept (r ∷ rs) ≡ seen (r ∷ rs)
  one_more r rs among rest =
      let found = number_found names r.class among in
      let lt = found.2 in
      let class : unwrap_or (option_and_then short (number_in names r.class)) 0 ≡ found.0 = class_is (number_in names r.class) found.0 found.1 (omega (arith, lt, few)) in
      ap (λ n. n ∷ kept rs) class ∙ ap (λ ns. found.0 ∷ ns) rest ∙ ap (λ o. cons_option o (seen rs)) (sym found.1)

  same_classes : (is : List StructureItem) → list_all (structure_has_class names) is ≡ true → kept (references_in is) ≡ seen (references_in is)
  same_classes [] h = refl
  same_classes (structures.Usercode u ∷ is) h = same_classes is h
  same_classes (structures.External e ∷ is) h = same_classes is h
  same_classes (structures.Port p ∷ is) h = same_classes is h
  same_classes (structures.Access s ∷ is) h = same_classes is h
  same_classes (structures.Implementation i ∷ is) h = same_classes is h
  same_classes (structures.Attribute a ∷ is) h = same_classes is h
  same_classes (structures.Reference r ∷ is) h =
      let rest = list_all (structure_has_class names) is in
      one_more r (references_in is) (and_parts (is_among names r.class) rest h).0 (same_classes is (and_parts (is_among names r.class) rest h).1)
  same_classes (structures.Binding b ∷ is) h = same_classes is h
  same_classes (structures.Layer l ∷ is) h = same_classes is h

  module _ (protocols : List (List ℕ)) (all : List Container) where
    abbrev made : ActorTree → ClassPlan
    made a = actor_plan all (actor_container protocols names a) (structure_of a)

    same_parts : (ks : List ClassTree) → list_all (references_have_classes names) ks ≡ true → map reference_classes (map made (filter_map as_actor ks)) ≡ map classes_of_container (map (actor_container protocols names) (filter_map as_actor ks))
    same_parts [] h = refl
    same_parts (ASystem s ∷ ks) h = same_parts ks h
    same_parts (ASubsystem s ∷ ks) h = same_parts ks (and_parts (references_have_classes names (ASubsystem s)) (list_all (references_have_classes names) ks) h).1
    same_parts (AnActor a ∷ ks) h =
        let rest = list_all (references_have_classes names) ks in
        let here = same_classes (structure_of a) (and_parts (references_have_classes names (AnActor a)) rest h).0 in
        ap (λ ns. ns ∷ map reference_classes (map made (filter_map as_actor ks))) here ∙ ap (λ nss. seen (references_in (structure_of a)) ∷ nss) (same_parts ks (and_parts (references_have_classes names (AnActor a)) rest h).1)
    same_parts (AProtocol p ∷ ks) h = same_parts ks h
    same_parts (AData d ∷ ks) h = same_parts ks h

false_from : (b : Bool) → not b ≡ true → b ≡ false
false_from true h = absurd cc
false_from false h = refl

pub finite_plan : (m : ModelTree) → has_known_actors m ≡ true → actors_are_finite m ≡ true → has_few_parts m ≡ true → IsFinite (plan_of m)
unfolding has_known_actors actors_are_finite actor_containers plan_of
finite_plan m known finite few =
    let parts = same_parts (actor_names m) (names_few m few) (protocol_names m) (tables_of m).actors m.classes known in
    ap contains_itself parts ∙ false_from (contains_itself (map classes_of_container (map (actor_container (protocol_names m) (actor_names m)) (actors m)))) finite
