-- The structure of a model that keeps the rules.
use Rattle.std.proofs.Common.{◌≡◌, ◌∙◌, ℕ, zero, suc, Bool, true, false, cond, List, [], ◌∷◌, map, Option, Some, None, slice_get, slice_index_or, All, refl, sym, ap, arith}
use Rattle.std.specs.List.{list_all}
use Rattle.std.proofs.lemmas.Bool.{and_parts}
use Rattle.std.specs.Option.{option_map_or}
use Rattle.std.proofs.lemmas.Option.{same_Some, slice_get_within}
use Rattle.std.proofs.lemmas.List.{length-map}
use Rattle.std.proofs.lemmas.List.Elements.{All-nil, All-cons}
use Rattle.name_tables.specs.name_numbers.Names.{same}
use Rattle.room_ast.specs.Trees.{ModelTree, ActorTree, SubsystemTree}
use Rattle.room_ast.specs.model_parts.Classes.{actors, subsystems, systems, wired_name, actor_names, protocol_names}
use Rattle.room_ast.specs.model_parts.Ports.{structure_of}
use Rattle.check_tables.specs.class_tables.Containers.{tables_of, tables_with, class_names, actor_containers, actor_container, subsystem_container}
use Rattle.check_tables.specs.declared.class_tables.container.Container.{Container}
use Rattle.check_bindings.specs.binding_rules.Layers.{layer_is_known}
use Rattle.check_bindings.specs.binding_rules.Rules.{actor_passes, subsystem_passes, layers_are_known}
use Rattle.check_classes.specs.class_rules.Ends.{has_known_actors}
use Rattle.check_tables.specs.containment_rules.Circles.{actors_are_finite}
use Rattle.check_mappings.specs.count_rules.Counts.{has_few_parts}
use Rattle.wiring_places.specs.place_rules.Parts.{no_class}
use Rattle.wiring_plan.specs.structure_plan.Parts.{port_plan}
use Rattle.wiring_plan.specs.structure_plan.Plans.{actor_plan, subsystem_plan, no_plan, wired_subsystem, plan_of}
use Rattle.wiring_plan.specs.structure_plan.Steps.{first_named}
use Rattle.wiring_plan.specs.declared.structure_plan.plan.ClassPlan.{ClassPlan}
use Rattle.wiring_plan.specs.declared.structure_plan.plan.StructurePlan.{StructurePlan}
use Rattle.wiring_joins.specs.place_faces.SlotsOf.{GivesService}
use Rattle.binding_expand.specs.plan_laws.Sound.{GivesServices, IsSound}
use Rattle.binding_expand.proofs.plan_laws.Numbers.{actors_few}
use Rattle.binding_expand.proofs.plan_laws.Finite.{finite_plan}
use Rattle.binding_expand.proofs.plan_laws.Services.{HasPorts, items_give, subsystem_items_give}

tables_are : (m : ModelTree) → (tables_of m).actors ≡ map (actor_container (protocol_names m) (actor_names m)) (actors m)
unfolding tables_with class_names actor_containers
tables_are m = refl

module _ (names protocols : List (List ℕ)) (all : List Container) where
  abbrev made : ActorTree → ClassPlan
  made a = actor_plan all (actor_container protocols names a) (structure_of a)

  made_ports : (rest : List ActorTree) (i : ℕ) (k : Container) → slice_get (map (actor_container protocols names) rest) i ≡ Some k → (slice_index_or (map made rest) i no_class).ports ≡ map port_plan k.ports
  made_ports [] i k e = absurd cc
  made_ports (a ∷ rest) zero k e = ap (λ (c : Container). map port_plan c.ports) (same_Some (actor_container protocols names a) k e)
  made_ports (a ∷ rest) (suc i) k e = made_ports rest i k e

  module _ (plan : StructurePlan) (has : HasPorts all plan) where
    abbrev actor_test : ActorTree → Bool
    actor_test a = actor_passes (λ c b. true) (layer_is_known all) (actor_container protocols names a) a

    classes_give : (rest : List ActorTree) → list_all actor_test rest ≡ true → All (GivesServices plan) (map made rest)
    classes_give [] h = All-nil (GivesServices plan)
    classes_give (a ∷ rest) h =
        All-cons (GivesServices plan) (made a) (map made rest) (items_give all plan has (actor_container protocols names a) (made a) refl (structure_of a) (and_parts (actor_test a) (list_all actor_test rest) h).0)
        (classes_give rest (and_parts (actor_test a) (list_all actor_test rest) h).1)

    abbrev subsystem_test : SubsystemTree → Bool
    subsystem_test s = subsystem_passes (λ c b. true) (layer_is_known all) (subsystem_container names s) s

    abbrev made_subsystem : Option SubsystemTree → ClassPlan
    made_subsystem o = option_map_or (λ (s : SubsystemTree). subsystem_plan all (subsystem_container names s) s.items) o no_plan

    one_subsystem : (s : SubsystemTree) (rest : Option SubsystemTree) (b : Bool) → subsystem_test s ≡ true → GivesServices plan (made_subsystem rest) → GivesServices plan (made_subsystem (cond b (Some s) rest))
    one_subsystem s rest true h more = subsystem_items_give all plan has (subsystem_container names s) (made_subsystem (Some s)) refl s.items h
    one_subsystem s rest false h more = more

    named_gives : (name : List ℕ) (ss : List SubsystemTree) → list_all subsystem_test ss ≡ true → GivesServices plan (made_subsystem (first_named name ss))
    named_gives name [] h = All-nil (GivesService plan no_plan)
    named_gives name (s ∷ ss) h =
        one_subsystem s (first_named name ss) (same name s.name) (and_parts (subsystem_test s) (list_all subsystem_test ss) h).0 (named_gives name ss (and_parts (subsystem_test s) (list_all subsystem_test ss) h).1)

    wired_gives : (ss : List SubsystemTree) (name : Option (List ℕ)) → list_all subsystem_test ss ≡ true → GivesServices plan (made_subsystem (option_map_or (λ n. first_named n ss) name None))
    wired_gives ss None h = All-nil (GivesService plan no_plan)
    wired_gives ss (Some n) h = named_gives n ss h

subsystem_ports : (m : ModelTree) → (plan_of m).subsystem.ports ≡ []
unfolding plan_of
subsystem_ports m = go (wired_subsystem m)
  where
    go : (o : Option SubsystemTree) → (option_map_or (λ (s : SubsystemTree). subsystem_plan (tables_of m).actors (subsystem_container (actor_names m) s) s.items) o no_plan).ports ≡ []
    go None = refl
    go (Some s) = refl

has_ports : (m : ModelTree) → has_few_parts m ≡ true → HasPorts (tables_of m).actors (plan_of m)
unfolding plan_of
has_ports m few i k e =
    let at : slice_get (map (actor_container (protocol_names m) (actor_names m)) (actors m)) i ≡ Some k = ap (λ cs. slice_get cs i) (sym (tables_are m)) ∙ e in
    let lt = slice_get_within (map (actor_container (protocol_names m) (actor_names m)) (actors m)) i k at in
    let long = length-map (actors m) (actor_container (protocol_names m) (actor_names m)) in
    let most = actors_few m few in
    (omega (arith, lt, long, most), made_ports (actor_names m) (protocol_names m) (tables_of m).actors (actors m) i k at)

pub sound_plan : (m : ModelTree) → has_known_actors m ≡ true → actors_are_finite m ≡ true → layers_are_known m ≡ true → has_few_parts m ≡ true → IsSound (plan_of m)
unfolding layers_are_known plan_of
sound_plan m known finite layers few =
    let all = (tables_of m).actors in
    let names = actor_names m in
    let protocols = protocol_names m in
    let has = has_ports m few in
    let actors_pass = list_all (λ (a : ActorTree). actor_passes (λ c b. true) (layer_is_known all) (actor_container protocols names a) a) (actors m) in
    let subsystems_pass = list_all (λ (s : SubsystemTree). subsystem_passes (λ c b. true) (layer_is_known all) (subsystem_container names s) s) (subsystems m) in
    record {
      finite = finite_plan m known finite few;
      no_ports = subsystem_ports m;
      classes = classes_give names protocols all (plan_of m) has (actors m) (and_parts actors_pass subsystems_pass layers).0;
      subsystem = wired_gives names protocols all (plan_of m) has (subsystems m) (wired_name (systems m)) (and_parts actors_pass subsystems_pass layers).1;
    }
