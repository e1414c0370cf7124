-- The names of a class have as many ports as its structure.
use Rattle.std.proofs.Common.{◌≡◌, ◌∙◌, ℕ, zero, suc, List, [], ◌∷◌, length, map, length-append, refl, sym, ap, arith}
use Rattle.std.specs.Prelude.{slice_get}
use Rattle.std.specs.List.{filter_map}
use Rattle.std.specs.Option.{option_map_or}
use Rattle.std.proofs.lemmas.List.{length-map}
use Rattle.room_ast.specs.Trees.{ModelTree, ActorTree}
use Rattle.room_ast.specs.declared.actor.InterfaceItem.{InterfaceItem}
use Rattle.room_ast.specs.declared.actor.StructureItem.{StructureItem}
use Rattle.room_ast.specs.declared.actor.StructureItem.TheVariants as structures
use Rattle.room_wiring.specs.declared.names.ClassNames.{ClassNames}
use Rattle.room_ast.specs.model_parts.Classes.{actors, actor_names, protocol_names}
use Rattle.room_ast.specs.model_parts.Ports.{structure_of, interface_of, structure_name, structure_entry, interface_name, interface_entry, external_name, names_in, ports_in as entries_in}
use Rattle.check_tables.specs.class_tables.Containers.{tables_of, actor_container}
use Rattle.wiring_plan.specs.structure_plan.Parts.{port_plan}
use Rattle.wiring_plan.specs.structure_plan.Plans.{actor_plan, plan_of}
use Rattle.wiring_plan.specs.declared.structure_plan.plan.ClassPlan.{ClassPlan}
use Rattle.wiring_plan.specs.wiring_classes.Parts.{named, port_names_of}
use Rattle.wiring_plan.specs.wiring_classes.Classes.{labelled_signals, ports_in, class_names, classes_of}

named_count : {X Y : Type 0} (make : List ℕ → X → Y) (ns : List (List ℕ)) (xs : List X) → length ns ≡ length xs → length (named make ns xs) ≡ length xs
named_count make [] [] e = refl
named_count make [] (x ∷ xs) e = absurd (omega (arith, e))
named_count make (n ∷ ns) [] e = absurd (omega (arith, e))
named_count make (n ∷ ns) (x ∷ xs) e = ap suc (named_count make ns xs (omega (arith, e)))

structure_count : (protocols : List (List ℕ)) (is : List StructureItem) → length (filter_map structure_name is) ≡ length (filter_map (structure_entry protocols) is)
structure_count protocols [] = refl
structure_count protocols (structures.Usercode u ∷ is) = structure_count protocols is
structure_count protocols (structures.External e ∷ is) = structure_count protocols is
structure_count protocols (structures.Port p ∷ is) = ap suc (structure_count protocols is)
structure_count protocols (structures.Access s ∷ is) = ap suc (structure_count protocols is)
structure_count protocols (structures.Implementation i ∷ is) = structure_count protocols is
structure_count protocols (structures.Attribute a ∷ is) = structure_count protocols is
structure_count protocols (structures.Reference r ∷ is) = structure_count protocols is
structure_count protocols (structures.Binding b ∷ is) = structure_count protocols is
structure_count protocols (structures.Layer l ∷ is) = structure_count protocols is

port_count : (protocols : List (List ℕ)) (interface : List InterfaceItem) (structure : List StructureItem) → length (names_in interface structure) ≡ length (entries_in protocols interface structure)
unfolding names_in entries_in
port_count protocols interface structure =
    let entry = interface_entry protocols (filter_map external_name structure) in
    let one = length-append (map interface_name interface) (filter_map structure_name structure) in
    let two = length-append (map entry interface) (filter_map (structure_entry protocols) structure) in
    let three = length-map interface interface_name in
    let four = length-map interface entry in
    let five = structure_count protocols structure in
    omega (arith, one, two, three, four, five)

class_count : (m : ModelTree) (a : ActorTree) → length (class_names m a).ports ≡ length (actor_plan (tables_of m).actors (actor_container (protocol_names m) (actor_names m) a) (structure_of a)).ports
unfolding class_names ports_in
class_count m a =
    let names = names_in (interface_of a) (structure_of a) in
    let entries = entries_in (protocol_names m) (interface_of a) (structure_of a) in
    named_count (port_names_of (protocol_names m) (labelled_signals m)) names entries (port_count (protocol_names m) (interface_of a) (structure_of a)) ∙ sym (length-map entries port_plan)

both_at : {X Y Z : Type 0} (f : X → Y) (g : X → Z) (count : Y → ℕ) (count' : Z → ℕ) → ((x : X) → count (f x) ≡ count' (g x)) → (xs : List X) (n : ℕ) → option_map_or count (slice_get (map f xs) n) 0 ≡ option_map_or count' (slice_get (map g xs) n) 0
both_at f g count count' e [] n = refl
both_at f g count count' e (x ∷ xs) zero = e x
both_at f g count count' e (x ∷ xs) (suc n) = both_at f g count count' e xs n

-- a class has the same number of ports by its names and by its structure
pub ports_counted : (m : ModelTree) (c : ℕ) → option_map_or (λ (k : ClassNames). length k.ports) (slice_get (classes_of m) c) 0 ≡ option_map_or (λ (k : ClassPlan). length k.ports) (slice_get (plan_of m).classes c) 0
unfolding classes_of plan_of
ports_counted m c =
    both_at (class_names m) (λ (a : ActorTree). actor_plan (tables_of m).actors (actor_container (protocol_names m) (actor_names m) a) (structure_of a)) (λ (k : ClassNames). length k.ports) (λ (k : ClassPlan). length k.ports) (class_count m) (actors m) c
