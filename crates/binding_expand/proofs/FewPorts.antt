-- In a model within the limits each class has few ports.
use Rattle.std.proofs.Common.{◌≡◌, ℕ, zero, suc, ◌≤◌, Bool, true, false, List, [], ◌∷◌, length, map, refl, arith}
use Rattle.std.specs.Prelude.{◌&&◌, nat_le, slice_index_or}
use Rattle.std.specs.List.{list_all}
use Rattle.std.proofs.lemmas.Bool.Decides.{nat_tests}
use Rattle.std.proofs.lemmas.List.{length-map}
use Rattle.room_ast.specs.Trees.{ModelTree, ActorTree}
use Rattle.room_ast.specs.model_parts.Classes.{actors, actor_names, protocol_names}
use Rattle.room_ast.specs.model_parts.Ports.{structure_of}
use Rattle.check_tables.specs.class_tables.Containers.{actor_container, actor_containers, class_names, tables_of, tables_with}
use Rattle.check_tables.specs.declared.class_tables.container.Container.{Container}
use Rattle.check_mappings.specs.count_rules.Counts.{has_few_parts}
use Rattle.check_scopes.specs.class_scopes.Making.{entries_few}
use Rattle.check_scopes.proofs.class_scopes.ScopeLaws.{ports_few}
use Rattle.wiring_plan.specs.structure_plan.Parts.{port_plan}
use Rattle.wiring_plan.specs.structure_plan.Plans.{actor_plan, plan_of}
use Rattle.wiring_places.specs.place_rules.Parts.{HasFewPorts, no_class}

left_of : (a b : Bool) → (a && b) ≡ true → a ≡ true
left_of true b h = refl
left_of false b h = absurd cc

right_of : (a b : Bool) → (a && b) ≡ true → b ≡ true
right_of true b h = h
right_of false b h = absurd cc

few_number : (n : ℕ) → nat_le n 60001 ≡ true → n ≤ 65535
few_number n h = grind (arith, nat_tests)

module _ (all : List Container) (of : ActorTree → Container) where
  few_at : (xs : List ActorTree) → list_all entries_few (map of xs) ≡ true → (n : ℕ) → length (slice_index_or (map (λ (a : ActorTree). actor_plan all (of a) (structure_of a)) xs) n no_class).ports ≤ 65535
  few_at [] h zero = omega arith
  few_at [] h (suc n) = omega arith
  few_at (a ∷ xs) h zero = omega (arith, length-map (of a).ports port_plan, few_number (length (of a).ports) (left_of (entries_few (of a)) (list_all entries_few (map of xs)) h))
  few_at (a ∷ xs) h (suc n) = few_at xs (right_of (entries_few (of a)) (list_all entries_few (map of xs)) h) n

pub has_few_ports : (m : ModelTree) → has_few_parts m ≡ true → HasFewPorts (plan_of m)
unfolding plan_of class_names tables_with actor_containers
has_few_ports m e = few_at (tables_of m).actors (actor_container (protocol_names m) (actor_names m)) (actors m) (ports_few m (tables_of m) (tables_of m).actors refl refl e)
