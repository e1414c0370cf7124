-- The classes of a model with few parts have few ports, and so have its slots.
use Rattle.std.proofs.Common.{◌≡◌, ℕ, zero, suc, ◌≤◌, true, List, [], ◌∷◌, length, map, Option, Some, None, slice_get, refl, sym, subst, arith}
use Rattle.std.specs.Prelude.{nat_le, option_and_then}
use Rattle.std.specs.List.{list_all}
use Rattle.std.specs.Option.{option_map_or}
use Rattle.std.proofs.lemmas.Bool.Decides.{nat_tests}
use Rattle.room_ast.specs.Trees.{ModelTree, ActorTree}
use Rattle.room_wiring.specs.declared.names.ClassNames.{ClassNames}
use Rattle.room_wiring.specs.declared.slot.Slot.{Slot}
use Rattle.room_wiring.specs.declared.tables.Tables.{Tables}
use Rattle.room_wiring.specs.Places.{port_count}
use Rattle.room_wiring.specs.Slots.{class_at, class_of, slot_at}
use Rattle.room_ast.specs.model_parts.Classes.{actors, actor_names, protocol_names}
use Rattle.check_tables.specs.class_tables.Containers.{actor_container, actor_containers, tables_of, tables_with, class_names as names_of_classes}
use Rattle.check_scopes.specs.class_scopes.Making.{entries_few}
use Rattle.check_scopes.proofs.class_scopes.ScopeLaws.{both_true, ports_few}
use Rattle.check_mappings.specs.count_rules.Counts.{has_few_parts}
use Rattle.structure_check.specs.Rules.{first_broken}
use Rattle.structure_check.specs.List.{all_rules}
use Rattle.structure_check.proofs.KeptRules.{all_few}
use Rattle.wiring_plan.specs.wiring_classes.Parts.{named, port_names_of}
use Rattle.wiring_plan.specs.wiring_classes.Classes.{labelled_signals, ports_in, class_names, classes_of}
use Rattle.frame_service.specs.frame_imports.Numbered.{ArePortsNumbered}

-- how many ports a class has; none where there is no class
abbrev pub ports_of : Option ClassNames → ℕ
ports_of c = option_map_or (λ (k : ClassNames). length k.ports) c 0

-- names and entries make no more than there are entries
named_short : {X Y : Type 0} (make : List ℕ → X → Y) (ns : List (List ℕ)) (xs : List X) → length (named make ns xs) ≤ length xs
named_short make [] xs = omega arith
named_short make (n ∷ ns) [] = omega arith
named_short make (n ∷ ns) (x ∷ xs) = let rest = named_short make ns xs in omega (arith, rest)

few_numbered : (n k : ℕ) → n ≤ k → nat_le k 60001 ≡ true → n ≤ 65536
few_numbered n k le few = grind (arith, nat_tests)

module _ (m : ModelTree) where
  class_numbered : (a : ActorTree) → entries_few (actor_container (protocol_names m) (actor_names m) a) ≡ true → length (class_names m a).ports ≤ 65536
  unfolding class_names ports_in
  class_numbered a few =
      let c = actor_container (protocol_names m) (actor_names m) a in
      few_numbered (length (named (port_names_of (protocol_names m) (labelled_signals m)) c.port_names c.ports)) (length c.ports) (named_short (port_names_of (protocol_names m) (labelled_signals m)) c.port_names c.ports) few

  each_numbered : (xs : List ActorTree) (n : ℕ) → list_all entries_few (map (actor_container (protocol_names m) (actor_names m)) xs) ≡ true → ports_of (slice_get (map (class_names m) xs) n) ≤ 65536
  each_numbered [] n few = omega arith
  each_numbered (a ∷ xs) zero few = class_numbered a (both_true (entries_few (actor_container (protocol_names m) (actor_names m) a)) (list_all entries_few (map (actor_container (protocol_names m) (actor_names m)) xs)) few).0
  each_numbered (a ∷ xs) (suc n) few = each_numbered xs n (both_true (entries_few (actor_container (protocol_names m) (actor_names m) a)) (list_all entries_few (map (actor_container (protocol_names m) (actor_names m)) xs)) few).1

  containers_few : has_few_parts m ≡ true → list_all entries_few (map (actor_container (protocol_names m) (actor_names m)) (actors m)) ≡ true
  unfolding names_of_classes tables_with actor_containers
  containers_few few = ports_few m (tables_of m) (map (actor_container (protocol_names m) (actor_names m)) (actors m)) refl refl few

  classes_numbered : has_few_parts m ≡ true → (c : ℕ) → ports_of (slice_get (classes_of m) c) ≤ 65536
  unfolding classes_of
  classes_numbered few c = each_numbered (actors m) c (containers_few few)

-- each port of each slot has a number
pub model_numbered : (m : ModelTree) (t : Tables) → has_few_parts m ≡ true → t.classes ≡ classes_of m → ArePortsNumbered t
unfolding port_count class_of
model_numbered m t few same s = at (slot_at t s)
  where
    at : (o : Option Slot) → ports_of (option_and_then (λ (x : Slot). class_at t x.class) o) ≤ 65536
    at None = omega arith
    at (Some x) = subst (λ cs. ports_of (slice_get cs x.class) ≤ 65536) (sym same) (classes_numbered m few x.class)

pub checked_numbered : (m : ModelTree) (t : Tables) → first_broken all_rules m ≡ None → t.classes ≡ classes_of m → ArePortsNumbered t
checked_numbered m t kept same = model_numbered m t (all_few m kept) same
