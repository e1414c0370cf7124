-- The references of actor classes, by number, and a rank that falls along them.
use Rattle.std.specs.Prelude.{◌≡◌, ℕ, zero, suc, ◌<◌, ◌≤◌, true, List, map, length, if◌then◌else◌}
use Rattle.room_ast.specs.Trees.{ModelTree}
use Rattle.room_ast.specs.model_parts.Classes.{actors, actor_names, protocol_names}
use Rattle.check_tables.specs.class_tables.Containers.{actor_containers}
use Rattle.number_graphs.specs.class_containment.Containment.{has_part, has_chain, NoneContainsItself}
use Rattle.check_tables.specs.containment_rules.Circles.{classes_of_container}

-- The actor classes of the references of each actor class, by number.
abbrev pub reference_classes : ModelTree → List (List ℕ)
reference_classes m = map classes_of_container (actor_containers (protocol_names m) (actor_names m) m.classes)

-- How many steps the longest chain of parts has that begins at a class, where so many are looked for.
abbrev pub longest_chain : ℕ → List (List ℕ) → ℕ → ℕ
longest_chain zero classes i = 0
longest_chain (suc n) classes i = if has_chain (suc n) classes i then suc n else longest_chain n classes i

-- The rank of an actor class: how many steps the longest chain of references has that begins there.
unfoldable pub class_rank : ModelTree → ℕ → ℕ
class_rank m i = longest_chain (length (reference_classes m)) (reference_classes m) i

-- The references of actor classes lead to lower ranks, so that no actor class contains itself.
pub record ReferencesFall (m : ModelTree) : Type 0 where
  -- the class of each reference has a lower rank than the class in which it stands
  pub falls : (i j : ℕ) → has_part (reference_classes m) i j ≡ true → class_rank m j < class_rank m i
  -- no rank is above the number of actor classes
  pub few : (i : ℕ) → class_rank m i ≤ length (actors m)
  -- no actor class contains itself
  pub none : NoneContainsItself (reference_classes m)
