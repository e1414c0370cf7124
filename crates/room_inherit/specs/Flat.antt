-- Actor classes and models without bases.
use Rattle.std.specs.Prelude.{ℕ, zero, suc, List, length, map, Option, Some, None, slice_get}
use Rattle.std.specs.Prelude.{option_map}
use Rattle.std.specs.Option.{option_and_then}
use Rattle.room_ast.specs.Trees.{ModelTree, ClassTree, ASystem, ASubsystem, AnActor, AProtocol, AData, ActorTree}
use Rattle.room_ast.specs.model_parts.Classes.{as_actor, class_name, number_in}
use Rattle.derived_classes.specs.Derived.{derived}

-- The number, among all classes, of the class that a class extends: the first of that name.
abbrev pub base_number : List ClassTree → ActorTree → Option ℕ
base_number classes a = option_and_then (number_in (map class_name classes)) a.base

-- The same for any class: only actor classes extend others.
abbrev pub number_above : List ClassTree → ClassTree → Option ℕ
number_above classes c = option_and_then (base_number classes) (as_actor c)

-- The actor class of a number, if the class of this number is one.
abbrev pub actor_at : List ClassTree → ℕ → Option ActorTree
actor_at classes k = option_and_then as_actor (slice_get classes k)

-- The actor class that a class extends.
abbrev pub base_in : List ClassTree → ActorTree → Option ActorTree
base_in classes a = option_and_then (actor_at classes) (base_number classes a)

abbrev pub over_base : ActorTree → Option ActorTree → ActorTree
over_base own None = own
over_base own (Some base) = derived base own

-- A class without its bases, where no more than so many stand above it.
abbrev pub flat_with : ℕ → List ClassTree → ActorTree → ActorTree
flat_with zero classes a = a
flat_with (suc n) classes a = over_base a (option_map (flat_with n classes) (base_in classes a))

-- A class without its bases. No more stand above it than there are classes, where no class extends itself.
unfoldable pub flat_actor : List ClassTree → ActorTree → ActorTree
flat_actor classes a = flat_with (length classes) classes a

abbrev pub flat_class : List ClassTree → ClassTree → ClassTree
flat_class classes (ASystem s) = ASystem s
flat_class classes (ASubsystem s) = ASubsystem s
flat_class classes (AnActor a) = AnActor (flat_actor classes a)
flat_class classes (AProtocol p) = AProtocol p
flat_class classes (AData d) = AData d

-- A model with each actor class replaced by its flat one, in its place.
abbrev pub flat : ModelTree → ModelTree
flat m = record m { classes = map (flat_class m.classes) m.classes }
