-- A mapping without where it lies in memory.
use Rattle.std.specs.Prelude.{ℕ, List, [], ◌∷◌, map, Option, Some, None}
use Rattle.std.specs.Global.{Vec}
use Rattle.room_ast.specs.declared.system.Mapping.{Mapping}
use Rattle.room_ast.specs.declared.system.Mapping.TheFolds.{fold-Mapping}
use Rattle.room_ast.specs.declared.system.Mapping.TheOpen.{Mapping-F}
use Rattle.room_ast.specs.declared.system.MappingPath.{MappingPath}

mutual
  -- a path, a thread and the mappings nested in it
  pub data MappingTree : Type 0 where
    MappingOf : MappingPath → List ℕ → NestedTree → MappingTree

  pub data NestedTree : Type 0 where
    no_braces : NestedTree
    in_braces : Mappings → NestedTree

  pub data Mappings : Type 0 where
    no_mappings : Mappings
    mapping : MappingTree → Mappings → Mappings

abbrev pub mappings_of : List MappingTree → Mappings
mappings_of [] = no_mappings
mappings_of (m ∷ ms) = mapping m (mappings_of ms)

abbrev pub nested_of : Option (Vec MappingTree) → NestedTree
nested_of None = no_braces
nested_of (Some v) = in_braces (mappings_of v.items)

abbrev pub mapping_step : Mapping-F MappingTree → MappingTree
mapping_step m = MappingOf m.path m.thread (nested_of m.nested)

abbrev pub mapping_view : Mapping → MappingTree
mapping_view = fold-Mapping MappingTree mapping_step

abbrev pub mapping_views : List Mapping → List MappingTree
mapping_views ms = map mapping_view ms
