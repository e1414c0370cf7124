-- The rules on mappings.
use Rattle.std.specs.Prelude.{ℕ, ◌&&◌, Bool, true, false, not, List, [], ◌∷◌, ◌++◌, map, Option, Some, None, decimal}
use Rattle.std.specs.List.{filter_map, flat_map, list_all}
use Rattle.std.specs.Option.{option_map_or}
use Rattle.name_tables.specs.name_numbers.Names.{is_among}
use Rattle.name_tables.specs.distinct_names.Distinct.{is_distinct}
use Rattle.room_ast.specs.MappingTree.{MappingTree, MappingOf, no_braces, in_braces, Mappings, no_mappings, mapping}
use Rattle.room_ast.specs.Trees.{ModelTree, ClassTree, SubsystemTree, SubsystemItemTree, AReference, ABinding, ALayer, AThread, AMapping}
use Rattle.room_ast.specs.declared.system.MappingPath.{MappingPath}
use Rattle.room_ast.specs.declared.system.Segment.{Segment}
use Rattle.room_ast.specs.model_parts.Classes.{as_subsystem}
use Rattle.check_tables.specs.class_tables.Containers.{container_of_items, tables_of}
use Rattle.check_tables.specs.declared.class_tables.container.Container.{Container}
use Rattle.room_kinds.specs.declared.structure.ReferenceKind.{ReferenceKind}
use Rattle.room_kinds.specs.declared.structure.ReferenceKind.TheVariants as kinds
use Rattle.check_mappings.specs.mapping_rules.Walks.{Place, top, path_end}

-- The name of a thread that an item declares.
abbrev pub thread_name : SubsystemItemTree → Option (List ℕ)
thread_name (AReference r) = None
thread_name (ABinding b) = None
thread_name (ALayer l) = None
thread_name (AThread t) = Some t.name
thread_name (AMapping m) = None

-- The names of a subsystem's threads.
abbrev pub thread_names : List SubsystemItemTree → List (List ℕ)
thread_names items = filter_map thread_name items

-- ---- each mapping names a path that exists, and a thread

abbrev mutual
  -- Whether a mapping's path exists from here on, its name is that of a thread, and so are those in its braces.
  pub is_known : List Container → List (List ℕ) → Place → MappingTree → Bool
  is_known classes threads p (MappingOf path thread no_braces) = is_among threads thread && option_map_or (λ (q : Place). true) (path_end classes p path) false
  is_known classes threads p (MappingOf path thread (in_braces ms)) = is_among threads thread && option_map_or (λ (q : Place). all_known classes threads q ms) (path_end classes p path) false

  pub all_known : List Container → List (List ℕ) → Place → Mappings → Bool
  all_known classes threads q no_mappings = true
  all_known classes threads q (mapping m ms) = is_known classes threads q m && all_known classes threads q ms

-- Whether what an item of a subsystem maps is known.
abbrev pub item_known : List Container → List (List ℕ) → Place → SubsystemItemTree → Bool
item_known classes threads p (AReference r) = true
item_known classes threads p (ABinding b) = true
item_known classes threads p (ALayer l) = true
item_known classes threads p (AThread t) = true
item_known classes threads p (AMapping m) = is_known classes threads p m

abbrev pub items_known : List Container → List (List ℕ) → Place → List SubsystemItemTree → Bool
items_known classes threads p items = list_all (item_known classes threads p) items

-- What a subsystem's items are, and what it knows of its references.
pub record Wired : Type 0 where
  pub items : List SubsystemItemTree
  pub container : Container

abbrev pub wired : List (List ℕ) → SubsystemTree → Wired
wired actors s = record { items = s.items; container = container_of_items actors s.items }

-- The subsystem classes among classes. The first argument is the names of the actor classes.
abbrev pub wired_in : List (List ℕ) → List ClassTree → List Wired
wired_in actors classes = map (wired actors) (filter_map as_subsystem classes)

-- Whether each mapping of a subsystem names a path that exists and a thread.
abbrev pub subsystem_known : List Container → Wired → Bool
subsystem_known classes s = items_known classes (thread_names s.items) (top s.container) s.items

-- Every mapping names a reference path that exists, with indexes in range, and a thread.
unfoldable pub mappings_are_known : ModelTree → Bool
mappings_are_known m = list_all (subsystem_known (tables_of m).actors) (wired_in (tables_of m).names.actors m.classes)

-- ---- no path is mapped twice

-- The text of a segment: its name, and `:` with its index.
abbrev pub segment_text : Segment → List ℕ
segment_text s = s.name ++ option_map_or (λ i. 58 ∷ decimal i) s.index []

-- A segment that goes on.
abbrev pub further : Segment → List ℕ
further s = 47 ∷ segment_text s

-- The text of a path that goes on: each segment behind a `/`.
abbrev pub path_text : MappingPath → List ℕ
path_text path = flat_map further (path.first ∷ path.others)

abbrev mutual
  -- The whole paths of the mappings in a mapping's braces, and then its own, behind what leads to it.
  pub texts_of : List ℕ → MappingTree → List (List ℕ)
  texts_of before (MappingOf path thread no_braces) = (before ++ path_text path) ∷ []
  texts_of before (MappingOf path thread (in_braces ms)) = all_texts (before ++ path_text path) ms ++ (before ++ path_text path) ∷ []

  pub all_texts : List ℕ → Mappings → List (List ℕ)
  all_texts before no_mappings = []
  all_texts before (mapping m ms) = texts_of before m ++ all_texts before ms

abbrev pub item_texts : SubsystemItemTree → List (List ℕ)
item_texts (AReference r) = []
item_texts (ABinding b) = []
item_texts (ALayer l) = []
item_texts (AThread t) = []
item_texts (AMapping m) = texts_of [] m

-- The whole paths that a subsystem maps, as written; a `/` at the front and braces make no difference.
abbrev pub mapped_texts : List SubsystemItemTree → List (List ℕ)
mapped_texts items = flat_map item_texts items

-- No path is mapped twice.
unfoldable pub mappings_are_distinct : ModelTree → Bool
mappings_are_distinct m = list_all (λ (s : Wired). is_distinct (mapped_texts s.items)) (wired_in (tables_of m).names.actors m.classes)

-- ---- no mapped path ends at an imported reference; one that goes strictly below an optional reference ends at a fixed one

-- Whether a mapped path may end with a reference of this kind, below an optional reference or not.
abbrev pub may_end_with : Bool → ReferenceKind → Bool
may_end_with below_optional kinds.Fixed = true
may_end_with below_optional kinds.Optional = not below_optional
may_end_with below_optional kinds.Imported = false

abbrev pub may_end_at : Place → Bool
may_end_at q = option_map_or (may_end_with q.below_optional) q.kind true

abbrev mutual
  -- Whether a mapping's path, where it exists, may be mapped, and so may those in its braces.
  pub is_allowed : List Container → Place → MappingTree → Bool
  is_allowed classes p (MappingOf path thread no_braces) = option_map_or may_end_at (path_end classes p path) true
  is_allowed classes p (MappingOf path thread (in_braces ms)) = option_map_or (λ (q : Place). may_end_at q && all_allowed classes q ms) (path_end classes p path) true

  pub all_allowed : List Container → Place → Mappings → Bool
  all_allowed classes q no_mappings = true
  all_allowed classes q (mapping m ms) = is_allowed classes q m && all_allowed classes q ms

abbrev pub item_allowed : List Container → Place → SubsystemItemTree → Bool
item_allowed classes p (AReference r) = true
item_allowed classes p (ABinding b) = true
item_allowed classes p (ALayer l) = true
item_allowed classes p (AThread t) = true
item_allowed classes p (AMapping m) = is_allowed classes p m

abbrev pub items_allowed : List Container → Place → List SubsystemItemTree → Bool
items_allowed classes p items = list_all (item_allowed classes p) items

abbrev pub subsystem_allowed : List Container → Wired → Bool
subsystem_allowed classes s = items_allowed classes (top s.container) s.items

-- No mapped path ends at an imported reference, and one that goes strictly below an optional reference ends at a fixed one.
unfoldable pub mappings_are_allowed : ModelTree → Bool
mappings_are_allowed m = list_all (subsystem_allowed (tables_of m).actors) (wired_in (tables_of m).names.actors m.classes)
