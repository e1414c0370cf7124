-- The references of actor classes and subsystem classes.
use Rattle.std.specs.Prelude.{ℕ, Bool, List, map, Option, Some, None, unwrap_or, is_some}
use Rattle.std.specs.List.{filter_map}
use Rattle.room_kinds.specs.declared.structure.ReferenceKind.{ReferenceKind}
use Rattle.room_kinds.specs.declared.structure.ReferenceKind.TheVariants as kinds
use Rattle.room_ast.specs.Trees.{ActorTree, SubsystemTree, SubsystemItemTree, AReference, ABinding, ALayer, AThread, AMapping}
use Rattle.room_ast.specs.declared.actor.ActorRef.{ActorRef}
use Rattle.room_ast.specs.declared.actor.StructureItem.{StructureItem}
use Rattle.room_ast.specs.declared.actor.StructureItem.TheVariants as structures
use Rattle.room_ast.specs.declared.model_parts.entries.ReferenceEntry.{ReferenceEntry}
use Rattle.room_ast.specs.model_parts.Classes.{number_in}
use Rattle.room_ast.specs.model_parts.Ports.{structure_of}

abbrev pub as_reference : StructureItem → Option ActorRef
as_reference (structures.Usercode u) = None
as_reference (structures.External e) = None
as_reference (structures.Port p) = None
as_reference (structures.Access s) = None
as_reference (structures.Implementation i) = None
as_reference (structures.Attribute a) = None
as_reference (structures.Reference r) = Some r
as_reference (structures.Binding b) = None
as_reference (structures.Layer l) = None

abbrev pub as_subsystem_reference : SubsystemItemTree → Option ActorRef
as_subsystem_reference (AReference r) = Some r
as_subsystem_reference (ABinding b) = None
as_subsystem_reference (ALayer l) = None
as_subsystem_reference (AThread t) = None
as_subsystem_reference (AMapping m) = None

-- The references among the items of a Structure. Each one's place here is its number.
abbrev pub references_in : List StructureItem → List ActorRef
references_in items = filter_map as_reference items

-- The references of an actor class, by number.
abbrev pub references_of : ActorTree → List ActorRef
references_of a = references_in (structure_of a)

-- The references of a subsystem class.
abbrev pub subsystem_references : SubsystemTree → List ActorRef
subsystem_references s = filter_map as_subsystem_reference s.items

-- The kind of a reference: fixed where no word says another.
abbrev pub kind_of : ActorRef → ReferenceKind
kind_of r = unwrap_or r.kind kinds.Fixed

-- The entry of a reference. The first argument is the names of the model's actor classes.
abbrev pub reference_entry : List (List ℕ) → ActorRef → ReferenceEntry
reference_entry actors r = record { kind = kind_of r; count = r.count; class = number_in actors r.class }

-- Whether a reference is replicated: it has a number, also where that is 1.
abbrev pub is_replicated : ReferenceEntry → Bool
is_replicated r = is_some r.count

-- How many actors a reference stands for.
abbrev pub count_of : ReferenceEntry → ℕ
count_of r = unwrap_or r.count 1

abbrev pub names_of_references : List ActorRef → List (List ℕ)
names_of_references rs = map (λ (r : ActorRef). r.name) rs
