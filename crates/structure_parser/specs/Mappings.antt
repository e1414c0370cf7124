-- The grammar of mappings, subsystem classes and the logical system, read from left to right.
use Rattle.std.specs.Prelude.{ℕ, zero, suc, List, [], ◌∷◌, ◌++◌, map, reverse, length, Option, Some, None, option_and_then, if◌then◌else◌}
use Rattle.std.specs.Global.{Vec}
use Rattle.room_lexer.specs.declared.token.Mark.TheVariants as marks
use Rattle.room_lexer.specs.declared.word.Word.{Word}
use Rattle.room_lexer.specs.declared.word.Word.TheVariants as words
use Rattle.room_ast.specs.Values.{TokenValue}
use Rattle.room_ast.specs.MappingTree.{MappingTree, MappingOf, NestedTree, no_braces, in_braces, mappings_of, mapping_views}
use Rattle.room_ast.specs.Trees.{SubsystemItemTree, AReference, ABinding, ALayer, AThread, AMapping, SubsystemTree}
use Rattle.room_ast.specs.declared.system.Mapping.{Mapping}
use Rattle.room_ast.specs.declared.system.MappingPath.{MappingPath}
use Rattle.room_ast.specs.declared.system.Segment.{Segment}
use Rattle.room_ast.specs.declared.system.SubsystemRef.{SubsystemRef}
use Rattle.room_ast.specs.declared.system.System.{System}
use Rattle.structure_parser.specs.declared.mapping.OpenMapping.{OpenMapping}
use Rattle.room_tokens.specs.Reader.{Reader, ◌⊕◌, ◌▹◌, reads_as, optional, flag, all_while, rest_of}
use Rattle.room_tokens.specs.Single.{comes, mark, word, name_at, number_at, word_here, before_close, braces_at}
use Rattle.structure_parser.specs.References.{actor_ref_at, binding_at, layer_at, thread_at}

-- name [ ":" NUMBER ]
unfoldable pub segment_at : Reader TokenValue Segment
segment_at = reads_as (λ x. record { name = x.0; index = x.1 }) (name_at ⊕ optional (comes marks.Colon) (mark marks.Colon ▹ number_at))

unfoldable pub slash_segment_at : Reader TokenValue Segment
slash_segment_at = mark marks.Slash ▹ segment_at

-- [ "/" ] segment { "/" segment }
unfoldable pub path_at : Reader TokenValue MappingPath
path_at =
    reads_as (λ x. record { has_slash = x.0; first = x.1.0; others = x.1.1 })
    (flag (comes marks.Slash) (mark marks.Slash) ⊕ segment_at ⊕ all_while (comes marks.Slash) slash_segment_at)

-- "ActorInstanceMapping" path "->" name
unfoldable pub head_at : Reader TokenValue (MappingPath × List ℕ)
head_at = word words.ActorInstanceMapping ▹ path_at ⊕ mark marks.Arrow ▹ name_at

-- a mapping whose braces stand open, and the mappings before it in the braces that it stands in
pub record Frame : Type 0 where
  pub path : MappingPath
  pub thread : List ℕ
  pub before : List MappingTree

-- what comes behind the head of a mapping: its own braces, or the next mapping
abbrev pub behind_head : (List Frame → List MappingTree → List TokenValue → Option (List MappingTree × List TokenValue)) → List Frame → List MappingTree → (MappingPath × List ℕ) × List TokenValue → Option (List MappingTree × List TokenValue)
behind_head go frames found (head, ts) =
    if comes marks.OpenBrace ts then go (record { path = head.0; thread = head.1; before = found } ∷ frames) [] (rest_of ts) else go frames (found ++ MappingOf head.0 head.1 no_braces ∷ []) ts

-- the mapping of a frame, with the mappings in its braces
abbrev pub filled : Frame → List MappingTree → MappingTree
filled f found = MappingOf f.path f.thread (in_braces (mappings_of found))

-- Mappings up to the closing brace of the outermost braces, where the innermost of the frames is the first. The number bounds the turns.
unfoldable pub closed_in : ℕ → List Frame → List MappingTree → List TokenValue → Option (List MappingTree × List TokenValue)
closed_in zero frames found ts = None
closed_in (suc n) [] found ts = if before_close ts then option_and_then (behind_head (closed_in n) [] found) (head_at ts) else Some (found, rest_of ts)
closed_in (suc n) (f ∷ frames) found ts =
    if before_close ts then option_and_then (behind_head (closed_in n) (f ∷ frames) found) (head_at ts) else closed_in n frames (f.before ++ filled f found ∷ []) (rest_of ts)

-- mappings up to the closing brace. Each turn takes a token, so the count of the tokens is enough.
unfoldable pub closed_at : Reader TokenValue (List MappingTree)
closed_at ts = closed_in (length ts) [] [] ts

abbrev pub nested_from : Option (List MappingTree) → NestedTree
nested_from None = no_braces
nested_from (Some ms) = in_braces (mappings_of ms)

-- [ "{" { mapping } "}" ]
unfoldable pub nested_at : Reader TokenValue NestedTree
nested_at = reads_as nested_from (optional (comes marks.OpenBrace) (mark marks.OpenBrace ▹ closed_at))

-- "ActorInstanceMapping" path "->" name [ "{" { mapping } "}" ]
unfoldable pub mapping_at : Reader TokenValue MappingTree
mapping_at = reads_as (λ x. MappingOf x.0.0 x.0.1 x.1) (head_at ⊕ nested_at)

-- ---- what the code's trees are seen as

abbrev pub nested_view : Option (Vec Mapping) → NestedTree
nested_view None = no_braces
nested_view (Some v) = in_braces (mappings_of (mapping_views v.items))

abbrev pub frame_view : OpenMapping → Frame
frame_view o = record { path = o.path; thread = o.thread; before = mapping_views o.before.items }

-- the frames, the innermost first
abbrev pub frames_view : List OpenMapping → List Frame
frames_view os = reverse (map frame_view os)

-- the item of a subsystem class that begins with a word
abbrev pub subsystem_item_from : Option Word → Reader TokenValue SubsystemItemTree
subsystem_item_from (Some words.ActorRef) ts = reads_as AReference actor_ref_at ts
subsystem_item_from (Some words.Fixed) ts = reads_as AReference actor_ref_at ts
subsystem_item_from (Some words.Optional) ts = reads_as AReference actor_ref_at ts
subsystem_item_from (Some words.Imported) ts = reads_as AReference actor_ref_at ts
subsystem_item_from (Some words.Binding) ts = reads_as ABinding binding_at ts
subsystem_item_from (Some words.LayerConnection) ts = reads_as ALayer layer_at ts
subsystem_item_from (Some words.LogicalThread) ts = reads_as AThread thread_at ts
subsystem_item_from (Some words.ActorInstanceMapping) ts = reads_as AMapping mapping_at ts
subsystem_item_from w ts = None

unfoldable pub subsystem_item_at : Reader TokenValue SubsystemItemTree
subsystem_item_at ts = subsystem_item_from (word_here ts) ts

-- "SubSystemClass" name "{" { actorref | binding | layer | thread | mapping } "}"
unfoldable pub subsystem_at : Reader TokenValue SubsystemTree
subsystem_at = reads_as (λ x. record { name = x.0; items = x.1 }) (word words.SubSystemClass ▹ name_at ⊕ braces_at subsystem_item_at)

-- "SubSystemRef" name ":" name
unfoldable pub subsystem_ref_at : Reader TokenValue SubsystemRef
subsystem_ref_at = reads_as (λ x. record { name = x.0; class = x.1 }) (word words.SubSystemRef ▹ name_at ⊕ mark marks.Colon ▹ name_at)

-- "LogicalSystem" name "{" { "SubSystemRef" name ":" name } "}"
unfoldable pub system_at : Reader TokenValue System
system_at = reads_as (λ x. record { name = x.0; references = x.1 }) (word words.LogicalSystem ▹ name_at ⊕ braces_at subsystem_ref_at)
