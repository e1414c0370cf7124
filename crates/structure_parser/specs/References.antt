-- The grammar of actor references, bindings, layer connections and threads, read from left to right.
use Rattle.std.specs.Prelude.{ℕ, List, Option, Some, None}
use Rattle.room_lexer.specs.declared.token.Mark.TheVariants as marks
use Rattle.room_lexer.specs.declared.word.Word.{Word}
use Rattle.room_lexer.specs.declared.word.Word.TheVariants as words
use Rattle.room_kinds.specs.declared.structure.ReferenceKind.{ReferenceKind}
use Rattle.room_kinds.specs.declared.structure.ReferenceKind.TheVariants as kinds
use Rattle.room_ast.specs.Values.{TokenValue}
use Rattle.room_ast.specs.declared.actor.ActorRef.{ActorRef}
use Rattle.room_ast.specs.declared.actor.Binding.{Binding}
use Rattle.room_ast.specs.declared.actor.LayerConnection.{LayerConnection}
use Rattle.room_ast.specs.declared.actor.Side.{Side}
use Rattle.room_ast.specs.declared.actor.Side.TheVariants as sides
use Rattle.room_ast.specs.declared.system.LogicalThread.{LogicalThread}
use Rattle.room_tokens.specs.Reader.{Reader, ◌⊕◌, ◌▹◌, ◌◃◌, reads_as, optional}
use Rattle.room_tokens.specs.Single.{comes, mark, word, name_at, number_at, word_as, comes_as}

-- the kind of reference that a word tells
abbrev pub kind_of : Option Word → Option ReferenceKind
kind_of (Some words.Fixed) = Some kinds.Fixed
kind_of (Some words.Optional) = Some kinds.Optional
kind_of (Some words.Imported) = Some kinds.Imported
kind_of w = None

-- [ "fixed" | "optional" | "imported" ]
unfoldable pub kind_at : Reader TokenValue (Option ReferenceKind)
kind_at = optional (comes_as kind_of) (word_as kind_of)

-- "[" NUMBER "]"
unfoldable pub count_at : Reader TokenValue ℕ
count_at = mark marks.OpenBracket ▹ number_at ◃ mark marks.CloseBracket

-- [ "fixed" | "optional" | "imported" ] "ActorRef" name [ "[" NUMBER "]" ] ":" name
unfoldable pub actor_ref_at : Reader TokenValue ActorRef
actor_ref_at =
    reads_as (λ x. record { kind = x.0; name = x.1.0; count = x.1.1.0; class = x.1.1.1 })
    (kind_at ⊕ word words.ActorRef ▹ name_at ⊕ optional (comes marks.OpenBracket) count_at ⊕ mark marks.Colon ▹ name_at)

abbrev pub side_from : List ℕ × Option (List ℕ) → Side
side_from (own, None) = sides.Own own
side_from (reference, Some inner) = sides.Inner reference inner

-- name [ "." name ]
unfoldable pub side_at : Reader TokenValue Side
side_at = reads_as side_from (name_at ⊕ optional (comes marks.Dot) (mark marks.Dot ▹ name_at))

-- "Binding" side "and" side
unfoldable pub binding_at : Reader TokenValue Binding
binding_at = reads_as (λ x. record { left = x.0; right = x.1 }) (word words.Binding ▹ side_at ⊕ word words.And ▹ side_at)

-- "LayerConnection" "ref" name "satisfied_by" name "." name
unfoldable pub layer_at : Reader TokenValue LayerConnection
layer_at =
    reads_as (λ x. record { reference = x.0; provider = x.1.0; service = x.1.1 })
    (word words.LayerConnection ▹ word words.Ref ▹ name_at ⊕ word words.SatisfiedBy ▹ name_at ⊕ mark marks.Dot ▹ name_at)

-- "LogicalThread" name
unfoldable pub thread_at : Reader TokenValue LogicalThread
thread_at = reads_as (λ x. record { name = x }) (word words.LogicalThread ▹ name_at)
