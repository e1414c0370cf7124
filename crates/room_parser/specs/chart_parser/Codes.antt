-- The grammar of code, triggers and transitions, read from left to right.
use Rattle.std.specs.Prelude.{ℕ, List, [], ◌∷◌, Option, Some, None, if◌then◌else◌}
use Rattle.room_lexer.specs.declared.token.Mark.TheVariants as marks
use Rattle.room_lexer.specs.declared.word.Word.{Word}
use Rattle.room_lexer.specs.declared.word.Word.TheVariants as words
use Rattle.room_ast.specs.Values.{TokenValue, AWord, AName, ANumber, AString, ABlock, AMark}
use Rattle.room_ast.specs.declared.chart.ChoicePoint.{ChoicePoint}
use Rattle.room_ast.specs.declared.chart.Code.{Code}
use Rattle.room_ast.specs.declared.chart.Code.TheVariants as codes
use Rattle.room_ast.specs.declared.chart.CodeText.{CodeText}
use Rattle.room_ast.specs.declared.chart.CodeText.TheVariants as texts
use Rattle.room_ast.specs.declared.chart.Event.{Event}
use Rattle.room_ast.specs.declared.chart.EventMessage.{EventMessage}
use Rattle.room_ast.specs.declared.chart.EventMessage.TheVariants as messages
use Rattle.room_ast.specs.declared.chart.Point.{Point}
use Rattle.room_ast.specs.declared.chart.PointKind.{PointKind}
use Rattle.room_ast.specs.declared.chart.PointKind.TheVariants as points
use Rattle.room_ast.specs.declared.chart.Source.{Source}
use Rattle.room_ast.specs.declared.chart.Source.TheVariants as sources
use Rattle.room_ast.specs.declared.chart.Target.{Target}
use Rattle.room_ast.specs.declared.chart.Target.TheVariants as targets
use Rattle.room_ast.specs.declared.chart.Transition.{Transition}
use Rattle.room_ast.specs.declared.chart.TransitionBody.{TransitionBody}
use Rattle.room_ast.specs.declared.chart.Trigger.{Trigger}
use Rattle.room_ast.specs.declared.chart.Triggers.{Triggers}
use Rattle.room_tokens.specs.Reader.{Reader, ◌⊕◌, ◌▹◌, ◌◃◌, reads_as, optional, all_while}
use Rattle.room_tokens.specs.Single.{comes, comes_word, comes_name, comes_string, mark, word, name_at, string_at, block_at, word_as, braces_at}

-- ---- code

-- STRING | BLOCK
unfoldable pub code_text_at : Reader TokenValue CodeText
code_text_at ts = if comes_string ts then reads_as texts.Str string_at ts else reads_as texts.Block block_at ts

-- "{" { STRING | BLOCK } "}" | STRING | BLOCK
unfoldable pub code_at : Reader TokenValue Code
code_at ts = if comes marks.OpenBrace ts then reads_as codes.Texts (braces_at code_text_at) ts else reads_as codes.Single code_text_at ts

-- a word and code
unfoldable pub word_code_at : Word → Reader TokenValue Code
word_code_at w = word w ▹ code_at

-- ---- triggers

-- name | "imported"
unfoldable pub event_message_at : Reader TokenValue EventMessage
event_message_at (AName n ∷ ts) = Some (messages.Named n, ts)
event_message_at (AWord words.Imported ∷ ts) = Some (messages.Imported, ts)
event_message_at ts = None

-- ( name | "imported" ) ":" name
unfoldable pub event_at : Reader TokenValue Event
event_at = reads_as (λ x. record { message = x.0; port = x.1 }) (event_message_at ⊕ mark marks.Colon ▹ name_at)

unfoldable pub bar_event_at : Reader TokenValue Event
bar_event_at = mark marks.Bar ▹ event_at

-- "<" event { "|" event } [ "guard" code ] ">"
unfoldable pub trigger_at : Reader TokenValue Trigger
trigger_at =
    reads_as (λ x. record { first = x.0; others = x.1.0; guard = x.1.1 })
    (mark marks.Less ▹ event_at ⊕ all_while (comes marks.Bar) bar_event_at ⊕ optional (comes_word words.Guard) (word_code_at words.Guard) ◃ mark marks.Greater)

unfoldable pub or_trigger_at : Reader TokenValue Trigger
or_trigger_at = word words.Or ▹ trigger_at

-- "triggers" "{" trigger { "or" trigger } "}"
unfoldable pub triggers_at : Reader TokenValue Triggers
triggers_at =
    reads_as (λ x. record { first = x.0; others = x.1 })
    (word words.Triggers ▹ mark marks.OpenBrace ▹ trigger_at ⊕ all_while (comes_word words.Or) or_trigger_at ◃ mark marks.CloseBrace)

-- ---- transitions

abbrev pub named_from : List ℕ × Option (List ℕ) → Target
named_from (n, None) = targets.Bare n
named_from (p, Some s) = targets.Of p s

-- name [ "of" name ]
unfoldable pub named_at : Reader TokenValue Target
named_at = reads_as named_from (name_at ⊕ optional (comes_word words.Of) (word words.Of ▹ name_at))

-- name | "cp" name | "my" name | name "of" name
unfoldable pub target_at : Reader TokenValue Target
target_at ts =
    if comes_word words.Cp ts then reads_as targets.Choice (word words.Cp ▹ name_at) ts else (if comes_word words.My ts then reads_as targets.My (word words.My ▹ name_at) ts else named_at ts)

-- "initial" | target
unfoldable pub source_at : Reader TokenValue Source
source_at ts = if comes_word words.Initial ts then reads_as (λ x. sources.Initial) (word words.Initial) ts else reads_as sources.At target_at ts

-- "{" [ triggers ] [ "cond" code ] [ "action" code ] "}"
unfoldable pub transition_body_at : Reader TokenValue TransitionBody
transition_body_at =
    reads_as (λ x. record { triggers = x.0; condition = x.1.0; action = x.1.1 })
    (mark marks.OpenBrace ▹ optional (comes_word words.Triggers) triggers_at ⊕ optional (comes_word words.Cond) (word_code_at words.Cond) ⊕ optional (comes_word words.Action) (word_code_at words.Action)
    ◃ mark marks.CloseBrace)

-- "Transition" [ name ] ":" source "->" target [ body ]
unfoldable pub transition_at : Reader TokenValue Transition
transition_at =
    reads_as (λ x. record { name = x.0; source = x.1.0; target = x.1.1.0; body = x.1.1.1 })
    (word words.Transition ▹ optional comes_name name_at ⊕ mark marks.Colon ▹ source_at ⊕ mark marks.Arrow ▹ target_at ⊕ optional (comes marks.OpenBrace) transition_body_at)

-- ---- choice points and points

-- "ChoicePoint" name
unfoldable pub choice_point_at : Reader TokenValue ChoicePoint
choice_point_at = reads_as (λ x. record { name = x }) (word words.ChoicePoint ▹ name_at)

-- the kind of point that a word tells
abbrev pub point_kind_of : Option Word → Option PointKind
point_kind_of (Some words.TransitionPoint) = Some points.Transition
point_kind_of (Some words.EntryPoint) = Some points.Entry
point_kind_of (Some words.ExitPoint) = Some points.Exit
point_kind_of w = None

-- ( "TransitionPoint" | "EntryPoint" | "ExitPoint" ) name
unfoldable pub point_at : Reader TokenValue Point
point_at = reads_as (λ x. record { kind = x.0; name = x.1 }) (word_as point_kind_of ⊕ name_at)
