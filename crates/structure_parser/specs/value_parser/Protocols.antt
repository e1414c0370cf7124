-- The grammar of protocol classes and data classes, read from left to right.
use Rattle.std.specs.Prelude.{ℕ, List, Option, Some, None}
use Rattle.room_lexer.specs.declared.token.Mark.TheVariants as marks
use Rattle.room_lexer.specs.declared.word.Word.{Word}
use Rattle.room_lexer.specs.declared.word.Word.TheVariants as words
use Rattle.room_ast.specs.Values.{TokenValue}
use Rattle.room_ast.specs.declared.protocol.DataClass.{DataClass}
use Rattle.room_ast.specs.declared.protocol.DataItem.{DataItem}
use Rattle.room_ast.specs.declared.protocol.DataItem.TheVariants as fields
use Rattle.room_ast.specs.declared.protocol.Message.{Message}
use Rattle.room_ast.specs.declared.protocol.Parameter.{Parameter}
use Rattle.room_ast.specs.declared.protocol.Parameter.TheVariants as parameters
use Rattle.room_ast.specs.declared.protocol.ProtocolClass.{ProtocolClass}
use Rattle.room_tokens.specs.Reader.{Reader, ◌⊕◌, ◌▹◌, ◌◃◌, reads_as, optional, flag, all_while}
use Rattle.room_tokens.specs.Single.{comes, comes_word, comes_name, mark, word, name_at, word_here, braces_at}
use Rattle.structure_parser.specs.value_parser.Values.{attribute_at, usercode_comes, usercode_at}

-- a type, or a label and a type
unfoldable pub typed_at : Reader TokenValue (List ℕ × Option (List ℕ))
typed_at = name_at ⊕ optional (comes marks.Colon) (mark marks.Colon ▹ name_at)

-- the parameter whose parentheses may be missing, whose contents may be missing, and whose label may be missing
abbrev pub parameter_from : Option (Option (List ℕ × Option (List ℕ))) → Parameter
parameter_from None = parameters.Absent
parameter_from (Some None) = parameters.Empty
parameter_from (Some (Some (type_name, None))) = parameters.Typed type_name
parameter_from (Some (Some (label, Some type_name))) = parameters.Labelled label type_name

-- [ "(" [ [ name ":" ] name ] ")" ]
unfoldable pub parameter_at : Reader TokenValue Parameter
parameter_at = reads_as parameter_from (optional (comes marks.OpenParen) (mark marks.OpenParen ▹ optional comes_name typed_at ◃ mark marks.CloseParen))

-- "Message" name and its parameter
unfoldable pub message_at : Reader TokenValue Message
message_at = reads_as (λ x. record { name = x.0; parameter = x.1 }) (word words.Message ▹ name_at ⊕ parameter_at)

-- a word and messages in braces
unfoldable pub messages_at : Word → Reader TokenValue (List Message)
messages_at w = word w ▹ braces_at message_at

-- [ "incoming" "{" { message } "}" ] [ "outgoing" "{" { message } "}" ] "}"
abbrev pub directions_at : Reader TokenValue (Option (List Message) × Option (List Message))
directions_at = optional (comes_word words.Incoming) (messages_at words.Incoming) ⊕ optional (comes_word words.Outgoing) (messages_at words.Outgoing) ◃ mark marks.CloseBrace

-- [ "eventdriven" ] "ProtocolClass" name "{" { usercode } directions
unfoldable pub protocol_at : Reader TokenValue ProtocolClass
protocol_at =
    reads_as (λ x. record { event_driven = x.0; name = x.1.0; usercodes = x.1.1.0; incoming = x.1.1.1.0; outgoing = x.1.1.1.1 })
    (flag (comes_word words.EventDriven) (word words.EventDriven) ⊕ word words.ProtocolClass ▹ name_at ⊕ mark marks.OpenBrace ▹ all_while usercode_comes usercode_at ⊕ directions_at)

-- the item of a data class that begins with a word
abbrev pub data_item_from : Option Word → Reader TokenValue DataItem
data_item_from (Some words.Attribute) ts = reads_as fields.Attribute attribute_at ts
data_item_from (Some words.Usercode) ts = reads_as fields.Usercode usercode_at ts
data_item_from (Some words.Usercode1) ts = reads_as fields.Usercode usercode_at ts
data_item_from (Some words.Usercode2) ts = reads_as fields.Usercode usercode_at ts
data_item_from (Some words.Usercode3) ts = reads_as fields.Usercode usercode_at ts
data_item_from w ts = None

unfoldable pub data_item_at : Reader TokenValue DataItem
data_item_at ts = data_item_from (word_here ts) ts

-- "DataClass" name "{" { usercode | attribute } "}"
unfoldable pub data_class_at : Reader TokenValue DataClass
data_class_at = reads_as (λ x. record { name = x.0; items = x.1 }) (word words.DataClass ▹ name_at ⊕ braces_at data_item_at)
