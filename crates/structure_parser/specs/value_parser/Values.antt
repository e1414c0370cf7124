-- The grammar of initial values, attributes and usercode, read from left to right.
use Rattle.std.specs.Prelude.{ℕ, List, [], ◌∷◌, Option, Some, None, is_some, option_map, option_and_then, Bool}
use Rattle.room_lexer.specs.declared.token.Mark.TheVariants as marks
use Rattle.room_lexer.specs.declared.word.Word.{Word}
use Rattle.room_lexer.specs.declared.word.Word.TheVariants as words
use Rattle.room_ast.specs.Values.{TokenValue, AWord, ANumber, AString, AMark}
use Rattle.room_ast.specs.declared.protocol.Attribute.{Attribute}
use Rattle.room_ast.specs.declared.protocol.EmptyString.{EmptyString}
use Rattle.room_ast.specs.declared.protocol.PlainValue.TheVariants as plain
use Rattle.room_ast.specs.declared.protocol.Usercode.{Usercode}
use Rattle.room_ast.specs.declared.protocol.UsercodeSection.{UsercodeSection}
use Rattle.room_ast.specs.declared.protocol.UsercodeSection.TheVariants as sections
use Rattle.room_ast.specs.declared.protocol.Value.{Value}
use Rattle.room_ast.specs.declared.protocol.Value.TheVariants as values
use Rattle.room_tokens.specs.Reader.{Reader, ◌⊕◌, ◌▹◌, reads_as, optional, rest_of}
use Rattle.room_tokens.specs.Single.{comes, mark, word, name_at, number_at, string_at, word_here, braces_at}

-- the value of a STRING that spells one
abbrev pub value_of_string : TokenValue → Option Value
value_of_string (AString text (Some v)) = Some (values.Quoted text v)
value_of_string t = None

-- [ "-" ] NUMBER | "true" | "false" | STRING
unfoldable pub value_at : Reader TokenValue Value
value_at (ANumber n ∷ ts) = Some (values.Plain (plain.Number n), ts)
value_at (AMark marks.Minus ∷ ts) = reads_as (λ n. values.Plain (plain.Negative n)) number_at ts
value_at (AWord words.True ∷ ts) = Some (values.Plain plain.True, ts)
value_at (AWord words.False ∷ ts) = Some (values.Plain plain.False, ts)
value_at (AString text (Some v) ∷ ts) = Some (values.Quoted text v, ts)
value_at ts = None

unfoldable pub equals_value_at : Reader TokenValue Value
equals_value_at = mark marks.Equals ▹ value_at

-- "Attribute" name ":" name [ "=" value ]
unfoldable pub attribute_at : Reader TokenValue Attribute
attribute_at =
    reads_as (λ x. record { name = x.0; type_name = x.1.0; value = x.1.1 })
    (word words.Attribute ▹ name_at ⊕ mark marks.Colon ▹ name_at ⊕ optional (comes marks.Equals) equals_value_at)

-- the section of usercode that a word begins
abbrev pub section_of : Option Word → Option UsercodeSection
section_of (Some words.Usercode) = Some sections.Plain
section_of (Some words.Usercode1) = Some sections.First
section_of (Some words.Usercode2) = Some sections.Second
section_of (Some words.Usercode3) = Some sections.Third
section_of w = None

unfoldable pub usercode_comes : List TokenValue → Bool
usercode_comes ts = is_some (section_of (word_here ts))

-- "usercode" | "usercode1" | "usercode2" | "usercode3"
unfoldable pub section_at : Reader TokenValue UsercodeSection
section_at ts = option_map (λ s. (s, rest_of ts)) (section_of (word_here ts))

abbrev pub empty_if : List ℕ × List TokenValue → Option (EmptyString × List TokenValue)
empty_if ([], ts) = Some (record {}, ts)
empty_if (b ∷ bs, ts) = None

-- a STRING without contents
unfoldable pub empty_string_at : Reader TokenValue EmptyString
empty_string_at ts = option_and_then empty_if (string_at ts)

-- a section and empty STRINGs in braces
unfoldable pub usercode_at : Reader TokenValue Usercode
usercode_at = reads_as (λ x. record { section = x.0; strings = x.1 }) (section_at ⊕ braces_at empty_string_at)
