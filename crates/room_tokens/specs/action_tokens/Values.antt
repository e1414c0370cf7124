-- The values of the action language's tokens, of which a program has a list.
use Rattle.std.specs.Prelude.{ℕ, List, [], ◌∷◌, Option, Some, None, option_map, option_and_then, Result, Ok, Err}
use Rattle.room_lexer.specs.Cutting as lexer
use Rattle.room_lexer.specs.declared.token.Mark.{Mark}
use Rattle.room_lexer.specs.declared.token.Token.{Token}
use Rattle.room_lexer.specs.declared.token.TokenKind.{TokenKind}
use Rattle.room_lexer.specs.declared.token.TokenKind.TheVariants as tokens
use Rattle.room_lexer.specs.declared.fault.LexFault.{LexFault}
use Rattle.room_lexer.specs.declared.word.Word.{Word}
use Rattle.room_tokens.specs.Cursor.{between}
use Rattle.room_tokens.specs.Single.{text_of}
use Rattle.room_tokens.specs.action_tokens.Words.{word_of}
use Rattle.room_tokens.specs.declared.action_tokens.word.ActionWord.{ActionWord}
use Rattle.room_tokens.specs.declared.action_tokens.token.ActionToken.{ActionToken}
use Rattle.room_tokens.specs.declared.action_tokens.token.ActionToken.TheVariants as own

-- The value of a token of the action language.
pub data Value : Type 0 where
  AWord : ActionWord → Value
  AName : List ℕ → Value
  ANumber : ℕ → Value
  AMark : Mark → Value

-- ---- which value a token of the model language has

abbrev pub name_value : Option Word → List ℕ → Option Value
name_value None text = Some (AName text)
name_value (Some w) text = None

-- An identifier is a word of the action language, or else a name, if it isn't reserved.
abbrev pub ident_value : Option ActionWord → Option Word → List ℕ → Option Value
ident_value (Some w) reserved text = Some (AWord w)
ident_value None reserved text = name_value reserved text

abbrev pub value_of_kind : TokenKind → List ℕ → Option Value
value_of_kind (tokens.Ident reserved) text = ident_value (word_of text) reserved text
value_of_kind (tokens.Number n) text = Some (ANumber n)
value_of_kind tokens.Str text = None
value_of_kind tokens.Block text = None
value_of_kind (tokens.Mark m) text = Some (AMark m)

-- the value of a token, if it has one
abbrev pub value_of : List ℕ → Token → Option Value
value_of bytes t = value_of_kind t.kind (text_of bytes t)

abbrev pub with_first : Value → Option (List Value) → Option (List Value)
with_first v vs = option_map (λ ws. v ∷ ws) vs

-- the values of tokens, if each has one
abbrev pub values_of : List ℕ → List Token → Option (List Value)
values_of bytes [] = Some []
values_of bytes (t ∷ ts) = option_and_then (λ v. with_first v (values_of bytes ts)) (value_of bytes t)

abbrev pub values_if : List ℕ → Result (List Token) LexFault → Option (List Value)
values_if bytes (Ok ts) = values_of bytes ts
values_if bytes (Err e) = None

-- The values of a text's tokens, if it has tokens, each with a value.
unfoldable pub action_values : List ℕ → Option (List Value)
action_values bytes = values_if bytes (lexer.tokens bytes)

-- ---- the value of a token of this crate

abbrev pub token_value : List ℕ → ActionToken → Value
token_value bytes (own.Word start w) = AWord w
token_value bytes (own.Name start end) = AName (between bytes (start, end))
token_value bytes (own.Number start n) = ANumber n
token_value bytes (own.Mark start m) = AMark m
