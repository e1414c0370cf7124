-- The values of tokens, of which a tree has a list.
use Rattle.std.specs.Prelude.{ℕ, List, [], ◌∷◌, map, Option, Some, None, Result, Ok, Err}
use Rattle.room_lexer.specs.Cutting.{tokens}
use Rattle.room_lexer.specs.declared.fault.LexFault.{LexFault}
use Rattle.room_lexer.specs.declared.token.Token.{Token}
use Rattle.room_lexer.specs.declared.token.TokenKind.{TokenKind}
use Rattle.room_lexer.specs.declared.token.TokenKind.TheVariants as kinds
use Rattle.room_lexer.specs.declared.token.Mark.{Mark}
use Rattle.room_lexer.specs.declared.token.Mark.TheVariants as marks
use Rattle.room_lexer.specs.declared.word.Word.{Word}
use Rattle.room_lexer.specs.declared.word.Word.TheVariants as words
use Rattle.room_ast.specs.declared.protocol.PlainValue.{PlainValue}
use Rattle.room_ast.specs.declared.protocol.PlainValue.TheVariants as plain

-- the plain value that tokens of these kinds are
abbrev pub plain_of : List TokenKind → Option PlainValue
plain_of (kinds.Number n ∷ []) = Some (plain.Number n)
plain_of (kinds.Mark marks.Minus ∷ kinds.Number n ∷ []) = Some (plain.Negative n)
plain_of (kinds.Ident (Some words.True) ∷ []) = Some plain.True
plain_of (kinds.Ident (Some words.False) ∷ []) = Some plain.False
plain_of ks = None

abbrev pub plain_if_cut : Result (List Token) LexFault → Option PlainValue
plain_if_cut (Ok ts) = plain_of (map (λ t. t.kind) ts)
plain_if_cut (Err e) = None

-- the plain value that a text spells, if it spells one
unfoldable pub spelled : List ℕ → Option PlainValue
spelled text = plain_if_cut (tokens text)

-- The value of a token. That of a STRING is its contents, and the plain value that they spell, if they spell one.
pub data TokenValue : Type 0 where
  AWord : Word → TokenValue
  AName : List ℕ → TokenValue
  ANumber : ℕ → TokenValue
  AString : List ℕ → Option PlainValue → TokenValue
  ABlock : List ℕ → TokenValue
  AMark : Mark → TokenValue
