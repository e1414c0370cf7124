-- Names of the model language, and lists of token values that have them.
use Rattle.std.specs.Prelude.{ℕ, List, [], ◌∷◌, None}
use Rattle.room_lexer.specs.Cut.{IsRun}
use Rattle.room_lexer.specs.Front.{is_letter, is_word}
use Rattle.room_lexer.specs.Words.{Spells}
use Rattle.room_ast.specs.Values.{TokenValue, AWord, AName, ANumber, AString, ABlock, AMark}

-- a name: a letter or `_`, and then letters, digits and `_`, which spell no reserved word
pub record IsName (text : List ℕ) : Type 0 where
  pub identifier : IsRun is_letter is_word text
  pub free : Spells None text

-- each name among token values is a name of the language
abbrev pub HasNames : List TokenValue → Type 0
HasNames [] = Unit {0}
HasNames (AName text ∷ ts) = IsName text × HasNames ts
HasNames (AWord w ∷ ts) = HasNames ts
HasNames (ANumber n ∷ ts) = HasNames ts
HasNames (AString text v ∷ ts) = HasNames ts
HasNames (ABlock text ∷ ts) = HasNames ts
HasNames (AMark m ∷ ts) = HasNames ts
