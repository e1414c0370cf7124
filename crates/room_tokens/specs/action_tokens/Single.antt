-- Readers of single tokens.
use Rattle.std.specs.Prelude.{◌≡◌, refl, ℕ, List, [], ◌∷◌, Some, None, Bool, false}
use Rattle.room_lexer.specs.declared.token.Mark.{Mark}
use Rattle.room_tokens.specs.Reader.{Reader, take_if}
use Rattle.room_tokens.specs.Cursor.{left_of}
use Rattle.room_tokens.specs.Single.{same_mark}
use Rattle.room_tokens.specs.action_tokens.Words.{same_word}
use Rattle.room_tokens.specs.action_tokens.Values.{Value, AWord, AName, ANumber, AMark, token_value}
use Rattle.room_tokens.specs.declared.action_tokens.word.ActionWord.{ActionWord}
use Rattle.room_tokens.specs.declared.action_tokens.token.ActionToken.{ActionToken}
use Rattle.room_tokens.specs.declared.action_tokens.token.ActionToken.TheVariants as own
use Rattle.room_tokens.specs.declared.rest.Rest.{Rest}

-- where a token begins, and where the text of a name ends
abbrev pub span_of : ActionToken → ℕ × ℕ
span_of (own.Word start w) = (start, start)
span_of (own.Name start end) = (start, end)
span_of (own.Number start n) = (start, start)
span_of (own.Mark start m) = (start, start)

-- what is left to read
abbrev pub left : Rest ActionToken → List Value
left r = left_of token_value r

-- whether a mark comes
unfoldable pub comes : Mark → List Value → Bool
comes m (AMark n ∷ ts) = same_mark m n
comes m ts = false

-- whether a word comes
unfoldable pub comes_word : ActionWord → List Value → Bool
comes_word w (AWord v ∷ ts) = same_word w v
comes_word w ts = false

abbrev pub mark : Mark → Reader Value (Unit {0})
mark m = take_if (comes m)

abbrev pub word : ActionWord → Reader Value (Unit {0})
word w = take_if (comes_word w)

unfoldable pub name_at : Reader Value (List ℕ)
name_at (AName text ∷ ts) = Some (text, ts)
name_at ts = None

unfoldable pub number_at : Reader Value ℕ
number_at (ANumber n ∷ ts) = Some (n, ts)
number_at ts = None

-- ---- nothing comes at the end

pub no_mark : (m : Mark) → comes m [] ≡ false
unfolding comes
no_mark m = refl

pub no_word : (w : ActionWord) → comes_word w [] ≡ false
unfolding comes_word
no_word w = refl

pub no_name : name_at [] ≡ None
unfolding name_at
no_name = refl

pub no_number : number_at [] ≡ None
unfolding number_at
no_number = refl
