-- Readers of single tokens, and the values of the lexer's tokens.
use Rattle.std.specs.Prelude.{◌≡◌, refl, ℕ, List, [], ◌∷◌, map, Option, Some, None, is_some, option_map, Bool, true, false, ◌==◌, if◌then◌else◌}
use Rattle.room_lexer.specs.declared.token.Mark.{Mark}
use Rattle.room_lexer.specs.declared.token.Mark.TheVariants as marks
use Rattle.room_lexer.specs.declared.word.Word.{Word}
use Rattle.room_lexer.specs.declared.word.Word.TheVariants as words
use Rattle.room_lexer.specs.declared.token.TokenKind.{TokenKind}
use Rattle.room_lexer.specs.declared.token.TokenKind.TheVariants as kinds
use Rattle.room_lexer.specs.declared.token.Token.{Token}
use Rattle.room_ast.specs.Values.{TokenValue, AWord, AName, ANumber, AString, ABlock, AMark, spelled}
use Rattle.room_ast.specs.declared.protocol.PlainValue.{PlainValue}
use Rattle.room_ast.specs.declared.protocol.PlainValue.TheVariants as plain
use Rattle.room_tokens.specs.Contents.{string_contents, block_contents}
use Rattle.room_tokens.specs.Reader.{Reader, ◌▹◌, ◌◃◌, all_while, rest_of, take_if}
use Rattle.room_tokens.specs.Cursor.{left_of, between}
use Rattle.room_tokens.specs.declared.rest.Rest.{Rest}

-- ---- the value that a token of the lexer has

abbrev pub string_value : List ℕ → TokenValue
string_value text = AString text (spelled text)

abbrev pub value_of_kind : TokenKind → List ℕ → TokenValue
value_of_kind (kinds.Ident (Some w)) text = AWord w
value_of_kind (kinds.Ident None) text = AName text
value_of_kind (kinds.Number n) text = ANumber n
value_of_kind kinds.Str text = string_value (string_contents text)
value_of_kind kinds.Block text = ABlock (block_contents text)
value_of_kind (kinds.Mark m) text = AMark m

-- the bytes of a token
abbrev pub text_of : List ℕ → Token → List ℕ
text_of bytes t = between bytes (t.start, t.end)

abbrev pub value_of : List ℕ → Token → TokenValue
value_of bytes t = value_of_kind t.kind (text_of bytes t)

abbrev pub values : List ℕ → List Token → List TokenValue
values bytes ts = map (value_of bytes) ts

-- where the text of a token begins and ends
abbrev pub span_of : Token → ℕ × ℕ
span_of t = (t.start, t.end)

-- what is left to read
abbrev pub left : Rest Token → List TokenValue
left r = left_of value_of r

-- ---- marks and words

-- the number of a mark, in order of declaration
abbrev pub mark_number : Mark → ℕ
mark_number marks.OpenBrace = 0
mark_number marks.CloseBrace = 1
mark_number marks.OpenParen = 2
mark_number marks.CloseParen = 3
mark_number marks.OpenBracket = 4
mark_number marks.CloseBracket = 5
mark_number marks.Less = 6
mark_number marks.Greater = 7
mark_number marks.Colon = 8
mark_number marks.Comma = 9
mark_number marks.Dot = 10
mark_number marks.Star = 11
mark_number marks.Minus = 12
mark_number marks.Equals = 13
mark_number marks.Bar = 14
mark_number marks.Slash = 15
mark_number marks.Semicolon = 16
mark_number marks.Plus = 17
mark_number marks.Percent = 18
mark_number marks.Bang = 19
mark_number marks.Arrow = 20
mark_number marks.EqualEqual = 21
mark_number marks.NotEqual = 22
mark_number marks.AtMost = 23
mark_number marks.AtLeast = 24
mark_number marks.AndAnd = 25
mark_number marks.OrOr = 26

-- the number of a word, in order of declaration
abbrev pub word_number : Word → ℕ
word_number words.RoomModel = 0
word_number words.Import = 1
word_number words.From = 2
word_number words.LogicalSystem = 3
word_number words.SubSystemRef = 4
word_number words.SubSystemClass = 5
word_number words.LogicalThread = 6
word_number words.ActorInstanceMapping = 7
word_number words.EventDriven = 8
word_number words.ProtocolClass = 9
word_number words.Incoming = 10
word_number words.Outgoing = 11
word_number words.Message = 12
word_number words.DataClass = 13
word_number words.Attribute = 14
word_number words.True = 15
word_number words.False = 16
word_number words.ActorClass = 17
word_number words.Extends = 18
word_number words.Interface = 19
word_number words.Spp = 20
word_number words.Structure = 21
word_number words.Behavior = 22
word_number words.StateMachine = 23
word_number words.Conjugated = 24
word_number words.Port = 25
word_number words.External = 26
word_number words.Sap = 27
word_number words.ServiceImplementation = 28
word_number words.Of = 29
word_number words.Fixed = 30
word_number words.Optional = 31
word_number words.Imported = 32
word_number words.ActorRef = 33
word_number words.Binding = 34
word_number words.And = 35
word_number words.LayerConnection = 36
word_number words.Ref = 37
word_number words.SatisfiedBy = 38
word_number words.Usercode = 39
word_number words.Usercode1 = 40
word_number words.Usercode2 = 41
word_number words.Usercode3 = 42
word_number words.State = 43
word_number words.Entry = 44
word_number words.Exit = 45
word_number words.Subgraph = 46
word_number words.ChoicePoint = 47
word_number words.TransitionPoint = 48
word_number words.EntryPoint = 49
word_number words.ExitPoint = 50
word_number words.Transition = 51
word_number words.Triggers = 52
word_number words.Cond = 53
word_number words.Action = 54
word_number words.Or = 55
word_number words.Guard = 56
word_number words.Initial = 57
word_number words.Cp = 58
word_number words.My = 59
word_number words.RefinedState = 60
word_number words.RefinedTransition = 61

-- whether two marks are the same
abbrev pub same_mark : Mark → Mark → Bool
same_mark m n = mark_number m == mark_number n

-- whether two words are the same
abbrev pub same_word : Word → Word → Bool
same_word v w = word_number v == word_number w

-- whether a mark comes
unfoldable pub comes : Mark → List TokenValue → Bool
comes m (AMark n ∷ ts) = same_mark m n
comes m ts = false

-- whether a word comes
unfoldable pub comes_word : Word → List TokenValue → Bool
comes_word w (AWord v ∷ ts) = same_word w v
comes_word w ts = false

-- the word that comes, if one does
unfoldable pub word_here : List TokenValue → Option Word
word_here (AWord w ∷ ts) = Some w
word_here ts = None

-- nothing comes at the end
pub no_mark : (m : Mark) → comes m [] ≡ false
unfolding comes
no_mark m = refl

pub no_word : (w : Word) → comes_word w [] ≡ false
unfolding comes_word
no_word w = refl

abbrev pub mark : Mark → Reader TokenValue (Unit {0})
mark m = take_if (comes m)

abbrev pub word : Word → Reader TokenValue (Unit {0})
word w = take_if (comes_word w)

-- what a word stands for, by a table of words
unfoldable pub word_as : {A : Type 0} → (Option Word → Option A) → Reader TokenValue A
word_as table ts = option_map (λ a. (a, rest_of ts)) (table (word_here ts))

-- whether a word of a table comes
unfoldable pub comes_as : {A : Type 0} → (Option Word → Option A) → List TokenValue → Bool
comes_as table ts = is_some (table (word_here ts))

-- ---- names, numbers and texts

unfoldable pub name_at : Reader TokenValue (List ℕ)
name_at (AName text ∷ ts) = Some (text, ts)
name_at ts = None

pub no_name : name_at [] ≡ None
unfolding name_at
no_name = refl

-- whether a name comes
unfoldable pub comes_name : List TokenValue → Bool
comes_name (AName text ∷ ts) = true
comes_name ts = false

unfoldable pub number_at : Reader TokenValue ℕ
number_at (ANumber n ∷ ts) = Some (n, ts)
number_at ts = None

pub no_number : number_at [] ≡ None
unfolding number_at
no_number = refl

-- whether two plain values, or none, are the same
abbrev pub same_plain : Option PlainValue → Option PlainValue → Bool
same_plain None None = true
same_plain (Some (plain.Number m)) (Some (plain.Number n)) = m == n
same_plain (Some (plain.Negative m)) (Some (plain.Negative n)) = m == n
same_plain (Some plain.True) (Some plain.True) = true
same_plain (Some plain.False) (Some plain.False) = true
same_plain a b = false

abbrev pub string_if : List ℕ → Option PlainValue → List TokenValue → Bool → Option (List ℕ × List TokenValue)
string_if text value ts true = Some (text, ts)
string_if text value ts false = None

-- the contents of a STRING, whose value is the one that they spell
unfoldable pub string_at : Reader TokenValue (List ℕ)
string_at (AString text value ∷ ts) = string_if text value ts (same_plain value (spelled text))
string_at ts = None

-- whether a STRING comes
unfoldable pub comes_string : List TokenValue → Bool
comes_string (AString text value ∷ ts) = true
comes_string ts = false

unfoldable pub block_at : Reader TokenValue (List ℕ)
block_at (ABlock text ∷ ts) = Some (text, ts)
block_at ts = None

-- ---- what stands in braces

-- whether no closing brace comes
unfoldable pub before_close : List TokenValue → Bool
before_close ts = if comes marks.CloseBrace ts then false else true

-- what p reads, as often as the test says, in braces
abbrev pub braces_while : {A : Type 0} → (List TokenValue → Bool) → Reader TokenValue A → Reader TokenValue (List A)
braces_while goes_on p = mark marks.OpenBrace ▹ all_while goes_on p ◃ mark marks.CloseBrace

-- what p reads, up to the closing brace
abbrev pub braces_at : {A : Type 0} → Reader TokenValue A → Reader TokenValue (List A)
braces_at p = braces_while before_close p
