-- How the words of the action language are spelled, and which word a text is.
use Rattle.std.specs.Prelude.{ℕ, List, [], ◌∷◌, Option, Some, None, Bool, nat_eq, codes, ◌==◌, if◌then◌else◌}
use lib.Pointwise.{pointwise}
use Rattle.room_tokens.specs.declared.action_tokens.word.ActionWord.{ActionWord}
use Rattle.room_tokens.specs.declared.action_tokens.word.ActionWord.TheVariants as words

-- how a word is spelled
abbrev pub spelling_of : ActionWord → List ℕ
spelling_of words.If = codes "if"
spelling_of words.Else = codes "else"
spelling_of words.Repeat = codes "repeat"
spelling_of words.At = codes "at"
spelling_of words.Defer = codes "defer"
spelling_of words.Recall = codes "recall"
spelling_of words.RecallAll = codes "recallAll"
spelling_of words.Incarnate = codes "incarnate"
spelling_of words.Destroy = codes "destroy"
spelling_of words.Import = codes "import"
spelling_of words.Deport = codes "deport"
spelling_of words.Register = codes "register"
spelling_of words.As = codes "as"
spelling_of words.Withdraw = codes "withdraw"
spelling_of words.True = codes "true"
spelling_of words.False = codes "false"
spelling_of words.Data = codes "data"
spelling_of words.Place = codes "place"
spelling_of words.Me = codes "self"
spelling_of words.Panic = codes "panic"
spelling_of words.High = codes "high"
spelling_of words.General = codes "general"
spelling_of words.Low = codes "low"
spelling_of words.Background = codes "background"

abbrev pub all_words : List ActionWord
all_words =
    words.If ∷ words.Else ∷ words.Repeat ∷ words.At ∷ words.Defer ∷ words.Recall ∷ words.RecallAll ∷ words.Incarnate ∷ words.Destroy ∷ words.Import ∷ words.Deport ∷ words.Register ∷ words.As ∷ words.Withdraw ∷ words.True ∷ words.False ∷ words.Data ∷ words.Place ∷ words.Me ∷ words.Panic ∷ words.High ∷ words.General ∷ words.Low ∷ words.Background ∷ []

-- the first of the words that the text spells
unfoldable pub first_of : List ActionWord → List ℕ → Option ActionWord
first_of [] text = None
first_of (word ∷ others) text = if pointwise nat_eq (spelling_of word) text then Some word else first_of others text

-- the word that the text spells
unfoldable pub word_of : List ℕ → Option ActionWord
word_of text = first_of all_words text

-- the number of a word, in order of declaration
abbrev pub word_number : ActionWord → ℕ
word_number words.If = 0
word_number words.Else = 1
word_number words.Repeat = 2
word_number words.At = 3
word_number words.Defer = 4
word_number words.Recall = 5
word_number words.RecallAll = 6
word_number words.Incarnate = 7
word_number words.Destroy = 8
word_number words.Import = 9
word_number words.Deport = 10
word_number words.Register = 11
word_number words.As = 12
word_number words.Withdraw = 13
word_number words.True = 14
word_number words.False = 15
word_number words.Data = 16
word_number words.Place = 17
word_number words.Me = 18
word_number words.Panic = 19
word_number words.High = 20
word_number words.General = 21
word_number words.Low = 22
word_number words.Background = 23

-- whether two words are the same
abbrev pub same_word : ActionWord → ActionWord → Bool
same_word v w = word_number v == word_number w
