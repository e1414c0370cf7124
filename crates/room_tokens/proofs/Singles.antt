-- Single tokens are taken as they are, and read again.
use Rattle.std.proofs.Common.{◌≡◌, ℕ, zero, suc, Bool, true, false, List, [], ◌∷◌, ◌++◌, Option, Some, None, refl, sym, ap, ◌∙◌}
use Rattle.std.proofs.lemmas.Bool.{eq-eqb, eqb-true}
use Rattle.room_lexer.specs.declared.token.Mark.{Mark}
use Rattle.room_lexer.specs.declared.token.Mark.TheVariants as marks
use Rattle.room_lexer.specs.declared.word.Word.{Word}
use Rattle.room_lexer.specs.declared.word.Word.TheVariants as words
use Rattle.room_ast.specs.declared.protocol.PlainValue.{PlainValue}
use Rattle.room_ast.specs.Values.{TokenValue, AWord, AName, ANumber, AString, ABlock, AMark, spelled}
use Rattle.room_ast.specs.Tokens.{string}
use Rattle.room_tokens.specs.Reader.{rest_of}
use Rattle.room_tokens.specs.Single.{mark_number, word_number, same_mark, same_word, same_plain, comes, comes_word, word_here, mark, word, name_at, number_at, string_if, string_at, block_at}
use Rattle.room_tokens.proofs.Plain.{same_is, string_again}
use Rattle.room_tokens.proofs.Readers.{Sound, Reads, taken, Anything, take_if_sound, take_if_reads}

-- ---- marks and words are told apart by their numbers

unfoldable pub nth : {A : Type 0} → List A → ℕ → Option A
nth [] n = None
nth (x ∷ xs) zero = Some x
nth (x ∷ xs) (suc n) = nth xs n

pub some_is : {A : Type 0} (x y : A) → Some x ≡ Some y → x ≡ y
some_is x y e = cc

all_marks : List Mark
all_marks = marks.OpenBrace ∷ marks.CloseBrace ∷ marks.OpenParen ∷ marks.CloseParen ∷ marks.OpenBracket ∷ marks.CloseBracket ∷ marks.Less ∷ marks.Greater ∷ marks.Colon ∷ marks.Comma ∷ marks.Dot ∷ marks.Star ∷ marks.Minus ∷ marks.Equals ∷ marks.Bar ∷ marks.Slash ∷ marks.Semicolon ∷ marks.Plus ∷ marks.Percent ∷ marks.Bang ∷ marks.Arrow ∷ marks.EqualEqual ∷ marks.NotEqual ∷ marks.AtMost ∷ marks.AtLeast ∷ marks.AndAnd ∷ marks.OrOr ∷ []

mark_found : (m : Mark) → nth all_marks (mark_number m) ≡ Some m
unfolding nth all_marks
mark_found marks.OpenBrace = refl
mark_found marks.CloseBrace = refl
mark_found marks.OpenParen = refl
mark_found marks.CloseParen = refl
mark_found marks.OpenBracket = refl
mark_found marks.CloseBracket = refl
mark_found marks.Less = refl
mark_found marks.Greater = refl
mark_found marks.Colon = refl
mark_found marks.Comma = refl
mark_found marks.Dot = refl
mark_found marks.Star = refl
mark_found marks.Minus = refl
mark_found marks.Equals = refl
mark_found marks.Bar = refl
mark_found marks.Slash = refl
mark_found marks.Semicolon = refl
mark_found marks.Plus = refl
mark_found marks.Percent = refl
mark_found marks.Bang = refl
mark_found marks.Arrow = refl
mark_found marks.EqualEqual = refl
mark_found marks.NotEqual = refl
mark_found marks.AtMost = refl
mark_found marks.AtLeast = refl
mark_found marks.AndAnd = refl
mark_found marks.OrOr = refl

pub same_mark_is : (m n : Mark) → same_mark m n ≡ true → m ≡ n
same_mark_is m n e = some_is m n (sym (mark_found m) ∙ ap (nth all_marks) (eqb-true (mark_number m) (mark_number n) e) ∙ mark_found n)

all_words : List Word
all_words = words.RoomModel ∷ words.Import ∷ words.From ∷ words.LogicalSystem ∷ words.SubSystemRef ∷ words.SubSystemClass ∷ words.LogicalThread ∷ words.ActorInstanceMapping ∷ words.EventDriven ∷ words.ProtocolClass ∷ words.Incoming ∷ words.Outgoing ∷ words.Message ∷ words.DataClass ∷ words.Attribute ∷ words.True ∷ words.False ∷ words.ActorClass ∷ words.Extends ∷ words.Interface ∷ words.Spp ∷ words.Structure ∷ words.Behavior ∷ words.StateMachine ∷ words.Conjugated ∷ words.Port ∷ words.External ∷ words.Sap ∷ words.ServiceImplementation ∷ words.Of ∷ words.Fixed ∷ words.Optional ∷ words.Imported ∷ words.ActorRef ∷ words.Binding ∷ words.And ∷ words.LayerConnection ∷ words.Ref ∷ words.SatisfiedBy ∷ words.Usercode ∷ words.Usercode1 ∷ words.Usercode2 ∷ words.Usercode3 ∷ words.State ∷ words.Entry ∷ words.Exit ∷ words.Subgraph ∷ words.ChoicePoint ∷ words.TransitionPoint ∷ words.EntryPoint ∷ words.ExitPoint ∷ words.Transition ∷ words.Triggers ∷ words.Cond ∷ words.Action ∷ words.Or ∷ words.Guard ∷ words.Initial ∷ words.Cp ∷ words.My ∷ words.RefinedState ∷ words.RefinedTransition ∷ []

word_found : (w : Word) → nth all_words (word_number w) ≡ Some w
unfolding nth all_words
word_found words.RoomModel = refl
word_found words.Import = refl
word_found words.From = refl
word_found words.LogicalSystem = refl
word_found words.SubSystemRef = refl
word_found words.SubSystemClass = refl
word_found words.LogicalThread = refl
word_found words.ActorInstanceMapping = refl
word_found words.EventDriven = refl
word_found words.ProtocolClass = refl
word_found words.Incoming = refl
word_found words.Outgoing = refl
word_found words.Message = refl
word_found words.DataClass = refl
word_found words.Attribute = refl
word_found words.True = refl
word_found words.False = refl
word_found words.ActorClass = refl
word_found words.Extends = refl
word_found words.Interface = refl
word_found words.Spp = refl
word_found words.Structure = refl
word_found words.Behavior = refl
word_found words.StateMachine = refl
word_found words.Conjugated = refl
word_found words.Port = refl
word_found words.External = refl
word_found words.Sap = refl
word_found words.ServiceImplementation = refl
word_found words.Of = refl
word_found words.Fixed = refl
word_found words.Optional = refl
word_found words.Imported = refl
word_found words.ActorRef = refl
word_found words.Binding = refl
word_found words.And = refl
word_found words.LayerConnection = refl
word_found words.Ref = refl
word_found words.SatisfiedBy = refl
word_found words.Usercode = refl
word_found words.Usercode1 = refl
word_found words.Usercode2 = refl
word_found words.Usercode3 = refl
word_found words.State = refl
word_found words.Entry = refl
word_found words.Exit = refl
word_found words.Subgraph = refl
word_found words.ChoicePoint = refl
word_found words.TransitionPoint = refl
word_found words.EntryPoint = refl
word_found words.ExitPoint = refl
word_found words.Transition = refl
word_found words.Triggers = refl
word_found words.Cond = refl
word_found words.Action = refl
word_found words.Or = refl
word_found words.Guard = refl
word_found words.Initial = refl
word_found words.Cp = refl
word_found words.My = refl
word_found words.RefinedState = refl
word_found words.RefinedTransition = refl

pub same_word_is : (v w : Word) → same_word v w ≡ true → v ≡ w
same_word_is v w e = some_is v w (sym (word_found v) ∙ ap (nth all_words) (eqb-true (word_number v) (word_number w) e) ∙ word_found w)

-- ---- what is taken

pub comes_is : (m : Mark) (ts : List TokenValue) → comes m ts ≡ true → ts ≡ AMark m ∷ rest_of ts
unfolding comes
comes_is m [] e = absurd cc
comes_is m (AWord w ∷ ts) e = absurd cc
comes_is m (AName n ∷ ts) e = absurd cc
comes_is m (ANumber n ∷ ts) e = absurd cc
comes_is m (AString a b ∷ ts) e = absurd cc
comes_is m (ABlock n ∷ ts) e = absurd cc
comes_is m (AMark n ∷ ts) e = ap (λ k. AMark k ∷ ts) (sym (same_mark_is m n e))

pub comes_word_is : (w : Word) (ts : List TokenValue) → comes_word w ts ≡ true → ts ≡ AWord w ∷ rest_of ts
unfolding comes_word
comes_word_is v [] e = absurd cc
comes_word_is v (AWord w ∷ ts) e = ap (λ k. AWord k ∷ ts) (sym (same_word_is v w e))
comes_word_is v (AName n ∷ ts) e = absurd cc
comes_word_is v (ANumber n ∷ ts) e = absurd cc
comes_word_is v (AString a b ∷ ts) e = absurd cc
comes_word_is v (ABlock n ∷ ts) e = absurd cc
comes_word_is v (AMark n ∷ ts) e = absurd cc

pub word_here_is : (w : Word) (ts : List TokenValue) → word_here ts ≡ Some w → ts ≡ AWord w ∷ rest_of ts
unfolding word_here
word_here_is v [] e = absurd cc
word_here_is v (AWord w ∷ ts) e = ap (λ k. AWord k ∷ ts) (some_is w v e)
word_here_is v (AName n ∷ ts) e = absurd cc
word_here_is v (ANumber n ∷ ts) e = absurd cc
word_here_is v (AString a b ∷ ts) e = absurd cc
word_here_is v (ABlock n ∷ ts) e = absurd cc
word_here_is v (AMark n ∷ ts) e = absurd cc

pub mark_sound : (m : Mark) → Sound (mark m) (λ _. AMark m ∷ [])
mark_sound m = take_if_sound (AMark m) (comes m) (comes_is m)

pub word_sound : (w : Word) → Sound (word w) (λ _. AWord w ∷ [])
word_sound w = take_if_sound (AWord w) (comes_word w) (comes_word_is w)

name_takes : (ts : List TokenValue) (z : List ℕ × List TokenValue) → name_at ts ≡ Some z → ts ≡ AName z.0 ∷ z.1
unfolding name_at
name_takes [] z e = absurd cc
name_takes (AWord w ∷ ts) z e = absurd cc
name_takes (AName n ∷ ts) z e = taken (λ k. AName k ∷ []) (AName n ∷ ts) (n, ts) z refl e
name_takes (ANumber n ∷ ts) z e = absurd cc
name_takes (AString a b ∷ ts) z e = absurd cc
name_takes (ABlock n ∷ ts) z e = absurd cc
name_takes (AMark n ∷ ts) z e = absurd cc

pub name_sound : Sound name_at (λ name. AName name ∷ [])
name_sound = record { takes = name_takes }

number_takes : (ts : List TokenValue) (z : ℕ × List TokenValue) → number_at ts ≡ Some z → ts ≡ ANumber z.0 ∷ z.1
unfolding number_at
number_takes [] z e = absurd cc
number_takes (AWord w ∷ ts) z e = absurd cc
number_takes (AName n ∷ ts) z e = absurd cc
number_takes (ANumber n ∷ ts) z e = taken (λ k. ANumber k ∷ []) (ANumber n ∷ ts) (n, ts) z refl e
number_takes (AString a b ∷ ts) z e = absurd cc
number_takes (ABlock n ∷ ts) z e = absurd cc
number_takes (AMark n ∷ ts) z e = absurd cc

pub number_sound : Sound number_at (λ n. ANumber n ∷ [])
number_sound = record { takes = number_takes }

block_takes : (ts : List TokenValue) (z : List ℕ × List TokenValue) → block_at ts ≡ Some z → ts ≡ ABlock z.0 ∷ z.1
unfolding block_at
block_takes [] z e = absurd cc
block_takes (AWord w ∷ ts) z e = absurd cc
block_takes (AName n ∷ ts) z e = absurd cc
block_takes (ANumber n ∷ ts) z e = absurd cc
block_takes (AString a b ∷ ts) z e = absurd cc
block_takes (ABlock n ∷ ts) z e = taken (λ k. ABlock k ∷ []) (ABlock n ∷ ts) (n, ts) z refl e
block_takes (AMark n ∷ ts) z e = absurd cc

pub block_sound : Sound block_at (λ text. ABlock text ∷ [])
block_sound = record { takes = block_takes }

string_taken : (text : List ℕ) (value : Option PlainValue) (ts : List TokenValue) (b : Bool) → same_plain value (spelled text) ≡ b → (z : List ℕ × List TokenValue) → string_if text value ts b ≡ Some z → AString text value ∷ ts ≡ string z.0 ++ z.1
string_taken text value ts false same z e = absurd cc
string_taken text value ts true same z e = taken string (AString text value ∷ ts) (text, ts) z (ap (λ v. AString text v ∷ ts) (same_is value (spelled text) same)) e

string_takes : (ts : List TokenValue) (z : List ℕ × List TokenValue) → string_at ts ≡ Some z → ts ≡ string z.0 ++ z.1
unfolding string_at
string_takes [] z e = absurd cc
string_takes (AWord w ∷ ts) z e = absurd cc
string_takes (AName n ∷ ts) z e = absurd cc
string_takes (ANumber n ∷ ts) z e = absurd cc
string_takes (AString a b ∷ ts) z e = string_taken a b ts (same_plain b (spelled a)) refl z e
string_takes (ABlock n ∷ ts) z e = absurd cc
string_takes (AMark n ∷ ts) z e = absurd cc

pub string_sound : Sound string_at string
string_sound = record { takes = string_takes }

-- ---- what is read again

pub comes_here : (m : Mark) (rest : List TokenValue) → comes m (AMark m ∷ rest) ≡ true
unfolding comes
comes_here m rest = eq-eqb (mark_number m) (mark_number m) refl

pub comes_word_here : (w : Word) (rest : List TokenValue) → comes_word w (AWord w ∷ rest) ≡ true
unfolding comes_word
comes_word_here w rest = eq-eqb (word_number w) (word_number w) refl

pub mark_reads : (m : Mark) → Reads (mark m) (AMark m ∷ []) tt Anything
mark_reads m = take_if_reads (AMark m) (comes m) (comes_here m)

pub word_reads : (w : Word) → Reads (word w) (AWord w ∷ []) tt Anything
word_reads w = take_if_reads (AWord w) (comes_word w) (comes_word_here w)

pub name_reads : (name : List ℕ) → Reads name_at (AName name ∷ []) name Anything
unfolding name_at
name_reads name = record { again = λ rest any. refl }

pub number_reads : (n : ℕ) → Reads number_at (ANumber n ∷ []) n Anything
unfolding number_at
number_reads n = record { again = λ rest any. refl }

pub block_reads : (text : List ℕ) → Reads block_at (ABlock text ∷ []) text Anything
unfolding block_at
block_reads text = record { again = λ rest any. refl }

pub string_reads : (text : List ℕ) → Reads string_at (string text) text Anything
unfolding string_at
string_reads text = record { again = λ rest any. string_again text rest }
