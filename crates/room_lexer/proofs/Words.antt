-- A text spells the word that is found for it.
use Rattle.std.proofs.Common.{◌≡◌, ℕ, Bool, true, false, cond, List, [], ◌∷◌, Option, Some, None, refl, sym, ap, ◌∙◌}
use Rattle.std.specs.Prelude.{nat_eq, length}
use Rattle.std.proofs.lemmas.Slice.Eq.{bytes_eq-Decides}
use lib.Pointwise.{pointwise}
use Rattle.room_lexer.specs.Words.{spelling_of, Spells, words_with, first_of, word_of}
use Rattle.room_lexer.specs.declared.word.Word.{Word}
use Rattle.room_lexer.specs.declared.word.Word.TheVariants as words

pub spelled : (word : Word) → word_of (spelling_of word) ≡ Some word
unfolding word_of words_with first_of
spelled words.RoomModel = refl
spelled words.Import = refl
spelled words.From = refl
spelled words.LogicalSystem = refl
spelled words.SubSystemRef = refl
spelled words.SubSystemClass = refl
spelled words.LogicalThread = refl
spelled words.ActorInstanceMapping = refl
spelled words.EventDriven = refl
spelled words.ProtocolClass = refl
spelled words.Incoming = refl
spelled words.Outgoing = refl
spelled words.Message = refl
spelled words.DataClass = refl
spelled words.Attribute = refl
spelled words.True = refl
spelled words.False = refl
spelled words.ActorClass = refl
spelled words.Extends = refl
spelled words.Interface = refl
spelled words.Spp = refl
spelled words.Structure = refl
spelled words.Behavior = refl
spelled words.StateMachine = refl
spelled words.Conjugated = refl
spelled words.Port = refl
spelled words.External = refl
spelled words.Sap = refl
spelled words.ServiceImplementation = refl
spelled words.Of = refl
spelled words.Fixed = refl
spelled words.Optional = refl
spelled words.Imported = refl
spelled words.ActorRef = refl
spelled words.Binding = refl
spelled words.And = refl
spelled words.LayerConnection = refl
spelled words.Ref = refl
spelled words.SatisfiedBy = refl
spelled words.Usercode = refl
spelled words.Usercode1 = refl
spelled words.Usercode2 = refl
spelled words.Usercode3 = refl
spelled words.State = refl
spelled words.Entry = refl
spelled words.Exit = refl
spelled words.Subgraph = refl
spelled words.ChoicePoint = refl
spelled words.TransitionPoint = refl
spelled words.EntryPoint = refl
spelled words.ExitPoint = refl
spelled words.Transition = refl
spelled words.Triggers = refl
spelled words.Cond = refl
spelled words.Action = refl
spelled words.Or = refl
spelled words.Guard = refl
spelled words.Initial = refl
spelled words.Cp = refl
spelled words.My = refl
spelled words.RefinedState = refl
spelled words.RefinedTransition = refl

pointwise_same : (xs ys : List ℕ) → pointwise nat_eq xs ys ≡ true → xs ≡ ys
pointwise_same xs ys e = (bytes_eq-Decides xs ys).0 e

by_test : (w word : Word) (text : List ℕ) (others : Option Word) (t : Bool) → pointwise nat_eq (spelling_of w) text ≡ t → (others ≡ Some word → text ≡ spelling_of word) → cond t (Some w) others ≡ Some word → text ≡ spelling_of word
by_test w word text others true same more e = let found : w ≡ word = cc in sym (pointwise_same (spelling_of w) text same) ∙ ap spelling_of found
by_test w word text others false same more e = more e

first_is : (ws : List Word) (text : List ℕ) (word : Word) → first_of ws text ≡ Some word → text ≡ spelling_of word
unfolding first_of
first_is [] text word e = absurd cc
first_is (w ∷ ws) text word e = by_test w word text (first_of ws text) (pointwise nat_eq (spelling_of w) text) refl (λ more. first_is ws text word more) e

word_is : (text : List ℕ) (word : Word) → word_of text ≡ Some word → text ≡ spelling_of word
unfolding word_of
word_is text word e = first_is (words_with (length text)) text word e

pub word_right : (text : List ℕ) → Spells (word_of text) text
word_right text = by_word (word_of text) refl
  where
    by_word : (o : Option Word) → word_of text ≡ o → Spells o text
    by_word (Some word) e = word_is text word e
    by_word None e = λ word same. let none : Some word ≡ None = sym (spelled word) ∙ ap word_of (sym same) ∙ e in cc

pub word_again : (o : Option Word) (text : List ℕ) → Spells o text → word_of text ≡ o
word_again (Some word) text h = ap word_of h ∙ spelled word
word_again None text h = by_word (word_of text) refl
  where
    by_word : (o : Option Word) → word_of text ≡ o → o ≡ None
    by_word (Some word) e = absurd (h word (word_is text word e))
    by_word None e = refl
