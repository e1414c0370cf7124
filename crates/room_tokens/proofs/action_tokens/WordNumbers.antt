-- Words are told apart by their numbers.
use Rattle.std.proofs.Common.{◌≡◌, true, Some, refl, sym, ap, ◌∙◌}
use Rattle.std.proofs.lemmas.Bool.{eqb-true}
use Rattle.room_tokens.proofs.Singles.{nth, some_is}
use Rattle.room_tokens.specs.action_tokens.Words.{all_words, word_number, same_word}
use Rattle.room_tokens.specs.declared.action_tokens.word.ActionWord.{ActionWord}
use Rattle.room_tokens.specs.declared.action_tokens.word.ActionWord.TheVariants as words

word_found : (w : ActionWord) → nth all_words (word_number w) ≡ Some w
unfolding nth
word_found words.If = refl
word_found words.Else = refl
word_found words.Repeat = refl
word_found words.At = refl
word_found words.Defer = refl
word_found words.Recall = refl
word_found words.RecallAll = refl
word_found words.Incarnate = refl
word_found words.Destroy = refl
word_found words.Import = refl
word_found words.Deport = refl
word_found words.Register = refl
word_found words.As = refl
word_found words.Withdraw = refl
word_found words.True = refl
word_found words.False = refl
word_found words.Data = refl
word_found words.Place = refl
word_found words.Me = refl
word_found words.Panic = refl
word_found words.High = refl
word_found words.General = refl
word_found words.Low = refl
word_found words.Background = refl

pub same_word_is : (v w : ActionWord) → same_word v w ≡ true → v ≡ w
same_word_is v w e = some_is v w (sym (word_found v) ∙ ap (nth all_words) (eqb-true (word_number v) (word_number w) e) ∙ word_found w)
