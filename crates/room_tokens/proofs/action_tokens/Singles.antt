-- Single tokens: what is taken is what was there, and it is read again.
use Rattle.std.proofs.Common.{◌≡◌, ℕ, true, List, [], ◌∷◌, Some, refl, ap, sym}
use Rattle.std.proofs.lemmas.Bool.{eq-eqb}
use Rattle.room_lexer.specs.declared.token.Mark.{Mark}
use Rattle.room_tokens.specs.Single.{mark_number}
use Rattle.room_tokens.proofs.Readers.{Sound, Reads, taken, Anything, take_if_sound, take_if_reads}
use Rattle.room_tokens.proofs.Singles.{same_mark_is}
use Rattle.room_tokens.specs.action_tokens.Words.{word_number}
use Rattle.room_tokens.specs.action_tokens.Values.{Value, AWord, AName, ANumber, AMark}
use Rattle.room_tokens.specs.action_tokens.Single.{comes, comes_word, mark, word, name_at, number_at}
use Rattle.room_tokens.specs.Reader.{rest_of}
use Rattle.room_tokens.specs.declared.action_tokens.word.ActionWord.{ActionWord}
use Rattle.room_tokens.proofs.action_tokens.WordNumbers.{same_word_is}

-- ---- what is taken

pub comes_is : (m : Mark) (ts : List Value) → comes m ts ≡ true → ts ≡ AMark m ∷ rest_of ts
unfolding comes
comes_is m [] e = absurd cc
comes_is m (AWord w ∷ ts) e = absurd cc
comes_is m (AName n ∷ ts) e = absurd cc
comes_is m (ANumber n ∷ ts) e = absurd cc
comes_is m (AMark n ∷ ts) e = ap (λ k. AMark k ∷ ts) (sym (same_mark_is m n e))

pub comes_word_is : (w : ActionWord) (ts : List Value) → comes_word w ts ≡ true → ts ≡ AWord w ∷ rest_of ts
unfolding comes_word
comes_word_is v [] e = absurd cc
comes_word_is v (AWord w ∷ ts) e = ap (λ k. AWord k ∷ ts) (sym (same_word_is v w e))
comes_word_is v (AName n ∷ ts) e = absurd cc
comes_word_is v (ANumber n ∷ ts) e = absurd cc
comes_word_is v (AMark n ∷ ts) e = absurd cc

pub mark_sound : (m : Mark) → Sound (mark m) (λ _. AMark m ∷ [])
mark_sound m = take_if_sound (AMark m) (comes m) (comes_is m)

pub word_sound : (w : ActionWord) → Sound (word w) (λ _. AWord w ∷ [])
word_sound w = take_if_sound (AWord w) (comes_word w) (comes_word_is w)

name_takes : (ts : List Value) (z : List ℕ × List Value) → name_at ts ≡ Some z → ts ≡ AName z.0 ∷ z.1
unfolding name_at
name_takes [] z e = absurd cc
name_takes (AWord w ∷ ts) z e = absurd cc
name_takes (AName n ∷ ts) z e = taken (λ k. AName k ∷ []) (AName n ∷ ts) (n, ts) z refl e
name_takes (ANumber n ∷ ts) z e = absurd cc
name_takes (AMark n ∷ ts) z e = absurd cc

pub name_sound : Sound name_at (λ name. AName name ∷ [])
name_sound = record { takes = name_takes }

number_takes : (ts : List Value) (z : ℕ × List Value) → number_at ts ≡ Some z → ts ≡ ANumber z.0 ∷ z.1
unfolding number_at
number_takes [] z e = absurd cc
number_takes (AWord w ∷ ts) z e = absurd cc
number_takes (AName n ∷ ts) z e = absurd cc
number_takes (ANumber n ∷ ts) z e = taken (λ k. ANumber k ∷ []) (ANumber n ∷ ts) (n, ts) z refl e
number_takes (AMark n ∷ ts) z e = absurd cc

pub number_sound : Sound number_at (λ n. ANumber n ∷ [])
number_sound = record { takes = number_takes }

-- ---- what is read again

pub comes_here : (m : Mark) (rest : List Value) → comes m (AMark m ∷ rest) ≡ true
unfolding comes
comes_here m rest = eq-eqb (mark_number m) (mark_number m) refl

pub comes_word_here : (w : ActionWord) (rest : List Value) → comes_word w (AWord w ∷ rest) ≡ true
unfolding comes_word
comes_word_here w rest = eq-eqb (word_number w) (word_number w) refl

pub mark_reads : (m : Mark) → Reads (mark m) (AMark m ∷ []) tt Anything
mark_reads m = take_if_reads (AMark m) (comes m) (comes_here m)

pub word_reads : (w : ActionWord) → Reads (word w) (AWord w ∷ []) tt Anything
word_reads w = take_if_reads (AWord w) (comes_word w) (comes_word_here w)

pub name_reads : (name : List ℕ) → Reads name_at (AName name ∷ []) name Anything
unfolding name_at
name_reads name = record { again = λ rest any. refl }

pub number_reads : (n : ℕ) → Reads number_at (ANumber n ∷ []) n Anything
unfolding number_at
number_reads n = record { again = λ rest any. refl }
