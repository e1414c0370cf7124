-- What a sink that refuses bytes only where it is full keeps, and what its refusal tells.
use Rattle.std.proofs.Common.{◌≡◌, ℕ, ◌-◌, ◌≤◌, Bool, true, false, cond, List, [], ◌∷◌, ◌++◌, length, take, refl, sym, ap, ◌∙◌, subst, arith, Some, length-append}
use Rattle.std.specs.Prelude.{◌||◌, ◌&&◌, ◌==◌, not, min}
use Rattle.std.specs.List.{list_any}
use Rattle.std.proofs.lemmas.Bool.Decides.{nat_tests}
use Rattle.room_outside.specs.Calls.{after_call, next_fails}
use Rattle.room_outside.specs.Faults.{one_more}
use Rattle.room_outside.specs.MemSink.{SinkState, after_write, refuses, that_fit}
use Rattle.room_outside.specs.MemSink.{written_of as bytes_of}
use Rattle.room_outside.specs.Written.{Appends}
use Rattle.journal_reader.specs.FullSink.{FailsIfFull, written_of}

none_fits : (n room used : ℕ) → (min n (room - used) == 0 && not (n == 0)) ≡ true → room ≤ used
none_fits n room used e = grind (arith, nat_tests)

-- a piece that is refused finds no room
refused_full : (s : SinkState) (piece : List ℕ) → s.calls.fail ≡ [] → refuses s piece ≡ true → s.room ≤ length s.bytes
refused_full s piece sure e =
    let none : next_fails s.calls ≡ false = ap (list_any (λ n. n == one_more s.calls.made)) sure in
    none_fits (length piece) s.room (length s.bytes) (ap (λ b. b || (that_fit s piece == 0 && not (length piece == 0))) (sym none) ∙ e)

pub after_keeps : (s : SinkState) (piece : List ℕ) → FailsIfFull s → FailsIfFull (after_write s piece)
after_keeps s piece h = split (refuses s piece) (refused_full s piece h.sure)
  where
    split : (b : Bool) → (b ≡ true → s.room ≤ length s.bytes) → FailsIfFull (cond b (record s { calls = after_call s.calls; faults = one_more s.faults }) (record s { calls = after_call s.calls; bytes = s.bytes ++ take (that_fit s piece) piece }))
    split true full_ = record { sure = h.sure; full = λ _. full_ refl }
    split false full_ = record { sure = h.sure; full = λ f. omega (arith, h.full f, length-append s.bytes (take (that_fit s piece) piece)) }

-- a write keeps the room
room_kept : (s : SinkState) (piece : List ℕ) → (after_write s piece).room ≡ s.room
room_kept s piece = split (refuses s piece)
  where
    split : (b : Bool) → (cond b (record s { calls = after_call s.calls; faults = one_more s.faults }) (record s { calls = after_call s.calls; bytes = s.bytes ++ take (that_fit s piece) piece })).room ≡ s.room
    split true = refl
    split false = refl

same_bytes : (xs ys : List ℕ) → Some xs ≡ Some ys → xs ≡ ys
same_bytes xs ys e = cc

-- what is told with the room grows as the bytes do
pub told_more : (old new : SinkState) (piece bytes : List ℕ) → new ≡ after_write old piece → Appends (bytes_of old) (bytes_of new) bytes → Appends (written_of old) (written_of new) bytes
told_more old new piece bytes e h =
    let room : new.room ≡ old.room = ap (λ (s : SinkState). s.room) e ∙ room_kept old piece in
    record {
      told = ap (λ r. Some (r ∷ new.bytes)) room ∙ ap (λ b. Some (old.room ∷ b)) (same_bytes new.bytes (old.bytes ++ bytes) h.told);
      faults = h.faults;
    }

pub still_full : (old new : SinkState) (piece : List ℕ) → FailsIfFull old → new ≡ after_write old piece → FailsIfFull new
still_full old new piece h e = subst FailsIfFull (sym e) (after_keeps old piece h)

pub ruleset full_sink_steps = (told_more, still_full)
