-- What goes to a sink piece by piece.
use Rattle.std.proofs.Common.{◌≡◌, ℕ, ◌+◌, ◌<◌, ◌≤◌, min, List, [], ◌++◌, Option, Some, None, Result, Ok, Err, length, take, drop, refl, sym, ◌∙◌, ap, append_assoc, append-nil, arith, length-append, length-drop}
use Rattle.std.proofs.lemmas.List.{take-append-drop, length-take}
use Rattle.std.proofs.Math.Seq.{take-append_seam}
use Rattle.std.specs.Result.{OnOk}
use Rattle.room_outside.specs.Faults.{Rose, last_count}
use Rattle.room_outside.specs.Written.{Written, Appends, BreaksOffAfter, appended}
use Rattle.room_outside.specs.line_text.Output.{Held, Counts, Output, Put, Breaks, Puts, Stop, at_rest, holding, new_held}

-- told bytes and then nothing
told_nil : (told : Option (List ℕ)) → appended told [] ≡ told
told_nil None = refl
told_nil (Some xs) = ap Some (append-nil xs)

-- told bytes and then two parts
told_two : (told : Option (List ℕ)) (x y : List ℕ) → appended (appended told x) y ≡ appended told (x ++ y)
told_two None x y = refl
told_two (Some xs) x y = ap Some (append_assoc xs x y)

pub appends_none : (w : Written) → Appends w w []
appends_none w = record { told = sym (told_nil w.told); faults = omega arith }

pub appends_two : (a b c : Written) (x y : List ℕ) → Appends a b x → Appends b c y → Appends a c (x ++ y)
appends_two a b c x y p q = record {
  told = q.told ∙ (ap (λ t. appended t y) p.told ∙ told_two a.told x y);
  faults = omega arith;
}

rose_later : (a b c : ℕ) → a ≤ b → Rose b c → Rose a c
rose_later a b c le r = record { higher = λ h. let up : b < c = r.higher h in omega arith }

-- no more were counted
counts_none : (a : ℕ) → Counts a a 0
counts_none a = record { count = omega arith }

-- some were counted, and then some
counts_two : (a b c m n : ℕ) → Counts a b m → Counts b c n → Counts a c (m + n)
counts_two a b c m n p q = record { count = omega (arith, p.count, q.count) }

-- two fronts were counted
counts_fronts : (a b c : ℕ) (x y : List ℕ) → Counts a b (length x) → Counts b c (length y) → Counts a c (length (x ++ y))
counts_fronts a b c x y p q = rw length-append (counts_two a b c (length x) (length y) p q)

-- two splits joined
splits : (held x y f held' f' rest : List ℕ) → held ++ x ≡ f ++ held' → held' ++ y ≡ f' ++ rest → held ++ (x ++ y) ≡ (f ++ f') ++ rest
splits held x y f held' f' rest p q =
    sym (append_assoc held x y) ∙ (ap (λ l. l ++ y) p ∙ (append_assoc f held' y ∙ (ap (λ l. f ++ l) q ∙ sym (append_assoc f f' rest))))

-- nothing was put
pub put_none : (a : Output) → Put a a []
put_none a = record { front = []; appends = appends_none a.written; split = append-nil a.held.bytes; counts = counts_none a.held.taken }

-- bytes went into the buffer alone
pub put_held : (w : Written) (held : Held) (bytes : List ℕ) → Put (record { written = w; held = held }) (record { written = w; held = holding held bytes }) bytes
put_held w held bytes = record { front = []; appends = appends_none w; split = refl; counts = counts_none held.taken }

-- one part after another
pub put_two : (a b c : Output) (x y : List ℕ) → Put a b x → Put b c y → Put a c (x ++ y)
put_two a b c x y p q = record {
  front = p.front ++ q.front;
  appends = appends_two _ _ _ _ _ p.appends q.appends;
  split = splits a.held.bytes x y p.front b.held.bytes q.front c.held.bytes p.split q.split;
  counts = counts_fronts _ _ _ p.front q.front p.counts q.counts;
}

-- a buffer that holds nothing is at rest
pub put_rests : (a : Output) (w : Written) (held : Held) (x : List ℕ) → held.bytes ≡ [] → Put a (record { written = w; held = held }) x → Put a (at_rest w held) x
put_rests a w held x none p = record { front = p.front; appends = p.appends; split = p.split ∙ ap (λ l. p.front ++ l) none; counts = p.counts }

pub puts_rest : {E : Type 0} (r : Result Unit E) (a : Output) (w : Written) (held : Held) (x : List ℕ)
    → OnOk r (held.bytes ≡ []) → Puts r a (record { written = w; held = held }) x → Puts r a (at_rest w held) x
puts_rest (Ok v) a w held x none p = put_rests a w held x none p
puts_rest (Err e) a w held x none p = p

-- a fault as what the buffer held was written
pub breaks_flushed : (w w' : Written) (held : Held) (told taken : ℕ) → BreaksOffAfter told w w' held.bytes → Counts held.taken taken told
    → Breaks (record { written = w; held = held }) (record { written = w'; taken = taken }) []
breaks_flushed w w' held told taken p counts =
    let within : p.breaks.taken < length held.bytes = p.breaks.within in
    let number : told ≡ min p.breaks.taken last_count = p.number in
    let count : min taken last_count ≡ min (held.taken + told) last_count = counts.count in
    let long : length (take p.breaks.taken held.bytes) ≡ min p.breaks.taken (length held.bytes) = length-take p.breaks.taken held.bytes in
    record {
      front = take p.breaks.taken held.bytes;
      rest = drop p.breaks.taken held.bytes;
      appends = p.breaks.front;
      split = append-nil held.bytes ∙ sym (take-append-drop p.breaks.taken held.bytes);
      lost = omega (arith, length-drop p.breaks.taken held.bytes);
      counts = record { count = omega (arith, within, number, count, long) };
      fault = p.breaks.fault;
    }

-- a fault at the second part
pub breaks_second : (a b : Output) (w : Stop) (x y : List ℕ) → Put a b x → Breaks b w y → Breaks a w (x ++ y)
breaks_second a b w x y p q = record {
  front = p.front ++ q.front;
  rest = q.rest;
  appends = appends_two _ _ _ _ _ p.appends q.appends;
  split = splits a.held.bytes x y p.front b.held.bytes q.front q.rest p.split q.split;
  lost = q.lost;
  counts = counts_fronts _ _ _ p.front q.front p.counts q.counts;
  fault = rose_later _ _ _ p.appends.faults q.fault;
}

-- a fault before the last part
pub breaks_first : (a : Output) (w : Stop) (x y : List ℕ) → Breaks a w x → Breaks a w (x ++ y)
breaks_first a w x y p = record {
  front = p.front;
  rest = p.rest ++ y;
  appends = p.appends;
  split = sym (append_assoc a.held.bytes x y) ∙ (ap (λ l. l ++ y) p.split ∙ append_assoc p.front p.rest y);
  lost = let some : 0 < length p.rest = p.lost in omega (arith, length-append p.rest y);
  counts = p.counts;
  fault = p.fault;
}

-- a part, and then what a call puts
pub puts_second : {E : Type 0} (r : Result Unit E) (a b c : Output) (x y : List ℕ) → Put a b x → Puts r b c y → Puts r a c (x ++ y)
puts_second (Ok v) a b c x y p q = put_two a b c x y p q
puts_second (Err e) a b c x y p q = breaks_second a b _ x y p q

-- a fault in the middle of a text that went through a new buffer
pub whole_fault : {w w' : Written} {start : Held} {taken : ℕ} {text : List ℕ} (told : ℕ) → start ≡ new_held → told ≡ taken → told ≤ last_count
    → Breaks (at_rest w start) (record { written = w'; taken = taken }) text → BreaksOffAfter told w w' text
whole_fault {w} {w'} {start} {taken} {text} told new same range p =
    let whole : text ≡ p.front ++ p.rest = p.split in
    let some : 0 < length p.rest = p.lost in
    let front : take (length p.front) text ≡ p.front = rw whole (take-append_seam p.front p.rest) in
    let zero : start.taken ≡ 0 = ap (λ (h : Held). h.taken) new in
    let count : min taken last_count ≡ min (start.taken + length p.front) last_count = p.counts.count in
    record {
      breaks = record {
        taken = length p.front;
        within = rw whole (omega (arith, length-append p.front p.rest));
        front = rw front p.appends;
        fault = p.fault;
      };
      number = omega (arith, range, count, zero, same);
    }
