-- From part to part of lines that are all known.
use Rattle.std.proofs.Common.{◌≡◌, ℕ, zero, suc, inl, inr, ◌+◌, ◌-◌, ◌<◌, ◌≤◌, nat_lt, not, Bool, true, false, cond, List, [], ◌∷◌, ◌++◌, map, length, take, drop, Result, Ok, Err, IfOk, refl, sym, ap, ◌∙◌, subst, arith}
use Rattle.std.specs.List.{AllByRecursion, prefix_len}
use Rattle.std.proofs.lemmas.Bool.{cases_lt, lt-ltb, true≢false}
use Rattle.std.proofs.lemmas.List.{length-drop, drop-drop, take-append-drop}
use Rattle.std.proofs.lemmas.List.Elements.{All-from_recursion}
use Rattle.std.proofs.lemmas.List.Folds.{length-prefix_len}
use Rattle.std.proofs.lemmas.List.Sums.{prefix_len-le-length}
use Rattle.journal.specs.declared.entry.Journals.{Journals}
use Rattle.inject_reader.specs.declared.inject_lines.accepted.Line.{Line}
use Rattle.controller_actors.specs.declared.plant.Plant.{Plant}
use Rattle.model_run.specs.fixed_lines.Fixed.{message_line, settle_line}
use Rattle.model_run.specs.part_source.Parts.{is_message, IsPart, AreSettles, NextPart}
use Rattle.model_run.specs.run_ends.Runs.{IsRun, MayBeLeft, RanThrough}
use Rattle.model_run.specs.run_ends.Runs.MayBeLeft.{nothing, from_settle}

take_nothing : {X : Type 0} (n : ℕ) → ◌≡◌ {A = List X} (take n []) []
take_nothing zero = refl
take_nothing (suc n) = refl

pub take_add : {X : Type 0} (a b : ℕ) (xs : List X) → take (a + b) xs ≡ take a xs ++ take b (drop a xs)
take_add zero b xs = let same : zero + b ≡ b = omega arith in ap (λ (n : ℕ). take n xs) same
take_add {X} (suc a) b [] = take_nothing {X = X} (suc a + b) ∙ sym (take_nothing {X = X} b)
take_add {X} (suc a) b (x ∷ xs) =
    let same : suc a + b ≡ suc (a + b) = omega arith in
    ap (λ (n : ℕ). take n (x ∷ xs)) same ∙ ap (λ (z : List X). x ∷ z) (take_add a b xs)

one_more : (n : ℕ) → 1 + n ≡ suc n
one_more n = omega arith

-- the elements in front of which a test holds
in_front : {X : Type 0} (p : X → Bool) (xs : List X) → AllByRecursion (λ (x : X). p x ≡ true) (take (prefix_len p xs) xs)
in_front p [] = tt
in_front p (x ∷ xs) = by_test p x xs (p x) refl (in_front p xs)
  where
    by_test : {X : Type 0} (p : X → Bool) (x : X) (xs : List X) (t : Bool) → p x ≡ t → AllByRecursion (λ (y : X). p y ≡ true) (take (prefix_len p xs) xs)
        → AllByRecursion (λ (y : X). p y ≡ true) (take (cond t (1 + prefix_len p xs) 0) (x ∷ xs))
    by_test {X} p x xs true e rest = subst (λ (n : ℕ). AllByRecursion (λ (y : X). p y ≡ true) (take n (x ∷ xs))) (sym (one_more (prefix_len p xs))) (e, rest)
    by_test p x xs false e rest = tt

-- behind them it doesn't hold
pub behind : {X : Type 0} (p : X → Bool) (xs : List X) → prefix_len p (drop (prefix_len p xs) xs) ≡ 0
behind p [] = refl
behind p (x ∷ xs) = by_test p x xs (p x) refl (behind p xs)
  where
    by_test : {X : Type 0} (p : X → Bool) (x : X) (xs : List X) (t : Bool) → p x ≡ t → prefix_len p (drop (prefix_len p xs) xs) ≡ 0
        → prefix_len p (drop (cond t (1 + prefix_len p xs) 0) (x ∷ xs)) ≡ 0
    by_test p x xs true e rest = ap (λ (n : ℕ). prefix_len p (drop n (x ∷ xs))) (one_more (prefix_len p xs)) ∙ rest
    by_test p x xs false e rest = ap (λ (t : Bool). cond t (1 + prefix_len p xs) 0) e

pub messages_in_front : (lines : List Line) → IsPart (take (prefix_len message_line lines) lines)
messages_in_front lines = All-from_recursion (λ (l : Line). is_message l.what ≡ true) (take (prefix_len message_line lines) lines) (in_front message_line lines)

is_false : (b : Bool) → not b ≡ true → b ≡ false
is_false true h = absurd cc
is_false false h = refl

no_messages : (lines : List Line) → AllByRecursion (λ (l : Line). settle_line l ≡ true) lines → AllByRecursion (λ (l : Line). is_message l.what ≡ false) lines
no_messages [] h = tt
no_messages (l ∷ lines) h = (is_false (is_message l.what) h.0, no_messages lines h.1)

pub settles_in_front : (lines : List Line) → AreSettles (take (prefix_len settle_line lines) lines)
settles_in_front lines =
    let front = take (prefix_len settle_line lines) lines in
    All-from_recursion (λ (l : Line). is_message l.what ≡ false) front (no_messages front (in_front settle_line lines))

-- where neither a message nor a `settle` comes, nothing comes
pub nothing_comes : (lines : List Line) → prefix_len settle_line lines ≡ 0 → prefix_len message_line lines ≡ 0 → lines ≡ []
nothing_comes [] h k = refl
nothing_comes (l ∷ lines) h k = absurd (by_test lines (is_message l.what) h k)
  where
    by_test : (lines : List Line) (t : Bool) → cond (not t) (1 + prefix_len settle_line lines) 0 ≡ 0 → cond t (1 + prefix_len message_line lines) 0 ≡ 0 → ⊥
    by_test lines true h k = absurd (omega (arith, k))
    by_test lines false h k = absurd (omega (arith, h))

module _ (lines : List Line) (to settles messages : ℕ) (ends : prefix_len message_line (drop to lines) ≡ 0)
    (s : settles ≡ prefix_len settle_line (drop to lines)) (m : messages ≡ prefix_len message_line (drop settles (drop to lines))) where
  abbrev rest : List Line
  rest = drop to lines

  abbrev after : List Line
  after = drop settles rest

  abbrev part : List Line
  part = take messages after

  long : (k : ℕ) (p : Line → Bool) (xs : List Line) → k ≡ prefix_len p xs → length (take k xs) ≡ k
  long k p xs e = subst (λ (z : ℕ). length (take z xs) ≡ z) (sym e) (length-prefix_len p xs)

  no_settle_comes : prefix_len settle_line after ≡ 0
  no_settle_comes = subst (λ (z : ℕ). prefix_len settle_line (drop z rest) ≡ 0) (sym s) (behind settle_line rest)

  -- where no part follows, nothing does
  pub none_follows : messages ≡ 0 → after ≡ []
  none_follows e = nothing_comes after no_settle_comes (sym m ∙ e)

  some_settles : 0 < messages → 0 < settles
  some_settles some = go settles refl
    where
      go : (k : ℕ) → k ≡ settles → 0 < settles
      go zero e =
          let none : messages ≡ 0 = m ∙ ap (λ (z : ℕ). prefix_len message_line (drop z rest)) (sym e) ∙ ends in
          absurd (omega (arith, none))
      go (suc k) e = omega (arith, e)

  -- the end of the part that follows
  abbrev next : ℕ
  next = (to + settles) + messages

  pub given_more : take next lines ≡ take to lines ++ (take settles rest ++ part)
  given_more =
      let group : next ≡ to + (settles + messages) = omega arith in
      ap (λ (z : ℕ). take z lines) group ∙ take_add to (settles + messages) lines ∙ ap (λ (z : List Line). take to lines ++ z) (take_add settles messages rest)

  -- what is behind it
  pub left_then : drop next lines ≡ drop messages after
  left_then =
      sym (drop-drop messages (to + settles) lines) ∙ ap (λ (z : List Line). drop messages z) (sym (drop-drop settles to lines))

  pub ends_again : prefix_len message_line (drop next lines) ≡ 0
  ends_again =
      ap (λ (z : List Line). prefix_len message_line z) left_then
      ∙ subst (λ (z : ℕ). prefix_len message_line (drop z after) ≡ 0) (sym m) (behind message_line after)

  pub within_next : to ≤ length lines → next ≤ length lines
  within_next within =
      let l1 : length rest ≡ length lines - to = length-drop to lines in
      let l2 : length after ≡ length rest - settles = length-drop settles rest in
      let f1 : prefix_len settle_line rest ≤ length rest = prefix_len-le-length settle_line rest in
      let f2 : prefix_len message_line after ≤ length after = prefix_len-le-length message_line after in
      omega (arith, s, m)

  pub next_part : (more : Bool) → (more ≡ true → 0 < messages) → (more ≡ false → messages ≡ 0) → NextPart (take to lines) (take next lines) part more
  next_part more some none = record {
    settles = take settles rest;
    are = subst (λ (z : ℕ). AreSettles (take z rest)) (sym s) (settles_in_front rest);
    is = given_more;
    of = subst (λ (z : ℕ). IsPart (take z after)) (sym m) (messages_in_front after);
    ends = λ e. let first : 0 < settles = some_settles (some e) in omega (arith, long settles settle_line rest s);
    begins = λ e. let first : 0 < messages = some e in omega (arith, long messages message_line after m);
    over = λ e. ap (λ (z : ℕ). take z after) (none e);
  }

  pub none_left : messages ≡ 0 → map (λ (l : Line). l.number) (drop next lines) ≡ []
  none_left e = ap (λ (z : List Line). map (λ (l : Line). l.number) z) (left_then ∙ ap (λ (z : List Line). drop messages z) (none_follows e) ∙ ap (λ (z : ℕ). drop z []) e)

-- the run of a plant over all lines
no_numbers : (lines : List Line) → map (λ (l : Line). l.number) lines ≡ [] → lines ≡ []
no_numbers [] h = refl
no_numbers (l ∷ lines) h = absurd cc

no_message : (l : Line) (back : List Line) (t : Bool) → is_message l.what ≡ t → cond t (1 + prefix_len message_line back) 0 ≡ 0 → is_message l.what ≡ false
no_message l back true e h = absurd (omega (arith, h))
no_message l back false e h = e

may_be_left : (done : Bool) (back : List Line) → prefix_len message_line back ≡ 0 → (done ≡ true → map (λ (l : Line). l.number) back ≡ []) → MayBeLeft done back
may_be_left done [] h k = nothing
may_be_left true (l ∷ back) h k = let none : l ∷ back ≡ [] = no_numbers (l ∷ back) (k refl) in absurd cc
may_be_left false (l ∷ back) h k = from_settle l back (no_message l back (is_message l.what) refl h)

pub ran_fixed : (plant : Plant) (lines : List Line) (to fuel : ℕ) (j : Journals) → prefix_len message_line (drop to lines) ≡ 0
    → RanThrough plant (take to lines) (map (λ (l : Line). l.number) (drop to lines)) fuel j → IsRun plant lines fuel j
ran_fixed plant lines to fuel j ends r =
    let back = drop to lines in
    let run : IsRun plant (take to lines ++ back) fuel (record j { unposted = map (λ (l : Line). l.number) back }) = r.runs back (may_be_left j.done back ends r.whole) in
    subst (λ (z : List Line). IsRun plant z fuel j) (take-append-drop to lines)
    (subst (λ (z : List ℕ). IsRun plant (take to lines ++ back) fuel (record j { unposted = z })) (sym r.unposted) run)

-- what follows from two clauses of a call that ends well
pub if_ok_both : {T E : Type 0} {P Q R : T → Type 0} (r : Result T E) → ((x : T) → P x → Q x → R x) → IfOk r P → IfOk r Q → IfOk r R
if_ok_both (Ok x) f h k = f x h k
if_ok_both (Err e) f h k = tt

-- the test for a part
pub none_there : (n : ℕ) → nat_lt 0 n ≡ false → n ≡ 0
none_there n h = elim (cases_lt 0 n) [
  | inl some ↦ absurd (true≢false (sym (lt-ltb 0 n some) ∙ h))
  | inr none ↦ omega arith
]
