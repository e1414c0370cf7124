-- The moments at which timers are due.
use Rattle.std.proofs.Common.{◌≡◌, ℕ, ◌+◌, ◌-◌, ◌<◌, ◌≤◌, ◌==◌, nat_le, min, Bool, true, false, if◌then◌else◌, List, [], ◌∷◌, map, length, Option, Some, None, refl, sym, ap, ◌∙◌, subst, arith, eq-eqb, ◌⊎◌, inl, inr}
use Rattle.std.specs.Prelude.{filter, option_map, option_and_then}
use Rattle.std.specs.List.{AllByRecursion}
use Rattle.std.proofs.lemmas.List.Elements.{All-from_recursion}
use Rattle.std.proofs.lemmas.Bool.{leb-true, cases_eq, ne_eqb}
use Rattle.std.proofs.lemmas.List.{length-map}
use Rattle.std.proofs.lemmas.Option.{some_pair_parts, same_Some}
use Rattle.inject_reader.specs.declared.inject_lines.accepted.Line.{Line}
use Rattle.model_run.specs.part_source.Parts.{is_message, IsPart}
use Rattle.room_timer.specs.declared.timer.Timer.{Timer}
use Rattle.room_timer.specs.Timers.{Timers, sooner, earliest, due_by, is_due, timeout_line, expired, moment}

-- a moment is the least due time, and it is by the time that is asked for
record IsMoment (number : ℕ) (ts : Timers) (until : ℕ) (ms : List Line) (next : Timers) : Type 0 where
  time : ℕ
  least : earliest ts.armed ≡ Some time
  by : time ≤ until
  lines : ms ≡ map (timeout_line number) (filter (is_due time) ts.armed)
  comes : next.time ≡ time

is_moment : (number until : ℕ) (ts next : Timers) (ms : List Line) → moment number ts until ≡ Some (ms, next) → IsMoment number ts until ms next
unfolding due_by
is_moment number until ts next ms h = go (earliest ts.armed) refl h
  where
    here : (time : ℕ) → earliest ts.armed ≡ Some time → (b : Bool) → nat_le time until ≡ b
        → option_map (expired number ts) (if b then Some time else None) ≡ Some (ms, next) → IsMoment number ts until ms next
    here time least true low k =
        let parts = some_pair_parts (expired number ts time).0 ms (expired number ts time).1 next k in
        record {
          time = time;
          least = least;
          by = leb-true time until low;
          lines = sym parts.0;
          comes = ap (λ (z : Timers). z.time) (sym parts.1);
        }
    here time least false low k = absurd cc

    go : (o : Option ℕ) → earliest ts.armed ≡ o
        → option_map (expired number ts) (option_and_then (λ time. if nat_le time until then Some time else None) o) ≡ Some (ms, next)
        → IsMoment number ts until ms next
    go None e k = absurd cc
    go (Some time) e k = here time e (nat_le time until) refl k

-- a moment comes by the time that is asked for
pub moment_by : (number until : ℕ) (ts next : Timers) (ms : List Line) → moment number ts until ≡ Some (ms, next) → next.time ≤ until
moment_by number until ts next ms h =
    let m = is_moment number until ts next ms h in
    omega (arith, m.by, m.comes)

-- what is left of a time, and then all of it
pub comes_to : (number until : ℕ) (ts next : Timers) (ms : List Line) → moment number ts until ≡ Some (ms, next) → next.time + (until - next.time) ≡ until
comes_to number until ts next ms h =
    let low : next.time ≤ until = moment_by number until ts next ms h in
    omega (arith, low)

-- some timer is due at the least due time
some_due : (xs : List Timer) (time : ℕ) → earliest xs ≡ Some time → 0 < length (filter (is_due time) xs)
some_due [] time h = absurd cc
some_due (x ∷ xs) time h = here (cases_eq x.due time) (λ e. some_due xs time e)
  where
    rest : (o : Option ℕ) → earliest xs ≡ o → sooner (Some x.due) o ≡ Some time → (x.due ≡ time → ⊥)
        → (earliest xs ≡ Some time → 0 < length (filter (is_due time) xs)) → 0 < length (filter (is_due time) xs)
    rest None e k apart more = absurd (apart (same_Some x.due time k))
    rest (Some other) e k apart more =
        let least : min x.due other ≡ time = same_Some (min x.due other) time k in
        let same : other ≡ time = omega (arith, least, apart) in
        more (e ∙ ap (λ (z : ℕ). Some z) same)

    here : (x.due ≡ time) ⊎ (x.due ≡ time → ⊥) → (earliest xs ≡ Some time → 0 < length (filter (is_due time) xs))
        → 0 < length (if x.due == time then x ∷ filter (is_due time) xs else filter (is_due time) xs)
    here (inl e) more =
        subst (λ (b : Bool). 0 < length (if b then x ∷ filter (is_due time) xs else filter (is_due time) xs)) (sym (eq-eqb x.due time e)) (omega arith)
    here (inr apart) more =
        subst (λ (b : Bool). 0 < length (if b then x ∷ filter (is_due time) xs else filter (is_due time) xs)) (sym (ne_eqb x.due time apart))
        (rest (earliest xs) refl h apart more)

-- a moment has a timeout at least
pub some_timeout : (number until : ℕ) (ts next : Timers) (ms : List Line) → moment number ts until ≡ Some (ms, next) → 0 < length ms
some_timeout number until ts next ms h =
    let m = is_moment number until ts next ms h in
    let due : 0 < length (filter (is_due m.time) ts.armed) = some_due ts.armed m.time m.least in
    omega (arith, due, ap length m.lines, length-map (filter (is_due m.time) ts.armed) (timeout_line number))

timeouts_ask : (number : ℕ) (xs : List Timer) → AllByRecursion (λ (l : Line). is_message l.what ≡ true) (map (timeout_line number) xs)
timeouts_ask number [] = tt
timeouts_ask number (x ∷ xs) = (refl, timeouts_ask number xs)

-- a moment is a part
pub are_timeouts : (number until : ℕ) (ts next : Timers) (ms : List Line) → moment number ts until ≡ Some (ms, next) → IsPart ms
are_timeouts number until ts next ms h =
    let m = is_moment number until ts next ms h in
    let due : List Timer = filter (is_due m.time) ts.armed in
    subst IsPart (sym m.lines)
    (All-from_recursion (λ (l : Line). is_message l.what ≡ true) (map (timeout_line number) due) (timeouts_ask number due))
