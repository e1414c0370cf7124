-- What holds of each armed timer, and stays so.
use Rattle.std.proofs.Common.{◌≡◌, ℕ, zero, suc, ◌+◌, ◌<◌, ◌≤◌, ◌==◌, nat_lt, nat_le, min, Bool, true, false, not, ◌&&◌, if◌then◌else◌, List, [], ◌∷◌, ◌++◌, Option, Some, None, refl, ap, subst, arith}
use Rattle.std.specs.Prelude.{ℤ, pos, negsuc, filter, position, slice_index_or, int_lt, option_map, option_and_then}
use Rattle.std.specs.List.{AllByRecursion, remove}
use Rattle.std.specs.Option.{option_map_or}
use Rattle.std.proofs.lemmas.Bool.{and_parts, eqb-false, leb-false}
use Rattle.room_kinds.specs.declared.numbers.Endpoint.{Endpoint}
use Rattle.journal.specs.declared.entry.Entry.{Entry}
use Rattle.journal.specs.declared.entry.Entry.TheVariants as entry
use Rattle.room_wiring.specs.declared.tables.Tables.{Tables}
use Rattle.inject_reader.specs.declared.inject_lines.accepted.Line.{Line}
use Rattle.room_timer.specs.declared.timer.Timer.{Timer}
use Rattle.room_timer.specs.Services.{is_timing, hears_timeout, start_timer, kill_timer}
use Rattle.room_timer.specs.Timers.{Timers, delay_of, is_at, disarmed, armed_at, asked, is_request, sent_at, outlives, saw, sooner, earliest, due_by, is_due, expired, moment}
use Rattle.room_timer.specs.Laws.{AreLater}

-- ---- lists

all_removed : (P : Timer → Type 0) (xs : List Timer) (i : ℕ) → AllByRecursion P xs → AllByRecursion P (remove xs i)
all_removed P [] zero h = tt
all_removed P [] (suc i) h = tt
all_removed P (x ∷ xs) zero h = h.1
all_removed P (x ∷ xs) (suc i) h = (h.0, all_removed P xs i h.1)

all_disarmed : (P : Timer → Type 0) (at : Endpoint) (xs : List Timer) → AllByRecursion P xs → AllByRecursion P (disarmed at xs)
unfolding disarmed
all_disarmed P at xs h = go (position (is_at at) xs)
  where
    go : (place : Option ℕ) → AllByRecursion P (option_map_or (remove xs) place xs)
    go None = h
    go (Some i) = all_removed P xs i h

all_behind : (P : Timer → Type 0) (xs : List Timer) (x : Timer) → AllByRecursion P xs → P x → AllByRecursion P (xs ++ x ∷ [])
all_behind P [] x h p = (p, tt)
all_behind P (y ∷ ys) x h p = (h.0, all_behind P ys x h.1 p)

pub all_filtered : (P : Timer → Type 0) (keep : Timer → Bool) (xs : List Timer) → AllByRecursion P xs → AllByRecursion P (filter keep xs)
all_filtered P keep [] h = tt
all_filtered P keep (x ∷ xs) h = go (keep x) (all_filtered P keep xs h.1)
  where
    go : (b : Bool) → AllByRecursion P (filter keep xs) → AllByRecursion P (if b then x ∷ filter keep xs else filter keep xs)
    go true rest = (h.0, rest)
    go false rest = rest

-- ---- what is seen

module _ (P : Timers → Timer → Type 0) (t : Tables) where
  -- where it holds of each timer that is armed anew, it goes on to hold
  pub seen : ((ts : Timers) (at : Endpoint) (delay : ℤ) → hears_timeout t at ≡ true → P ts (record { at = at; due = ts.time + delay_of delay }))
      → ((ts : Timers) (xs : List Timer) (x : Timer) → P ts x → P (record ts { armed = xs }) x)
      → (ts : Timers) (party : ℕ) (e : Entry) → AllByRecursion (P ts) ts.armed
      → AllByRecursion (P (saw t ts party e)) (saw t ts party e).armed
  unfolding saw
  seen anew keeps ts party (entry.Start who state ns) h = h
  seen anew keeps ts party (entry.Fetch stamp m) h = h
  seen anew keeps ts party (entry.Turn stamp from sent did ns) h =
      again (filter (outlives ns) ts.armed) (all_filtered (P ts) (outlives ns) ts.armed h)
    where
      again : (xs : List Timer) → AllByRecursion (P ts) xs → AllByRecursion (P (record ts { armed = xs })) xs
      again xs k = each xs xs k
        where
          each : (whole ys : List Timer) → AllByRecursion (P ts) ys → AllByRecursion (P (record ts { armed = whole })) ys
          each whole [] k = tt
          each whole (y ∷ ys) k = (keeps ts whole y k.0, each whole ys k.1)
  seen anew keeps ts party (entry.Post stamp m) h = by_party (nat_lt party _)
    where
      each : (whole ys : List Timer) → AllByRecursion (P ts) ys → AllByRecursion (P (record ts { armed = whole })) ys
      each whole [] k = tt
      each whole (y ∷ ys) k = (keeps ts whole y k.0, each whole ys k.1)

      armed_anew : (at : Endpoint) (delay : ℤ) → hears_timeout t at ≡ true
          → AllByRecursion (P (armed_at ts at delay)) (armed_at ts at delay).armed
      armed_anew at delay hears =
          each (armed_at ts at delay).armed (armed_at ts at delay).armed
          (all_behind (P ts) (disarmed at ts.armed) (record { at = at; due = ts.time + delay_of delay }) (all_disarmed (P ts) at ts.armed h) (anew ts at delay hears))

      by_signal : (at : Endpoint) → hears_timeout t at ≡ true → (numbers : List ℤ) (starts kills : Bool)
          → AllByRecursion (P (if starts then armed_at ts at (slice_index_or numbers 0 (pos 0)) else if kills then record ts { armed = disarmed at ts.armed } else ts))
          (if starts then armed_at ts at (slice_index_or numbers 0 (pos 0)) else if kills then record ts { armed = disarmed at ts.armed } else ts).armed
      by_signal at hears numbers true kills = armed_anew at (slice_index_or numbers 0 (pos 0)) hears
      by_signal at hears numbers false true = each (disarmed at ts.armed) (disarmed at ts.armed) (all_disarmed (P ts) at ts.armed h)
      by_signal at hears numbers false false = h

      by_request : (at : Endpoint) (b : Bool) → is_request t m at ≡ b
          → AllByRecursion (P (if b then asked ts at m.signal m.payload else ts)) (if b then asked ts at m.signal m.payload else ts).armed
      by_request at true is =
          let both = and_parts (nat_lt 0 m.prio.0 && is_timing t m.target) (hears_timeout t at) is in
          by_signal at both.1 m.payload (m.signal == start_timer) (m.signal == kill_timer)
      by_request at false is = h

      by_source : (source : Option Endpoint) → AllByRecursion (P (sent_at t ts m source)) (sent_at t ts m source).armed
      by_source None = h
      by_source (Some at) = by_request at (is_request t m at) refl

      by_party : (b : Bool) → AllByRecursion (P (if b then sent_at t ts m m.source else ts)) (if b then sent_at t ts m m.source else ts).armed
      by_party true = by_source m.source
      by_party false = h

-- ---- later than the time

delay_least : (delay : ℤ) → 1 ≤ delay_of delay
delay_least (pos zero) = omega arith
delay_least (pos (suc n)) = go (int_lt (pos (suc n)) (pos 1))
  where
    go : (b : Bool) → 1 ≤ (if b then 1 else suc n)
    go true = omega arith
    go false = omega arith
delay_least (negsuc n) = go (int_lt (negsuc n) (pos 1))
  where
    go : (b : Bool) → 1 ≤ (if b then 1 else suc n)
    go true = omega arith
    go false = omega arith

pub seen_later : (t : Tables) (ts : Timers) (party : ℕ) (e : Entry) → AreLater ts → AreLater (saw t ts party e)
seen_later t ts party e h =
    seen (λ (us : Timers) (x : Timer). us.time < x.due) t
    (λ us at delay hears. let least : 1 ≤ delay_of delay = delay_least delay in omega (arith, least))
    (λ us xs x k. k) ts party e h

some_least : (x : Timer) (o : Option ℕ) → sooner (Some x.due) o ≡ None → ⊥
some_least x None e = cc
some_least x (Some other) e = cc

-- the least due time is that of none later
all_after : (xs : List Timer) (time : ℕ) → earliest xs ≡ Some time → AllByRecursion (λ (x : Timer). time ≤ x.due) xs
all_after [] time h = tt
all_after (x ∷ xs) time h = go (earliest xs) refl h (λ other some. all_after xs other some)
  where
    weaker : (a b : ℕ) → a ≤ b → (ys : List Timer) → AllByRecursion (λ (y : Timer). b ≤ y.due) ys → AllByRecursion (λ (y : Timer). a ≤ y.due) ys
    weaker a b l [] k = tt
    weaker a b l (y ∷ ys) k = (let m : b ≤ y.due = k.0 in omega (arith, l, m), weaker a b l ys k.1)

    empty : (ys : List Timer) → earliest ys ≡ None → AllByRecursion (λ (y : Timer). time ≤ y.due) ys
    empty [] k = tt
    empty (y ∷ ys) k = absurd (some_least y (earliest ys) k)

    go : (o : Option ℕ) → earliest xs ≡ o → sooner (Some x.due) o ≡ Some time
        → ((other : ℕ) → earliest xs ≡ Some other → AllByRecursion (λ (y : Timer). other ≤ y.due) xs)
        → AllByRecursion (λ (y : Timer). time ≤ y.due) (x ∷ xs)
    go None none e again = let same : x.due ≡ time = cc in (omega (arith, same), empty xs none)
    go (Some other) some e again =
        let same : min x.due other ≡ time = cc in
        (omega (arith, same), weaker time other (omega (arith, same)) xs (again other some))

-- the least due time by another one is the least, and by that one
due_then : (until : ℕ) (xs : List Timer) (time : ℕ) → due_by until xs ≡ Some time → earliest xs ≡ Some time
unfolding due_by
due_then until xs time is = go (earliest xs) is
  where
    by_time : (least : ℕ) (b : Bool) → (if b then Some least else None) ≡ Some time → Some least ≡ Some time
    by_time least true e = e
    by_time least false e = absurd cc

    go : (o : Option ℕ) → option_and_then (λ least. if nat_le least until then Some least else None) o ≡ Some time → o ≡ Some time
    go None e = absurd cc
    go (Some least) e = by_time least (nat_le least until) e

none_due : (until : ℕ) (xs : List Timer) → due_by until xs ≡ None → AllByRecursion (λ (x : Timer). until < x.due) xs
unfolding due_by
none_due until xs is = go (earliest xs) refl is
  where
    all_more : (time : ℕ) → until < time → (ys : List Timer) → AllByRecursion (λ (x : Timer). time ≤ x.due) ys → AllByRecursion (λ (x : Timer). until < x.due) ys
    all_more time up [] k = tt
    all_more time up (y ∷ ys) k = (let low : time ≤ y.due = k.0 in omega (arith, up, low), all_more time up ys k.1)

    none_there : (ys : List Timer) → earliest ys ≡ None → AllByRecursion (λ (x : Timer). until < x.due) ys
    none_there [] k = tt
    none_there (y ∷ ys) k = absurd (some_least y (earliest ys) k)

    by_time : (time : ℕ) → earliest xs ≡ Some time → (b : Bool) → nat_le time until ≡ b
        → (if b then Some time else None) ≡ None → AllByRecursion (λ (x : Timer). until < x.due) xs
    by_time time least true e k = absurd cc
    by_time time least false e k = all_more time (leb-false time until e) xs (all_after xs time least)

    go : (o : Option ℕ) → earliest xs ≡ o → option_and_then (λ time. if nat_le time until then Some time else None) o ≡ None
        → AllByRecursion (λ (x : Timer). until < x.due) xs
    go None least e = none_there xs least
    go (Some time) least e = by_time time least (nat_le time until) refl e

-- those that aren't due at the least due time are due later
left_later : (time : ℕ) (xs : List Timer) → AllByRecursion (λ (x : Timer). time ≤ x.due) xs
    → AllByRecursion (λ (x : Timer). time < x.due) (filter (λ x. not (is_due time x)) xs)
left_later time [] k = tt
left_later time (x ∷ xs) k = by (is_due time x) refl (left_later time xs k.1)
  where
    by : (b : Bool) → is_due time x ≡ b → AllByRecursion (λ (y : Timer). time < y.due) (filter (λ y. not (is_due time y)) xs)
        → AllByRecursion (λ (y : Timer). time < y.due) (if not b then x ∷ filter (λ y. not (is_due time y)) xs else filter (λ y. not (is_due time y)) xs)
    by true e rest = rest
    by false e rest =
        let low : time ≤ x.due = k.0 in
        let apart : x.due ≡ time → ⊥ = eqb-false x.due time e in
        (omega (arith, low, apart), rest)

pub moment_later : (number : ℕ) (ts next : Timers) (until : ℕ) (ms : List Line) → AreLater ts → moment number ts until ≡ Some (ms, next) → AreLater next
moment_later number ts next until ms h is = go (due_by until ts.armed) refl is
  where
    go : (o : Option ℕ) → due_by until ts.armed ≡ o → option_map (expired number ts) o ≡ Some (ms, next) → AreLater next
    go None due e = absurd cc
    go (Some time) due e =
        let p : List Line × Timers = expired number ts time in
        let q : List Line × Timers = (ms, next) in
        let same : p ≡ q = cc in
        subst AreLater (ap (λ (z : List Line × Timers). z.1) same)
        (left_later time ts.armed (all_after ts.armed time (due_then until ts.armed time due)))

pub wait_later : (number : ℕ) (ts : Timers) (until : ℕ) → AreLater ts → moment number ts until ≡ None → AreLater (record ts { time = until })
wait_later number ts until h is = go (due_by until ts.armed) refl is
  where
    go : (o : Option ℕ) → due_by until ts.armed ≡ o → option_map (expired number ts) o ≡ None → AreLater (record ts { time = until })
    go None due e = none_due until ts.armed due
    go (Some time) due e = absurd cc
