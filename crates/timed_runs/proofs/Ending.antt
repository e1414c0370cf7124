-- Where a run ends: what lines come to where the environment posts no more.
use Rattle.std.proofs.Common.{◌≡◌, ℕ, ◌+◌, ◌≤◌, nat_lt, Bool, true, false, if◌then◌else◌, cond, List, [], ◌∷◌, ◌++◌, length, Option, Some, None, refl, ap, subst, arith}
use Rattle.room_wiring.specs.declared.tables.Tables.{Tables}
use Rattle.inject_reader.specs.declared.inject_lines.accepted.Line.{Line}
use Rattle.inject_reader.specs.declared.inject_lines.accepted.What.{What}
use Rattle.inject_reader.specs.declared.inject_lines.accepted.What.TheVariants as whats
use Rattle.actor_merge.specs.World.{Placed}
use Rattle.actor_merge.specs.Merge.{entries_of}
use Rattle.model_run.specs.fixed_lines.Fixed.{message_line}
use Rattle.model_run.specs.part_source.Parts.{is_message as asks_message}
use Rattle.model_run.specs.run_ends.Runs.{MayBeLeft}
use Rattle.model_run.specs.run_ends.Runs.MayBeLeft.{nothing as none_left, from_settle}
use Rattle.room_timer.specs.Timers.{Timers, moment}
use Rattle.room_timer.specs.Expansion.{Point, cut_of, caught_up, goes_on, further, with_timers, is_message, settle, over, last, left_from, Expands, nothing, message, settled, advanced, cut_off}
use Rattle.timed_runs.specs.Passed.{messages_in_front}
use Rattle.timed_runs.proofs.Points.{Cut, cut_all}
use Rattle.timed_runs.proofs.Walking.{Finishes, finished, broken_off, Resumes}

-- ---- where the environment posts no more

-- no more posts stand ahead than those of the lines
abbrev pub NoMore : Tables → Point → Type 0
NoMore t p = length (entries_of (length t.controllers) p.ahead) ≤ p.since

-- what lines come to there
pub record ComeTo (t : Tables) (p : Point) (lines : List Line) : Type 0 where
  pub xs : List Line
  pub left : List Line
  pub expands : Expands t false p lines xs left

module _ (t : Tables) where
  nothing_ahead : (p : Point) → NoMore t p → (cut_of t p).1 ≡ []
  nothing_ahead p idle = ap (λ (c : Cut). c.1) (cut_all (length t.controllers) p.since p.ahead idle)

  goes_no_more : (p : Point) → NoMore t p → goes_on t p ≡ false
  goes_no_more p idle = ap (λ (xs : List Placed). nat_lt 0 (length xs)) (nothing_ahead p idle)

  -- so it is behind an `advance`
  abbrev pub at_time : Point → ℕ → Point
  at_time p until = with_timers (record (caught_up t p).timers { time = until }) (caught_up t p)

  none_then : (p : Point) (until : ℕ) → NoMore t p → NoMore t (at_time p until)
  none_then p until idle = let none : length (entries_of (length t.controllers) (cut_of t p).1) ≡ 0 = ap (λ (xs : List Placed). length (entries_of (length t.controllers) xs)) (nothing_ahead p idle) in omega (arith, none)

  none_further : (p : Point) → NoMore t p → NoMore t (further 1 p)
  none_further p idle = omega (arith, idle)

  line_comes : (p : Point) (l : Line) (lines : List Line) → NoMore t p → ((q : Point) → NoMore t q → ComeTo t q lines) → (w : What) → l.what ≡ w → ComeTo t p (l ∷ lines)
  line_comes p l lines idle rest whats.Settle is =
      let tail = rest p idle in
      record { xs = l ∷ tail.xs; left = left_from t false p (l ∷ lines) tail.left; expands = settled p l lines tail.xs tail.left is tail.expands }
  line_comes p l lines idle rest (whats.Advance time) is = go (moment l.number (caught_up t p).timers (p.timers.time + time)) refl
    where
      go : (o : Option (List Line × Timers)) → moment l.number (caught_up t p).timers (p.timers.time + time) ≡ o → ComeTo t p (l ∷ lines)
      go None none =
          let q = at_time p (p.timers.time + time) in
          let tail = rest q (none_then p (p.timers.time + time) idle) in
          record {
            xs = (settle l.number ∷ []) ++ tail.xs;
            left = left_from t false q (l ∷ lines) tail.left;
            expands = advanced p q l time lines (settle l.number ∷ []) tail.xs tail.left is (over p none) tail.expands;
          }
      go (Some m) some = record {
        xs = settle l.number ∷ m.0;
        left = l ∷ lines;
        expands = cut_off p (further (length m.0) (with_timers m.1 (caught_up t p))) l time lines (settle l.number ∷ m.0) is (last p m.0 m.1 some (goes_no_more p idle));
      }
  line_comes p l lines idle rest (whats.Message target signal payload prio) is =
      let tail = rest (further 1 p) (none_further p idle) in
      record { xs = l ∷ tail.xs; left = tail.left; expands = message p l lines tail.xs tail.left (ap is_message is) tail.expands }

  lines_come : (lines : List Line) (p : Point) → NoMore t p → ComeTo t p lines
  lines_come [] p idle = record { xs = []; left = []; expands = nothing p }
  lines_come (l ∷ lines) p idle = line_comes p l lines idle (λ q k. lines_come lines q k) l.what refl

  -- lines that are all left: what they come to may be left of a run that isn't done
  pub record AreLeft (p : Point) (hand : Option ℕ) (lines : List Line) : Type 0 where
    pub xs : List Line
    pub may : MayBeLeft false xs
    pub resumes : Resumes t false p hand lines xs lines

  all_left : (p : Point) (lines behind : List Line) → NoMore t p → left_from t false p lines behind ≡ lines
  all_left p lines behind idle = ap (λ (b : Bool). if b then behind else lines) (goes_no_more p idle)

  advance_left : (p : Point) (l : Line) (lines : List Line) (until : ℕ) → NoMore t p
      → (xs : List Line) × (MayBeLeft false xs × Finishes t false p l until lines xs (l ∷ lines))
  advance_left p l lines until idle = go (moment l.number (caught_up t p).timers until) refl
    where
      go : (o : Option (List Line × Timers)) → moment l.number (caught_up t p).timers until ≡ o
          → (xs : List Line) × (MayBeLeft false xs × Finishes t false p l until lines xs (l ∷ lines))
      go None none =
          let tail = lines_come lines (at_time p until) (none_then p until idle) in (
            settle l.number ∷ tail.xs,
            (
              from_settle (settle l.number) tail.xs refl,
              subst (λ (z : List Line). Finishes t false p l until lines (settle l.number ∷ tail.xs) z) (all_left (at_time p until) (l ∷ lines) tail.left (none_then p until idle))
                  (finished (at_time p until) (settle l.number ∷ []) tail.xs tail.left (over p none) tail.expands),
            ),
          )
      go (Some m) some = (
        settle l.number ∷ m.0,
        (
          from_settle (settle l.number) m.0 refl,
          broken_off (further (length m.0) (with_timers m.1 (caught_up t p))) (settle l.number ∷ m.0) (last p m.0 m.1 some (goes_no_more p idle)),
        ),
      )

  line_left : (p : Point) (l : Line) (lines : List Line) → NoMore t p → messages_in_front (l ∷ lines) ≡ 0 → (w : What) → l.what ≡ w → AreLeft p None (l ∷ lines)
  line_left p l lines idle ends whats.Settle is =
      let tail = lines_come lines p idle in
      record {
        xs = l ∷ tail.xs;
        may = from_settle l tail.xs (ap asks_message is);
        resumes = subst (λ (z : List Line). Expands t false p (l ∷ lines) (l ∷ tail.xs) z) (all_left p (l ∷ lines) tail.left idle)
            (settled p l lines tail.xs tail.left is tail.expands);
      }
  line_left p l lines idle ends (whats.Advance time) is =
      let here = advance_left p l lines (p.timers.time + time) idle in
      record { xs = here.0; may = here.1.0; resumes = fresh here.0 here.1.1 }
    where
      fresh : (xs : List Line) → Finishes t false p l (p.timers.time + time) lines xs (l ∷ lines) → Expands t false p (l ∷ lines) xs (l ∷ lines)
      fresh xs f = as_line xs (l ∷ lines) f
        where
          as_line : (xs left : List Line) → Finishes t false p l (p.timers.time + time) lines xs left → Expands t false p (l ∷ lines) xs left
          as_line xs left (finished q ms ys behind a e) = advanced p q l time lines ms ys behind is a e
          as_line xs left (broken_off q ms a) = cut_off p q l time lines ms is a
  line_left p l lines idle ends (whats.Message target signal payload prio) is =
      let one : message_line l ≡ true = ap asks_message is in
      let count : messages_in_front (l ∷ lines) ≡ 1 + messages_in_front lines = ap (λ (b : Bool). cond b (1 + messages_in_front lines) 0) one in
      absurd (omega (arith, ends, count))

  pub are_left : (p : Point) (hand : Option ℕ) (lines : List Line) → NoMore t p → messages_in_front lines ≡ 0 → AreLeft p hand lines
  are_left p None [] idle ends = record { xs = []; may = none_left; resumes = nothing p }
  are_left p None (l ∷ lines) idle ends = line_left p l lines idle ends l.what refl
  are_left p (Some time) [] idle ends = record { xs = []; may = none_left; resumes = nothing p }
  are_left p (Some time) (l ∷ lines) idle ends =
      let here = advance_left p l lines (p.timers.time + time) idle in
      record { xs = here.0; may = here.1.0; resumes = here.1.1 }

-- where no lines are left, nothing is
pub none_resumes : (t : Tables) (done : Bool) (p : Point) (hand : Option ℕ) → Resumes t done p hand [] [] []
none_resumes t done p None = nothing p
none_resumes t done p (Some time) = nothing p
