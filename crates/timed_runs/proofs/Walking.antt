-- What a source of timed lines gives is what the lines come to.
-- From a point at which all that happened is seen, lines are passed until a part begins. What was given for them, and
-- then what the rest comes to from the part on, is what all of them come to from that point.
use Rattle.std.proofs.Common.{◌≡◌, ℕ, suc, ◌+◌, ◌-◌, nat_lt, Bool, true, false, ◌||◌, if◌then◌else◌, cond, List, [], ◌∷◌, ◌++◌, length, take, drop, Option, Some, None, refl, sym, ap, ◌∙◌, subst, arith, append_assoc, append-nil}
use Rattle.room_wiring.specs.declared.tables.Tables.{Tables}
use Rattle.inject_reader.specs.declared.inject_lines.accepted.Line.{Line}
use Rattle.inject_reader.specs.declared.inject_lines.accepted.What.{What}
use Rattle.inject_reader.specs.declared.inject_lines.accepted.What.TheVariants as whats
use Rattle.actor_merge.specs.World.{Placed}
use Rattle.model_run.specs.fixed_lines.Fixed.{message_line}
use Rattle.model_run.specs.part_source.Parts.{is_message as asks_message}
use Rattle.room_timer.specs.Timers.{Timers, moment}
use Rattle.room_timer.specs.Expansion.{Point, saw_all, cut_of, caught_up, goes_on, further, with_timers, is_message, settle, Advances, over, more, left_from, Expands, message, settled, advanced, cut_off}
use Rattle.timed_runs.specs.Passed.{Standing, messages_in_front, advancing, advance_on, line_passed, passed, passed_on}
use Rattle.timed_runs.proofs.Moments.{comes_to}
use Rattle.timed_runs.proofs.Points.{Cut, Stops, stops_there, Same, same_now, time_same, advance_same, expands_same}

-- what an `advance` that goes up to this time comes to, with the lines behind it
pub data Finishes (t : Tables) (done : Bool) (p : Point) (l : Line) (until : ℕ) (lines : List Line) : List Line → List Line → Type 0 where
  finished : (q : Point) (ms xs left : List Line) → Advances t l.number until p ms q true → Expands t done q lines xs left
      → Finishes t done p l until lines (ms ++ xs) (left_from t done q (l ∷ lines) left)
  broken_off : (q : Point) (ms : List Line) → Advances t l.number until p ms q false → Finishes t done p l until lines ms (l ∷ lines)

-- what lines come to, the first of which may be an `advance` of which so much is left
abbrev pub Resumes : Tables → Bool → Point → Option ℕ → List Line → List Line → List Line → Type 0
Resumes t done p None lines xs left = Expands t done p lines xs left
Resumes t done p (Some time) [] xs left = Expands t done p [] xs left
Resumes t done p (Some time) (l ∷ lines) xs left = Finishes t done p l (p.timers.time + time) lines xs left

-- a point at which all that happened is seen
pub record HasSeen (t : Tables) (p : Point) : Type 0 where
  pub since : p.since ≡ 0
  pub stops : Stops (length t.controllers) p.ahead

-- the point behind a part
abbrev pub behind_part : List Placed → Standing → Point
behind_part ahead s = record { timers = s.timers; ahead = ahead; since = length s.part }

-- the rest of what lines come to, behind the lines given before
pub record Rest (t : Tables) (done : Bool) (p : Point) (hand : Option ℕ) (lines gone : List Line) (s : Standing) (xs left : List Line) : Type 0 where
  pub ys : List Line
  pub is : (s.gone ++ s.part) ++ xs ≡ gone ++ ys
  pub resumes : Resumes t done p hand lines ys left

line_is : (l : Line) (w : What) → l.what ≡ w → l ≡ record { number = l.number; what = w }
line_is l w e = ap (λ (z : What). renamed z) e
  where
    renamed : What → Line
    renamed z = record { number = l.number; what = z }

-- a line that asks for a message is one
message_too : (w : What) → asks_message w ≡ true → is_message w ≡ true
message_too whats.Settle e = e
message_too (whats.Advance time) e = e
message_too (whats.Message target signal payload prio) e = refl

module _ (t : Tables) (done : Bool) where
  seen_already : (p : Point) → HasSeen t p → caught_up t p ≡ p
  seen_already p h = now p.since h.since
    where
      now : (k : ℕ) → k ≡ 0 → caught_up t (record p { since = k }) ≡ record p { since = k }
      now k e =
          let none : cut_of t (record p { since = k }) ≡ ([], p.ahead) =
          ap (λ (z : ℕ). cut_of t (record p { since = z })) e ∙ stops_there (length t.controllers) p.ahead h.stops in
          ap (λ (c : Cut). there c) none ∙ ap (λ (z : ℕ). record p { since = z }) (sym e)
        where
          there : Cut → Point
          there c = record { timers = saw_all t p.timers c.0; ahead = c.1; since = 0 }

  left_behind : (p : Point) (lines behind : List Line) → (done || goes_on t p) ≡ true → left_from t done p lines behind ≡ behind
  left_behind p lines behind ok = ap (λ (b : Bool). if b then behind else lines) ok

  -- messages in front, and what is behind them
  pub messages_then : (lines xs left : List Line) (p : Point)
      → Expands t done (further (length (take (messages_in_front lines) lines)) p) (drop (messages_in_front lines) lines) xs left
      → Expands t done p lines (take (messages_in_front lines) lines ++ xs) left
  messages_then [] xs left p e =
      let none : p.since + 0 ≡ p.since = omega arith in
      subst (λ (k : ℕ). Expands t done (record p { since = k }) [] xs left) none e
  messages_then (l ∷ lines) xs left p e = by (message_line l) refl (λ q a. messages_then lines xs left q a) e
    where
      by : (b : Bool) → message_line l ≡ b
          → ((q : Point) → Expands t done (further (length (take (messages_in_front lines) lines)) q) (drop (messages_in_front lines) lines) xs left
          → Expands t done q lines (take (messages_in_front lines) lines ++ xs) left)
          → Expands t done (further (length (take (cond b (1 + messages_in_front lines) 0) (l ∷ lines))) p) (drop (cond b (1 + messages_in_front lines) 0) (l ∷ lines)) xs left
          → Expands t done p (l ∷ lines) (take (cond b (1 + messages_in_front lines) 0) (l ∷ lines) ++ xs) left
      by true e rest a =
          let one : 1 + messages_in_front lines ≡ suc (messages_in_front lines) = omega arith in
          let next : Expands t done (further (length (take (suc (messages_in_front lines)) (l ∷ lines))) p) (drop (suc (messages_in_front lines)) (l ∷ lines)) xs left =
          subst (λ (k : ℕ). Expands t done (further (length (take k (l ∷ lines))) p) (drop k (l ∷ lines)) xs left) one a in
          let count : p.since + suc (length (take (messages_in_front lines) lines)) ≡ (p.since + 1) + length (take (messages_in_front lines) lines) = omega arith in
          subst (λ (k : ℕ). Expands t done p (l ∷ lines) (take k (l ∷ lines) ++ xs) left) (sym one)
          (message p l lines (take (messages_in_front lines) lines ++ xs) left (message_too l.what e)
          (rest (further 1 p) (subst (λ (k : ℕ). Expands t done (record p { since = k }) (drop (messages_in_front lines) lines) xs left) count next)))
      by false e rest a =
          let none : p.since + 0 ≡ p.since = omega arith in
          subst (λ (k : ℕ). Expands t done (record p { since = k }) (l ∷ lines) xs left) none a

  -- ---- an `advance`

  -- where it ends, the lines behind it go on at its time
  over_then : (p : Point) (l : Line) (until : ℕ) (lines ys left : List Line) → HasSeen t p → (done || goes_on t p) ≡ true
      → moment l.number p.timers until ≡ None → Expands t done (with_timers (record p.timers { time = until }) p) lines ys left
      → Finishes t done p l until lines (settle l.number ∷ ys) left
  over_then p l until lines ys left h ok none e =
      let here : caught_up t p ≡ p = seen_already p h in
      let ends : Advances t l.number until p (settle l.number ∷ []) (with_timers (record p.timers { time = until }) p) true =
      subst (λ (z : Point). Advances t l.number until p (settle l.number ∷ []) (with_timers (record z.timers { time = until }) z) true) here
      (over p (subst (λ (z : Point). moment l.number z.timers until ≡ None) (sym here) none)) in
      subst (λ (z : List Line). Finishes t done p l until lines (settle l.number ∷ ys) z)
      (left_behind (with_timers (record p.timers { time = until }) p) (l ∷ lines) left ok)
      (finished (with_timers (record p.timers { time = until }) p) (settle l.number ∷ []) ys left ends e)

  -- where it comes to a moment, it goes on behind it
  moment_then : (p : Point) (l : Line) (until : ℕ) (lines xs left ms : List Line) (ts : Timers) → HasSeen t p → goes_on t p ≡ true
      → moment l.number p.timers until ≡ Some (ms, ts)
      → Finishes t done (record { timers = ts; ahead = p.ahead; since = length ms }) l until lines xs left
      → Finishes t done p l until lines (settle l.number ∷ ms ++ xs) left
  moment_then p l until lines xs left ms ts h goes some f = go xs left f
    where
      here : caught_up t p ≡ p
      here = seen_already p h

      after : Point
      after = record { timers = ts; ahead = p.ahead; since = length ms }

      at_moment : further (length ms) (with_timers ts (caught_up t p)) ≡ record { timers = ts; ahead = p.ahead; since = length ms }
      at_moment =
          let count : 0 + length ms ≡ length ms = omega arith in
          ap (λ (z : Point). there z.ahead (0 + length ms)) here ∙ ap (λ (k : ℕ). there p.ahead k) count
        where
          there : List Placed → ℕ → Point
          there ahead k = record { timers = ts; ahead = ahead; since = k }

      goes_further : (q : Point) (ns : List Line) (b : Bool) → Advances t l.number until (record { timers = ts; ahead = p.ahead; since = length ms }) ns q b
          → Advances t l.number until p (settle l.number ∷ ms ++ ns) q b
      goes_further q ns b a =
          more p q ms ns ts b (subst (λ (z : Point). moment l.number z.timers until ≡ Some (ms, ts)) (sym here) some) goes
          (subst (λ (z : Point). Advances t l.number until z ns q b) (sym at_moment) a)

      go : (zs rest : List Line) → Finishes t done (record { timers = ts; ahead = p.ahead; since = length ms }) l until lines zs rest
          → Finishes t done p l until lines (settle l.number ∷ ms ++ zs) rest
      go zs rest (finished q ns ys behind a e) =
          subst (λ (z : List Line). Finishes t done p l until lines z (left_from t done q (l ∷ lines) behind)) (append_assoc (settle l.number ∷ ms) ns ys)
          (finished q (settle l.number ∷ ms ++ ns) ys behind (goes_further q ns true a) e)
      go zs rest (broken_off q ns a) = broken_off q (settle l.number ∷ ms ++ ns) (goes_further q ns false a)

  -- ---- lines

  -- one more `settle` in front
  settle_first : (gone part xs ys : List Line) (number : ℕ) (front : List Line) → (front ++ part) ++ xs ≡ (gone ++ settle number ∷ []) ++ ys
      → (front ++ part) ++ xs ≡ gone ++ (settle number ∷ ys)
  settle_first gone part xs ys number front e = e ∙ append_assoc gone (settle number ∷ []) ys

  module _ (ahead : List Placed) (stops : Stops (length t.controllers) ahead) (ok : (done || nat_lt 0 (length ahead)) ≡ true) where
    -- the point with these timers
    abbrev now : Timers → Point
    now ts = record { timers = ts; ahead = ahead; since = 0 }

    has_seen : (ts : Timers) → HasSeen t (now ts)
    has_seen ts = record { since = refl; stops = stops }

    -- whether the environment goes on
    goes_is : (ts : Timers) → goes_on t (now ts) ≡ nat_lt 0 (length ahead)
    goes_is ts = ap (λ (c : Cut). nat_lt 0 (length c.1)) (stops_there (length t.controllers) ahead stops)

    goes_ok : (ts : Timers) → (done || goes_on t (now ts)) ≡ true
    goes_ok ts = ap (λ (b : Bool). done || b) (goes_is ts) ∙ ok

    -- what is told of where lines lead: whatever the rest comes to
    abbrev Leads : Timers → Option ℕ → List Line → List Line → Standing → Type 0
    Leads ts hand lines gone s =
        (s.more ≡ true → nat_lt 0 (length ahead) ≡ true) → (xs left : List Line)
        → Resumes t done (behind_part ahead s) s.left s.behind xs left → Rest t done (now ts) hand lines gone s xs left

    -- an `advance` that goes on by so much
    advance_leads : (l : Line) (time : ℕ) (lines gone : List Line) (ts : Timers)
        → ((front : List Line) (us : Timers) → Leads us None lines front (passed lines front us))
        → (o : Option (List Line × Timers)) → moment l.number ts (ts.time + time) ≡ o
        → (s : Standing) → s ≡ advancing (passed lines) gone l.number (ts.time + time) ts (l ∷ lines) o
        → Leads ts (Some time) (l ∷ lines) gone s
    advance_leads l time lines gone ts rest None is s e = λ goes xs left r.
        let until : ℕ = ts.time + time in
        let tail : Rest t done (now (record ts { time = until })) None lines (gone ++ settle l.number ∷ []) s xs left =
        subst (λ (z : Standing). Leads (record ts { time = until }) None lines (gone ++ settle l.number ∷ []) z) (sym e)
        (rest (gone ++ settle l.number ∷ []) (record ts { time = until })) goes xs left r in
        record {
          ys = settle l.number ∷ tail.ys;
          is = settle_first gone s.part xs tail.ys l.number s.gone tail.is;
          resumes = over_then (now ts) l until lines tail.ys left (has_seen ts) (goes_ok ts) is tail.resumes;
        }
    advance_leads l time lines gone ts rest (Some m) is s e =
        subst (λ (z : Standing). Leads ts (Some time) (l ∷ lines) gone z) (sym e) here
      where
        until : ℕ
        until = ts.time + time

        here : Leads ts (Some time) (l ∷ lines) gone (advancing (passed lines) gone l.number (ts.time + time) ts (l ∷ lines) (Some m))
        here goes xs left r =
            let back : m.1.time + ((ts.time + time) - m.1.time) ≡ ts.time + time = comes_to l.number (ts.time + time) ts m.1 m.0 is in
            let behind : Finishes t done (record { timers = m.1; ahead = ahead; since = length m.0 }) l (ts.time + time) lines xs left =
            subst (λ (k : ℕ). Finishes t done (record { timers = m.1; ahead = ahead; since = length m.0 }) l k lines xs left) back r in
            record {
              ys = settle l.number ∷ m.0 ++ xs;
              is = append_assoc (gone ++ settle l.number ∷ []) m.0 xs ∙ append_assoc gone (settle l.number ∷ []) (m.0 ++ xs);
              resumes = moment_then (now ts) l (ts.time + time) lines xs left m.0 m.1 (has_seen ts) (goes_is ts ∙ goes refl) is behind;
            }

    -- a fresh line
    line_leads : (l : Line) (lines gone : List Line) (ts : Timers)
        → ((front : List Line) (us : Timers) → Leads us None lines front (passed lines front us))
        → (w : What) → l.what ≡ w → Leads ts None (l ∷ lines) gone (line_passed (passed lines) gone ts (l ∷ lines) l.number w)
    line_leads l lines gone ts rest whats.Settle is goes xs left r =
        let tail = rest (gone ++ settle l.number ∷ []) ts goes xs left r in
        let s = passed lines (gone ++ settle l.number ∷ []) ts in
        let line : l ≡ settle l.number = line_is l whats.Settle is in
        record {
          ys = settle l.number ∷ tail.ys;
          is = settle_first gone s.part xs tail.ys l.number s.gone tail.is;
          resumes = subst (λ (z : Line). Expands t done (now ts) (l ∷ lines) (z ∷ tail.ys) left) line
              (subst (λ (z : List Line). Expands t done (now ts) (l ∷ lines) (l ∷ tail.ys) z) (left_behind (now ts) (l ∷ lines) left (goes_ok ts))
              (settled (now ts) l lines tail.ys left is tail.resumes));
        }
    line_leads l lines gone ts rest (whats.Advance time) is goes xs left r =
        let s = advance_on (passed lines) gone l.number time ts (l ∷ lines) in
        let tail : Rest t done (now ts) (Some time) (l ∷ lines) gone s xs left =
        advance_leads l time lines gone ts rest (moment l.number ts (ts.time + time)) refl s refl goes xs left r in
        record { ys = tail.ys; is = tail.is; resumes = fresh tail.ys left tail.resumes }
      where
        fresh : (ys rest : List Line) → Finishes t done (now ts) l (ts.time + time) lines ys rest → Expands t done (now ts) (l ∷ lines) ys rest
        fresh ys rest (finished q ms zs behind a e) = advanced (now ts) q l time lines ms zs behind is a e
        fresh ys rest (broken_off q ms a) = cut_off (now ts) q l time lines ms is a
    line_leads l lines gone ts rest (whats.Message target signal payload prio) is goes xs left r =
        let part : List Line = take (messages_in_front (l ∷ lines)) (l ∷ lines) in
        let count : 0 + length part ≡ length part = omega arith in
        record {
          ys = part ++ xs;
          is = append_assoc gone part xs;
          resumes = messages_then (l ∷ lines) xs left (now ts)
              (subst (λ (k : ℕ). Expands t done (record { timers = ts; ahead = ahead; since = k }) (drop (messages_in_front (l ∷ lines)) (l ∷ lines)) xs left) (sym count) r);
        }

    passed_leads : (lines gone : List Line) (ts : Timers) → Leads ts None lines gone (passed lines gone ts)
    passed_leads [] gone ts = λ goes xs left r. record { ys = xs; is = ap (λ (z : List Line). z ++ xs) (append-nil gone); resumes = r }
    passed_leads (l ∷ lines) gone ts = line_leads l lines gone ts (λ front us. passed_leads lines front us) l.what refl

    -- all lines, the first of which may be an `advance` of which so much is left
    pub all_lead : (hand : Option ℕ) (lines gone : List Line) (ts : Timers) → Leads ts hand lines gone (passed_on hand lines gone ts)
    all_lead None lines gone ts = passed_leads lines gone ts
    all_lead (Some time) [] gone ts = λ goes xs left r. record { ys = xs; is = ap (λ (z : List Line). z ++ xs) (append-nil gone); resumes = r }
    all_lead (Some time) (l ∷ lines) gone ts =
        advance_leads l time lines gone ts (λ front us. passed_leads lines front us) (moment l.number ts (ts.time + time)) refl
        (advance_on (passed lines) gone l.number time ts (l ∷ lines)) refl

-- what lines come to from one point they come to from another one from which the same is seen
pub resumes_same : (t : Tables) (done : Bool) (p q : Point) (hand : Option ℕ) (lines xs left : List Line) → Same t p q
    → Resumes t done q hand lines xs left → Resumes t done p hand lines xs left
resumes_same t done p q None lines xs left same r = expands_same t done p q lines xs left same r
resumes_same t done p q (Some time) [] xs left same r = expands_same t done p q [] xs left same r
resumes_same t done p q (Some time) (l ∷ lines) xs left same r =
    subst (λ (z : ℕ). Finishes t done p l (z + time) lines xs left) (sym (time_same t p q (same_now t p q same))) (go xs left r)
  where
    go : (zs rest : List Line) → Finishes t done q l (q.timers.time + time) lines zs rest → Finishes t done p l (q.timers.time + time) lines zs rest
    go zs rest (finished r ms ys behind a e) =
        finished r ms ys behind (advance_same t l.number (q.timers.time + time) p q r ms true (same_now t p q same) a) e
    go zs rest (broken_off r ms a) = broken_off r ms (advance_same t l.number (q.timers.time + time) p q r ms false (same_now t p q same) a)
