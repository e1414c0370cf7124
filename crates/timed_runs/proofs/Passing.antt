-- The next part of a source of timed lines: some lines without a message, and then messages.
use Rattle.std.proofs.Common.{◌≡◌, ℕ, suc, ◌+◌, ◌<◌, ◌≤◌, Bool, true, false, cond, List, [], ◌∷◌, ◌++◌, length, take, Option, Some, None, refl, sym, ap, ◌∙◌, subst, arith, append_assoc, append-nil}
use Rattle.std.specs.List.{AllByRecursion}
use Rattle.std.proofs.lemmas.List.Elements.{All-from_recursion}
use Rattle.std.proofs.lemmas.List.Sums.{prefix_len-le-length}
use Rattle.inject_reader.specs.declared.inject_lines.accepted.Line.{Line}
use Rattle.inject_reader.specs.declared.inject_lines.accepted.What.{What}
use Rattle.inject_reader.specs.declared.inject_lines.accepted.What.TheVariants as whats
use Rattle.model_run.specs.fixed_lines.Fixed.{message_line}
use Rattle.model_run.specs.part_source.Parts.{is_message, IsPart, NextPart}
use Rattle.model_run.proofs.fixed_lines.FixedLaw.{messages_in_front as in_front, behind as ends_behind}
use Rattle.room_timer.specs.Timers.{Timers, moment}
use Rattle.room_timer.specs.Expansion.{settle}
use Rattle.room_timer.specs.Laws.{IsPlain}
use Rattle.timed_runs.specs.Passed.{Standing, at_end, messages_in_front, at_messages, advancing, advance_on, line_passed, passed, passed_on}
use Rattle.timed_runs.proofs.Moments.{some_timeout, are_timeouts}

-- a standing behind these lines: some without a message were given, and then a part
pub record Follows (gone : List Line) (s : Standing) : Type 0 where
  pub settles : List Line
  pub are : AllByRecursion (λ (l : Line). is_message l.what ≡ false) settles
  pub is : s.gone ≡ gone ++ settles
  pub of : IsPart s.part
  pub begins : s.more ≡ true → 0 < length s.part
  pub over : s.more ≡ false → s.part ≡ []
  pub all : s.more ≡ false → s.behind ≡ []
  pub ends : messages_in_front s.behind ≡ 0

-- the same, where some lines were given in front of a part
pub record FollowsLater (gone : List Line) (s : Standing) : Type 0 where
  pub follows : Follows gone s
  pub some : s.more ≡ true → 0 < length follows.settles

no_lines : IsPart []
no_lines = All-from_recursion (λ (l : Line). is_message l.what ≡ true) [] tt

pub front_within : (lines : List Line) → messages_in_front lines ≤ length lines
front_within lines = prefix_len-le-length message_line lines

-- a line without a message is no part
no_front : (l : Line) (lines : List Line) → message_line l ≡ false → messages_in_front (l ∷ lines) ≡ 0
no_front l lines e = ap (λ (b : Bool). cond b (1 + messages_in_front lines) 0) e

some_front : (l : Line) (lines : List Line) → message_line l ≡ true → 0 < length (take (messages_in_front (l ∷ lines)) (l ∷ lines))
some_front l lines e =
    let one : 1 + messages_in_front lines ≡ suc (messages_in_front lines) = omega arith in
    let count : messages_in_front (l ∷ lines) ≡ suc (messages_in_front lines) = ap (λ (b : Bool). cond b (1 + messages_in_front lines) 0) e ∙ one in
    subst (λ (k : ℕ). 0 < length (take k (l ∷ lines))) (sym count) (omega arith)

-- behind one `settle` more
later : (gone : List Line) (number : ℕ) (s : Standing) → Follows (gone ++ settle number ∷ []) s → FollowsLater gone s
later gone number s f = record {
  follows = record {
    settles = settle number ∷ f.settles;
    are = (refl, f.are);
    is = f.is ∙ append_assoc gone (settle number ∷ []) f.settles;
    of = f.of;
    begins = f.begins;
    over = f.over;
    all = f.all;
    ends = f.ends;
  };
  some = λ e. omega arith;
}

-- at the moment of an `advance`
at_moment : (gone : List Line) (number until : ℕ) (ts : Timers) (lines : List Line) (rest : List Line → Timers → Standing) (m : List Line × Timers)
    → moment number ts until ≡ Some m → messages_in_front lines ≡ 0 → FollowsLater gone (advancing rest gone number until ts lines (Some m))
at_moment gone number until ts lines rest m is ends = record {
  follows = record {
    settles = settle number ∷ [];
    are = (refl, tt);
    is = refl;
    of = are_timeouts number until ts m.1 m.0 is;
    begins = λ e. some_timeout number until ts m.1 m.0 is;
    over = λ e. absurd cc;
    all = λ e. absurd cc;
    ends = ends;
  };
  some = λ e. omega arith;
}

advance_follows : (gone : List Line) (number time : ℕ) (ts : Timers) (lines : List Line) (rest : List Line → Timers → Standing)
    → messages_in_front lines ≡ 0 → ((front : List Line) (us : Timers) → Follows front (rest front us))
    → FollowsLater gone (advance_on rest gone number time ts lines)
advance_follows gone number time ts lines rest ends more = go (moment number ts (ts.time + time)) refl
  where
    go : (o : Option (List Line × Timers)) → moment number ts (ts.time + time) ≡ o → FollowsLater gone (advancing rest gone number (ts.time + time) ts lines o)
    go None is = later gone number (rest (gone ++ settle number ∷ []) (record ts { time = ts.time + time })) (more (gone ++ settle number ∷ []) (record ts { time = ts.time + time }))
    go (Some m) is = at_moment gone number (ts.time + time) ts lines rest m is ends

messages_follow : (gone : List Line) (ts : Timers) (l : Line) (lines : List Line) → message_line l ≡ true → Follows gone (at_messages gone ts (l ∷ lines))
messages_follow gone ts l lines e = record {
  settles = [];
  are = tt;
  is = sym (append-nil gone);
  of = in_front (l ∷ lines);
  begins = λ more. some_front l lines e;
  over = λ more. absurd cc;
  all = λ more. absurd cc;
  ends = ends_behind message_line (l ∷ lines);
}

line_follows : (gone : List Line) (ts : Timers) (l : Line) (lines : List Line) → ((front : List Line) (us : Timers) → Follows front (passed lines front us))
    → (w : What) → l.what ≡ w → Follows gone (line_passed (passed lines) gone ts (l ∷ lines) l.number w)
line_follows gone ts l lines more whats.Settle is =
    (later gone l.number (passed lines (gone ++ settle l.number ∷ []) ts) (more (gone ++ settle l.number ∷ []) ts)).follows
line_follows gone ts l lines more (whats.Advance time) is =
    (advance_follows gone l.number time ts (l ∷ lines) (passed lines) (no_front l lines (ap is_message is)) more).follows
line_follows gone ts l lines more (whats.Message target signal payload prio) is = messages_follow gone ts l lines (ap is_message is)

end_follows : (gone : List Line) (ts : Timers) → Follows gone (at_end gone ts)
end_follows gone ts = record {
  settles = [];
  are = tt;
  is = sym (append-nil gone);
  of = no_lines;
  begins = λ e. absurd cc;
  over = λ e. refl;
  all = λ e. refl;
  ends = refl;
}

passed_follows : (lines gone : List Line) (ts : Timers) → Follows gone (passed lines gone ts)
passed_follows [] gone ts = end_follows gone ts
passed_follows (l ∷ lines) gone ts = line_follows gone ts l lines (λ front us. passed_follows lines front us) l.what refl

-- where no message stands in front, some lines are given in front of a part
line_later : (gone : List Line) (ts : Timers) (l : Line) (lines : List Line) → messages_in_front (l ∷ lines) ≡ 0
    → (w : What) → l.what ≡ w → FollowsLater gone (line_passed (passed lines) gone ts (l ∷ lines) l.number w)
line_later gone ts l lines ends whats.Settle is =
    later gone l.number (passed lines (gone ++ settle l.number ∷ []) ts) (passed_follows lines (gone ++ settle l.number ∷ []) ts)
line_later gone ts l lines ends (whats.Advance time) is =
    advance_follows gone l.number time ts (l ∷ lines) (passed lines) ends (λ front us. passed_follows lines front us)
line_later gone ts l lines ends (whats.Message target signal payload prio) is =
    let e : message_line l ≡ true = ap is_message is in
    let count : messages_in_front (l ∷ lines) ≡ 1 + messages_in_front lines = ap (λ (b : Bool). cond b (1 + messages_in_front lines) 0) e in
    absurd (omega (arith, ends, count))

end_later : (gone : List Line) (ts : Timers) → FollowsLater gone (at_end gone ts)
end_later gone ts = record { follows = end_follows gone ts; some = λ e. absurd cc }

pub all_follow : (hand : Option ℕ) (lines gone : List Line) (ts : Timers) → messages_in_front lines ≡ 0 → FollowsLater gone (passed_on hand lines gone ts)
all_follow None [] gone ts ends = end_later gone ts
all_follow None (l ∷ lines) gone ts ends = line_later gone ts l lines ends l.what refl
all_follow (Some time) [] gone ts ends = end_later gone ts
all_follow (Some time) (l ∷ lines) gone ts ends = advance_follows gone l.number time ts (l ∷ lines) (passed lines) ends (λ front us. passed_follows lines front us)

-- so a part follows
pub next_part : (before gone part : List Line) (more : Bool) (s : Standing) → FollowsLater before s → s.gone ≡ gone → s.part ≡ part → s.more ≡ more
    → NextPart before (gone ++ part) part more
next_part before gone part more s f g p m = record {
  settles = f.follows.settles;
  are = All-from_recursion (λ (l : Line). is_message l.what ≡ false) f.follows.settles f.follows.are;
  is = ap (λ (z : List Line). z ++ part) (sym g ∙ f.follows.is) ∙ append_assoc before f.follows.settles part;
  of = subst IsPart p f.follows.of;
  ends = λ e. f.some (m ∙ e);
  begins = λ e. subst (λ (z : List Line). 0 < length z) p (f.follows.begins (m ∙ e));
  over = λ e. sym p ∙ f.follows.over (m ∙ e);
}

-- ---- lines that don't move the time

line_plain : (gone : List Line) (ts : Timers) (l : Line) (lines : List Line) → IsPlain l → ((front : List Line) (us : Timers) → (passed lines front us).left ≡ None)
    → (w : What) → l.what ≡ w → (line_passed (passed lines) gone ts (l ∷ lines) l.number w).left ≡ None
line_plain gone ts l lines plain more whats.Settle is = more (gone ++ settle l.number ∷ []) ts
line_plain gone ts l lines plain more (whats.Advance time) is = absurd (plain time is)
line_plain gone ts l lines plain more (whats.Message target signal payload prio) is = refl

-- over them no `advance` is begun
pub passed_plain : (lines gone : List Line) (ts : Timers) → AllByRecursion IsPlain lines → (passed lines gone ts).left ≡ None
passed_plain [] gone ts h = refl
passed_plain (l ∷ lines) gone ts h = line_plain gone ts l lines h.0 (λ front us. passed_plain lines front us h.1) l.what refl

pub all_plain : (hand : Option ℕ) (lines gone : List Line) (ts : Timers) → AllByRecursion IsPlain lines → hand ≡ None → (passed_on hand lines gone ts).left ≡ None
all_plain None lines gone ts h fresh = passed_plain lines gone ts h
all_plain (Some time) lines gone ts h fresh = absurd cc

-- ---- what comes behind

-- lines of which the first isn't a message
pub data FirstIsNone : List Line → Type 0 where
  no_line : FirstIsNone []
  first : (l : Line) (lines : List Line) → is_message l.what ≡ false → FirstIsNone (l ∷ lines)

pub first_is_none : (lines : List Line) → messages_in_front lines ≡ 0 → FirstIsNone lines
first_is_none [] h = no_line
first_is_none (l ∷ lines) h = go (message_line l) refl h
  where
    go : (b : Bool) → message_line l ≡ b → cond b (1 + messages_in_front lines) 0 ≡ 0 → FirstIsNone (l ∷ lines)
    go true e k = absurd (omega (arith, k))
    go false e k = first l lines e

-- behind a standing the lines go on by one that isn't a message, or not at all
pub none_in_front : (gone rest : List Line) (s : Standing) → (f : FollowsLater gone s) → messages_in_front rest ≡ 0
    → messages_in_front (f.follows.settles ++ (s.part ++ rest)) ≡ 0
none_in_front gone rest s f ends = go f.follows.settles f.follows.are f.some
  where
    go : (settles : List Line) → AllByRecursion (λ (l : Line). is_message l.what ≡ false) settles → (s.more ≡ true → 0 < length settles)
        → messages_in_front (settles ++ (s.part ++ rest)) ≡ 0
    go (l ∷ settles) are some = no_front l (settles ++ (s.part ++ rest)) are.0
    go [] are some = none s.more refl
      where
        none : (b : Bool) → s.more ≡ b → messages_in_front (s.part ++ rest) ≡ 0
        none true e = absurd (omega (arith, some e))
        none false e = ap (λ (part : List Line). messages_in_front (part ++ rest)) (f.follows.over e) ∙ ends
