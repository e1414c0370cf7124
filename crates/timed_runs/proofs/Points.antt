-- Points of an expansion: what is seen at two of them at once, or one after another.
use Rattle.std.proofs.Common.{◌≡◌, ℕ, zero, suc, ◌+◌, ◌≤◌, ◌==◌, nat_lt, Bool, true, false, ◌||◌, if◌then◌else◌, List, [], ◌∷◌, ◌++◌, length, Option, Some, None, refl, sym, ap, ◌∙◌, subst, arith, eq-eqb, ◌⊎◌, inl, inr}
use Rattle.std.specs.Prelude.{ℤ}
use Rattle.std.proofs.lemmas.Bool.{cases_eq, ne_eqb}
use Rattle.room_kinds.specs.declared.numbers.Endpoint.{Endpoint}
use Rattle.journal.specs.declared.entry.Entry.{Entry}
use Rattle.journal.specs.declared.entry.Entry.TheVariants as entry
use Rattle.room_wiring.specs.declared.tables.Tables.{Tables}
use Rattle.inject_reader.specs.declared.inject_lines.accepted.Line.{Line}
use Rattle.actor_merge.specs.World.{Placed}
use Rattle.actor_merge.specs.Merge.{entries_of}
use Rattle.room_timer.specs.Services.{start_timer, kill_timer}
use Rattle.room_timer.specs.Timers.{Timers, disarmed, asked, is_request, sent_at, saw, moment}
use Rattle.room_timer.specs.Expansion.{Point, before, cut_at, saw_all, cut_of, caught_up, goes_on, further, with_timers, settle, Advances, over, more, last, left_from, Expands, nothing, message, settled, advanced, cut_off}

-- ---- cuts

-- two lists
abbrev pub Cut : Type 0
Cut = List Placed × List Placed

-- the cut goes over an entry of another party
pub cut_other : (party k : ℕ) (x : Placed) (xs : List Placed) → (x.party ≡ party → ⊥) → cut_at party k (x ∷ xs) ≡ before x (cut_at party k xs)
cut_other party zero x xs apart = ap (λ (b : Bool). if b then ([], x ∷ xs) else before x (cut_at party zero xs)) (ne_eqb x.party party apart)
cut_other party (suc k) x xs apart = ap (λ (b : Bool). before x (cut_at party (if b then k else suc k) xs)) (ne_eqb x.party party apart)

-- it stops at the party's own entry, or goes over one
pub cut_own : (party : ℕ) (x : Placed) (xs : List Placed) → x.party ≡ party → cut_at party 0 (x ∷ xs) ≡ ([], x ∷ xs)
cut_own party x xs own = ap (λ (b : Bool). if b then ([], x ∷ xs) else before x (cut_at party zero xs)) (eq-eqb x.party party own)

pub cut_own_more : (party k : ℕ) (x : Placed) (xs : List Placed) → x.party ≡ party → cut_at party (suc k) (x ∷ xs) ≡ before x (cut_at party k xs)
cut_own_more party k x xs own = ap (λ (b : Bool). before x (cut_at party (if b then k else suc k) xs)) (eq-eqb x.party party own)

-- a cut, and a cut of what is behind it
abbrev pub cut_twice : ℕ → ℕ → Cut → Cut
cut_twice party k cut = (cut.0 ++ (cut_at party k cut.1).0, (cut_at party k cut.1).1)

-- a cut of so many and so many more
pub cut_more : (party k extra : ℕ) (xs : List Placed) → cut_at party (k + extra) xs ≡ cut_twice party extra (cut_at party k xs)
cut_more party k extra [] = refl
cut_more party zero extra (x ∷ xs) = by (cases_eq x.party party) (cut_more party zero extra xs)
  where
    count : zero + extra ≡ extra
    count = omega arith

    by : (x.party ≡ party) ⊎ (x.party ≡ party → ⊥) → cut_at party (zero + extra) xs ≡ cut_twice party extra (cut_at party zero xs)
        → cut_at party (zero + extra) (x ∷ xs) ≡ cut_twice party extra (cut_at party zero (x ∷ xs))
    by (inl own) rest =
        ap (λ (n : ℕ). cut_at party n (x ∷ xs)) count ∙ sym (ap (cut_twice party extra) (cut_own party x xs own))
    by (inr apart) rest =
        cut_other party (zero + extra) x xs apart ∙ ap (before x) rest ∙ sym (ap (cut_twice party extra) (cut_other party zero x xs apart))
cut_more party (suc k) extra (x ∷ xs) = by (cases_eq x.party party) (cut_more party k extra xs) (cut_more party (suc k) extra xs)
  where
    count : suc k + extra ≡ suc (k + extra)
    count = omega arith

    by : (x.party ≡ party) ⊎ (x.party ≡ party → ⊥) → cut_at party (k + extra) xs ≡ cut_twice party extra (cut_at party k xs)
        → cut_at party (suc k + extra) xs ≡ cut_twice party extra (cut_at party (suc k) xs)
        → cut_at party (suc k + extra) (x ∷ xs) ≡ cut_twice party extra (cut_at party (suc k) (x ∷ xs))
    by (inl own) fewer rest =
        ap (λ (n : ℕ). cut_at party n (x ∷ xs)) count ∙ cut_own_more party (k + extra) x xs own ∙ ap (before x) fewer
        ∙ sym (ap (cut_twice party extra) (cut_own_more party k x xs own))
    by (inr apart) fewer rest =
        cut_other party (suc k + extra) x xs apart ∙ ap (before x) rest ∙ sym (ap (cut_twice party extra) (cut_other party (suc k) x xs apart))

-- both parts of a cut are the whole
pub cut_whole : (party k : ℕ) (xs : List Placed) → (cut_at party k xs).0 ++ (cut_at party k xs).1 ≡ xs
cut_whole party k [] = refl
cut_whole party zero (x ∷ xs) = by (cases_eq x.party party) (cut_whole party zero xs)
  where
    by : (x.party ≡ party) ⊎ (x.party ≡ party → ⊥) → (cut_at party zero xs).0 ++ (cut_at party zero xs).1 ≡ xs
        → (cut_at party zero (x ∷ xs)).0 ++ (cut_at party zero (x ∷ xs)).1 ≡ x ∷ xs
    by (inl own) rest = ap (λ (c : Cut). c.0 ++ c.1) (cut_own party x xs own)
    by (inr apart) rest = ap (λ (c : Cut). c.0 ++ c.1) (cut_other party zero x xs apart) ∙ ap (λ (z : List Placed). x ∷ z) rest
cut_whole party (suc k) (x ∷ xs) = by (cases_eq x.party party) (cut_whole party k xs) (cut_whole party (suc k) xs)
  where
    by : (x.party ≡ party) ⊎ (x.party ≡ party → ⊥) → (cut_at party k xs).0 ++ (cut_at party k xs).1 ≡ xs
        → (cut_at party (suc k) xs).0 ++ (cut_at party (suc k) xs).1 ≡ xs
        → (cut_at party (suc k) (x ∷ xs)).0 ++ (cut_at party (suc k) (x ∷ xs)).1 ≡ x ∷ xs
    by (inl own) fewer rest = ap (λ (c : Cut). c.0 ++ c.1) (cut_own_more party k x xs own) ∙ ap (λ (z : List Placed). x ∷ z) fewer
    by (inr apart) fewer rest = ap (λ (c : Cut). c.0 ++ c.1) (cut_other party (suc k) x xs apart) ∙ ap (λ (z : List Placed). x ∷ z) rest

-- ---- entries of one party

pub own_first : (party : ℕ) (x : Placed) (xs : List Placed) → x.party ≡ party → entries_of party (x ∷ xs) ≡ x.entry ∷ entries_of party xs
own_first party x xs own = ap (λ (b : Bool). if b then x.entry ∷ entries_of party xs else entries_of party xs) (eq-eqb party x.party (sym own))

pub other_first : (party : ℕ) (x : Placed) (xs : List Placed) → (x.party ≡ party → ⊥) → entries_of party (x ∷ xs) ≡ entries_of party xs
other_first party x xs apart = ap (λ (b : Bool). if b then x.entry ∷ entries_of party xs else entries_of party xs) (ne_eqb party x.party (λ e. apart (sym e)))

-- a front with so many entries of the party, and then a cut of so many more
pub cut_over : (party k : ℕ) (front back : List Placed)
    → cut_at party (length (entries_of party front) + k) (front ++ back) ≡ (front ++ (cut_at party k back).0, (cut_at party k back).1)
cut_over party k [] back = let count : 0 + k ≡ k = omega arith in ap (λ (n : ℕ). cut_at party n back) count
cut_over party k (x ∷ front) back = by (cases_eq x.party party) (cut_over party k front back)
  where
    by : (x.party ≡ party) ⊎ (x.party ≡ party → ⊥)
        → cut_at party (length (entries_of party front) + k) (front ++ back) ≡ (front ++ (cut_at party k back).0, (cut_at party k back).1)
        → cut_at party (length (entries_of party (x ∷ front)) + k) (x ∷ front ++ back) ≡ (x ∷ front ++ (cut_at party k back).0, (cut_at party k back).1)
    by (inl own) rest =
        let count : length (entries_of party (x ∷ front)) + k ≡ suc (length (entries_of party front) + k) =
        omega (arith, ap length (own_first party x front own)) in
        ap (λ (n : ℕ). cut_at party n (x ∷ (front ++ back))) count ∙ cut_own_more party (length (entries_of party front) + k) x (front ++ back) own
        ∙ ap (before x) rest
    by (inr apart) rest =
        ap (λ (es : List Entry). cut_at party (length es + k) (x ∷ (front ++ back))) (other_first party x front apart)
        ∙ cut_other party (length (entries_of party front) + k) x (front ++ back) apart ∙ ap (before x) rest

-- a cut behind all of the party's entries takes all
pub cut_all : (party k : ℕ) (xs : List Placed) → length (entries_of party xs) ≤ k → cut_at party k xs ≡ (xs, [])
cut_all party k [] few = refl
cut_all party zero (x ∷ xs) few = by (cases_eq x.party party) (λ h. cut_all party zero xs h)
  where
    by : (x.party ≡ party) ⊎ (x.party ≡ party → ⊥) → (length (entries_of party xs) ≤ zero → cut_at party zero xs ≡ (xs, []))
        → cut_at party zero (x ∷ xs) ≡ (x ∷ xs, [])
    by (inl own) rest = absurd (omega (arith, few, ap length (own_first party x xs own)))
    by (inr apart) rest = cut_other party zero x xs apart ∙ ap (before x) (rest (omega (arith, few, ap length (other_first party x xs apart))))
cut_all party (suc k) (x ∷ xs) few = by (cases_eq x.party party) (λ h. cut_all party k xs h) (λ h. cut_all party (suc k) xs h)
  where
    by : (x.party ≡ party) ⊎ (x.party ≡ party → ⊥) → (length (entries_of party xs) ≤ k → cut_at party k xs ≡ (xs, []))
        → (length (entries_of party xs) ≤ suc k → cut_at party (suc k) xs ≡ (xs, [])) → cut_at party (suc k) (x ∷ xs) ≡ (x ∷ xs, [])
    by (inl own) fewer rest =
        cut_own_more party k x xs own ∙ ap (before x) (fewer (omega (arith, few, ap length (own_first party x xs own))))
    by (inr apart) fewer rest =
        cut_other party (suc k) x xs apart ∙ ap (before x) (rest (omega (arith, few, ap length (other_first party x xs apart))))

-- what begins with one of the party's own entries, or is empty, is not cut further
pub data Stops (party : ℕ) : List Placed → Type 0 where
  empty : Stops party []
  at_own : (x : Placed) (xs : List Placed) → x.party ≡ party → Stops party (x ∷ xs)

pub stops_there : (party : ℕ) (xs : List Placed) → Stops party xs → cut_at party 0 xs ≡ ([], xs)
stops_there party xs empty = refl
stops_there party xs (at_own x ys own) = cut_own party x ys own

pub cut_stops : (party k : ℕ) (xs : List Placed) → Stops party (cut_at party k xs).1
cut_stops party k [] = empty
cut_stops party zero (x ∷ xs) = by (cases_eq x.party party) (cut_stops party zero xs)
  where
    by : (x.party ≡ party) ⊎ (x.party ≡ party → ⊥) → Stops party (cut_at party zero xs).1 → Stops party (cut_at party zero (x ∷ xs)).1
    by (inl own) rest = subst (λ (c : Cut). Stops party c.1) (sym (cut_own party x xs own)) (at_own x xs own)
    by (inr apart) rest = subst (λ (c : Cut). Stops party c.1) (sym (cut_other party zero x xs apart)) rest
cut_stops party (suc k) (x ∷ xs) = by (cases_eq x.party party) (cut_stops party k xs) (cut_stops party (suc k) xs)
  where
    by : (x.party ≡ party) ⊎ (x.party ≡ party → ⊥) → Stops party (cut_at party k xs).1 → Stops party (cut_at party (suc k) xs).1
        → Stops party (cut_at party (suc k) (x ∷ xs)).1
    by (inl own) fewer rest = subst (λ (c : Cut). Stops party c.1) (sym (cut_own_more party k x xs own)) fewer
    by (inr apart) fewer rest = subst (λ (c : Cut). Stops party c.1) (sym (cut_other party (suc k) x xs apart)) rest

-- ---- what is seen

pub saw_both : (t : Tables) (ts : Timers) (xs ys : List Placed) → saw_all t ts (xs ++ ys) ≡ saw_all t (saw_all t ts xs) ys
saw_both t ts [] ys = refl
saw_both t ts (x ∷ xs) ys = saw_both t (saw t ts x.party x.entry) xs ys

-- nothing that is seen moves the time
pub same_time : (t : Tables) (ts : Timers) (party : ℕ) (e : Entry) → (saw t ts party e).time ≡ ts.time
unfolding saw
same_time t ts party (entry.Start who state ns) = refl
same_time t ts party (entry.Fetch stamp m) = refl
same_time t ts party (entry.Turn stamp from sent did ns) = refl
same_time t ts party (entry.Post stamp m) = by_party (nat_lt party (length t.controllers))
  where
    by_signal : (at : Endpoint) (numbers : List ℤ) (starts kills : Bool) (anew : Timers) → anew.time ≡ ts.time
        → (if starts then anew else if kills then record ts { armed = disarmed at ts.armed } else ts).time ≡ ts.time
    by_signal at numbers true kills anew e = e
    by_signal at numbers false true anew e = refl
    by_signal at numbers false false anew e = refl

    by_request : (at : Endpoint) (b : Bool) → (if b then asked ts at m.signal m.payload else ts).time ≡ ts.time
    by_request at true = by_signal at m.payload (m.signal == start_timer) (m.signal == kill_timer) _ refl
    by_request at false = refl

    by_source : (source : Option Endpoint) → (sent_at t ts m source).time ≡ ts.time
    by_source None = refl
    by_source (Some at) = by_request at (is_request t m at)

    by_party : (b : Bool) → (if b then sent_at t ts m m.source else ts).time ≡ ts.time
    by_party true = by_source m.source
    by_party false = refl

pub same_times : (t : Tables) (ts : Timers) (xs : List Placed) → (saw_all t ts xs).time ≡ ts.time
same_times t ts [] = refl
same_times t ts (x ∷ xs) = same_times t (saw t ts x.party x.entry) xs ∙ same_time t ts x.party x.entry

-- ---- points at which the same is seen

-- so many messages further the same is seen from both
abbrev pub Same : Tables → Point → Point → Type 0
Same t p q = (count : ℕ) → caught_up t (further count p) ≡ caught_up t (further count q)

module _ (t : Tables) where
  abbrev n : ℕ
  n = length t.controllers

  -- from a point that has caught up the same is seen
  pub same_caught : (p : Point) → Same t p (caught_up t p)
  same_caught p count =
      let zero_more : 0 + count ≡ count = omega arith in
      let whole : cut_at n (p.since + count) p.ahead ≡ cut_twice n count (cut_at n p.since p.ahead) = cut_more n p.since count p.ahead in
      let back : cut_at n (0 + count) (cut_of t p).1 ≡ cut_at n count (cut_of t p).1 = ap (λ (k : ℕ). cut_at n k (cut_of t p).1) zero_more in
      ap (λ (c : Cut). at (saw_all t p.timers c.0) c.1) whole
      ∙ ap (λ (ts : Timers). at ts (cut_at n count (cut_of t p).1).1) (saw_both t p.timers (cut_of t p).0 (cut_at n count (cut_of t p).1).0)
      ∙ sym (ap (λ (c : Cut). at (saw_all t (saw_all t p.timers (cut_of t p).0) c.0) c.1) back)
    where
      at : Timers → List Placed → Point
      at ts xs = record { timers = ts; ahead = xs; since = 0 }

  same_further : (p q : Point) (extra : ℕ) → Same t p q → Same t (further extra p) (further extra q)
  same_further p q extra same count =
      let left : (p.since + extra) + count ≡ p.since + (extra + count) = omega arith in
      let right : q.since + (extra + count) ≡ (q.since + extra) + count = omega arith in
      ap (λ (k : ℕ). caught_up t (record p { since = k })) left ∙ same (extra + count)
      ∙ ap (λ (k : ℕ). caught_up t (record q { since = k })) right

  pub same_now : (p q : Point) → Same t p q → caught_up t p ≡ caught_up t q
  same_now p q same =
      let left : p.since ≡ p.since + 0 = omega arith in
      let right : q.since + 0 ≡ q.since = omega arith in
      ap (λ (k : ℕ). caught_up t (record p { since = k })) left ∙ same 0 ∙ ap (λ (k : ℕ). caught_up t (record q { since = k })) right

  pub goes_same : (p q : Point) → caught_up t p ≡ caught_up t q → goes_on t p ≡ goes_on t q
  goes_same p q e = ap (λ (z : Point). nat_lt 0 (length z.ahead)) e

  pub time_same : (p q : Point) → caught_up t p ≡ caught_up t q → p.timers.time ≡ q.timers.time
  time_same p q e =
      sym (same_times t p.timers (cut_of t p).0) ∙ ap (λ (z : Point). z.timers.time) e ∙ same_times t q.timers (cut_of t q).0

  -- an `advance` comes to the same from both
  pub advance_same : (number until : ℕ) (p q r : Point) (xs : List Line) (whole : Bool) → caught_up t p ≡ caught_up t q
      → Advances t number until q xs r whole → Advances t number until p xs r whole
  advance_same number until p q r xs whole e (over _ h) =
      subst (λ (z : Point). Advances t number until p (settle number ∷ []) (with_timers (record z.timers { time = until }) z) true) e
      (over p (subst (λ (z : Point). moment number z.timers until ≡ None) (sym e) h))
  advance_same number until p q r xs whole e (more _ last_point ms ys ts to_end h g rest) =
      more p last_point ms ys ts to_end (subst (λ (z : Point). moment number z.timers until ≡ Some (ms, ts)) (sym e) h) (goes_same p q e ∙ g)
      (subst (λ (z : Point). Advances t number until (further (length ms) (with_timers ts z)) ys last_point to_end) (sym e) rest)
  advance_same number until p q r xs whole e (last _ ms ts h g) =
      subst (λ (z : Point). Advances t number until p (settle number ∷ ms) (further (length ms) (with_timers ts z)) false) e
      (last p ms ts (subst (λ (z : Point). moment number z.timers until ≡ Some (ms, ts)) (sym e) h) (goes_same p q e ∙ g))

  left_same : (done : Bool) (p q : Point) (lines behind : List Line) → caught_up t p ≡ caught_up t q
      → left_from t done p lines behind ≡ left_from t done q lines behind
  left_same done p q lines behind e = ap (λ (b : Bool). if done || b then behind else lines) (goes_same p q e)

  -- so do lines
  pub expands_same : (done : Bool) (p q : Point) (lines xs left : List Line) → Same t p q → Expands t done q lines xs left → Expands t done p lines xs left
  expands_same done p q lines xs left same (nothing _) = nothing p
  expands_same done p q lines xs left same (message _ l ls ys behind h a) =
      message p l ls ys behind h (expands_same done (further 1 p) (further 1 q) ls ys behind (same_further p q 1 same) a)
  expands_same done p q lines xs left same (settled _ l ls ys behind h a) =
      subst (λ (z : List Line). Expands t done p (l ∷ ls) (l ∷ ys) z) (left_same done p q (l ∷ ls) behind (same_now p q same))
      (settled p l ls ys behind h (expands_same done p q ls ys behind same a))
  expands_same done p q lines xs left same (advanced _ r l time ls ms ys behind h s a) =
      let e = same_now p q same in
      advanced p r l time ls ms ys behind h
      (subst (λ (z : ℕ). Advances t l.number (z + time) p ms r true) (sym (time_same p q e)) (advance_same l.number (q.timers.time + time) p q r ms true e s)) a
  expands_same done p q lines xs left same (cut_off _ r l time ls ms h s) =
      let e = same_now p q same in
      cut_off p r l time ls ms h
      (subst (λ (z : ℕ). Advances t l.number (z + time) p ms r false) (sym (time_same p q e)) (advance_same l.number (q.timers.time + time) p q r ms false e s))

-- the cut has so many of the party's entries in front
pub cut_count : (party k : ℕ) (xs : List Placed) → k ≤ length (entries_of party xs) → length (entries_of party (cut_at party k xs).0) ≡ k
cut_count party zero [] low = refl
cut_count party (suc k) [] low = absurd (omega (arith, low))
cut_count party zero (x ∷ xs) low = by (cases_eq x.party party) (cut_count party zero xs)
  where
    by : (x.party ≡ party) ⊎ (x.party ≡ party → ⊥) → (zero ≤ length (entries_of party xs) → length (entries_of party (cut_at party zero xs).0) ≡ zero)
        → length (entries_of party (cut_at party zero (x ∷ xs)).0) ≡ zero
    by (inl own) rest = ap (λ (c : Cut). length (entries_of party c.0)) (cut_own party x xs own)
    by (inr apart) rest =
        ap (λ (c : Cut). length (entries_of party c.0)) (cut_other party zero x xs apart)
        ∙ ap length (other_first party x (cut_at party zero xs).0 apart) ∙ rest (omega arith)
cut_count party (suc k) (x ∷ xs) low = by (cases_eq x.party party) (cut_count party k xs) (cut_count party (suc k) xs)
  where
    by : (x.party ≡ party) ⊎ (x.party ≡ party → ⊥) → (k ≤ length (entries_of party xs) → length (entries_of party (cut_at party k xs).0) ≡ k)
        → (suc k ≤ length (entries_of party xs) → length (entries_of party (cut_at party (suc k) xs).0) ≡ suc k)
        → length (entries_of party (cut_at party (suc k) (x ∷ xs)).0) ≡ suc k
    by (inl own) fewer rest =
        let less : k ≤ length (entries_of party xs) = omega (arith, low, ap length (own_first party x xs own)) in
        ap (λ (c : Cut). length (entries_of party c.0)) (cut_own_more party k x xs own)
        ∙ ap length (own_first party x (cut_at party k xs).0 own) ∙ ap suc (fewer less)
    by (inr apart) fewer rest =
        let same : suc k ≤ length (entries_of party xs) = omega (arith, low, ap length (other_first party x xs apart)) in
        ap (λ (c : Cut). length (entries_of party c.0)) (cut_other party (suc k) x xs apart)
        ∙ ap length (other_first party x (cut_at party (suc k) xs).0 apart) ∙ rest same
