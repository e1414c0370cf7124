-- Lines come to one thing from a point on.
use Rattle.std.proofs.Common.{◌≡◌, ℕ, ◌+◌, Bool, true, false, List, ◌∷◌, ◌++◌, length, Option, Some, None, refl, sym, ap, ap₂, ◌∙◌, subst}
use Rattle.std.specs.List.{AllByRecursion}
use Rattle.room_wiring.specs.declared.tables.Tables.{Tables}
use Rattle.inject_reader.specs.declared.inject_lines.accepted.Line.{Line}
use Rattle.inject_reader.specs.declared.inject_lines.accepted.What.{What}
use Rattle.inject_reader.specs.declared.inject_lines.accepted.What.TheVariants as whats
use Rattle.room_timer.specs.Timers.{Timers, moment}
use Rattle.room_timer.specs.Expansion.{Point, caught_up, goes_on, further, with_timers, is_message, settle, Advances, over, more, last, left_from, Expands, nothing, message, settled, advanced, cut_off}
use Rattle.room_timer.specs.Laws.{IsPlain}

-- what two moments of one point have in common
one_moment : (number until : ℕ) (ts : Timers) (ms ns : List Line) (next other : Timers)
    → moment number ts until ≡ Some (ms, next) → moment number ts until ≡ Some (ns, other) → (ms ≡ ns) × (next ≡ other)
one_moment number until ts ms ns next other h k =
    let both : ◌≡◌ {A = Option (List Line × Timers)} (Some (ms, next)) (Some (ns, other)) = sym h ∙ k in
    let p : List Line × Timers = (ms, next) in
    let q : List Line × Timers = (ns, other) in
    let same : p ≡ q = cc in
    (ap (λ (z : List Line × Timers). z.0) same, ap (λ (z : List Line × Timers). z.1) same)

-- an outcome of an `advance` is the same as another one
pub record Same (xs ys : List Line) (q r : Point) (b c : Bool) : Type 0 where
  pub lines : xs ≡ ys
  pub point : q ≡ r
  pub whole : b ≡ c

pub one_advance : (t : Tables) (number until : ℕ) (p : Point) (xs ys : List Line) (q r : Point) (b c : Bool)
    → Advances t number until p xs q b → Advances t number until p ys r c → Same xs ys q r b c
one_advance t number until p xs ys q r b c (over _ h) (over _ k) = record { lines = refl; point = refl; whole = refl }
one_advance t number until p xs ys q r b c (over _ h) (more _ q' ms zs ts whole k g rest) = absurd (none_some h k)
  where
    none_some : moment number (caught_up t p).timers until ≡ None → moment number (caught_up t p).timers until ≡ Some (ms, ts) → ⊥
    none_some e f = cc
one_advance t number until p xs ys q r b c (over _ h) (last _ ms ts k g) = absurd (none_some h k)
  where
    none_some : moment number (caught_up t p).timers until ≡ None → moment number (caught_up t p).timers until ≡ Some (ms, ts) → ⊥
    none_some e f = cc
one_advance t number until p xs ys q r b c (more _ q' ms zs ts whole h g rest) (over _ k) = absurd (none_some k h)
  where
    none_some : moment number (caught_up t p).timers until ≡ None → moment number (caught_up t p).timers until ≡ Some (ms, ts) → ⊥
    none_some e f = cc
one_advance t number until p xs ys q r b c (last _ ms ts h g) (over _ k) = absurd (none_some k h)
  where
    none_some : moment number (caught_up t p).timers until ≡ None → moment number (caught_up t p).timers until ≡ Some (ms, ts) → ⊥
    none_some e f = cc
one_advance t number until p xs ys q r b c (more _ q' ms zs ts whole h g rest) (last _ ns us k f) = absurd (both g f)
  where
    both : goes_on t p ≡ true → goes_on t p ≡ false → ⊥
    both e f = cc
one_advance t number until p xs ys q r b c (last _ ms ts h g) (more _ r' ns zs us whole k f rest) = absurd (both f g)
  where
    both : goes_on t p ≡ true → goes_on t p ≡ false → ⊥
    both e f = cc
one_advance t number until p xs ys q r b c (last _ ms ts h g) (last _ ns us k f) =
    let same = one_moment number until (caught_up t p).timers ms ns ts us h k in
    record {
      lines = ap (λ (z : List Line). settle number ∷ z) same.0;
      point = ap₂ (λ (z : List Line) (v : Timers). further (length z) (with_timers v (caught_up t p))) same.0 same.1;
      whole = refl;
    }
one_advance t number until p xs ys q r b c (more _ q' ms zs ts whole h g rest) (more _ r' ns vs us other k f later) =
    let same = one_moment number until (caught_up t p).timers ms ns ts us h k in
    let here : further (length ms) (with_timers ts (caught_up t p)) ≡ further (length ns) (with_timers us (caught_up t p)) =
    ap₂ (λ (z : List Line) (v : Timers). further (length z) (with_timers v (caught_up t p))) same.0 same.1 in
    let tail : Same zs vs q' r' whole other =
    one_advance t number until (further (length ms) (with_timers ts (caught_up t p))) zs vs q' r' whole other rest
    (subst (λ (z : Point). Advances t number until z vs r' other) (sym here) later) in
    record {
      lines = ap₂ (λ (z v : List Line). settle number ∷ z ++ v) same.0 tail.lines;
      point = tail.point;
      whole = tail.whole;
    }

-- the time by which a line moves on
time_of : What → ℕ
time_of whats.Settle = 0
time_of (whats.Advance time) = time
time_of (whats.Message target signal payload prio) = 0

module _ (t : Tables) (done : Bool) where
  pub one_expansion : (p : Point) (lines xs ys left rest : List Line) → Expands t done p lines xs left → Expands t done p lines ys rest
      → (xs ≡ ys) × (left ≡ rest)
  unfolding time_of
  one_expansion p lines xs ys left rest (nothing _) (nothing _) = (refl, refl)
  one_expansion p lines xs ys left rest (message _ l ls zs behind h a) (message _ _ _ vs other k b) =
      let tail = one_expansion (further 1 p) ls zs vs behind other a b in (ap (λ (z : List Line). l ∷ z) tail.0, tail.1)
  one_expansion p lines xs ys left rest (message _ l ls zs behind h a) (settled _ _ _ vs other k b) =
      absurd (let no : is_message l.what ≡ false = ap is_message k in cc)
  one_expansion p lines xs ys left rest (message _ l ls zs behind h a) (advanced _ r _ time _ ms vs other k s b) =
      absurd (let no : is_message l.what ≡ false = ap is_message k in cc)
  one_expansion p lines xs ys left rest (message _ l ls zs behind h a) (cut_off _ r _ time _ ms k s) =
      absurd (let no : is_message l.what ≡ false = ap is_message k in cc)
  one_expansion p lines xs ys left rest (settled _ l ls zs behind h a) (message _ _ _ vs other k b) =
      absurd (let no : is_message l.what ≡ false = ap is_message h in cc)
  one_expansion p lines xs ys left rest (settled _ l ls zs behind h a) (settled _ _ _ vs other k b) =
      let tail = one_expansion p ls zs vs behind other a b in
      (ap (λ (z : List Line). l ∷ z) tail.0, ap (λ (z : List Line). left_from t done p (l ∷ ls) z) tail.1)
  one_expansion p lines xs ys left rest (settled _ l ls zs behind h a) (advanced _ r _ time _ ms vs other k s b) = absurd (let no = sym h ∙ k in cc)
  one_expansion p lines xs ys left rest (settled _ l ls zs behind h a) (cut_off _ r _ time _ ms k s) = absurd (let no = sym h ∙ k in cc)
  one_expansion p lines xs ys left rest (advanced _ q l time ls ms zs behind h s a) (message _ _ _ vs other k b) =
      absurd (let no : is_message l.what ≡ false = ap is_message h in cc)
  one_expansion p lines xs ys left rest (advanced _ q l time ls ms zs behind h s a) (settled _ _ _ vs other k b) = absurd (let no = sym k ∙ h in cc)
  one_expansion p lines xs ys left rest (advanced _ q l time ls ms zs behind h s a) (advanced _ r _ later _ ns vs other k u b) =
      let times : later ≡ time = ap time_of (sym k ∙ h) in
      let same : Same ms ns q r true true =
      one_advance t l.number (p.timers.time + time) p ms ns q r true true s
      (subst (λ (z : ℕ). Advances t l.number (p.timers.time + z) p ns r true) times u) in
      let tail = one_expansion q ls zs vs behind other a (subst (λ (z : Point). Expands t done z ls vs other) (sym same.point) b) in (
        ap₂ (λ (z v : List Line). z ++ v) same.lines tail.0,
        ap₂ (λ (z : Point) (v : List Line). left_from t done z (l ∷ ls) v) same.point tail.1,
      )
  one_expansion p lines xs ys left rest (advanced _ q l time ls ms zs behind h s a) (cut_off _ r _ later _ ns k u) =
      let times : later ≡ time = ap time_of (sym k ∙ h) in
      let same : Same ms ns q r true false =
      one_advance t l.number (p.timers.time + time) p ms ns q r true false s
      (subst (λ (z : ℕ). Advances t l.number (p.timers.time + z) p ns r false) times u) in
      absurd (let no = same.whole in cc)
  one_expansion p lines xs ys left rest (cut_off _ q l time ls ms h s) (message _ _ _ vs other k b) =
      absurd (let no : is_message l.what ≡ false = ap is_message h in cc)
  one_expansion p lines xs ys left rest (cut_off _ q l time ls ms h s) (settled _ _ _ vs other k b) = absurd (let no = sym k ∙ h in cc)
  one_expansion p lines xs ys left rest (cut_off _ q l time ls ms h s) (advanced _ r _ later _ ns vs other k u b) =
      let times : later ≡ time = ap time_of (sym k ∙ h) in
      let same : Same ms ns q r false true =
      one_advance t l.number (p.timers.time + time) p ms ns q r false true s
      (subst (λ (z : ℕ). Advances t l.number (p.timers.time + z) p ns r true) times u) in
      absurd (let no = same.whole in cc)
  one_expansion p lines xs ys left rest (cut_off _ q l time ls ms h s) (cut_off _ r _ later _ ns k u) =
      let times : later ≡ time = ap time_of (sym k ∙ h) in
      let same : Same ms ns q r false false =
      one_advance t l.number (p.timers.time + time) p ms ns q r false false s
      (subst (λ (z : ℕ). Advances t l.number (p.timers.time + z) p ns r false) times u) in
      (same.lines, refl)

  pub plain : (p : Point) (lines xs left : List Line) → AllByRecursion IsPlain lines → Expands t done p lines xs left → xs ≡ lines
  plain p lines xs left h (nothing _) = refl
  plain p lines xs left h (message _ l ls zs behind k a) = ap (λ (z : List Line). l ∷ z) (plain (further 1 p) ls zs behind h.1 a)
  plain p lines xs left h (settled _ l ls zs behind k a) = ap (λ (z : List Line). l ∷ z) (plain p ls zs behind h.1 a)
  plain p lines xs left h (advanced _ q l time ls ms zs behind k s a) = absurd (h.0 time k)
  plain p lines xs left h (cut_off _ q l time ls ms k s) = absurd (h.0 time k)
