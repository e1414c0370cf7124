-- A lawful history goes on by the journals of one more part.
use Rattle.std.proofs.Common.{◌≡◌, ℕ, zero, suc, max, ◌+◌, ◌<◌, ◌≤◌, ◌==◌, Bool, true, false, if◌then◌else◌, List, [], ◌∷◌, ◌++◌, Option, Some, None, slice_get, refl, sym, ap, ◌∙◌, subst, eq-eqb, arith, ◌⊎◌, inl, inr, ⊎_elim}
use Rattle.std.proofs.lemmas.Bool.{cases_order, cases_eq}
use Rattle.room_kinds.specs.declared.message.Msg.{Msg}
use Rattle.journal.specs.declared.entry.Entry.{Entry}
use Rattle.journal.specs.declared.entry.Entry.TheVariants as entry
use Rattle.actor_merge.specs.Mail.{stamp_of}
use Rattle.actor_merge.specs.Parties.{State, Environment, Line, Taken, Plant, next_of, fetch, turn, turn_with, turned, post, post_front, stamped, post_line, environment_post, Does, Replays, EnvironmentReplays, begins}
use Rattle.actor_merge.specs.World.{World, Placed, start, Runs, IsQuiet, latest, latest_of, caught_up}
use Rattle.actor_merge.specs.Merge.{Rising, IsBeforeAll, InOrder, entries_of, IsMerge, EnvironmentGoes, IsRound, IsSame}
use Rattle.actor_merge.specs.History.{AllAtMost, IsLawful}
use Rattle.actor_merge.proofs.Exists.{merge_exists}
use Rattle.actor_merge.proofs.Law.{Follows, merge_follows, follows_runs, first_is_line, own_entries}

-- an outcome's stamp is its clock, and later than the clock before
abbrev pub Ticks : {B : Type 0} → ℕ → State B × Entry → Type 0
Ticks clock r = (clock < stamp_of r.1) × (r.0.clock ≡ stamp_of r.1)

-- a line's stamp is the clock after it, one more than the clock before
abbrev pub LineTicks : ℕ → Environment × Entry → Type 0
LineTicks clock r = (stamp_of r.1 ≡ clock + 1) × (r.0.clock ≡ clock + 1)

-- each entry's stamp is at most this one
abbrev pub AtMost : ℕ → List Entry → Type 0
AtMost k [] = Unit {0}
AtMost k (e ∷ es) = (stamp_of e ≤ k) × AtMost k es

latest_below : {B : Type 0} (states : ℕ → State B) (clock count : ℕ) → clock ≤ latest states count clock
latest_below states clock zero = omega arith
latest_below states clock (suc k) = let ih = latest_below states clock k in omega arith

latest_above : {B : Type 0} (states : ℕ → State B) (clock count c : ℕ) → c < count → (states c).clock ≤ latest states count clock
latest_above states clock zero c h = absurd (omega arith)
latest_above states clock (suc k) c h = go (cases_eq c k) (latest_above states clock k c)
  where
    go : (c ≡ k) ⊎ (c ≡ k → ⊥) → (c < k → (states c).clock ≤ latest states k clock) → (states c).clock ≤ max (states k).clock (latest states k clock)
    go (inl e) ih = rw e (omega arith)
    go (inr n) ih = let b : (states c).clock ≤ latest states k clock = ih (omega arith) in omega arith

latest_more : {B : Type 0} (s t : ℕ → State B) (v u count : ℕ) → ((c : ℕ) → c < count → (s c).clock ≤ (t c).clock) → v ≤ u → latest s count v ≤ latest t count u
latest_more s t v u zero h k = k
latest_more s t v u (suc c) h k =
    let ih : latest s c v ≤ latest t c u = latest_more s t v u c (λ d l. h d (omega arith)) k in
    let here : (s c).clock ≤ (t c).clock = h c (omega arith) in omega arith

latest_same : {B : Type 0} (s t : ℕ → State B) (v count : ℕ) → ((c : ℕ) → c < count → s c ≡ t c) → latest s count v ≡ latest t count v
latest_same s t v zero h = refl
latest_same s t v (suc c) h = rw (h c (omega arith), latest_same s t v c (λ d l. h d (omega arith))) refl

rising_zero : (k : ℕ) (es : List Entry) → Rising k es → Rising 0 es
rising_zero k [] h = tt
rising_zero k (e ∷ es) h = (omega (arith, h.0), h.1)

at_most_more : (j k : ℕ) → j ≤ k → (es : List Entry) → AtMost j es → AtMost k es
at_most_more j k l [] h = tt
at_most_more j k l (e ∷ es) h = (omega (arith, h.0), at_most_more j k l es h.1)

-- the same of all entries
all_at_most_more : (j k : ℕ) → j ≤ k → (xs : List Placed) → AllAtMost j xs → AllAtMost k xs
all_at_most_more j k l [] h = tt
all_at_most_more j k l (x ∷ xs) h = (omega (arith, h.0), all_at_most_more j k l xs h.1)

all_at_most : (k : ℕ) (xs : List Placed) → ((party : ℕ) → AtMost k (entries_of party xs)) → AllAtMost k xs
all_at_most k [] h = tt
all_at_most k (x ∷ xs) h = (head.0, all_at_most k xs (λ p. rest p (p == x.party) (h p)))
  where
    head : AtMost k (x.entry ∷ entries_of x.party xs)
    head = rw (eq-eqb x.party x.party refl) at (h x.party)

    rest : (p : ℕ) (b : Bool) → AtMost k (if b then x.entry ∷ entries_of p xs else entries_of p xs) → AtMost k (entries_of p xs)
    rest p true k = k.1
    rest p false k = k

-- each entry's stamp is above this one
abbrev pub AllAbove : ℕ → List Placed → Type 0
AllAbove k [] = Unit {0}
AllAbove k (x ∷ xs) = (k < stamp_of x.entry) × AllAbove k xs

above_after : (k : ℕ) (x : Placed) → k < stamp_of x.entry → (xs : List Placed) → IsBeforeAll x xs → AllAbove k xs
above_after k x l [] h = tt
above_after k x l (y ∷ ys) h = (⊎_elim (λ b. omega arith) (λ b. omega (arith, b.0)) h.0, above_after k x l ys h.1)

before_append : (x : Placed) (k : ℕ) → stamp_of x.entry ≤ k → (a b : List Placed) → IsBeforeAll x a → AllAbove k b → IsBeforeAll x (a ++ b)
before_append x k l [] [] h r = tt
before_append x k l [] (y ∷ ys) h r = (inl (omega (arith, r.0)), before_append x k l [] ys tt r.1)
before_append x k l (y ∷ ys) b h r = (h.0, before_append x k l ys b h.1 r)

order_append : (k : ℕ) (a b : List Placed) → InOrder a → InOrder b → AllAtMost k a → AllAbove k b → InOrder (a ++ b)
order_append k [] b o p l r = p
order_append k (x ∷ xs) b o p l r = (before_append x k l.0 xs b o.0 r, order_append k xs b o.1 p l.1 r)

at_most_append : (k : ℕ) (a b : List Placed) → AllAtMost k a → AllAtMost k b → AllAtMost k (a ++ b)
at_most_append k [] b h l = l
at_most_append k (x ∷ xs) b h l = (h.0, at_most_append k xs b h.1 l)

pub entries_append : (p : ℕ) (a b : List Placed) → entries_of p (a ++ b) ≡ entries_of p a ++ entries_of p b
entries_append p [] b = refl
entries_append p (x ∷ xs) b = go (p == x.party) (entries_append p xs b)
  where
    go : (t : Bool) → entries_of p (xs ++ b) ≡ entries_of p xs ++ entries_of p b
        → (if t then x.entry ∷ entries_of p (xs ++ b) else entries_of p (xs ++ b)) ≡ (if t then x.entry ∷ entries_of p xs else entries_of p xs) ++ entries_of p b
    go true h = ap (λ z. x.entry ∷ z) h
    go false h = h

nothing : (xs : List Placed) → ((p : ℕ) → entries_of p xs ≡ []) → xs ≡ []
nothing [] h = refl
nothing (x ∷ xs) h = let e : x.entry ∷ entries_of x.party xs ≡ [] = rw (own_entries x.party x xs refl) at (h x.party) in absurd cc

module _ {B : Type 0} (plant : Plant B) where
  pub does_ticks : (c : ℕ) (s next : State B) (e : Entry) → Does plant c s e next → Ticks s.clock (next, e)
  unfolding fetch turn post
  does_ticks c s next (entry.Start who state notes) h = absurd h
  does_ticks c s next (entry.Fetch stamp m) h = subst (Ticks s.clock) h (omega arith, refl)
  does_ticks c s next (entry.Turn stamp from sent did notes) h = go s.outbox (next_of s.pending) h
    where
      go : (box : List Msg) (o : Option Taken) → turn_with plant c s box o ≡ Some (next, entry.Turn stamp from sent did notes)
          → Ticks s.clock (next, entry.Turn stamp from sent did notes)
      go [] None k = cc
      go [] (Some t) k =
          let r : State B × Entry = turned s t (plant.treat c s.body t.message) in
          let q : State B × Entry = (next, entry.Turn stamp from sent did notes) in
          let e : r ≡ q = cc in subst (Ticks s.clock) e (omega arith, refl)
      go (x ∷ xs) o k = cc
  does_ticks c s next (entry.Post stamp m) h = go s.outbox h
    where
      go : (box : List Msg) → post_front c s box ≡ Some (next, entry.Post stamp m) → Ticks s.clock (next, entry.Post stamp m)
      go [] k = cc
      go (x ∷ xs) k =
          let r : State B × Entry = (record s { clock = s.clock + 1; outbox = xs }, entry.Post (record { 0 = s.clock + 1 }) (stamped c (s.clock + 1) x)) in
          let q : State B × Entry = (next, entry.Post stamp m) in
          let e : r ≡ q = cc in subst (Ticks s.clock) e (omega arith, refl)

  line_ticks : (v next : Environment) (e : Entry) → environment_post plant v ≡ Some (next, e) → LineTicks v.clock (next, e)
  unfolding environment_post
  line_ticks v next e h = go (slice_get plant.lines v.posted) h
    where
      go : (o : Option Line) → post_line plant.controllers v o ≡ Some (next, e) → LineTicks v.clock (next, e)
      go None k = cc
      go (Some line) k =
          let r : Environment × Entry = (record { clock = v.clock + 1; posted = v.posted + 1 }, entry.Post (record { 0 = v.clock + 1 }) (stamped plant.controllers (v.clock + 1) line.message)) in
          let q : Environment × Entry = (next, e) in
          let p : r ≡ q = cc in subst (LineTicks v.clock) p (refl, refl)

  -- the stamps of a replay rise, and end at its clock
  pub replays_rise : (c : ℕ) (s : State B) (es : List Entry) (end : State B) → Replays plant c s es end → Rising s.clock es × AtMost end.clock es × (s.clock ≤ end.clock)
  replays_rise c s [] end h = (tt, tt, omega (arith, ap (λ (z : State B). z.clock) h))
  replays_rise c s (e ∷ es) end h =
      let t : Ticks s.clock (h.0, e) = does_ticks c s h.0 e h.1 in
      let r = replays_rise c h.0 es end h.2 in
      let clock : h.0.clock ≡ stamp_of e = t.1 in
      let up : s.clock < stamp_of e = t.0 in
      let more : h.0.clock ≤ end.clock = r.2 in
      ((t.0, subst (λ k. Rising k es) t.1 r.0), (omega arith, r.1), omega arith)

  lines_rise : (v : Environment) (es : List Entry) (end : Environment) → EnvironmentReplays plant v es end → Rising v.clock es × AtMost end.clock es × (v.clock ≤ end.clock)
  lines_rise v [] end h = (tt, tt, omega (arith, ap (λ z. z.clock) h))
  lines_rise v (e ∷ es) end h =
      let t : LineTicks v.clock (h.0, e) = line_ticks v h.0 e h.1 in
      let r = lines_rise h.0 es end h.2 in
      let stamp : stamp_of e ≡ v.clock + 1 = t.0 in
      let clock : h.0.clock ≡ v.clock + 1 = t.1 in
      let more : h.0.clock ≤ end.clock = r.2 in
      let same : h.0.clock ≡ stamp_of e = clock ∙ sym stamp in
      ((omega arith, subst (λ k. Rising k es) same r.0), (omega arith, r.1), omega arith)

  caught_same : (v w : World B) → IsSame plant v w → caught_up plant v ≡ caught_up plant w
  unfolding caught_up
  caught_same v w same = rw (same.environment, latest_same v.controllers w.controllers w.environment.clock plant.controllers same.controllers) refl

  caught_clock : (w : World B) → (begins plant w.environment.posted ≡ true → (caught_up plant w).clock ≡ latest_of plant w) × (w.environment.clock ≤ (caught_up plant w).clock)
  unfolding caught_up
  caught_clock w = go (begins plant w.environment.posted)
    where
      go : (b : Bool) → (b ≡ true → (if b then record w.environment { clock = latest_of plant w } else w.environment).clock ≡ latest_of plant w)
          × (w.environment.clock ≤ (if b then record w.environment { clock = latest_of plant w } else w.environment).clock)
      go true = ((λ e. refl), latest_below w.controllers w.environment.clock plant.controllers)
      go false = ((λ e. absurd cc), omega arith)

  goes_rise : (w : World B) (es : List Entry) (end : Environment) → EnvironmentGoes plant w es end
      → Rising w.environment.clock es × AtMost end.clock es × (w.environment.clock ≤ end.clock)
  goes_rise w [] end h = (tt, tt, omega (arith, ap (λ z. z.clock) h))
  goes_rise w (e ∷ es) end h =
      let r = lines_rise (caught_up plant w) (e ∷ es) end h in
      let up : w.environment.clock ≤ (caught_up plant w).clock = (caught_clock w).1 in
      let first : (caught_up plant w).clock < stamp_of e = r.0.0 in
      let more : (caught_up plant w).clock ≤ end.clock = r.2 in
      ((omega arith, r.0.1), r.1, omega arith)

  run_append : (w mid end : World B) (a b : List Placed) → Runs plant w a mid → Runs plant mid b end → Runs plant w (a ++ b) end
  run_append w mid end [] b r s = subst (λ v. Runs plant v b end) r s
  run_append w mid end (x ∷ xs) b r s = (r.0, r.1, r.2, run_append r.0 mid end xs b r.3 s)

  -- what fits one world fits the same one
  quiet_same : (v w : World B) → IsSame plant v w → IsQuiet plant w → IsQuiet plant v
  quiet_same v w same q =
      record {
        lanes = λ l. same.lanes l ∙ q.lanes l;
        pending = λ c p h. rw (same.controllers c h) (q.pending c p h);
        outbox = λ c h. rw (same.controllers c h) (q.outbox c h);
      }

  goes_same : (v w : World B) (es : List Entry) (end : Environment) → IsSame plant v w → EnvironmentGoes plant w es end → EnvironmentGoes plant v es end
  goes_same v w [] end same h = h ∙ sym same.environment
  goes_same v w (e ∷ es) end same h = subst (λ z. EnvironmentReplays plant z (e ∷ es) end) (sym (caught_same v w same)) h

  round_same : (v w : World B) (more : ℕ → List Entry) (after : World B) → IsSame plant v w → IsRound plant w more after → IsRound plant v more after
  round_same v w more after same f =
      record {
        controllers = λ c h. rw (same.controllers c h) (f.controllers c h);
        environment = goes_same v w (more plant.controllers) after.environment same f.environment;
        nobody = f.nobody;
        lanes = λ l. rw (same.lanes l) (f.lanes l);
        quiet = λ b. ⊎_elim (λ e. inl e) (λ q. inr (quiet_same v w same q)) (f.quiet (subst (λ z. begins plant z.posted ≡ true) same.environment b));
        one_part = rw same.environment f.one_part;
      }

  -- the stamps of a round
  pub record Stamps (w : World B) (more : ℕ → List Entry) (after : World B) : Type 0 where
    pub rising : (p : ℕ) → Rising 0 (more p)
    pub at_most : (p : ℕ) → AtMost (latest_of plant after) (more p)
    pub grows : latest_of plant w ≤ latest_of plant after

  stamps_of : (w : World B) (more : ℕ → List Entry) (after : World B) → IsRound plant w more after → Stamps w more after
  stamps_of w more after f =
      record {
        rising = λ p. (both p (cases_order p plant.controllers)).0;
        at_most = λ p. (both p (cases_order p plant.controllers)).1;
        grows = latest_more w.controllers after.controllers w.environment.clock after.environment.clock plant.controllers
            (λ c h. (replays_rise c (w.controllers c) (more c) (after.controllers c) (f.controllers c h)).2)
            (goes_rise w (more plant.controllers) after.environment f.environment).2;
      }
    where
      both : (p : ℕ) → (p ≡ plant.controllers) ⊎ ((p < plant.controllers) ⊎ (plant.controllers < p)) → Rising 0 (more p) × AtMost (latest_of plant after) (more p)
      both p (inl e) =
          let r = goes_rise w (more plant.controllers) after.environment f.environment in
          rw e (
            rising_zero w.environment.clock (more plant.controllers) r.0,
            at_most_more after.environment.clock (latest_of plant after) (latest_below after.controllers after.environment.clock plant.controllers) (more plant.controllers) r.1,
          )
      both p (inr (inl h)) =
          let r = replays_rise p (w.controllers p) (more p) (after.controllers p) (f.controllers p h) in (
            rising_zero (w.controllers p).clock (more p) r.0,
            at_most_more (after.controllers p).clock (latest_of plant after) (latest_above after.controllers after.environment.clock plant.controllers p h) (more p) r.1,
          )
      both p (inr (inr h)) = rw (f.nobody p h) (tt, tt)

  -- the journals of a round have a merge
  pub round_merge : (w : World B) (more : ℕ → List Entry) (after : World B) → IsRound plant w more after → (merge : List Placed) × IsMerge more merge
  round_merge w more after f = merge_exists (plant.controllers + 1) more (stamps_of w more after f).rising (λ p h. f.nobody p (omega arith))

  -- a later part's entries come after all before
  part_above : (w : World B) (xs : List Placed) (after : World B) → Follows plant w xs after
      → begins plant w.environment.posted ≡ true → IsQuiet plant w → AllAbove (latest_of plant w) xs
  part_above w [] after inv b q = tt
  part_above w (x ∷ xs) after inv b q =
      let mine : plant.controllers ≡ x.party = sym (first_is_line plant w x xs after inv q) in
      let own : EnvironmentReplays plant (caught_up plant w) (x.entry ∷ entries_of plant.controllers xs) after.environment =
      rw (own_entries plant.controllers x xs mine) at inv.environment in
      let t : LineTicks (caught_up plant w).clock (own.0, x.entry) = line_ticks (caught_up plant w) own.0 x.entry own.1 in
      let stamp : stamp_of x.entry ≡ (caught_up plant w).clock + 1 = t.0 in
      let clock : (caught_up plant w).clock ≡ latest_of plant w = (caught_clock w).0 b in
      let above : latest_of plant w < stamp_of x.entry = omega arith in
      (above, above_after (latest_of plant w) x above xs inv.ordered.0)

  -- a lawful history goes on by one more part, which begins in a quiet world
  pub part_extends : (journals more : ℕ → List Entry) (w after : World B)
      → IsLawful plant journals w → IsRound plant w more after
      → ((begins plant w.environment.posted ≡ true) × IsQuiet plant w) ⊎ ((p : ℕ) → journals p ≡ [])
      → IsLawful plant (λ p. journals p ++ more p) after
  part_extends journals more w after lawful fits begin =
      let f : IsRound plant lawful.end more after = round_same lawful.end w more after lawful.same fits in
      let st : Stamps w more after = stamps_of w more after fits in
      let m = round_merge w more after fits in
      let inv : Follows plant w m.0 after = merge_follows plant w more after m.0 fits m.1 in
      let r = follows_runs plant lawful.end m.0 after (merge_follows plant lawful.end more after m.0 f m.1) in
      record {
        merge = lawful.merge ++ m.0;
        is = record {
          ordered = order m.0 m.1 inv;
          whole = λ p. entries_append p lawful.merge m.0 ∙ rw (lawful.is.whole p, m.1.whole p) refl;
        };
        end = r.0;
        run = run_append (start plant) lawful.end r.0 lawful.merge m.0 lawful.run r.1;
        same = r.2;
        bound = at_most_append (latest_of plant after) lawful.merge m.0
            (all_at_most_more (latest_of plant w) (latest_of plant after) st.grows lawful.merge lawful.bound)
            (all_at_most (latest_of plant after) m.0 (λ p. rw (m.1.whole p) (st.at_most p)));
      }
    where
      order : (xs : List Placed) → IsMerge more xs → Follows plant w xs after → InOrder (lawful.merge ++ xs)
      order xs is inv = ⊎_elim
          (λ b. order_append (latest_of plant w) lawful.merge xs lawful.is.ordered is.ordered lawful.bound (part_above w xs after inv b.0 b.1))
          (λ e. rw (nothing lawful.merge (λ p. lawful.is.whole p ∙ e p)) is.ordered) begin

  pub start_lawful : IsLawful plant (λ p. []) (start plant)
  start_lawful =
      record {
        merge = [];
        is = record { ordered = tt; whole = λ p. refl };
        end = start plant;
        run = refl;
        same = record { controllers = λ c h. refl; environment = refl; lanes = λ l. refl };
        bound = tt;
      }
