-- What programs and conditions keep, the handling of an event keeps.
use Rattle.std.proofs.Common.{◌≡◌, ℕ, zero, suc, Bool, true, false, cond, List, [], ◌∷◌, Option, Some, None, IfSome, take}
use Rattle.std.specs.List.{AllByRecursion, list_any}
use Rattle.std.proofs.lemmas.Bool.{true≢false}
use Rattle.chart_model.specs.chart_plan.Plan.{Kind, Simple, Border, Choice, Entry, Exit, Trigger, Plan, Running}
use Rattle.chart_model.specs.chart_plan.Handling.{Memory, first_of, or_default, Next, Ends, Goes, runs, holds, trigger_fits, triggers_fit, below, runs_through, remember, fits, enabled_after, enabled, chosen, enter, enter_all, leave, leave_all, border, arrive, follow, segments, chain, taken, handling, starting}
use Rattle.chart_behaviour.specs.chart_asks.Asking.{GoesOn}

-- conditions keep a fact I of what programs change
pub record TestsKeep {P C R : Type 0} (g : Running P C R) (I : R → Type 0) : Type 0 where
  pub test : (c : C) (r : R) → I r → I (g.test c r).1

-- and so do the programs of a plan, whose transitions, where they may be taken, have the fact Q
pub record Keeps {S N T E P C R : Type 0} (p : Plan S N T E P C) (g : Running P C R) (Q : T → Type 0) (I : R → Type 0) : Type 0 where
  pub tests : TestsKeep g I
  pub entry : (s : S) (r : R) → I r → I (g.run (p.entry s) r)
  pub exit : (s : S) (r : R) → I r → I (g.run (p.exit s) r)
  pub action : (t : T) → Q t → (r : R) → I r → I (g.run (p.action t) r)
  pub tried : (s : S) → AllByRecursion Q (p.tried s)
  pub node : (n : N) → GoesOn Q (p.node n)

-- a test that keeps a fact of the memory
abbrev TryKeeps : {T M : Type 0} → (T → M → Bool × M) → (M → Type 0) → Type 0
TryKeeps {T} {M} try J = (t : T) (m : M) → J m → J (try t m).1

-- the first that passes has the fact that all have, and the memory keeps its own
abbrev FoundIs : {T M : Type 0} → (T → Type 0) → (M → Type 0) → Option T × M → Type 0
FoundIs Q J x = IfSome x.0 Q × J x.1

first_of-keeps : {T M : Type 0} (try : T → M → Bool × M) (Q : T → Type 0) (J : M → Type 0) → TryKeeps try J → (ts : List T) → AllByRecursion Q ts → (m : M) → J m → FoundIs Q J (first_of try ts m)
unfolding first_of
first_of-keeps try Q J k [] q m j = (tt, j)
first_of-keeps try Q J k (t ∷ ts) q m j =
    let n = (try t m).1 in
    let rest = first_of-keeps try Q J k ts q.1 n (k t m j) in
    elim (try t m).0 as (λ b. FoundIs Q J (cond b (Some t, n) (first_of try ts n))) [ true ↦ (q.0, k t m j) | false ↦ rest ]

-- a fact that all have
all_unit : {T : Type 0} (ts : List T) → AllByRecursion (λ (t : T). Unit {0}) ts
all_unit [] = tt
all_unit (t ∷ ts) = (tt, all_unit ts)

module _ {P C R : Type 0} (g : Running P C R) (I : R → Type 0) (k : TestsKeep g I) where
  holds-keeps : {S : Type 0} (c : Option C) (m : Memory S R) → I m.ran → I (holds g c m).1.ran
  unfolding holds
  holds-keeps None m i = i
  holds-keeps (Some c) m i = k.test c m.ran i

  trigger_fits-keeps : {S E : Type 0} (same : E → E → Bool) (e : E) (t : Trigger E C) (m : Memory S R) → I m.ran → I (trigger_fits g same e t m).1.ran
  unfolding trigger_fits
  trigger_fits-keeps {S} same e t m i =
      elim (list_any (same e) t.events) as (λ b. I (cond b (holds g t.guard m) (false, m)).1.ran) [ true ↦ holds-keeps t.guard m i | false ↦ i ]

  triggers_fit-keeps : {S E : Type 0} (same : E → E → Bool) (e : E) (ts : List (Trigger E C)) (m : Memory S R) → I m.ran → I (triggers_fit g same e ts m).1.ran
  unfolding triggers_fit
  triggers_fit-keeps {S} {E} same e ts m i =
      (first_of-keeps (trigger_fits g same e) (λ (t : Trigger E C). Unit {0}) (λ (n : Memory S R). I n.ran) (λ t n j. trigger_fits-keeps same e t n j) ts (all_unit ts) m i).1

-- which transition is enabled
abbrev EnabledIs : {S T R : Type 0} → (T → Type 0) → (R → Type 0) → Option (ℕ × T) × Memory S R → Type 0
EnabledIs Q I x = IfSome x.0 (λ y. Q y.1) × I x.1.ran

after-keeps : {S N T E P C R : Type 0} (p : Plan S N T E P C) (g : Running P C R) (Q : T → Type 0) (I : R → Type 0) (x : Option T × Memory S R) (n : ℕ) (next : Memory S R → Option (ℕ × T) × Memory S R)
    → IfSome x.0 Q × I x.1.ran → ((m : Memory S R) → I m.ran → EnabledIs Q I (next m)) → EnabledIs Q I (enabled_after p g x n next)
unfolding enabled_after
after-keeps p g Q I (Some t, m) n next f later = f
after-keeps p g Q I (None, m) n next f later = later m f.1

module _ {S N T E P C R : Type 0} (p : Plan S N T E P C) (g : Running P C R) (Q : T → Type 0) (I : R → Type 0) (tests : TestsKeep g I) (tried : (s : S) → AllByRecursion Q (p.tried s)) where
  fits-keeps : (e : E) (t : T) (m : Memory S R) → I m.ran → I (fits p g e t m).1.ran
  unfolding fits
  fits-keeps e t m i = triggers_fit-keeps g I tests p.same_event e (p.triggers t) m i

  pub enabled-keeps : (e : E) (n : ℕ) (ss : List S) (m : Memory S R) → I m.ran → EnabledIs Q I (enabled p g e n ss m)
  unfolding enabled
  enabled-keeps e n [] m i = (tt, i)
  enabled-keeps e n (s ∷ ss) m i =
      after-keeps p g Q I (first_of (fits p g e) (p.tried s) m) n (λ later. enabled p g e (suc n) ss later)
      (first_of-keeps (fits p g e) Q (λ (o : Memory S R). I o.ran) (λ t o j. fits-keeps e t o j) (p.tried s) (tried s) m i)
      (λ later j. enabled-keeps e (suc n) ss later j)

-- what follows a segment
abbrev NextIs : {S T R : Type 0} → (T → Type 0) → (R → Type 0) → Next S T → Memory S R → Type 0
NextIs Q I (Ends s) m = I m.ran
NextIs Q I (Goes t) m = Q t × I m.ran

or_default-keeps : {T M : Type 0} (Q : T → Type 0) (J : M → Type 0) (d : T) (x : Option T × M) → Q d → FoundIs Q J x → Q (or_default d x).0 × J (or_default d x).1
or_default-keeps Q J d (None, m) q f = (q, f.1)
or_default-keeps Q J d (Some t, m) q f = f

module _ {S N T E P C R : Type 0} (p : Plan S N T E P C) (g : Running P C R) (Q : T → Type 0) (I : R → Type 0) (k : Keeps p g Q I) where
  enter-keeps : (s : S) (m : Memory S R) → I m.ran → I (enter p g s m).ran
  unfolding enter runs
  enter-keeps s m i = k.entry s m.ran i

  enter_all-keeps : (ss : List S) (m : Memory S R) → I m.ran → I (enter_all p g ss m).ran
  unfolding enter_all
  enter_all-keeps [] m i = i
  enter_all-keeps (s ∷ ss) m i = enter_all-keeps ss (enter p g s m) (enter-keeps s m i)

  remember-keeps : (s : S) (o : Option S) (m : Memory S R) → I m.ran → I (remember p s o m).ran
  unfolding remember
  remember-keeps s None m i = i
  remember-keeps s (Some leaf) m i = i

  leave-keeps : (began : Option S) (s : S) (m : Memory S R) → I m.ran → I (leave p g began s m).ran
  unfolding leave runs
  leave-keeps began s m i = k.exit s (remember p s (runs_through p began s) m).ran (remember-keeps s (runs_through p began s) m i)

  leave_all-keeps : (began : Option S) (ss : List S) (m : Memory S R) → I m.ran → I (leave_all p g began ss m).ran
  unfolding leave_all
  leave_all-keeps began [] m i = i
  leave_all-keeps began (s ∷ ss) m i = leave_all-keeps began ss (leave p g began s m) (leave-keeps began s m i)

  border-keeps : (s : S) (t : T) (m : Memory S R) (o : Option S) → Q t → I m.ran → NextIs Q I (border p g s t m o).0 (border p g s t m o).1
  unfolding border
  border-keeps s t m None q i = (q, i)
  border-keeps s t m (Some leaf) q i = enter_all-keeps (below p s leaf) m i

  chosen-keeps : (d : T) (ts : List T) (m : Memory S R) → AllByRecursion Q ts → Q d → I m.ran → Q (chosen p g d ts m).0 × I (chosen p g d ts m).1.ran
  unfolding chosen
  chosen-keeps d ts m qs q i =
      let try = λ (t : T) (now : Memory S R). holds g (p.condition t) now in
      let J = λ (o : Memory S R). I o.ran in
      or_default-keeps Q J d (first_of try ts m) q (first_of-keeps try Q J (λ t o j. holds-keeps g I k.tests (p.condition t) o j) ts qs m i)

  arrive-keeps : (began : Option S) (kind : Kind S T) (m : Memory S R) → GoesOn Q kind → I m.ran → NextIs Q I (arrive p g began kind m).0 (arrive p g began kind m).1
  unfolding arrive
  arrive-keeps began (Simple s) m q i = enter-keeps s m i
  arrive-keeps began (Border s t) m q i = border-keeps s t (enter p g s m) (m.past s) q (enter-keeps s m i)
  arrive-keeps began (Choice ts d) m q i = chosen-keeps d ts m q.0 q.1 i
  arrive-keeps began (Entry s t) m q i = (q, enter-keeps s m i)
  arrive-keeps began (Exit s t) m q i = (q, leave-keeps began s m i)

  follow-keeps : (again : T → Memory S R → Option S × Memory S R) → ((t : T) (m : Memory S R) → Q t → I m.ran → I (again t m).1.ran)
      → (x : Next S T × Memory S R) → NextIs Q I x.0 x.1 → I (follow p g again x).1.ran
  unfolding follow
  follow-keeps again h (Ends s, m) i = i
  follow-keeps again h (Goes t, m) i = h t m i.0 i.1

  segments-keeps : (n : ℕ) (began : Option S) (t : T) (m : Memory S R) → Q t → I m.ran → I (segments p g n began t m).1.ran
  unfolding segments runs
  segments-keeps zero began t m q i = i
  segments-keeps (suc n) began t m q i =
      let moved = runs g (p.action t) m in
      follow-keeps (segments p g n began) (λ u o r j. segments-keeps n began u o r j) (arrive p g began (p.node (p.target t)) moved)
      (arrive-keeps began (p.node (p.target t)) moved (k.node (p.target t)) (k.action t q m.ran i))

  chain-keeps : (began : Option S) (t : T) (m : Memory S R) → Q t → I m.ran → I (chain p g began t m).1.ran
  unfolding chain
  chain-keeps began t m q i = segments-keeps p.most began t m q i

  taken-keeps : (leaf : S) (x : Option (ℕ × T) × Memory S R) → EnabledIs Q I x → I (taken p g leaf x).memory.ran
  unfolding taken
  taken-keeps leaf (None, m) f = f.1
  taken-keeps leaf (Some (n, t), m) f =
      let left = leave_all p g (Some leaf) (take n (p.up leaf)) m in
      chain-keeps (Some leaf) t left f.0 (leave_all-keeps (Some leaf) (take n (p.up leaf)) m f.1)

  -- the handling of an event keeps the fact
  pub handling-keeps : (leaf : S) (e : E) (m : Memory S R) → I m.ran → I (handling p g leaf e m).memory.ran
  unfolding handling
  handling-keeps leaf e m i = taken-keeps leaf (enabled p g e zero (p.up leaf) m) (enabled-keeps p g Q I k.tests k.tried e zero (p.up leaf) m i)

  -- and so does a start
  pub starting-keeps : (initial : T) (r : R) → Q initial → I r → I (starting p g initial r).1.ran
  unfolding starting
  starting-keeps initial r q i = chain-keeps None initial (record { past = λ s. None; ran = r }) q i

taken_nothing : {S N T E P C R : Type 0} (p : Plan S N T E P C) (g : Running P C R) (leaf : S) (I : R → Type 0) (x : Option (ℕ × T) × Memory S R)
    → I x.1.ran → (taken p g leaf x).enabled ≡ false → I (taken p g leaf x).memory.ran
unfolding taken
taken_nothing p g leaf I (None, m) i e = i
taken_nothing p g leaf I (Some (n, t), m) i e = absurd (true≢false e)

-- where nothing is enabled, what conditions keep is kept
pub unhandled-keeps : {S N T E P C R : Type 0} (p : Plan S N T E P C) (g : Running P C R) (I : R → Type 0) → TestsKeep g I → (leaf : S) (e : E) (m : Memory S R) → I m.ran
    → (handling p g leaf e m).enabled ≡ false → I (handling p g leaf e m).memory.ran
unfolding handling
unhandled-keeps {S} {N} {T} p g I k leaf e m i not =
    taken_nothing p g leaf I (enabled p g e zero (p.up leaf) m)
    (enabled-keeps p g (λ (t : T). Unit {0}) I k (λ s. all_unit (p.tried s)) e zero (p.up leaf) m i).1 not
