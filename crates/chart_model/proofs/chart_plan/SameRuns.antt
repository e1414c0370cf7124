-- Plans that are the same up to names handle every message alike.
use Rattle.std.proofs.Common.{◌≡◌, ℕ, suc, zero, ◌-◌, Bool, true, false, cond, not, ◌&&◌, ◌||◌, List, [], ◌∷◌, Option, Some, None, length, take, reverse, ◌∙◌, ap, refl, subst}
use Rattle.std.specs.List.{list_any}
use Rattle.std.specs.Option.{is_some}
use Rattle.std.proofs.lemmas.Bool.{true≢false, false≢true}
use mathlib.Core.List.{reverse_aux}
use Rattle.chart_model.specs.chart_plan.Plan.{Kind, Trigger, Plan, Running}
use Rattle.chart_model.specs.chart_plan.Handling.{Memory, Next, Ends, Goes, holds, trigger_fits, triggers_fit, fits, first_of, or_default, enabled, enabled_after, chosen, runs, enter, enter_all, below, is_inside, runs_through, put, remember, leave, leave_all, border as border_step, arrive, follow, segments, chain, taken, handling, starting}
use Rattle.chart_model.specs.chart_plan.Same.{Each, none, more, Maybe, absent, present, SameKind, simple, border, choice, entry, exit, SamePlan, SameMemory, SameOutcome}

data SameNext {S T S' T' : Type 0} (RS : S → S' → Type 0) (RT : T → T' → Type 0) : Next S T → Next S' T' → Type 0 where
  ends : {s : S} {s' : S'} → RS s s' → SameNext RS RT (Ends s) (Ends s')
  goes : {t : T} {t' : T'} → RT t t' → SameNext RS RT (Goes t) (Goes t')

-- ---- lists

module _ {A B : Type 0} (R : A → B → Type 0) where
  each-length : {xs : List A} {ys : List B} → Each R xs ys → length xs ≡ length ys
  each-length none = refl
  each-length (more r e) = ap suc (each-length e)

  each-take : (n : ℕ) {xs : List A} {ys : List B} → Each R xs ys → Each R (take n xs) (take n ys)
  each-take zero e = none
  each-take (suc n) none = none
  each-take (suc n) (more r e) = more r (each-take n e)

  each-reverse_aux : {xs : List A} {ys : List B} {us : List A} {vs : List B} → Each R xs ys → Each R us vs → Each R (reverse_aux xs us) (reverse_aux ys vs)
  each-reverse_aux none f = f
  each-reverse_aux (more r e) f = each-reverse_aux e (more r f)

  each-reverse : {xs : List A} {ys : List B} → Each R xs ys → Each R (reverse xs) (reverse ys)
  each-reverse e = each-reverse_aux e none

module _ {S N T S' N' T' E P C R : Type 0} (RS : S → S' → Type 0) (RN : N → N' → Type 0) (RT : T → T' → Type 0) (p : Plan S N T E P C) (q : Plan S' N' T' E P C) (sp : SamePlan RS RN RT p q) (g : Running P C R) where
  -- ---- entering and leaving

  runs-same : (c c' : P) (m : Memory S R) (m' : Memory S' R) → c ≡ c' → SameMemory RS m m' → SameMemory RS (runs g c m) (runs g c' m')
  unfolding runs
  runs-same c c' m m' e s = record { past = s.past; ran = ap (λ x. g.run x m.ran) e ∙ ap (g.run c') s.ran }

  either : (v : Bool) (r : Option S) (r' : Option S') (leaf : S) (leaf' : S') → RS leaf leaf' → Maybe RS r r' → Maybe RS (cond v (Some leaf) r) (cond v (Some leaf') r')
  either true r r' leaf leaf' b d = present b
  either false r r' leaf leaf' b d = d

  put-same : (s : S) (s' : S') (leaf : S) (leaf' : S') (f : S → Option S) (f' : S' → Option S') (r : S) (r' : S') → RS s s' → RS leaf leaf' → RS r r' → Maybe RS (f r) (f' r')
      → Maybe RS (put p s leaf f r) (put q s' leaf' f' r')
  unfolding put
  put-same s s' leaf leaf' f f' r r' a b c d =
      let M : Bool → Type 0 = λ v. Maybe RS (cond (p.same r s) (Some leaf) (f r)) (cond v (Some leaf') (f' r')) in
      subst M (sp.same r r' s s' c a) (either (p.same r s) (f r) (f' r') leaf leaf' b d)

  remember-same : (s : S) (s' : S') {o : Option S} {o' : Option S'} (m : Memory S R) (m' : Memory S' R) → RS s s' → Maybe RS o o' → SameMemory RS m m' → SameMemory RS (remember p s o m) (remember q s' o' m')
  unfolding remember
  remember-same s s' m m' a absent c = c
  remember-same s s' m m' a (present {x} {y} b) c = record { past = λ r r' d. put-same s s' x y m.past m'.past r r' a b d (c.past r r' d); ran = c.ran }

  enter-same : (s : S) (s' : S') (m : Memory S R) (m' : Memory S' R) → RS s s' → SameMemory RS m m' → SameMemory RS (enter p g s m) (enter q g s' m')
  unfolding enter
  enter-same s s' m m' a c = runs-same _ _ m m' (sp.entry s s' a) c

  enter_all-same : {ss : List S} {ss' : List S'} (m : Memory S R) (m' : Memory S' R) → Each RS ss ss' → SameMemory RS m m' → SameMemory RS (enter_all p g ss m) (enter_all q g ss' m')
  unfolding enter_all
  enter_all-same m m' none c = c
  enter_all-same m m' (more r e) c = enter_all-same _ _ e (enter-same _ _ m m' r c)

  below-same : (s : S) (s' : S') (leaf : S) (leaf' : S') → RS s s' → RS leaf leaf' → Each RS (below p s leaf) (below q s' leaf')
  unfolding below
  below-same s s' leaf leaf' a b =
      let e = sp.up leaf leaf' b in
      let L : ℕ → Type 0 = λ n. Each RS (reverse (take (length (p.up leaf) - length (p.up s)) (p.up leaf))) (reverse (take n (q.up leaf'))) in
      subst L (ap (λ n. n - length (p.up s)) (each-length RS e) ∙ ap (λ n. length (q.up leaf') - n) (each-length RS (sp.up s s' a)))
      (each-reverse RS (each-take RS (length (p.up leaf) - length (p.up s)) e))

  any-same : (s : S) (s' : S') {ss : List S} {ss' : List S'} → RS s s' → Each RS ss ss' → list_any (λ r. p.same r s) ss ≡ list_any (λ r. q.same r s') ss'
  any-same s s' a none = refl
  any-same s s' a (more {x} {y} {xs} {ys} r e) = ap (λ v. v || list_any (λ r. p.same r s) xs) (sp.same x y s s' r a) ∙ ap (λ v. q.same y s' || v) (any-same s s' a e)

  inside-same : (leaf : S) (leaf' : S') (s : S) (s' : S') → RS leaf leaf' → RS s s' → is_inside p leaf s ≡ is_inside q leaf' s'
  unfolding is_inside
  inside-same leaf leaf' s s' b a =
      ap (λ v. v && not (p.same s leaf)) (any-same s s' a (sp.up leaf leaf' b)) ∙ ap (λ v. list_any (λ r. q.same r s') (q.up leaf') && not v) (sp.same s s' leaf leaf' a b)

  through-either : (v : Bool) (leaf : S) (leaf' : S') → RS leaf leaf' → Maybe RS (cond v (Some leaf) None) (cond v (Some leaf') None)
  through-either true leaf leaf' b = present b
  through-either false leaf leaf' b = absent

  through-same : {o : Option S} {o' : Option S'} (s : S) (s' : S') → Maybe RS o o' → RS s s' → Maybe RS (runs_through p o s) (runs_through q o' s')
  unfolding runs_through
  through-same s s' absent a = absent
  through-same s s' (present {x} {y} b) a =
      let M : Bool → Type 0 = λ v. Maybe RS (cond (is_inside p x s) (Some x) None) (cond v (Some y) None) in
      subst M (inside-same x y s s' b a) (through-either (is_inside p x s) x y b)

  leave-same : {o : Option S} {o' : Option S'} (s : S) (s' : S') (m : Memory S R) (m' : Memory S' R) → Maybe RS o o' → RS s s' → SameMemory RS m m' → SameMemory RS (leave p g o s m) (leave q g o' s' m')
  unfolding leave
  leave-same s s' m m' b a c = runs-same _ _ _ _ (sp.exit s s' a) (remember-same s s' m m' a (through-same s s' b a) c)

  leave_all-same : {o : Option S} {o' : Option S'} {ss : List S} {ss' : List S'} (m : Memory S R) (m' : Memory S' R) → Maybe RS o o' → Each RS ss ss' → SameMemory RS m m' → SameMemory RS (leave_all p g o ss m) (leave_all q g o' ss' m')
  unfolding leave_all
  leave_all-same m m' b none c = c
  leave_all-same m m' b (more r e) c = leave_all-same _ _ b e (leave-same _ _ m m' b r c)

  -- ---- tests

  SameTest : Bool × Memory S R → Bool × Memory S' R → Type 0
  SameTest a b = (a.0 ≡ b.0) × SameMemory RS a.1 b.1

  holds-same : (c c' : Option C) (m : Memory S R) (m' : Memory S' R) → c ≡ c' → SameMemory RS m m' → SameTest (holds g c m) (holds g c' m')
  unfolding SameTest holds
  holds-same None None m m' e s = (refl, s)
  holds-same None (Some k) m m' e s = cc
  holds-same (Some k) None m m' e s = cc
  holds-same (Some k) (Some k') m m' e s =
      let f : k ≡ k' = cc in
      let h : g.test k m.ran ≡ g.test k' m'.ran = ap (λ x. g.test x m.ran) f ∙ ap (g.test k') s.ran in
      (ap (λ x. x.0) h, record { past = s.past; ran = ap (λ x. x.1) h })

  either_test : (v v' : Bool) (x : Bool × Memory S R) (y : Bool × Memory S' R) (m : Memory S R) (m' : Memory S' R) → v ≡ v' → SameTest x y → SameMemory RS m m'
      → SameTest (cond v x (false, m)) (cond v' y (false, m'))
  unfolding SameTest
  either_test true true x y m m' e a c = a
  either_test true false x y m m' e a c = absurd (true≢false e)
  either_test false true x y m m' e a c = absurd (false≢true e)
  either_test false false x y m m' e a c = (refl, c)

  trigger-same : (e : E) (t : Trigger E C) (m : Memory S R) (m' : Memory S' R) → SameMemory RS m m' → SameTest (trigger_fits g p.same_event e t m) (trigger_fits g q.same_event e t m')
  unfolding trigger_fits
  trigger-same e t m m' c = either_test _ _ _ _ m m' (ap (λ f. list_any (f e) t.events) sp.same_event) (holds-same t.guard t.guard m m' refl c) c

  -- ---- the first that passes, by tests that are the same

  module _ {A B : Type 0} (RA : A → B → Type 0) where
    SameTests : (A → Memory S R → Bool × Memory S R) → (B → Memory S' R → Bool × Memory S' R) → Type 0
    SameTests f h = (t : A) (t' : B) (m : Memory S R) (m' : Memory S' R) → RA t t' → SameMemory RS m m' → SameTest (f t m) (h t' m')

    SameFound : Option A × Memory S R → Option B × Memory S' R → Type 0
    SameFound a b = Maybe RA a.0 b.0 × SameMemory RS a.1 b.1

    passed-same : (f : A → Memory S R → Bool × Memory S R) (h : B → Memory S' R → Bool × Memory S' R) (t : A) (t' : B) (ts : List A) (ts' : List B) (a : Bool × Memory S R) (b : Bool × Memory S' R)
        → RA t t' → SameTest a b → ((m : Memory S R) (m' : Memory S' R) → SameMemory RS m m' → SameFound (first_of f ts m) (first_of h ts' m'))
        → SameFound (cond a.0 (Some t, a.1) (first_of f ts a.1)) (cond b.0 (Some t', b.1) (first_of h ts' b.1))
    unfolding SameTest SameFound
    passed-same f h t t' ts ts' (true, m) (true, m') r c rest = (present r, c.1)
    passed-same f h t t' ts ts' (true, m) (false, m') r c rest = absurd (true≢false c.0)
    passed-same f h t t' ts ts' (false, m) (true, m') r c rest = absurd (false≢true c.0)
    passed-same f h t t' ts ts' (false, m) (false, m') r c rest = rest m m' c.1

    first_of-same : (f : A → Memory S R → Bool × Memory S R) (h : B → Memory S' R → Bool × Memory S' R) → SameTests f h → {ts : List A} {ts' : List B} → Each RA ts ts'
        → (m : Memory S R) (m' : Memory S' R) → SameMemory RS m m' → SameFound (first_of f ts m) (first_of h ts' m')
    unfolding first_of SameFound SameTests
    first_of-same f h e none m m' c = (absent, c)
    first_of-same f h e (more {x} {y} {xs} {ys} r rs) m m' c =
        passed-same f h x y xs ys (f x m) (h y m') r (e x y m m' r c) (first_of-same f h e rs)

  Equal : {A : Type 0} → A → A → Type 0
  Equal x y = x ≡ y

  each-equal : {A : Type 0} (xs : List A) → Each Equal xs xs
  unfolding Equal
  each-equal [] = none
  each-equal (x ∷ xs) = more refl (each-equal xs)

  some-same : {A B : Type 0} (RA : A → B → Type 0) {a : Option A} {b : Option B} → Maybe RA a b → is_some a ≡ is_some b
  some-same RA absent = refl
  some-same RA (present r) = refl

  triggers-same : (e : E) → SameTests Equal (trigger_fits g p.same_event e) (trigger_fits g q.same_event e)
  unfolding SameTests Equal
  triggers-same e t t' m m' r c = let F : Trigger E C → Type 0 = λ x. SameTest (trigger_fits g p.same_event e t m) (trigger_fits g q.same_event e x m') in subst F r (trigger-same e t m m' c)

  fits-same : (e : E) → SameTests RT (fits p g e) (fits q g e)
  unfolding fits triggers_fit SameTests SameTest SameFound
  fits-same e t t' m m' r c =
      let L : List (Trigger E C) → Type 0 = λ x. Each Equal (p.triggers t) x in
      let found : SameFound Equal (first_of (trigger_fits g p.same_event e) (p.triggers t) m) (first_of (trigger_fits g q.same_event e) (q.triggers t') m') =
      first_of-same Equal (trigger_fits g p.same_event e) (trigger_fits g q.same_event e) (triggers-same e) (subst L (sp.triggers t t' r) (each-equal (p.triggers t))) m m' c in
      (some-same Equal found.0, found.1)

  -- ---- which transition is enabled

  SameTaken : Option (ℕ × T) × Memory S R → Option (ℕ × T') × Memory S' R → Type 0
  SameTaken a b = Maybe (λ x y. (x.0 ≡ y.0) × RT x.1 y.1) a.0 b.0 × SameMemory RS a.1 b.1

  after-same : {a : Option T} {b : Option T'} (m : Memory S R) (m' : Memory S' R) (n : ℕ) (f : Memory S R → Option (ℕ × T) × Memory S R) (h : Memory S' R → Option (ℕ × T') × Memory S' R)
      → Maybe RT a b → SameMemory RS m m' → ((m : Memory S R) (m' : Memory S' R) → SameMemory RS m m' → SameTaken (f m) (h m'))
      → SameTaken (enabled_after p g (a, m) n f) (enabled_after q g (b, m') n h)
  unfolding enabled_after SameTaken
  after-same m m' n f h absent c rest = rest m m' c
  after-same m m' n f h (present r) c rest = (present (refl, r), c)

  enabled-same : (e : E) (n : ℕ) {ss : List S} {ss' : List S'} → Each RS ss ss' → (m : Memory S R) (m' : Memory S' R) → SameMemory RS m m' → SameTaken (enabled p g e n ss m) (enabled q g e n ss' m')
  unfolding enabled SameTaken SameFound SameTests
  enabled-same e n none m m' c = (absent, c)
  enabled-same e n (more {x} {y} r rs) m m' c =
      let found : SameFound RT (first_of (fits p g e) (p.tried x) m) (first_of (fits q g e) (q.tried y) m') = first_of-same RT (fits p g e) (fits q g e) (fits-same e) (sp.tried x y r) m m' c in
      after-same _ _ n _ _ found.0 found.1 (enabled-same e (suc n) rs)

  -- ---- choices

  SameChoice : T × Memory S R → T' × Memory S' R → Type 0
  SameChoice a b = RT a.0 b.0 × SameMemory RS a.1 b.1

  default-same : {a : Option T} {b : Option T'} (d : T) (d' : T') (m : Memory S R) (m' : Memory S' R) → Maybe RT a b → RT d d' → SameMemory RS m m' → SameChoice (or_default d (a, m)) (or_default d' (b, m'))
  unfolding SameChoice
  default-same d d' m m' absent r c = (r, c)
  default-same d d' m m' (present a) r c = (a, c)

  conditions-same : SameTests RT (λ t now. holds g (p.condition t) now) (λ t now. holds g (q.condition t) now)
  unfolding SameTests
  conditions-same t t' m m' r c = holds-same _ _ m m' (sp.condition t t' r) c

  chosen-same : (d : T) (d' : T') {ts : List T} {ts' : List T'} (m : Memory S R) (m' : Memory S' R) → RT d d' → Each RT ts ts' → SameMemory RS m m' → SameChoice (chosen p g d ts m) (chosen q g d' ts' m')
  unfolding chosen SameFound
  chosen-same d d' {ts} {ts'} m m' r e c =
      let found : SameFound RT (first_of (λ t now. holds g (p.condition t) now) ts m) (first_of (λ t now. holds g (q.condition t) now) ts' m') =
      first_of-same RT (λ t now. holds g (p.condition t) now) (λ t now. holds g (q.condition t) now) conditions-same e m m' c in
      default-same d d' _ _ found.0 r found.1

  -- ---- chains

  SameStep : Next S T × Memory S R → Next S' T' × Memory S' R → Type 0
  SameStep a b = SameNext RS RT a.0 b.0 × SameMemory RS a.1 b.1

  border-same : (s : S) (s' : S') (t : T) (t' : T') (m : Memory S R) (m' : Memory S' R) {r : Option S} {r' : Option S'} → RS s s' → RT t t' → SameMemory RS m m' → Maybe RS r r'
      → SameStep (border_step p g s t m r) (border_step q g s' t' m' r')
  unfolding border_step SameStep
  border-same s s' t t' m m' a b c absent = (goes b, c)
  border-same s s' t t' m m' a b c (present {x} {y} r) = (ends r, enter_all-same m m' (below-same s s' x y a r) c)

  arrive-same : {o : Option S} {o' : Option S'} {k : Kind S T} {k' : Kind S' T'} (m : Memory S R) (m' : Memory S' R) → Maybe RS o o' → SameKind RS RT k k' → SameMemory RS m m' → SameStep (arrive p g o k m) (arrive q g o' k' m')
  unfolding arrive SameStep SameChoice
  arrive-same m m' b (simple {s} {s'} a) c = (ends a, enter-same s s' m m' a c)
  arrive-same m m' b (border {s} {s'} {t} {t'} a r) c = border-same s s' t t' _ _ a r (enter-same s s' m m' a c) (c.past s s' a)
  arrive-same m m' b (choice {ts} {ts'} {t} {t'} e r) c = let d = chosen-same t t' m m' r e c in (goes d.0, d.1)
  arrive-same m m' b (entry {s} {s'} a r) c = (goes r, enter-same s s' m m' a c)
  arrive-same m m' b (exit {s} {s'} a r) c = (goes r, leave-same s s' m m' b a c)

  -- where two chains end, and their memories
  abbrev pub SameEnd : Option S × Memory S R → Option S' × Memory S' R → Type 0
  SameEnd a b = Maybe RS a.0 b.0 × SameMemory RS a.1 b.1

  follow-same : (f : T → Memory S R → Option S × Memory S R) (h : T' → Memory S' R → Option S' × Memory S' R) {r : Next S T} {r' : Next S' T'} (m : Memory S R) (m' : Memory S' R) → SameNext RS RT r r' → SameMemory RS m m'
      → ((t : T) (t' : T') (m : Memory S R) (m' : Memory S' R) → RT t t' → SameMemory RS m m' → SameEnd (f t m) (h t' m'))
      → SameEnd (follow p g f (r, m)) (follow q g h (r', m'))
  unfolding follow
  follow-same f h m m' (ends a) c rest = (present a, c)
  follow-same f h m m' (goes {t} {t'} a) c rest = rest t t' m m' a c

  segments-same : (n : ℕ) {o : Option S} {o' : Option S'} → Maybe RS o o' → (t : T) (t' : T') (m : Memory S R) (m' : Memory S' R) → RT t t' → SameMemory RS m m' → SameEnd (segments p g n o t m) (segments q g n o' t' m')
  unfolding segments SameStep
  segments-same zero b t t' m m' a c = (b, c)
  segments-same (suc n) {o} {o'} b t t' m m' a c =
      let d = arrive-same _ _ b (sp.node _ _ (sp.target t t' a)) (runs-same _ _ m m' (sp.action t t' a) c) in
      follow-same (segments p g n o) (segments q g n o') _ _ d.0 d.1 (segments-same n b)

  pub chain-same : {o : Option S} {o' : Option S'} (t : T) (t' : T') (m : Memory S R) (m' : Memory S' R) → Maybe RS o o' → RT t t' → SameMemory RS m m' → SameEnd (chain p g o t m) (chain q g o' t' m')
  unfolding chain
  chain-same {o} {o'} t t' m m' b a c =
      let L : ℕ → Type 0 = λ n. SameEnd (segments p g p.most o t m) (segments q g n o' t' m') in
      subst L sp.most (segments-same p.most b t t' m m' a c)

  -- ---- handling

  taken-same : (leaf : S) (leaf' : S') → RS leaf leaf' → {a : Option (ℕ × T)} {b : Option (ℕ × T')} (m : Memory S R) (m' : Memory S' R) → Maybe (λ x y. (x.0 ≡ y.0) × RT x.1 y.1) a b → SameMemory RS m m'
      → SameOutcome RS (taken p g leaf (a, m)) (taken q g leaf' (b, m'))
  unfolding taken
  taken-same leaf leaf' l m m' absent c = record { enabled = refl; leaf = present l; memory = c }
  taken-same leaf leaf' l m m' (present {x} {y} r) c =
      let L : ℕ → Type 0 = λ n. Each RS (take x.0 (p.up leaf)) (take n (q.up leaf')) in
      let left = leave_all-same m m' (present l) (subst L r.0 (each-take RS x.0 (sp.up leaf leaf' l))) c in
      let end = chain-same x.1 y.1 _ _ (present l) r.1 left in
      record { enabled = refl; leaf = end.0; memory = end.1 }

  pub handling-same : (leaf : S) (leaf' : S') → RS leaf leaf' → (e : E) (m : Memory S R) (m' : Memory S' R) → SameMemory RS m m' → SameOutcome RS (handling p g leaf e m) (handling q g leaf' e m')
  unfolding handling SameTaken
  handling-same leaf leaf' l e m m' c = let found : SameTaken (enabled p g e zero (p.up leaf) m) (enabled q g e zero (q.up leaf') m') = enabled-same e zero (sp.up leaf leaf' l) m m' c in taken-same leaf leaf' l _ _ found.0 found.1

  pub starting-same : (t : T) (t' : T') → RT t t' → (r : R) → SameEnd (starting p g t r) (starting q g t' r)
  unfolding starting
  starting-same t t' a r = chain-same t t' _ _ absent a (record { past = λ s s' d. absent; ran = refl })
