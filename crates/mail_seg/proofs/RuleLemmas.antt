-- Each step keeps the rule of a shared queue.
use Rattle.std.proofs.Common.{◌≡◌, ◌≢◌, ℕ, zero, suc, ◌+◌, ◌<◌, ◌≤◌, ◌==◌, if◌then◌else◌, Bool, true, false, true≢false, List, [], ◌∷◌, ◌++◌, length, set, sym, refl, ap, ◌∙◌, subst, inl, inr, ◌⊎◌, append_assoc, length-append, arith}
use Rattle.std.proofs.lemmas.Bool.{cases_eq, cases_lt, eq-eqb, ne_eqb}
use Rattle.std.proofs.lemmas.List.{append-nil}
use mathlib.Core.Option.{some, some-ne-none, some-injective}
use lib.ListN.{get_elem?}
use Rattle.crossbeam_queue.specs.Fifo.{Pushes, Pops, Forks, Merges, Learns}
use Rattle.crossbeam_queue.proofs.Lists.{at_set, set_else}
use Rattle.mail_seg.specs.declared.contents.Contents.{Contents}
use Rattle.mail_seg.specs.declared.rule.Posted.{Posted}
use Rattle.mail_seg.specs.declared.rule.PassView.{PassView}
use Rattle.mail_seg.specs.Rule.{of_party, poster, past_next, keeping_next, taking_in, spent, pushing, popping, Owns, AreBelow, IsReader, Fits, IsInOrder, TakenOf, TookAll, Popped, AllTaken}

-- what stands at a place of a list with one item more
snoc_split : (l : List PassView) (a b : PassView) (j : ℕ) → get_elem? (l ++ a ∷ []) j ≡ some b → (get_elem? l j ≡ some b) ⊎ ((j ≡ length l) × (a ≡ b))
snoc_split [] a b zero e = inr (refl, some-injective a b e)
snoc_split [] a b (suc j) e = absurd (some-ne-none b (sym e))
snoc_split (x ∷ xs) a b zero e = inl e
snoc_split (x ∷ xs) a b (suc j) e = elim (snoc_split xs a b j e) [ inl h ↦ inl h | inr h ↦ inr (ap suc h.0, h.1) ]

abbrev All : (ℕ → PassView → Type 0) → List PassView → Type 0
All F views = (port : ℕ) (v : PassView) → get_elem? views port ≡ some v → F port v

-- after a change of one view
all_set : (F : ℕ → PassView → Type 0) (views : List PassView) (port : ℕ) (w : PassView) → F port w → ((j : ℕ) (u : PassView) → j ≢ port → get_elem? views j ≡ some u → F j u) → All F (set views port w)
all_set F views port w mine others j u e = elim (at_set views port j w u e) [
  | inl x ↦ subst (λ k. F k u) (sym x.0) (subst (λ y. F port y) x.1 mine)
  | inr x ↦ others j u x.0 x.1
]

all_snoc : (F : ℕ → PassView → Type 0) (views : List PassView) (w : PassView) → All F views → F (length views) w → All F (views ++ w ∷ [])
all_snoc F views w old new j u e = elim (snoc_split views w u j e) [
  | inl x ↦ old j u x
  | inr x ↦ subst (λ k. F k u) (sym x.0) (subst (λ y. F (length views) y) x.1 new)
]

-- the contents of one party
of_party-append : (s : ℕ) (xs ys : List Contents) → of_party s (xs ++ ys) ≡ of_party s xs ++ of_party s ys
of_party-append s [] ys = refl
of_party-append s (x ∷ xs) ys = elim (x.from.0 == s) as (λ b. (if b then x ∷ of_party s (xs ++ ys) else of_party s (xs ++ ys)) ≡ (if b then x ∷ of_party s xs else of_party s xs) ++ of_party s ys) [
  | true ↦ ap (λ l. x ∷ l) (of_party-append s xs ys)
  | false ↦ of_party-append s xs ys
]

of_party-own : (s : ℕ) (x : Contents) → x.from.0 ≡ s → of_party s (x ∷ []) ≡ x ∷ []
of_party-own s x e = rw (eq-eqb x.from.0 s e) refl

of_party-other : (s : ℕ) (x : Contents) → (x.from.0 ≡ s → ⊥) → of_party s (x ∷ []) ≡ []
of_party-other s x h = rw (ne_eqb x.from.0 s h) refl

-- a function that differs at one number
abbrev changed : {X : Type 0} → (ℕ → X) → ℕ → X → ℕ → X
changed f k x s = if s == k then x else f s

changed-same : {X : Type 0} (f : ℕ → X) (k : ℕ) (x : X) (s : ℕ) → s ≡ k → changed f k x s ≡ x
changed-same f k x s e = rw (eq-eqb s k e) refl

changed-other : {X : Type 0} (f : ℕ → X) (k : ℕ) (x : X) (s : ℕ) → (s ≡ k → ⊥) → changed f k x s ≡ f s
changed-other f k x s h = rw (ne_eqb s k h) refl

-- a pass goes on posting for its parties
Owns-kept : (writer writer' : ℕ → ℕ) (sent sent' : ℕ → List Contents) (j j' : ℕ) (ps : List Posted) → ((s : ℕ) → writer s ≡ j → (writer' s ≡ j') × (sent' s ≡ sent s)) → Owns writer sent j ps → Owns writer' sent' j' ps
Owns-kept writer writer' sent sent' j j' [] f o = tt
Owns-kept writer writer' sent sent' j j' (p ∷ ps) f o = ((f p.party o.0).0, o.1 ∙ sym (f p.party o.0).1, Owns-kept writer writer' sent sent' j j' ps f o.2)

-- the same where its parties are below a number
Owns-below : (writer writer' : ℕ → ℕ) (sent : ℕ → List Contents) (n j : ℕ) (ps : List Posted) → AreBelow n ps → ((s : ℕ) → s < n → writer' s ≡ writer s) → Owns writer sent j ps → Owns writer' sent j ps
Owns-below writer writer' sent n j [] b f o = tt
Owns-below writer writer' sent n j (p ∷ ps) b f o = (f p.party b.0 ∙ o.0, o.1, Owns-below writer writer' sent n j ps b.1 f o.2)

Owns-append : (writer : ℕ → ℕ) (sent : ℕ → List Contents) (j : ℕ) (ps qs : List Posted) → Owns writer sent j ps → Owns writer sent j qs → Owns writer sent j (ps ++ qs)
Owns-append writer sent j [] qs o w = w
Owns-append writer sent j (p ∷ ps) qs o w = (o.0, o.1, Owns-append writer sent j ps qs o.2 w)

AreBelow-more : (n m : ℕ) (ps : List Posted) → n ≤ m → AreBelow n ps → AreBelow m ps
AreBelow-more n m [] h b = tt
AreBelow-more n m (p ∷ ps) h b = (omega (arith, b.0), AreBelow-more n m ps h b.1)

AreBelow-append : (n : ℕ) (ps qs : List Posted) → AreBelow n ps → AreBelow n qs → AreBelow n (ps ++ qs)
AreBelow-append n [] qs b c = c
AreBelow-append n (p ∷ ps) qs b c = (b.0, AreBelow-append n ps qs b.1 c)

-- the parties of another pass are below the number from which on the reader has the rights
others_below : (writer : ℕ → ℕ) (sent : ℕ → List Contents) (n port j : ℕ) (ps : List Posted) → (j ≡ port → ⊥) → ((s : ℕ) → n ≤ s → (writer s ≡ port) × (sent s ≡ [])) → Owns writer sent j ps → AreBelow n ps
others_below writer sent n port j [] other rest o = tt
others_below writer sent n port j (p ∷ ps) other rest o = (elim (cases_lt p.party n) [ inl h ↦ h | inr h ↦ absurd (other (sym o.0 ∙ (rest p.party h).0)) ], others_below writer sent n port j ps other rest o.2)

pub begins : IsInOrder [] (record { posts = []; takes = true; next = 0; got = [] } ∷ [])
begins = record {
  reader = 0;
  writer = λ _. 0;
  sent = λ _. [];
  got = [];
  order = λ s. refl;
  fits = all_snoc (Fits 0 (λ _. 0) (λ _. []) []) [] (record { posts = []; takes = true; next = 0; got = [] }) (λ j u e. absurd (some-ne-none u (sym e)))
      (tt, λ _. record { port_is = refl; got_is = refl; below = tt; rest = λ s h. (refl, refl) });
}

-- a push, of a pass that posts for one party
pushes_one : (n port : ℕ) (p : Posted) (takes : Bool) (next : ℕ) (got : List Contents) (x : Contents) → x.from.0 ≡ p.party →
    (let v : PassView = record { posts = p ∷ []; takes = takes; next = next; got = got } in Pushes IsInOrder n port v x (λ w. w ≡ pushing v x))
pushes_one n port p takes next got x from = λ items views _ h at.
    let v : PassView = record { posts = p ∷ []; takes = takes; next = next; got = got } in
    let mine = h.fits port v at in
    let sent' = changed h.sent p.party (h.sent p.party ++ x ∷ []) in
    let p' : Posted = record p { list = p.list ++ x ∷ [] } in
    let kept : (j s : ℕ) → (j ≡ port → ⊥) → h.writer s ≡ j → sent' s ≡ h.sent s = λ j s other e. changed-other h.sent p.party (h.sent p.party ++ x ∷ []) s (λ same. other (sym e ∙ ap h.writer same ∙ mine.0.0)) in (
      pushing v x,
      record {
        reader = h.reader;
        writer = h.writer;
        sent = sent';
        got = h.got;
        order = λ s.
            ap (of_party s) (sym (append_assoc h.got items (x ∷ []))) ∙ of_party-append s (h.got ++ items) (x ∷ []) ∙ ap (λ l. l ++ of_party s (x ∷ [])) (h.order s)
            ∙ elim (cases_eq s p.party) [
              | inl same ↦ ap (λ l. h.sent s ++ l) (of_party-own s x (from ∙ sym same)) ∙ ap (λ k. h.sent k ++ x ∷ []) same ∙ sym (changed-same h.sent p.party (h.sent p.party ++ x ∷ []) s same)
              | inr other ↦ ap (λ l. h.sent s ++ l) (of_party-other s x (λ e. other (sym e ∙ from))) ∙ append-nil (h.sent s) ∙ sym (changed-other h.sent p.party (h.sent p.party ++ x ∷ []) s other)
            ];
        fits = all_set (Fits h.reader h.writer sent' h.got) views port (pushing v x) (
          (mine.0.0, ap (λ l. l ++ x ∷ []) mine.0.1 ∙ sym (changed-same h.sent p.party (h.sent p.party ++ x ∷ []) p.party refl), tt),
          λ t.
              let r = mine.1 t in
              record {
                port_is = r.port_is;
                got_is = r.got_is;
                below = (r.below.0, tt);
                rest = λ s l. ((r.rest s l).0, changed-other h.sent p.party (h.sent p.party ++ x ∷ []) s (λ same. absurd (omega (arith, l, same, r.below.0))) ∙ (r.rest s l).1);
              },
        )
            (λ j u other e.
            let theirs = h.fits j u e in (
              Owns-kept h.writer h.writer h.sent sent' j j u.posts (λ s w. (w, kept j s other w)) theirs.0,
              λ t.
                  let r = theirs.1 t in
                  record { port_is = r.port_is; got_is = r.got_is; below = r.below; rest = λ s l. ((r.rest s l).0, kept j s other (r.rest s l).0 ∙ (r.rest s l).1) },
            ));
      },
      refl,
    )

pub pushes : (n port : ℕ) (v : PassView) (p : Posted) (x : Contents) → v.posts ≡ p ∷ [] → x.from.0 ≡ p.party → Pushes IsInOrder n port v x (λ w. w ≡ pushing v x)
pushes n port v p x e from =
    let same : v ≡ record v { posts = p ∷ [] } = ap (λ ps. record v { posts = ps }) e in
    subst (λ u. Pushes IsInOrder n port u x (λ w. w ≡ pushing u x)) (sym same) (pushes_one n port p v.takes v.next v.got x from)

-- two passes that take are one
one_reader : {items : List Contents} {views : List PassView} (h : IsInOrder items views) (port j : ℕ) (v u : PassView) → get_elem? views port ≡ some v → get_elem? views j ≡ some u → v.takes ≡ true → u.takes ≡ true → j ≡ port
one_reader h port j v u at e t t' = ((h.fits j u e).1 t').port_is ∙ sym ((h.fits port v at).1 t).port_is

-- a message in the queue is of a party that has a pass
has_pass : {reader : ℕ} {writer : ℕ → ℕ} {sent : ℕ → List Contents} {got : List Contents} {port : ℕ} {v : PassView} (x : Contents) (items : List Contents) → IsReader reader writer sent got port v → ((s : ℕ) → of_party s (got ++ x ∷ items) ≡ sent s) → x.from.0 < v.next
has_pass {sent = sent} {got = got} {v = v} x items r order = elim (cases_lt x.from.0 v.next) [
  | inl below ↦ below
  | inr past ↦
      let none : of_party x.from.0 (got ++ x ∷ items) ≡ [] = order x.from.0 ∙ (r.rest x.from.0 past).1 in
      let parts : of_party x.from.0 got ++ of_party x.from.0 (x ∷ items) ≡ [] = sym (of_party-append x.from.0 got (x ∷ items)) ∙ none in
      let own : of_party x.from.0 (x ∷ items) ≡ x ∷ of_party x.from.0 items = rw (eq-eqb x.from.0 x.from.0 refl) refl in
      let count : length (of_party x.from.0 got ++ x ∷ of_party x.from.0 items) ≡ 0 = ap length (ap (λ l. of_party x.from.0 got ++ l) (sym own) ∙ parts) in
      absurd (omega (arith, count, length-append (of_party x.from.0 got) (x ∷ of_party x.from.0 items)))
]

pub pops : (port : ℕ) (v : PassView) → v.takes ≡ true → Pops IsInOrder port v (Popped v)
pops port v takes = λ x items views h at.
    let mine = h.fits port v at in
    let r = mine.1 takes in (
      popping v x,
      record {
        reader = h.reader;
        writer = h.writer;
        sent = h.sent;
        got = h.got ++ x ∷ [];
        order = λ s. ap (of_party s) (append_assoc h.got (x ∷ []) items) ∙ h.order s;
        fits = all_set (Fits h.reader h.writer h.sent (h.got ++ x ∷ [])) views port (popping v x)
            (mine.0, λ _. record { port_is = r.port_is; got_is = ap (λ l. l ++ x ∷ []) r.got_is; below = r.below; rest = r.rest })
            (λ j u other e. ((h.fits j u e).0, λ t. absurd (other (one_reader h port j v u at e takes t))));
      },
      (refl, has_pass x items r h.order),
    )

taken_of : (writer : ℕ → ℕ) (sent : ℕ → List Contents) (j : ℕ) (got : List Contents) (ps : List Posted) → ((s : ℕ) → of_party s got ≡ sent s) → Owns writer sent j ps → TakenOf got ps
taken_of writer sent j got [] f o = tt
taken_of writer sent j got (p ∷ ps) f o = (f p.party ∙ sym o.1, taken_of writer sent j got ps f o.2)

pub learns : (port : ℕ) (v : PassView) → Learns IsInOrder port v (AllTaken v)
learns port v = λ items views h at takes empty.
    let mine = h.fits port v at in
    let r = mine.1 takes in
    let all : v.got ≡ h.got ++ items = r.got_is ∙ sym (append-nil h.got) ∙ ap (λ l. h.got ++ l) (sym empty) in
    let whole : (s : ℕ) → of_party s v.got ≡ h.sent s = λ s. ap (of_party s) all ∙ h.order s in
    record { all = taken_of h.writer h.sent port v.got v.posts whole mine.0; none = λ s past. whole s ∙ (r.rest s past).1 }

-- a pass for a party for which none was split off yet
forked : {items : List Contents} {views : List PassView} (h : IsInOrder items views) (port : ℕ) (v left : PassView) (k : ℕ) → get_elem? views port ≡ some v → v.takes ≡ true → v.next ≤ k → k < left.next → v.next ≤ left.next →
    left.got ≡ v.got → AreBelow left.next left.posts → Owns (changed h.writer k (length (set views port left))) h.sent port left.posts → IsInOrder items (set views port left ++ poster k ∷ [])
forked {items = items} {views = views} h port v left k at takes from over wider got below owns =
    let vs : List PassView = set views port left in
    let writer' = changed h.writer k (length vs) in
    let mine = h.fits port v at in
    let r = mine.1 takes in
    record {
      reader = h.reader;
      writer = writer';
      sent = h.sent;
      got = h.got;
      order = h.order;
      fits = all_snoc (Fits h.reader writer' h.sent h.got) vs (poster k)
          (all_set (Fits h.reader writer' h.sent h.got) views port left (
            owns,
            λ _. record {
              port_is = r.port_is;
              got_is = got ∙ r.got_is;
              below = below;
              rest = λ s l. let old = r.rest s (omega (arith, l, wider)) in (changed-other h.writer k (length vs) s (λ e. absurd (omega (arith, e, l, over))) ∙ old.0, old.1);
            },
          )
          (λ j u other e. (
            Owns-kept h.writer writer' h.sent h.sent j j u.posts (λ s w. (changed-other h.writer k (length vs) s (λ same. other (sym w ∙ ap h.writer same ∙ (r.rest k from).0)) ∙ w, refl)) (h.fits j u e).0,
            λ t. absurd (other (one_reader h port j v u at e takes t)),
          )))
          ((changed-same h.writer k (length vs) k refl, sym (r.rest k from).1, tt), λ t. absurd (true≢false (sym t)));
    }

pub forks_next : (port : ℕ) (v : PassView) → v.takes ≡ true → Forks IsInOrder port v (past_next v) (poster v.next)
forks_next port v takes = λ items views h at.
    let mine = h.fits port v at in
    let r = mine.1 takes in
    forked h port v (past_next v) v.next at takes (omega arith) (omega arith) (omega arith) refl (AreBelow-more v.next (v.next + 1) v.posts (omega arith) r.below)
    (Owns-below h.writer (changed h.writer v.next (length (set views port (past_next v)))) h.sent v.next port v.posts r.below (λ s l. changed-other h.writer v.next _ s (λ e. absurd (omega (arith, e, l)))) mine.0)

-- the reader posts for the next party
pub forks_keep : (port : ℕ) (v : PassView) → v.takes ≡ true → Forks IsInOrder port v (keeping_next v) spent
forks_keep port v takes = λ items views h at.
    let vs : List PassView = set views port (keeping_next v) in
    let mine = h.fits port v at in
    let r = mine.1 takes in
    let next = r.rest v.next (omega arith) in
    let F = Fits h.reader h.writer h.sent h.got in
    let kept : F port (keeping_next v) = (
      (next.0, sym next.1, mine.0),
      λ _. record {
        port_is = r.port_is;
        got_is = r.got_is;
        below = (omega arith, AreBelow-more v.next (v.next + 1) v.posts (omega arith) r.below);
        rest = λ s l. r.rest s (omega (arith, l));
      },
    ) in
    record {
      reader = h.reader;
      writer = h.writer;
      sent = h.sent;
      got = h.got;
      order = h.order;
      fits = all_snoc F vs spent (all_set F views port (keeping_next v) kept (λ j u other e. h.fits j u e)) (tt, λ t. absurd (true≢false (sym t)));
    }

-- the reader's pass takes in another's posts
pub merges : (port : ℕ) (v : PassView) (other : ℕ) (w : PassView) → v.takes ≡ true → Merges IsInOrder port v other w (taking_in v w) spent
merges port v other w takes = λ items views h at two at'.
    let both = taking_in v w in
    let vs : List PassView = set views port both in
    let was : get_elem? views other ≡ some w = sym (set_else views port other both two) ∙ at' in
    let mine = h.fits port v at in
    let theirs = h.fits other w was in
    let r = mine.1 takes in
    let writer' : ℕ → ℕ = λ s. if h.writer s == other then port else h.writer s in
    let moved : (s : ℕ) → h.writer s ≡ other → writer' s ≡ port = λ s e. rw (eq-eqb (h.writer s) other e) refl in
    let stays : (s j : ℕ) → h.writer s ≡ j → (j ≡ other → ⊥) → writer' s ≡ j = λ s j e n. rw (ne_eqb (h.writer s) other (λ q. n (sym e ∙ q))) e in
    let apart : port ≡ other → ⊥ = λ e. two (sym e) in
    let F = Fits h.reader writer' h.sent h.got in
    let Now : ℕ → PassView → Type 0 = λ j u. (j ≡ other → ⊥) → F j u in
    let now : All Now vs = all_set Now views port both
    (λ _. (
      Owns-append writer' h.sent port v.posts w.posts (Owns-kept h.writer writer' h.sent h.sent port port v.posts (λ s e. (stays s port e apart, refl)) mine.0) (Owns-kept h.writer writer' h.sent h.sent other port w.posts (λ s e. (moved s e, refl)) theirs.0),
      λ _. record {
        port_is = r.port_is;
        got_is = r.got_is;
        below = AreBelow-append v.next v.posts w.posts r.below (others_below h.writer h.sent v.next port other w.posts two r.rest theirs.0);
        rest = λ s l. (stays s port (r.rest s l).0 apart, (r.rest s l).1);
      },
    ))
    (λ j u elsewhere e n. (Owns-kept h.writer writer' h.sent h.sent j j u.posts (λ s q. (stays s j q n, refl)) (h.fits j u e).0, λ t. absurd (elsewhere (one_reader h port j v u at e takes t)))) in
    record {
      reader = h.reader;
      writer = writer';
      sent = h.sent;
      got = h.got;
      order = h.order;
      fits = all_set F vs other spent (tt, λ t. absurd (true≢false (sym t))) (λ j u elsewhere e. now j u e elsewhere);
    }

pub ruleset rule_steps = (pushes, pops, learns, forks_next, forks_keep, merges)

pub ruleset begins_steps = (begins)
