-- An end after a step on one pass.
use Rattle.std.proofs.Common.{◌≡◌, ℕ, ◌+◌, ◌-◌, ◌*◌, ◌<◌, ◌≤◌, inl, inr, List, [], ◌∷◌, ◌++◌, length, set, map, ltb, Option, Some, None, sym, ap, subst, refl, ◌∙◌, arith}
use Rattle.std.proofs.Common.{Result, Ok, Err, OnOk, OnErr, MatchOption}
use Rattle.std.proofs.lemmas.Bool.{cases_eq, cases_lt, cond-true, cond-false, lt-ltb, le-ltb}
use Rattle.std.proofs.lemmas.Nat.{same_from_place}
use Rattle.std.proofs.lemmas.List.{map-set, get_or-map, set-get_or, length-map, get_or-set_same, get_or-set_other, append-nil}
use mathlib.Core.Path.{fun_ext}
use Rattle.room_kinds.specs.declared.message.Msg.{Msg}
use Rattle.mail_core.specs.EndLog.{EndLog, gained}
use Rattle.mail_core.specs.Takes.{MayPostAt}
use Rattle.mail_core.proofs.LaneLemmas.{gained-same, gained-other}
use Rattle.mail_seg.specs.Sides.{Sent, Side, from_sender, sent_more, sending, getting, IsInto, IsOutOf, AllTaken, IsEmptied}
use Rattle.mail_seg.specs.Wires.{IsWire, IsWired, wiring, wire_of, wire_at, party_of, no_wire, poster_count}
use Rattle.mail_seg.specs.Ends.{no_side, side_at, first_list, posted_at, taken_at, log_from}
use Rattle.mail_seg.proofs.PosterLemmas.{count-most, count-above, may_post, posters-some, controller-posts}
use Rattle.mail_seg.proofs.SideLemmas.{from_sender-append, from_sender-own, from_sender-other}

pub posted_at-within : (sides : List Side) (r p : ℕ) → p < 6 → posted_at sides r p ≡ first_list (side_at sides (r * 6 + (5 - p))).posts
posted_at-within sides r p h = cond-true (ltb p 6) _ [] (lt-ltb p 6 h)

pub posted_at-beyond : (sides : List Side) (r p : ℕ) → 6 ≤ p → posted_at sides r p ≡ []
posted_at-beyond sides r p h = cond-false (ltb p 6) _ [] (le-ltb p 6 h)

pub taken_at-within : (sides : List Side) (k s p : ℕ) → p < 6 → taken_at sides k s p ≡ from_sender s (side_at sides (k * 6 + (5 - p))).got
taken_at-within sides k s p h = cond-true (ltb p 6) _ [] (lt-ltb p 6 h)

pub taken_at-beyond : (sides : List Side) (k s p : ℕ) → 6 ≤ p → taken_at sides k s p ≡ []
taken_at-beyond sides k s p h = cond-false (ltb p 6) _ [] (le-ltb p 6 h)

-- two boxes at one place are one box
pub same_box : (r p r' p' : ℕ) → p < 6 → p' < 6 → r * 6 + (5 - p) ≡ r' * 6 + (5 - p') → (r ≡ r') × (p ≡ p')
same_box r p r' p' b b' e =
    let x = same_from_place r (5 - p) r' (5 - p') 6 (omega arith) (omega arith) e in
    (x.0, omega (arith, x.1))

-- a change of one pass leaves what it keeps of each
kept_at : {X : Type 0} (f : Side → X) (sides : List Side) (at i : ℕ) (a : Side) → at < length sides → f a ≡ f (side_at sides at) → f (side_at (set sides at a) i) ≡ f (side_at sides i)
kept_at f sides at i a h e = elim (cases_eq i at) [
  | inl same ↦ subst (λ j. f (side_at (set sides at a) j) ≡ f (side_at sides j)) (sym same) (ap f (get_or-set_same sides at a no_side h) ∙ e)
  | inr other ↦ ap f (get_or-set_other sides at i a no_side other)
]

first_list-more : (xs : List Sent) (s : ℕ) (m : Msg) → map party_of xs ≡ s ∷ [] → first_list (sent_more xs m) ≡ first_list xs ++ m ∷ []
first_list-more [] s m e = absurd (cc)
first_list-more (x ∷ xs) s m e = refl

parties-more : (xs : List Sent) (m : Msg) → map party_of (sent_more xs m) ≡ map party_of xs
parties-more [] m = refl
parties-more (x ∷ xs) m = refl

pub wire-sending : (a : Side) (m : Msg) → wire_of (sending a m) ≡ wire_of a
wire-sending a m = ap (λ ps. record (wire_of a) { parties = ps }) (parties-more a.posts m)

-- the lists after a post
pub posted-sending : (sides : List Side) (r p s : ℕ) (m : Msg) → p < 6 → r * 6 + (5 - p) < length sides → map party_of (side_at sides (r * 6 + (5 - p))).posts ≡ s ∷ [] →
    posted_at (set sides (r * 6 + (5 - p)) (sending (side_at sides (r * 6 + (5 - p))) m)) ≡ gained (posted_at sides) r p m
posted-sending sides r p s m b h one =
    let at = r * 6 + (5 - p) in
    let a = sending (side_at sides at) m in
    let f : List Side → ℕ → List Msg = λ xs i. first_list (side_at xs i).posts in
    let here : f (set sides at a) at ≡ f sides at ++ m ∷ [] = ap (λ (x : Side). first_list x.posts) (get_or-set_same sides at a no_side h) ∙ first_list-more (side_at sides at).posts s m one in
    fun_ext (λ r'. fun_ext (λ p'. elim (cases_lt p' 6) [
      | inr past ↦ posted_at-beyond (set sides at a) r' p' past ∙ sym (posted_at-beyond sides r' p' past) ∙ sym (gained-other (posted_at sides) r p r' p' m (λ (e, g). absurd (omega arith)))
      | inl within ↦ posted_at-within (set sides at a) r' p' within ∙ elim (cases_eq (r' * 6 + (5 - p')) at) [
        | inl same ↦
            let both = same_box r' p' r p within b same in
            subst (λ i. f (set sides at a) i ≡ f sides i ++ m ∷ []) (sym same) here
            ∙ ap (λ ms. ms ++ m ∷ []) (sym (posted_at-within sides r' p' within))
            ∙ sym (gained-same (posted_at sides) r p r' p' m both.0 both.1)
        | inr other ↦ ap (λ (x : Side). first_list x.posts) (get_or-set_other sides at (r' * 6 + (5 - p')) a no_side other)
            ∙ sym (posted_at-within sides r' p' within)
            ∙ sym (gained-other (posted_at sides) r p r' p' m (λ (e, g). other (ap (λ x. x * 6 + (5 - p')) e ∙ ap (λ y. r * 6 + (5 - y)) g)))
      ]
    ]))

pub taken-sending : (sides : List Side) (k at : ℕ) (m : Msg) → at < length sides → taken_at (set sides at (sending (side_at sides at) m)) k ≡ taken_at sides k
taken-sending sides k at m h =
    let a = sending (side_at sides at) m in
    fun_ext (λ s. fun_ext (λ p. elim (cases_lt p 6) [
      | inr past ↦ taken_at-beyond (set sides at a) k s p past ∙ sym (taken_at-beyond sides k s p past)
      | inl within ↦ taken_at-within (set sides at a) k s p within ∙ kept_at (λ x. from_sender s x.got) sides at (k * 6 + (5 - p)) a h refl ∙ sym (taken_at-within sides k s p within)
    ]))

-- the lists after a message was taken
pub posted-getting : (sides : List Side) (at : ℕ) (m : Msg) → at < length sides → posted_at (set sides at (getting (side_at sides at) m)) ≡ posted_at sides
posted-getting sides at m h =
    let a = getting (side_at sides at) m in
    fun_ext (λ r. fun_ext (λ p. elim (cases_lt p 6) [
      | inr past ↦ posted_at-beyond (set sides at a) r p past ∙ sym (posted_at-beyond sides r p past)
      | inl within ↦ posted_at-within (set sides at a) r p within ∙ kept_at (λ x. first_list x.posts) sides at (r * 6 + (5 - p)) a h refl ∙ sym (posted_at-within sides r p within)
    ]))

pub taken-getting : (sides : List Side) (k p : ℕ) (m : Msg) → p < 6 → k * 6 + (5 - p) < length sides →
    taken_at (set sides (k * 6 + (5 - p)) (getting (side_at sides (k * 6 + (5 - p))) m)) k ≡ gained (taken_at sides k) m.from.0 p m
taken-getting sides k p m b h =
    let at = k * 6 + (5 - p) in
    let a = getting (side_at sides at) m in
    let old = (side_at sides at).got in
    let here : (side_at (set sides at a) at).got ≡ old ++ m ∷ [] = ap (λ (x : Side). x.got) (get_or-set_same sides at a no_side h) in
    fun_ext (λ s'. fun_ext (λ p'. elim (cases_lt p' 6) [
      | inr past ↦ taken_at-beyond (set sides at a) k s' p' past ∙ sym (taken_at-beyond sides k s' p' past) ∙ sym (gained-other (taken_at sides k) m.from.0 p s' p' m (λ (e, g). absurd (omega arith)))
      | inl within ↦ taken_at-within (set sides at a) k s' p' within ∙ elim (cases_eq p' p) [
        | inl same ↦
            let place : k * 6 + (5 - p') ≡ at = ap (λ q. k * 6 + (5 - q)) same in
            let grown : from_sender s' (side_at (set sides at a) (k * 6 + (5 - p'))).got ≡ from_sender s' old ++ from_sender s' (m ∷ []) =
            ap (λ i. from_sender s' (side_at (set sides at a) i).got) place ∙ ap (from_sender s') here ∙ from_sender-append s' old (m ∷ []) in
            let was : from_sender s' old ≡ taken_at sides k s' p' = ap (λ i. from_sender s' (side_at sides i).got) (sym place) ∙ sym (taken_at-within sides k s' p' within) in
            grown ∙ elim (cases_eq s' m.from.0) [
              | inl mine ↦ ap (λ l. from_sender s' old ++ l) (from_sender-own s' m (sym mine)) ∙ ap (λ l. l ++ m ∷ []) was ∙ sym (gained-same (taken_at sides k) m.from.0 p s' p' m mine same)
              | inr other ↦ ap (λ l. from_sender s' old ++ l) (from_sender-other s' m (λ e. other (sym e))) ∙ append-nil (from_sender s' old) ∙ was ∙ sym (gained-other (taken_at sides k) m.from.0 p s' p' m (λ (e, g). other e))
            ]
        | inr other ↦ ap (λ (x : Side). from_sender s' x.got) (get_or-set_other sides at (k * 6 + (5 - p')) a no_side (λ e. other (same_box k p' k p within b e).1))
            ∙ sym (taken_at-within sides k s' p' within)
            ∙ sym (gained-other (taken_at sides k) m.from.0 p s' p' m (λ (e, g). other g))
      ]
    ]))

-- the wiring stays
pub wiring-set : (a n : ℕ) (sides : List Side) (at : ℕ) (x : Side) → at < length sides → wire_of x ≡ wire_of (side_at sides at) → wiring a n (set sides at x) ≡ wiring a n sides
wiring-set a n sides at x h e = ap (λ ws. record { party = a; parties = n; wires = ws })
    (map-set wire_of sides at x ∙ ap (λ w. set (map wire_of sides) at w) (e ∙ sym (get_or-map wire_of sides at no_side no_wire h)) ∙ set-get_or (map wire_of sides) at no_wire)

-- where a pass stands, and which it is
module _ (k n : ℕ) (sides : List Side) (w : IsWired (wiring k n sides)) where
  pub within : (r b : ℕ) → r + 1 < n → b < 6 → r * 6 + b < length sides
  within r b h l = omega (arith, w.all, length-map sides wire_of)

  pub wire_is : (r b : ℕ) → r + 1 < n → b < 6 → wire_of (side_at sides (r * 6 + b)) ≡ wire_at (wiring k n sides) r b
  wire_is r b h l = sym (get_or-map wire_of sides (r * 6 + b) no_side no_wire (within r b h l))

  pub pass_is : (r b : ℕ) → r + 1 < n → b < 6 → IsWire n r (5 - b) k (wire_of (side_at sides (r * 6 + b)))
  pass_is r b h l = subst (IsWire n r (5 - b) k) (sym (wire_is r b h l)) (w.each r b h l)

  pub into : (m : Msg) → m.from.0 ≡ k → m.to.0 + 1 < n → m.prio.0 < 6 → MayPostAt n m.from.0 m.prio.0 → IsInto (side_at sides (m.to.0 * 6 + (5 - m.prio.0))) m
  into m from to prio level =
      let p = pass_is m.to.0 (5 - m.prio.0) to (omega arith) in
      let back : 5 - (5 - m.prio.0) ≡ m.prio.0 = omega (arith, prio) in
      let may : MayPostAt n k (5 - (5 - m.prio.0)) = λ none. subst (λ s. s + 1 < n) from (level (sym back ∙ none)) in
      record {
        to = sym p.to;
        prio = omega (arith, p.prio, prio);
        party = p.parties ∙ posters-some n (5 - (5 - m.prio.0)) k (count-above n (5 - (5 - m.prio.0)) k w.one_of may) ∙ ap (λ s. s ∷ []) (sym from);
      }

  -- the wiring after each step, whatever it answered
  pub wiring-posted : (sides' : List Side) (at : ℕ) (m : Msg) (r : Result (Unit {0}) Msg) → at < length sides → OnOk r (sides' ≡ set sides at (sending (side_at sides at) m)) → OnErr r (sides' ≡ sides) → wiring k n sides' ≡ wiring k n sides
  wiring-posted sides' at m (Ok u) h e g = ap (wiring k n) e ∙ wiring-set k n sides at (sending (side_at sides at) m) h (wire-sending (side_at sides at) m)
  wiring-posted sides' at m (Err x) h e g = ap (wiring k n) g

  pub wiring-taken : (sides' : List Side) (at : ℕ) (r : Option Msg) → at < length sides →
      MatchOption r ((sides' ≡ sides) × IsEmptied (side_at sides at)) (λ m. (sides' ≡ set sides at (getting (side_at sides at) m)) × IsOutOf (side_at sides at) m) → wiring k n sides' ≡ wiring k n sides
  wiring-taken sides' at (Some m) h e = ap (wiring k n) e.0 ∙ wiring-set k n sides at (getting (side_at sides at) m) h refl
  wiring-taken sides' at None h e = ap (wiring k n) e.0

-- a log whose lists are these
log-lists : (a n : ℕ) (l : ℕ → ℕ) (f f' g g' : ℕ → ℕ → List Msg) → f ≡ f' → g ≡ g' → ◌≡◌ {A = EndLog} (record { party = a; parties = n; posted = f; taken = g; looks = l }) (record { party = a; parties = n; posted = f'; taken = g'; looks = l })
log-lists a n l f f' g g' e h = ap (λ x. record { party = a; parties = n; posted = x; taken = g; looks = l }) e ∙ ap (λ x. record { party = a; parties = n; posted = f'; taken = x; looks = l }) h

pub log-posted : (k n : ℕ) (l : ℕ → ℕ) (sides sides' : List Side) (m : Msg) → IsWired (wiring k n sides) → m.from.0 ≡ k → m.to.0 + 1 < n → m.prio.0 < 6 → MayPostAt n m.from.0 m.prio.0 →
    sides' ≡ set sides (m.to.0 * 6 + (5 - m.prio.0)) (sending (side_at sides (m.to.0 * 6 + (5 - m.prio.0))) m) →
    log_from k n l sides' ≡ record (log_from k n l sides) { posted = gained (posted_at sides) m.to.0 m.prio.0 m }
log-posted k n l sides sides' m w from to prio level e =
    let inside = within k n sides w m.to.0 (5 - m.prio.0) to (omega arith) in
    log-lists k n l _ _ _ _ (ap posted_at e ∙ posted-sending sides m.to.0 m.prio.0 m.from.0 m prio inside (into k n sides w m from to prio level).party)
    (ap (λ xs. taken_at xs k) e ∙ taken-sending sides k (m.to.0 * 6 + (5 - m.prio.0)) m inside)

pub own_taken : (s : ℕ) (got : List Msg) (xs : List Sent) → map party_of xs ≡ s ∷ [] → AllTaken got xs → first_list xs ≡ from_sender s got
own_taken s got [] one all = absurd (cc)
own_taken s got (x ∷ xs) one all = sym all.0 ∙ ap (λ q. from_sender q got) (cc)

-- what a pop tells
pub log-taken : (k n : ℕ) (l : ℕ → ℕ) (sides sides' : List Side) (b : ℕ) (r : Option Msg) → IsWired (wiring k n sides) → k + 1 < n → b < 6 →
    MatchOption r ((sides' ≡ sides) × IsEmptied (side_at sides (k * 6 + b))) (λ m. (sides' ≡ set sides (k * 6 + b) (getting (side_at sides (k * 6 + b)) m)) × IsOutOf (side_at sides (k * 6 + b)) m) →
    MatchOption r ((log_from k n l sides' ≡ log_from k n l sides) × (posted_at sides k (5 - b) ≡ taken_at sides k k (5 - b)))
    (λ m. (m.to.0 ≡ k) × (m.from.0 < n) × (m.prio.0 ≡ 5 - b) × MayPostAt n m.from.0 m.prio.0 × (log_from k n l sides' ≡ record (log_from k n l sides) { taken = gained (taken_at sides k) m.from.0 m.prio.0 m }))
log-taken k n l sides sides' b None w h in_range e =
    let p = pass_is k n sides w k b h in_range in
    let back : 5 - (5 - b) ≡ b = omega arith in
    let low : 5 - b < 6 = omega arith in (
      ap (log_from k n l) e.0,
      posted_at-within sides k (5 - b) low
          ∙ ap (λ c. first_list (side_at sides (k * 6 + c)).posts) back
          ∙ own_taken k (side_at sides (k * 6 + b)).got (side_at sides (k * 6 + b)).posts (p.parties ∙ posters-some n (5 - b) k (controller-posts n (5 - b) k h)) e.1.all
          ∙ ap (λ c. from_sender k (side_at sides (k * 6 + c)).got) (sym back)
          ∙ sym (taken_at-within sides k k (5 - b) low),
    )
log-taken k n l sides sides' b (Some m) w h in_range e =
    let p = pass_is k n sides w k b h in_range in
    let prio : m.prio.0 ≡ 5 - b = e.1.prio ∙ p.prio in
    let back : b ≡ 5 - m.prio.0 = omega (arith, prio) in
    let low : m.prio.0 < 6 = omega (arith, prio) in
    let inside = within k n sides w k b h in_range in
    let posts : m.from.0 < poster_count n (5 - b) = subst (λ q. m.from.0 < q) (p.own refl).1 e.1.from in
    let step : sides' ≡ set sides (k * 6 + (5 - m.prio.0)) (getting (side_at sides (k * 6 + (5 - m.prio.0))) m) = subst (λ c. sides' ≡ set sides (k * 6 + c) (getting (side_at sides (k * 6 + c)) m)) back e.0 in
    let there : k * 6 + (5 - m.prio.0) < length sides = subst (λ c. k * 6 + c < length sides) back inside in (
      e.1.to ∙ p.to,
      (let most = count-most n (5 - b) in omega (arith, posts, most)),
      prio,
      subst (λ q. MayPostAt n m.from.0 q) (sym prio) (may_post n (5 - b) m.from.0 posts),
      log-lists k n l _ _ _ _ (ap posted_at step ∙ posted-getting sides (k * 6 + (5 - m.prio.0)) m there) (ap (λ xs. taken_at xs k) step ∙ taken-getting sides k m.prio.0 m low there),
    )
