-- An end after a step on one lane.
use Rattle.std.proofs.Common.{◌≡◌, ◌≢◌, ℕ, ◌+◌, ◌*◌, ◌<◌, ◌≤◌, inl, inr, List, [], ◌∷◌, ◌++◌, length, set, map, ltb, Option, Some, None, sym, ap, subst, refl, ◌∙◌, arith, true}
use Rattle.std.proofs.lemmas.Bool.{cases_eq, cases_lt, cond-true, cond-false, lt-ltb, le-ltb}
use Rattle.std.proofs.lemmas.Nat.{same_from_place}
use Rattle.std.proofs.lemmas.List.{map-set, get_or-map, set-get_or, length-map, get_or-set_same, get_or-set_other}
use Rattle.std.proofs.lemmas.Option.{same_Some, none-some}
use Rattle.std.proofs.Common.{Result, Ok, Err, OnOk, OnErr, MatchOption}
use mathlib.Core.Path.{fun_ext}
use Rattle.room_kinds.specs.declared.message.Msg.{Msg}
use Rattle.mail_core.specs.EndLog.{EndLog, gained}
use Rattle.mail_core.specs.Lanes.{IsFor}
use Rattle.mail_core.proofs.LaneLemmas.{gained-same, gained-other}
use Rattle.mail_core.proofs.ListLemmas.{slice_index-look}
use Rattle.mail_lanes.specs.Lanes.{OutLane, InLane, out_at, in_at, no_lane, sending, popping, stealing}
use Rattle.mail_lanes.specs.Wires.{OutWire, IsWired, no_wire, out_wire, lane_of_in}
use Rattle.mail_lanes.specs.Parts.{wiring, in_wire_of, out_wire_of}
use Rattle.mail_lanes.specs.Ends.{by_six, posted_at, taken_in, taken_at, log_from}

-- one list of those by party and priority grows
pub by_six-within : (f : ℕ → List Msg) (k p : ℕ) → p < 6 → by_six f k p ≡ f (k * 6 + p)
by_six-within f k p h = cond-true (ltb p 6) _ [] (lt-ltb p 6 h)

pub by_six-beyond : (f : ℕ → List Msg) (k p : ℕ) → 6 ≤ p → by_six f k p ≡ []
by_six-beyond f k p h = cond-false (ltb p 6) _ [] (le-ltb p 6 h)

pub by_six-gain : (f f' : ℕ → List Msg) (k p : ℕ) (m : Msg) → p < 6 → f' (k * 6 + p) ≡ f (k * 6 + p) ++ m ∷ [] → ((i : ℕ) → i ≢ k * 6 + p → f' i ≡ f i) → by_six f' ≡ gained (by_six f) k p m
by_six-gain f f' k p m b here there = fun_ext (λ k'. fun_ext (λ p'. elim (cases_lt p' 6) [
  | inr past ↦ by_six-beyond f' k' p' past ∙ sym (by_six-beyond f k' p' past) ∙ sym (gained-other (by_six f) k p k' p' m (λ (e, g). absurd (omega arith)))
  | inl within ↦ by_six-within f' k' p' within ∙ elim (cases_eq (k' * 6 + p') (k * 6 + p)) [
    | inl same ↦
        let both = same_from_place k' p' k p 6 within b same in
        subst (λ i. f' i ≡ f i ++ m ∷ []) (sym same) here
        ∙ ap (λ ms. ms ++ m ∷ []) (sym (by_six-within f k' p' within))
        ∙ sym (gained-same (by_six f) k p k' p' m both.0 both.1)
    | inr other ↦ there (k' * 6 + p') other
        ∙ sym (by_six-within f k' p' within)
        ∙ sym (gained-other (by_six f) k p k' p' m (λ (e, g). other (ap (λ x. x * 6 + p') e ∙ ap (λ y. k * 6 + y) g)))
  ]
]))

-- the lists after a step
pub posted-sending : (outs : List OutLane) (k p : ℕ) (m : Msg) → p < 6 → k * 6 + p < length outs → by_six (posted_at (set outs (k * 6 + p) (sending (out_at outs (k * 6 + p)) m))) ≡ gained (by_six (posted_at outs)) k p m
posted-sending outs k p m b h =
    let o' = sending (out_at outs (k * 6 + p)) m in
    by_six-gain (posted_at outs) (posted_at (set outs (k * 6 + p) o')) k p m b (ap (λ (o : OutLane). o.posted) (get_or-set_same outs (k * 6 + p) o' no_lane h)) (λ i other. ap (λ (o : OutLane). o.posted) (get_or-set_other outs (k * 6 + p) i o' no_lane other))

-- a change of one lane leaves what it keeps of each
kept_at : {X : Type 0} (f : OutLane → X) (outs : List OutLane) (at i : ℕ) (o : OutLane) → at < length outs → f o ≡ f (out_at outs at) → f (out_at (set outs at o) i) ≡ f (out_at outs i)
kept_at f outs at i o h e = elim (cases_eq i at) [
  | inl same ↦ subst (λ j. f (out_at (set outs at o) j) ≡ f (out_at outs j)) (sym same) (ap f (get_or-set_same outs at o no_lane h) ∙ e)
  | inr other ↦ ap f (get_or-set_other outs at i o no_lane other)
]

pub taken-sending : (outs : List OutLane) (ins : List (Option InLane)) (at : ℕ) (m : Msg) → at < length outs → by_six (taken_at (set outs at (sending (out_at outs at) m)) ins) ≡ by_six (taken_at outs ins)
taken-sending outs ins at m h = ap by_six (fun_ext (λ i. kept_at (λ o. taken_in o (in_at ins i)) outs at i (sending (out_at outs at) m) h (elim (in_at ins i) as (λ x. taken_in (sending (out_at outs at) m) x ≡ taken_in (out_at outs at) x) [ None ↦ refl | Some y ↦ refl ])))

pub posted-popping : (outs : List OutLane) (at : ℕ) (m : Msg) → at < length outs → by_six (posted_at (set outs at (popping (out_at outs at) m))) ≡ by_six (posted_at outs)
posted-popping outs at m h = ap by_six (fun_ext (λ i. kept_at (λ o. o.posted) outs at i (popping (out_at outs at) m) h refl))

pub taken-popping : (outs : List OutLane) (ins : List (Option InLane)) (k p : ℕ) (m : Msg) → p < 6 → k * 6 + p < length outs → in_at ins (k * 6 + p) ≡ None →
    by_six (taken_at (set outs (k * 6 + p) (popping (out_at outs (k * 6 + p)) m)) ins) ≡ gained (by_six (taken_at outs ins)) k p m
taken-popping outs ins k p m b h own =
    let o' = popping (out_at outs (k * 6 + p)) m in
    let new : taken_at (set outs (k * 6 + p) o') ins (k * 6 + p) ≡ o'.taken = ap (λ o. taken_in o (in_at ins (k * 6 + p))) (get_or-set_same outs (k * 6 + p) o' no_lane h) ∙ ap (taken_in o') own in
    let old : taken_at outs ins (k * 6 + p) ≡ (out_at outs (k * 6 + p)).taken = ap (taken_in (out_at outs (k * 6 + p))) own in
    by_six-gain (taken_at outs ins) (taken_at (set outs (k * 6 + p) o') ins) k p m b (new ∙ ap (λ ms. ms ++ m ∷ []) (sym old))
    (λ i other. ap (λ o. taken_in o (in_at ins i)) (get_or-set_other outs (k * 6 + p) i o' no_lane other))

pub taken-stealing : (outs : List OutLane) (ins : List (Option InLane)) (k p : ℕ) (l : InLane) (m : Msg) → p < 6 → k * 6 + p < length ins → in_at ins (k * 6 + p) ≡ Some l →
    by_six (taken_at outs (set ins (k * 6 + p) (Some (stealing l m)))) ≡ gained (by_six (taken_at outs ins)) k p m
taken-stealing outs ins k p l m b h there =
    let l' = Some (stealing l m) in
    let new : taken_at outs (set ins (k * 6 + p) l') (k * 6 + p) ≡ l.taken ++ m ∷ [] = ap (taken_in (out_at outs (k * 6 + p))) (get_or-set_same ins (k * 6 + p) l' None h) in
    let old : taken_at outs ins (k * 6 + p) ≡ l.taken = ap (taken_in (out_at outs (k * 6 + p))) there in
    by_six-gain (taken_at outs ins) (taken_at outs (set ins (k * 6 + p) l')) k p m b (new ∙ ap (λ ms. ms ++ m ∷ []) (sym old))
    (λ i other. ap (taken_in (out_at outs i)) (get_or-set_other ins (k * 6 + p) i l' None other))

-- the wiring stays
pub wiring-outs : (a n : ℕ) (outs : List OutLane) (ins : List (Option InLane)) (at : ℕ) (o : OutLane) → at < length outs → o.wire ≡ (out_at outs at).wire → wiring a n (set outs at o) ins ≡ wiring a n outs ins
wiring-outs a n outs ins at o h e = ap (λ ws. record { party = a; parties = n; outs = ws; ins = map in_wire_of ins })
    (map-set out_wire_of outs at o ∙ ap (λ w. set (map out_wire_of outs) at w) (e ∙ sym (get_or-map out_wire_of outs at no_lane no_wire h)) ∙ set-get_or (map out_wire_of outs) at no_wire)

pub wiring-ins : (a n : ℕ) (outs : List OutLane) (ins : List (Option InLane)) (at : ℕ) (l : Option InLane) → at < length ins → in_wire_of l ≡ in_wire_of (in_at ins at) → wiring a n outs (set ins at l) ≡ wiring a n outs ins
wiring-ins a n outs ins at l h e = ap (λ ws. record { party = a; parties = n; outs = map out_wire_of outs; ins = ws })
    (map-set in_wire_of ins at l ∙ ap (λ w. set (map in_wire_of ins) at w) (e ∙ sym (get_or-map in_wire_of ins at None None h)) ∙ set-get_or (map in_wire_of ins) at None)

-- where a lane stands, and which it is
module _ (a n : ℕ) (outs : List OutLane) (ins : List (Option InLane)) where
  pub outs-within : (r p : ℕ) → IsWired (wiring a n outs ins) → r + 1 < n → p < 6 → r * 6 + p < length outs
  outs-within r p w h b = omega (arith, w.all_outs, length-map outs out_wire_of)

  pub ins-within : (s p : ℕ) → IsWired (wiring a n outs ins) → a + 1 < n → s < n → p < 6 → s * 6 + p < length ins
  ins-within s p w me h b = omega (arith, w.all_ins me, length-map ins in_wire_of)

  pub out_at-for : (r p : ℕ) (m : Msg) → IsWired (wiring a n outs ins) → r + 1 < n → p < 6 → IsFor a r p m → (let o = (out_at outs (r * 6 + p)).wire in IsFor o.from o.to o.prio m)
  out_at-for r p m w h b i =
      let same = get_or-map out_wire_of outs (r * 6 + p) no_lane no_wire (outs-within r p w h b) in
      let is_out = w.outs r p h b in
      let back = λ (f : OutWire → ℕ) (x : ℕ) (e : f (out_wire (wiring a n outs ins) r p) ≡ x). sym e ∙ ap f same in
      record { from = i.from ∙ back (λ x. x.from) a is_out.0; to = i.to ∙ back (λ x. x.to) r is_out.1; prio = i.prio ∙ back (λ x. x.prio) p is_out.2 }

  pub out_at-is_for : (r p : ℕ) (m : Msg) → IsWired (wiring a n outs ins) → r + 1 < n → p < 6 → (let o = (out_at outs (r * 6 + p)).wire in IsFor o.from o.to o.prio m) → IsFor a r p m
  out_at-is_for r p m w h b i =
      let same = get_or-map out_wire_of outs (r * 6 + p) no_lane no_wire (outs-within r p w h b) in
      let is_out = w.outs r p h b in
      let there = λ (f : OutWire → ℕ) (x : ℕ) (e : f (out_wire (wiring a n outs ins) r p) ≡ x). sym (ap f same) ∙ e in
      record { from = i.from ∙ there (λ x. x.from) a is_out.0; to = i.to ∙ there (λ x. x.to) r is_out.1; prio = i.prio ∙ there (λ x. x.prio) p is_out.2 }

  pub own_takes : (p : ℕ) → IsWired (wiring a n outs ins) → a + 1 < n → p < 6 → (out_at outs (a * 6 + p)).wire.takes ≡ true
  own_takes p w me b = ap (λ (x : OutWire). x.takes) (sym (get_or-map out_wire_of outs (a * 6 + p) no_lane no_wire (outs-within a p w me b))) ∙ w.own_out p me b

in_wire_of-none : (o : Option InLane) → in_wire_of o ≡ None → o ≡ None
in_wire_of-none None e = refl
in_wire_of-none (Some i) e = absurd (none-some i.wire (sym e))

module _ (a n : ℕ) (outs : List OutLane) (ins : List (Option InLane)) where
  pub own_in_at : (p : ℕ) → IsWired (wiring a n outs ins) → a + 1 < n → p < 6 → in_at ins (a * 6 + p) ≡ None
  own_in_at p w me b = in_wire_of-none _ (sym (get_or-map in_wire_of ins (a * 6 + p) None None (ins-within a n outs ins a p w me w.one_of b)) ∙ w.own_in p me b)

  pub in_at-is_for : (s p : ℕ) (l : InLane) (m : Msg) → IsWired (wiring a n outs ins) → a + 1 < n → s < n → (s ≡ a → ⊥) → p < 6 → in_at ins (s * 6 + p) ≡ Some l → IsFor l.wire.from l.wire.to l.wire.prio m → IsFor s a p m
  in_at-is_for s p l m w me h other b e i =
      let same = get_or-map in_wire_of ins (s * 6 + p) None None (ins-within a n outs ins s p w me h b) in
      let triple : ◌≡◌ {A = ℕ × ℕ × ℕ} (l.wire.from, l.wire.to, l.wire.prio) (s, a, p) = same_Some _ _ (ap (λ x. lane_of_in (in_wire_of x)) (sym e) ∙ ap lane_of_in (sym same) ∙ w.ins s p me h b other) in
      record { from = i.from ∙ ap (λ x. x.0) triple; to = i.to ∙ ap (λ x. x.1) triple; prio = i.prio ∙ ap (λ x. x.2) triple }

  -- the wiring after each step, whatever it answered
  pub wiring-posted : (outs' : List OutLane) (at : ℕ) (m : Msg) (r : Result (Unit {0}) Msg) → at < length outs → OnOk r (outs' ≡ set outs at (sending (out_at outs at) m)) → OnErr r (outs' ≡ outs) → wiring a n outs' ins ≡ wiring a n outs ins
  wiring-posted outs' at m (Ok u) h e g = ap (λ os. wiring a n os ins) e ∙ wiring-outs a n outs ins at (sending (out_at outs at) m) h refl
  wiring-posted outs' at m (Err x) h e g = ap (λ os. wiring a n os ins) g

  pub wiring-popped : (outs' : List OutLane) (at : ℕ) (r : Option Msg) → at < length outs →
      MatchOption r ((outs' ≡ outs) × ((out_at outs at).posted ≡ (out_at outs at).taken)) (λ m. outs' ≡ set outs at (popping (out_at outs at) m)) → wiring a n outs' ins ≡ wiring a n outs ins
  wiring-popped outs' at (Some m) h e = ap (λ os. wiring a n os ins) e ∙ wiring-outs a n outs ins at (popping (out_at outs at) m) h refl
  wiring-popped outs' at None h e = ap (λ os. wiring a n os ins) e.0

  pub wiring-stolen : (ins' : List (Option InLane)) (at : ℕ) (r : Option Msg) → at < length ins →
      MatchOption r (ins' ≡ ins) (λ m. (i : InLane) × (in_at ins at ≡ Some i) × (ins' ≡ set ins at (Some (stealing i m))) × IsFor i.wire.from i.wire.to i.wire.prio m) → wiring a n outs ins' ≡ wiring a n outs ins
  wiring-stolen ins' at (Some m) h e = ap (λ is. wiring a n outs is) e.2 ∙ wiring-ins a n outs ins at (Some (stealing e.0 m)) h (ap in_wire_of (sym e.1))
  wiring-stolen ins' at None h e = ap (λ is. wiring a n outs is) e

  -- the lists of an end after each step
  pub lists-posted : (outs' : List OutLane) (r p : ℕ) (m : Msg) → IsWired (wiring a n outs ins) → r + 1 < n → p < 6 → outs' ≡ set outs (r * 6 + p) (sending (out_at outs (r * 6 + p)) m) →
      (by_six (posted_at outs') ≡ gained (by_six (posted_at outs)) r p m) × (by_six (taken_at outs' ins) ≡ by_six (taken_at outs ins))
  lists-posted outs' r p m w h b e =
      let inside = outs-within a n outs ins r p w h b in
      (ap (λ os. by_six (posted_at os)) e ∙ posted-sending outs r p m b inside, ap (λ os. by_six (taken_at os ins)) e ∙ taken-sending outs ins (r * 6 + p) m inside)

  pub lists-popped : (outs' : List OutLane) (p : ℕ) (m : Msg) → IsWired (wiring a n outs ins) → a + 1 < n → p < 6 → outs' ≡ set outs (a * 6 + p) (popping (out_at outs (a * 6 + p)) m) →
      (by_six (posted_at outs') ≡ by_six (posted_at outs)) × (by_six (taken_at outs' ins) ≡ gained (by_six (taken_at outs ins)) a p m)
  lists-popped outs' p m w me b e =
      let inside = outs-within a n outs ins a p w me b in
      (ap (λ os. by_six (posted_at os)) e ∙ posted-popping outs (a * 6 + p) m inside, ap (λ os. by_six (taken_at os ins)) e ∙ taken-popping outs ins a p m b inside (own_in_at p w me b))

  pub none_own : (p : ℕ) → IsWired (wiring a n outs ins) → a + 1 < n → p < 6 → (out_at outs (a * 6 + p)).posted ≡ (out_at outs (a * 6 + p)).taken → by_six (posted_at outs) a p ≡ by_six (taken_at outs ins) a p
  none_own p w me b e = by_six-within (posted_at outs) a p b ∙ e ∙ ap (taken_in (out_at outs (a * 6 + p))) (sym (own_in_at p w me b)) ∙ sym (by_six-within (taken_at outs ins) a p b)

-- a log whose two lists are these
pub log-lists : (a n : ℕ) (l : ℕ → ℕ) (f f' g g' : ℕ → ℕ → List Msg) → f ≡ f' → g ≡ g' → ◌≡◌ {A = EndLog} (record { party = a; parties = n; posted = f; taken = g; looks = l }) (record { party = a; parties = n; posted = f'; taken = g'; looks = l })
log-lists a n l f f' g g' e h = ap (λ x. record { party = a; parties = n; posted = x; taken = g; looks = l }) e ∙ ap (λ x. record { party = a; parties = n; posted = f'; taken = x; looks = l }) h

-- what a pop tells
pub popped : (a n : ℕ) (l : ℕ → ℕ) (outs outs' : List OutLane) (ins : List (Option InLane)) (p : ℕ) (r : Option Msg) → IsWired (wiring a n outs ins) → a + 1 < n → p < 6 →
    MatchOption r ((outs' ≡ outs) × ((out_at outs (a * 6 + p)).posted ≡ (out_at outs (a * 6 + p)).taken)) (λ m. outs' ≡ set outs (a * 6 + p) (popping (out_at outs (a * 6 + p)) m)) →
    MatchOption r (Unit {0}) (λ m. let o = (out_at outs (a * 6 + p)).wire in IsFor o.from o.to o.prio m) →
    MatchOption r ((log_from a n l outs' ins ≡ log_from a n l outs ins) × (by_six (posted_at outs) a p ≡ by_six (taken_at outs ins) a p))
    (λ m. IsFor a a p m × (log_from a n l outs' ins ≡ record (log_from a n l outs ins) { taken = gained (by_six (taken_at outs ins)) a p m }))
popped a n l outs outs' ins p (Some m) w me b e i =
    let lists = lists-popped a n outs ins outs' p m w me b e in
    (out_at-is_for a n outs ins a p m w me b i, log-lists a n l _ _ _ _ lists.0 lists.1)
popped a n l outs outs' ins p None w me b e i = (ap (λ os. log_from a n l os ins) e.0, none_own a n outs ins p w me b e.1)

-- what a steal tells
pub stolen : (a n : ℕ) (l : ℕ → ℕ) (outs : List OutLane) (ins ins' : List (Option InLane)) (s p : ℕ) (r : Option Msg) → IsWired (wiring a n outs ins) → a + 1 < n → s < n → (s ≡ a → ⊥) → p < 6 →
    MatchOption r (ins' ≡ ins) (λ m. (i : InLane) × (in_at ins (s * 6 + p) ≡ Some i) × (ins' ≡ set ins (s * 6 + p) (Some (stealing i m))) × IsFor i.wire.from i.wire.to i.wire.prio m) →
    MatchOption r (log_from a n l outs ins' ≡ log_from a n l outs ins) (λ m. IsFor s a p m × (log_from a n l outs ins' ≡ record (log_from a n l outs ins) { taken = gained (by_six (taken_at outs ins)) s p m }))
stolen a n l outs ins ins' s p (Some m) w me h other b e =
    let took = ap (λ is. by_six (taken_at outs is)) e.2 ∙ taken-stealing outs ins s p e.0 m b (ins-within a n outs ins s p w me h b) e.1 in
    (in_at-is_for a n outs ins s p e.0 m w me h other b e.1 e.3, log-lists a n l _ _ _ _ refl took)
stolen a n l outs ins ins' s p None w me h other b e = ap (λ is. log_from a n l outs is) e

pub ruleset end_steps = (slice_index-look)
