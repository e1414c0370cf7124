-- A run leads to one world, whose clocks bound its stamps.
use Rattle.std.proofs.Common.{◌≡◌, ℕ, zero, suc, max, ◌+◌, ◌<◌, ◌≤◌, Bool, true, false, if◌then◌else◌, List, [], ◌∷◌, Option, Some, None, slice_get, sym, ap, ◌∙◌, subst, arith, ◌⊎◌, inl, inr}
use Rattle.std.proofs.lemmas.Bool.{cases_eq, ne_eqb}
use Rattle.journal.specs.declared.entry.Entry.{Entry}
use Rattle.journal.specs.declared.entry.Entry.TheVariants as entry
use Rattle.actor_merge.specs.Mail.{event_of, stamp_of}
use Rattle.actor_merge.specs.Parties.{State, Environment, Line, Plant, put, post_line, environment_post, begins}
use Rattle.actor_merge.specs.World.{World, Placed, Runs, latest, latest_of, environment_does, caught_up}
use Rattle.actor_merge.specs.History.{AllAtMost}
use Rattle.actor_merge.proofs.Lanes.{put-same, put-other}
use Rattle.actor_merge.proofs.Extend.{Ticks, does_ticks}
use Rattle.actor_merge.proofs.Back.{Happened, controller, environment, happened, own_of}

latest_below : {B : Type 0} (states : ℕ → State B) (clock count : ℕ) → clock ≤ latest states count clock
latest_below states clock zero = omega arith
latest_below states clock (suc k) = let ih = latest_below states clock k in omega arith

latest_above : {B : Type 0} (states : ℕ → State B) (clock count c : ℕ) → c < count → (states c).clock ≤ latest states count clock
latest_above states clock zero c h = absurd (omega arith)
latest_above states clock (suc k) c h = go (cases_eq c k) (latest_above states clock k c)
  where
    go : (c ≡ k) ⊎ (c ≡ k → ⊥) → (c < k → (states c).clock ≤ latest states k clock) → (states c).clock ≤ max (states k).clock (latest states k clock)
    go (inl e) ih = rw e (omega arith)
    go (inr n) ih = let b : (states c).clock ≤ latest states k clock = ih (omega arith) in omega arith

latest_more : {B : Type 0} (s t : ℕ → State B) (v u count : ℕ) → ((c : ℕ) → (s c).clock ≤ (t c).clock) → v ≤ u → latest s count v ≤ latest t count u
latest_more s t v u zero h k = k
latest_more s t v u (suc c) h k =
    let ih : latest s c v ≤ latest t c u = latest_more s t v u c h k in
    let here : (s c).clock ≤ (t c).clock = h c in omega arith

all_at_most_more : (j k : ℕ) → j ≤ k → (xs : List Placed) → AllAtMost j xs → AllAtMost k xs
all_at_most_more j k l [] h = tt
all_at_most_more j k l (x ∷ xs) h = (omega (arith, h.0), all_at_most_more j k l xs h.1)

-- the clock and the stamp in an outcome
clock_in : Option (Environment × Entry) → ℕ
clock_in None = 0
clock_in (Some r) = r.0.clock

stamp_in : Option (Environment × Entry) → ℕ
stamp_in None = 0
stamp_in (Some r) = stamp_of r.1

-- a post of the environment is stamped with the clock after it, which is later than the one before
line_ticks : {B : Type 0} (plant : Plant B) (v next : Environment) (e : Entry) → environment_post plant v ≡ Some (next, e)
    → (stamp_of e ≡ next.clock) × (v.clock ≤ next.clock)
unfolding environment_post clock_in stamp_in
line_ticks plant v next e h = go (slice_get plant.lines v.posted) h
  where
    go : (o : Option Line) → post_line plant.controllers v o ≡ Some (next, e) → (stamp_of e ≡ next.clock) × (v.clock ≤ next.clock)
    go None k = absurd cc
    go (Some line) k =
        let clock : v.clock + 1 ≡ next.clock = ap clock_in k in
        let stamp : v.clock + 1 ≡ stamp_of e = ap stamp_in k in
        (sym stamp ∙ clock, omega (arith, clock))

caught_up-later : {B : Type 0} (plant : Plant B) (w : World B) → w.environment.clock ≤ (caught_up plant w).clock
unfolding caught_up
caught_up-later plant w = go (begins plant w.environment.posted)
  where
    go : (b : Bool) → w.environment.clock ≤ (if b then record w.environment { clock = latest_of plant w } else w.environment).clock
    go true = latest_below w.controllers w.environment.clock plant.controllers
    go false = omega arith

module _ {B : Type 0} (plant : Plant B) where
  environment_ticks : (w : World B) (e : Entry) (v : Environment) → environment_does plant w (event_of e) ≡ Some (v, e)
      → (stamp_of e ≡ v.clock) × (w.environment.clock ≤ v.clock)
  environment_ticks w (entry.Start who state notes) v h = absurd cc
  environment_ticks w (entry.Fetch stamp m) v h = absurd cc
  environment_ticks w (entry.Turn stamp from sent did notes) v h = absurd cc
  environment_ticks w (entry.Post stamp m) v h =
      let ticks = line_ticks plant (caught_up plant w) v (entry.Post stamp m) h in
      let up : w.environment.clock ≤ (caught_up plant w).clock = caught_up-later plant w in
      let more : (caught_up plant w).clock ≤ v.clock = ticks.1 in
      (ticks.0, omega arith)

  -- an event's stamp is at most the greatest clock after it, which isn't below the one before
  step_bound : (w : World B) (x : Placed) (next : World B) → Happened plant w x next
      → (stamp_of x.entry ≤ latest_of plant next) × (latest_of plant w ≤ latest_of plant next)
  step_bound w x next (controller below s does same) =
      subst (λ (z : World B). (stamp_of x.entry ≤ latest_of plant z) × (latest_of plant w ≤ latest_of plant z)) (sym same) (here, before)
    where
      ticks : Ticks (w.controllers x.party).clock (s, x.entry)
      ticks = does_ticks plant x.party (w.controllers x.party) s x.entry (own_of plant w x.party x.entry s does)

      clocks : (c : ℕ) → (c ≡ x.party) ⊎ (c ≡ x.party → ⊥) → (w.controllers c).clock ≤ (put w.controllers x.party s c).clock
      clocks c (inl own) =
          let up : (w.controllers x.party).clock < stamp_of x.entry = ticks.0 in
          let clock : s.clock ≡ stamp_of x.entry = ticks.1 in
          rw (own, put-same w.controllers x.party s) (omega arith)
      clocks c (inr other) = rw (put-other w.controllers x.party s c (ne_eqb c x.party other)) (omega arith)

      before : latest_of plant w ≤ latest (put w.controllers x.party s) plant.controllers w.environment.clock
      before = latest_more w.controllers (put w.controllers x.party s) w.environment.clock w.environment.clock plant.controllers
          (λ c. clocks c (cases_eq c x.party)) (omega arith)

      here : stamp_of x.entry ≤ latest (put w.controllers x.party s) plant.controllers w.environment.clock
      here =
          let at : (put w.controllers x.party s x.party).clock ≤ latest (put w.controllers x.party s) plant.controllers w.environment.clock =
          latest_above (put w.controllers x.party s) w.environment.clock plant.controllers x.party below in
          let own : (put w.controllers x.party s x.party).clock ≡ stamp_of x.entry = ap (λ (z : State B). z.clock) (put-same w.controllers x.party s) ∙ ticks.1 in
          omega arith
  step_bound w x next (environment is v does same) =
      subst (λ (z : World B). (stamp_of x.entry ≤ latest_of plant z) × (latest_of plant w ≤ latest_of plant z)) (sym same) (here, before)
    where
      ticks : (stamp_of x.entry ≡ v.clock) × (w.environment.clock ≤ v.clock)
      ticks = environment_ticks w x.entry v does

      before : latest_of plant w ≤ latest w.controllers plant.controllers v.clock
      before = latest_more w.controllers w.controllers w.environment.clock v.clock plant.controllers (λ c. omega arith) ticks.1

      here : stamp_of x.entry ≤ latest w.controllers plant.controllers v.clock
      here =
          let low : v.clock ≤ latest w.controllers plant.controllers v.clock = latest_below w.controllers v.clock plant.controllers in
          let own : stamp_of x.entry ≡ v.clock = ticks.0 in
          omega arith

  -- together with the greatest clock at the start
  bounded : (w : World B) (xs : List Placed) (end : World B) → Runs plant w xs end
      → AllAtMost (latest_of plant end) xs × (latest_of plant w ≤ latest_of plant end)
  bounded w [] end r = (tt, omega (arith, ap (latest_of plant) r))
  bounded w (x ∷ xs) end r =
      let step = step_bound w x r.0 (happened plant w x r.0 r.2) in
      let rest = bounded r.0 xs end r.3 in
      let here : stamp_of x.entry ≤ latest_of plant r.0 = step.0 in
      let up : latest_of plant w ≤ latest_of plant r.0 = step.1 in
      let more : latest_of plant r.0 ≤ latest_of plant end = rest.1 in
      ((omega arith, rest.0), omega arith)

  pub run_bounded : (w : World B) (xs : List Placed) (end : World B) → Runs plant w xs end → AllAtMost (latest_of plant end) xs
  run_bounded w xs end r = (bounded w xs end r).0

  pub one_end : (w : World B) (xs : List Placed) (end other : World B) → Runs plant w xs end → Runs plant w xs other → end ≡ other
  one_end w [] end other r s = r ∙ sym s
  one_end w (x ∷ xs) end other r s =
      let both : Some (r.0, x.entry) ≡ Some (s.0, x.entry) = sym r.2 ∙ s.2 in
      let next : s.0 ≡ r.0 = ap (elim [ None ↦ r.0 | Some z ↦ z.0 ]) (sym both) in
      one_end r.0 xs end other r.3 (subst (λ (z : World B). Runs plant z xs other) next s.3)
