-- In a run that begins with all clocks at 0 no stamp is greater than the number of things that happened: each
-- event is stamped one more than its party's clock, than the stamp of the message that it fetches, or than the
-- greatest clock of all.
use Rattle.std.proofs.Common.{◌≡◌, ℕ, zero, suc, ◌+◌, ◌<◌, ◌≤◌, ◌==◌, Bool, true, false, if◌then◌else◌, List, [], ◌∷◌, ◌++◌, drop, length, Option, Some, None, slice_get, refl, sym, subst, arith}
use Rattle.std.specs.List.{AllByRecursion as Each}
use Rattle.std.proofs.lemmas.Option.{same_Some}
use Rattle.room_kinds.specs.declared.message.Msg.{Msg}
use Rattle.journal.specs.declared.entry.Entry.{Entry}
use Rattle.journal.specs.declared.entry.Entry.TheVariants as entry
use Rattle.actor_merge.specs.Mail.{Lane, lane, is_lane, event_of, stamp_of}
use Rattle.actor_merge.specs.Parties.{State, Environment, Line, Plant, Taken, put, next_of, fetch, turn, turn_with, post, post_front, post_line, environment_post, begins}
use Rattle.actor_merge.specs.World.{World, Placed, Runs, put_lane, latest, latest_of, caught_up, controller_does, environment_does, lanes_after}
use Rattle.actor_merge.proofs.Back.{Happened, controller, environment, happened, fetch_front_from}

-- messages with a stamp of at most this
abbrev Early : ℕ → List Msg → Type 0
Early k ms = Each (λ (m : Msg). m.stamp.0 ≤ k) ms

early_later : (k : ℕ) (ms : List Msg) → Early k ms → Early (k + 1) ms
early_later k [] h = tt
early_later k (m ∷ ms) h = let first : m.stamp.0 ≤ k = h.0 in (omega (arith, first), early_later k ms h.1)

early_push : (k : ℕ) (ms : List Msg) (m : Msg) → Early k ms → m.stamp.0 ≤ k → Early k (ms ++ m ∷ [])
early_push k [] m h l = (l, tt)
early_push k (x ∷ ms) m h l = (h.0, early_push k ms m h.1 l)

early_rest : (k : ℕ) (ms : List Msg) → Early k ms → Early k (drop 1 ms)
early_rest k [] h = tt
early_rest k (m ∷ ms) h = h.1

-- what an entry posts has a stamp of at most this
abbrev Sends : ℕ → Entry → Type 0
Sends k (entry.Start who state notes) = Unit {0}
Sends k (entry.Fetch stamp m) = Unit {0}
Sends k (entry.Turn stamp from sent did notes) = Unit {0}
Sends k (entry.Post stamp m) = m.stamp.0 ≤ k

-- entries with a stamp of at most this
abbrev pub StampedBy : ℕ → List Placed → Type 0
StampedBy k xs = Each (λ (x : Placed). stamp_of x.entry ≤ k) xs

-- an event is stamped with at most this, and so are its party's clock after it and what it posts
record Ticks (k clock : ℕ) (e : Entry) : Type 0 where
  stamp : stamp_of e ≤ k
  after : clock ≤ k
  sends : Sends k e

-- what a controller's event gives
abbrev StepTicks : {B : Type 0} → ℕ → State B × Entry → Type 0
StepTicks k r = Ticks k r.0.clock r.1

-- what a post of the environment gives
abbrev LineTicks : ℕ → Environment × Entry → Type 0
LineTicks k r = Ticks k r.0.clock r.1

fetch_ticks : {B : Type 0} (k : ℕ) (s : State B) (m : Msg) (r : State B × Entry) → s.clock ≤ k → m.stamp.0 ≤ k → fetch s m ≡ r → StepTicks (k + 1) r
unfolding fetch
fetch_ticks k s m r h l e = subst (StepTicks (k + 1)) e (record { stamp = omega (arith, h, l); after = omega (arith, h, l); sends = tt })

latest_within : {B : Type 0} (states : ℕ → State B) (clock count k : ℕ) → clock ≤ k → ((c : ℕ) → c < count → (states c).clock ≤ k)
    → latest states count clock ≤ k
latest_within states clock zero k h each = h
latest_within states clock (suc c) k h each =
    let ih : latest states c clock ≤ k = latest_within states clock c k h (λ d below. each d (omega (arith, below))) in
    let here : (states c).clock ≤ k = each c (omega arith) in omega (arith, ih, here)

module _ {B : Type 0} (plant : Plant B) where
  turn_ticks : (k c : ℕ) (s : State B) (r : State B × Entry) → s.clock ≤ k → turn plant c s ≡ Some r → StepTicks (k + 1) r
  unfolding turn
  turn_ticks k c s r h e = go s.outbox (next_of s.pending) e
    where
      go : (box : List Msg) (o : Option Taken) → turn_with plant c s box o ≡ Some r → StepTicks (k + 1) r
      go [] None is = absurd cc
      go [] (Some taken) is =
          subst (StepTicks (k + 1)) (same_Some _ r is) (record { stamp = omega (arith, h); after = omega (arith, h); sends = tt })
      go (m ∷ ms) o is = absurd cc

  post_ticks : (k c : ℕ) (s : State B) (r : State B × Entry) → s.clock ≤ k → post c s ≡ Some r → StepTicks (k + 1) r
  unfolding post
  post_ticks k c s r h e = go s.outbox e
    where
      go : (box : List Msg) → post_front c s box ≡ Some r → StepTicks (k + 1) r
      go [] is = absurd cc
      go (m ∷ rest) is =
          subst (StepTicks (k + 1)) (same_Some _ r is)
          (record { stamp = omega (arith, h); after = omega (arith, h); sends = omega (arith, h) })

  line_ticks : (k : ℕ) (v : Environment) (r : Environment × Entry) → v.clock ≤ k → environment_post plant v ≡ Some r → LineTicks (k + 1) r
  unfolding environment_post
  line_ticks k v r h e = go (slice_get plant.lines v.posted) e
    where
      go : (o : Option Line) → post_line plant.controllers v o ≡ Some r → LineTicks (k + 1) r
      go None is = absurd cc
      go (Some line) is =
          subst (LineTicks (k + 1)) (same_Some _ r is)
          (record { stamp = omega (arith, h); after = omega (arith, h); sends = omega (arith, h) })

  -- no clock and no message on its way is later than this
  record Within (k : ℕ) (w : World B) : Type 0 where
    controllers : (c : ℕ) → c < plant.controllers → (w.controllers c).clock ≤ k
    environment : w.environment.clock ≤ k
    lanes : (l : Lane) → Early k (w.lanes l)

  caught_within : (k : ℕ) (w : World B) → Within k w → (caught_up plant w).clock ≤ k
  unfolding caught_up
  caught_within k w h = go (begins plant w.environment.posted)
    where
      go : (b : Bool) → (if b then record w.environment { clock = latest_of plant w } else w.environment).clock ≤ k
      go true = latest_within w.controllers w.environment.clock plant.controllers k h.environment h.controllers
      go false = h.environment

  controller_ticks : (k : ℕ) (w : World B) (c : ℕ) (s : State B) (e : Entry) → Within k w → c < plant.controllers
      → controller_does plant w c (event_of e) ≡ Some (s, e) → StepTicks (k + 1) (s, e)
  controller_ticks k w c s (entry.Start who state notes) h below does = absurd cc
  controller_ticks k w c s (entry.Fetch stamp m) h below does =
      let front = fetch_front_from (w.controllers c) s (w.lanes (lane m.from.0 c m.prio.0)) (entry.Fetch stamp m) m stamp.0 refl does in
      let early : Early k (m ∷ drop 1 (w.lanes (lane m.from.0 c m.prio.0))) = subst (Early k) front.0 (h.lanes (lane m.from.0 c m.prio.0)) in
      fetch_ticks k (w.controllers c) m (s, entry.Fetch stamp m) (h.controllers c below) early.0 front.1
  controller_ticks k w c s (entry.Turn stamp from sent did notes) h below does =
      turn_ticks k c (w.controllers c) (s, entry.Turn stamp from sent did notes) (h.controllers c below) does
  controller_ticks k w c s (entry.Post stamp m) h below does =
      post_ticks k c (w.controllers c) (s, entry.Post stamp m) (h.controllers c below) does

  environment_ticks : (k : ℕ) (w : World B) (v : Environment) (e : Entry) → Within k w
      → environment_does plant w (event_of e) ≡ Some (v, e) → LineTicks (k + 1) (v, e)
  environment_ticks k w v (entry.Start who state notes) h does = absurd cc
  environment_ticks k w v (entry.Fetch stamp m) h does = absurd cc
  environment_ticks k w v (entry.Turn stamp from sent did notes) h does = absurd cc
  environment_ticks k w v (entry.Post stamp m) h does = line_ticks k (caught_up plant w) (v, entry.Post stamp m) (caught_within k w h) does

  put_early : (k : ℕ) (lanes : Lane → List Msg) (at : Lane) (ms : List Msg) (l : Lane) → Early k ms → Early k (lanes l)
      → Early k (put_lane lanes at ms l)
  unfolding put_lane
  put_early k lanes at ms l h before = go (is_lane l at)
    where
      go : (b : Bool) → Early k (if b then ms else lanes l)
      go true = h
      go false = before

  lanes_early : (k : ℕ) (w : World B) (party : ℕ) (e : Entry) → ((l : Lane) → Early k (w.lanes l)) → Sends (k + 1) e
      → (l : Lane) → Early (k + 1) (lanes_after w party (event_of e) e l)
  lanes_early k w party (entry.Start who state notes) h sends l = early_later k (w.lanes l) (h l)
  lanes_early k w party (entry.Fetch stamp m) h sends l =
      let at : Lane = lane m.from.0 party m.prio.0 in
      put_early (k + 1) w.lanes at (drop 1 (w.lanes at)) l (early_later k (drop 1 (w.lanes at)) (early_rest k (w.lanes at) (h at))) (early_later k (w.lanes l) (h l))
  lanes_early k w party (entry.Turn stamp from sent did notes) h sends l = early_later k (w.lanes l) (h l)
  lanes_early k w party (entry.Post stamp m) h sends l =
      let at : Lane = lane party m.to.0 m.prio.0 in
      put_early (k + 1) w.lanes at (w.lanes at ++ m ∷ []) l (early_push (k + 1) (w.lanes at) m (early_later k (w.lanes at) (h at)) sends) (early_later k (w.lanes l) (h l))

  put_within : (k : ℕ) (w : World B) (party : ℕ) (s : State B) → Within k w → s.clock ≤ k + 1 → (c : ℕ) → c < plant.controllers
      → (put w.controllers party s c).clock ≤ k + 1
  unfolding put
  put_within k w party s h after c below = go (c == party)
    where
      go : (b : Bool) → (if b then s else w.controllers c).clock ≤ k + 1
      go true = after
      go false = let before = h.controllers c below in omega (arith, before)

  step_within : (k : ℕ) (w next : World B) (x : Placed) → Within k w → Happened plant w x next → Within (k + 1) next × (stamp_of x.entry ≤ k + 1)
  step_within k w next x h (controller below s does same) =
      let ticks = controller_ticks k w x.party s x.entry h below does in
      let before = h.environment in (
        subst (Within (k + 1)) (sym same) (record {
          controllers = put_within k w x.party s h ticks.after;
          environment = omega (arith, before);
          lanes = lanes_early k w x.party x.entry h.lanes ticks.sends;
        }),
        ticks.stamp,
      )
  step_within k w next x h (environment is v does same) =
      let ticks = environment_ticks k w v x.entry h does in (
        subst (Within (k + 1)) (sym same) (record {
          controllers = λ c below. (let before = h.controllers c below in omega (arith, before));
          environment = ticks.after;
          lanes = lanes_early k w x.party x.entry h.lanes ticks.sends;
        }),
        ticks.stamp,
      )

  run_within : (k most : ℕ) (xs : List Placed) (w end : World B) → k + length xs ≤ most → Within k w → Runs plant w xs end → StampedBy most xs
  run_within k most [] w end fits h r = tt
  run_within k most (x ∷ xs) w end fits h r =
      let step = step_within k w r.0 x h (happened plant w x r.0 r.2) in
      let here : stamp_of x.entry ≤ k + 1 = step.1 in
      (omega (arith, here, fits), run_within (k + 1) most xs r.0 end (omega (arith, fits)) step.0 r.3)

  -- from a world in which all clocks are at 0 and nothing is on its way
  pub stamps_counted : (xs : List Placed) (w end : World B) → ((c : ℕ) → c < plant.controllers → (w.controllers c).clock ≡ 0)
      → w.environment.clock ≡ 0 → ((l : Lane) → w.lanes l ≡ [])
      → Runs plant w xs end → StampedBy (length xs) xs
  stamps_counted xs w end clocks outside empty r =
      run_within 0 (length xs) xs w end (omega arith)
      (record {
        controllers = λ c below. (let is = clocks c below in omega (arith, is));
        environment = omega (arith, outside);
        lanes = λ l. subst (Early 0) (sym (empty l)) tt;
      })
      r
