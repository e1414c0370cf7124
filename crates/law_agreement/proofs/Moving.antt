-- What the events of a world do to trails.
use Rattle.std.proofs.Common.{◌≡◌, ℕ, zero, suc, ◌+◌, ◌==◌, ◌&&◌, Bool, true, false, cond, if◌then◌else◌, List, [], ◌∷◌, ◌++◌, drop, map, filter, Option, Some, None, refl, sym, ap, ◌∙◌, subst, eqb-true, append-nil, append_assoc}
use Rattle.std.specs.List.{AllByRecursion}
use Rattle.room_kinds.specs.declared.message.Msg.{Msg}
use Rattle.room_kinds.specs.declared.numbers.Stamp.{Stamp}
use Rattle.journal.specs.declared.entry.Entry.{Entry}
use Rattle.journal.specs.declared.entry.Entry.TheVariants as entry
use Rattle.room_wiring.specs.declared.tables.Tables.{Tables}
use Rattle.actor_merge.specs.Mail.{Lane, lane, is_lane, event_of}
use Rattle.actor_merge.specs.Parties.{State, Line, Taken, Treated, put, stamped, front_or, lowest, next_of, put_back, fetch, turn, turn_with, turned, post, post_front}
use Rattle.actor_merge.specs.World.{World, put_lane, controller_does, lanes_after}
use Rattle.actor_merge.proofs.Back.{fetch_front_from}
use Rattle.actor_merge.proofs.Lanes.{fetch_step, post_step}
use Rattle.actor_world.specs.Behaviour.{Behaviour}
use Rattle.actor_world.specs.Body.{Body}
use Rattle.actor_world.specs.Turns.{treat}
use Rattle.actor_world.specs.Start.{plant_of}
use Rattle.actor_world.specs.Directories.{IsOpen}
use Rattle.law_agreement.specs.Trails.{contents, from_a, system_to, is_system_to, trail, taken_from, leaves, comes}
use Rattle.law_agreement.proofs.Lists.{filter_none}
use Rattle.law_agreement.proofs.Carrying.{NotSystem}
use Rattle.law_agreement.proofs.Hearing.{from_append, contents_append}
use Rattle.law_agreement.proofs.Turning.{TurnSays, treat_says}

-- each pending list holds messages of its priority
abbrev pub Ranked : ℕ → List Msg → Type 0
Ranked p ms = AllByRecursion (λ (m : Msg). m.prio.0 ≡ p) ms

-- a controller's state as it can be: each pending list holds messages of its priority, and what actors
-- keep for later isn't the system's
pub record IsSorted {M : Type 0} (s : State (Body M)) : Type 0 where
  pub pending : (p : ℕ) → Ranked p (s.pending p)
  pub deferred : (n : ℕ) → NotSystem (s.body.deferred n)

-- the front of the list that a turn takes from
lowest_front : (pending : ℕ → List Msg) (at n : ℕ) (k : Taken) → lowest pending at n ≡ Some k → pending k.priority ≡ k.message ∷ k.rest
unfolding lowest
lowest_front pending at zero k h = absurd cc
lowest_front pending at (suc n) k h = go (pending at) refl h (lowest_front pending (at + 1) n k)
  where
    go : (ms : List Msg) → pending at ≡ ms → front_or at ms (lowest pending (at + 1) n) ≡ Some k
        → (lowest pending (at + 1) n ≡ Some k → pending k.priority ≡ k.message ∷ k.rest) → pending k.priority ≡ k.message ∷ k.rest
    go [] e f ih = ih f
    go (m ∷ ms) e f ih =
        let taken : Taken = record { priority = at; message = m; rest = ms } in
        let same : taken ≡ k = cc in
        subst (λ (z : Taken). pending z.priority ≡ z.message ∷ z.rest) same e

pub next_front : (pending : ℕ → List Msg) (k : Taken) → next_of pending ≡ Some k → pending k.priority ≡ k.message ∷ k.rest
next_front pending k h = lowest_front pending 0 6 k h

-- a value that a state keeps, of the states after one has changed
pub kept_by : {S X : Type 0} (f : S → X) (states : ℕ → S) (c : ℕ) (s : S) → f s ≡ f (states c) → (n : ℕ) → f (put states c s n) ≡ f (states n)
unfolding put
kept_by f states c s h n = go (n == c) refl
  where
    go : (b : Bool) → (n == c) ≡ b → f (if b then s else states n) ≡ f (states n)
    go true e = h ∙ ap (λ k. f (states k)) (sym (eqb-true n c e))
    go false e = refl

-- a trail's three parts, of which the first loses something, the second passes it on, and the last gains
parts_move : (out first first2 middle middle2 last last2 more : List Msg) → out ++ first2 ≡ first → middle2 ≡ middle → last2 ≡ last ++ more
    → out ++ (first2 ++ (middle2 ++ last2)) ≡ (first ++ (middle ++ last)) ++ more
parts_move out first first2 middle middle2 last last2 more h k l =
    sym (append_assoc out first2 (middle2 ++ last2))
    ∙ ap (λ (z : List Msg). z ++ (middle2 ++ last2)) h
    ∙ ap (λ (z : List Msg). first ++ (z ++ last2)) k
    ∙ ap (λ (z : List Msg). first ++ (middle ++ z)) l
    ∙ ap (λ (z : List Msg). first ++ z) (sym (append_assoc middle last more))
    ∙ sym (append_assoc first (middle ++ last) more)

-- what is fetched goes from the lane to the pending list
fetch_parts : (first first2 middle middle2 last : List Msg) (out : List Msg) → first2 ≡ first ++ out → out ++ middle2 ≡ middle
    → first2 ++ (middle2 ++ last) ≡ first ++ (middle ++ last)
fetch_parts first first2 middle middle2 last out h k =
    ap (λ (z : List Msg). z ++ (middle2 ++ last)) h
    ∙ append_assoc first out (middle2 ++ last)
    ∙ ap (λ (z : List Msg). first ++ z) (sym (append_assoc out middle2 last))
    ∙ ap (λ (z : List Msg). first ++ (z ++ last)) k

-- what is posted goes from the outbox to the lane
post_parts : (first middle middle2 last last2 out : List Msg) → middle2 ≡ middle ++ out → last ≡ out ++ last2
    → first ++ (middle2 ++ last2) ≡ first ++ (middle ++ last)
post_parts first middle middle2 last last2 out h k =
    ap (λ (z : List Msg). first ++ (z ++ last2)) h
    ∙ ap (λ (z : List Msg). first ++ z) (append_assoc middle out last2)
    ∙ ap (λ (z : List Msg). first ++ (middle ++ z)) (sym k)

contents_if : (a : ℕ) (b : Bool) (m : Msg) → contents a (if b then m ∷ [] else []) ≡ (if b then stamped a 0 m ∷ [] else [])
unfolding contents
contents_if a true m = refl
contents_if a false m = refl

pub from_one : (a : ℕ) (m : Msg) → from_a a (m ∷ []) ≡ (if a == m.from.0 then stamped a 0 m ∷ [] else [])
unfolding from_a contents
from_one a m = go (a == m.from.0)
  where
    go : (b : Bool) → map (stamped a 0) (cond b (m ∷ []) []) ≡ (if b then stamped a 0 m ∷ [] else [])
    go true = refl
    go false = refl

system_more : (a b : ℕ) (m : Msg) (ms : List Msg) → system_to a b (m ∷ ms) ≡ (if (b == m.to.0) && (0 == m.prio.0) then stamped a 0 m ∷ [] else []) ++ system_to a b ms
unfolding system_to contents
system_more a b m ms = go ((b == m.to.0) && (0 == m.prio.0))
  where
    go : (x : Bool) → map (stamped a 0) (cond x (m ∷ filter (is_system_to b) ms) (filter (is_system_to b) ms))
        ≡ (if x then stamped a 0 m ∷ [] else []) ++ map (stamped a 0) (filter (is_system_to b) ms)
    go true = refl
    go false = refl

system_none : (a b : ℕ) → system_to a b [] ≡ []
unfolding system_to contents
system_none a b = refl

module _ {M : Type 0} (model : Behaviour M) (t : Tables) (lines : List Line) where
  -- a post takes the front of the outbox
  pub post_from : (c : ℕ) (s next : State (Body M)) (e : Entry) (box : List Msg) → post_front c s box ≡ Some (next, e)
      → (m : Msg) × (rest : List Msg) × (box ≡ m ∷ rest) × (◌≡◌ {A = State (Body M) × Entry} (record s { clock = s.clock + 1; outbox = rest }, entry.Post (record { 0 = s.clock + 1 }) (stamped c (s.clock + 1) m)) (next, e))
  post_from c s next e [] h = absurd cc
  post_from c s next e (m ∷ rest) h = (m, rest, refl, cc)

  -- a turn takes out a message where the outbox is empty
  pub turn_from : (c : ℕ) (s next : State (Body M)) (e : Entry) (box : List Msg) (o : Option Taken) → turn_with (plant_of model t lines) c s box o ≡ Some (next, e)
      → (k : Taken) × (box ≡ []) × (o ≡ Some k) × (◌≡◌ {A = State (Body M) × Entry} (turned s k (treat model t c s.body k.message)) (next, e))
  turn_from c s next e [] None h = absurd cc
  turn_from c s next e (y ∷ ys) o h = absurd cc
  turn_from c s next e [] (Some k) h = (k, refl, refl, cc)

  -- the world after a controller's event
  abbrev pub world_after : World (Body M) → ℕ → Entry → State (Body M) → World (Body M)
  world_after w c e s = record w { controllers = put w.controllers c s; lanes = lanes_after w c (event_of e) e }

  -- what is fetched stands at the end of the pending list
  fetched_pending : (a b c : ℕ) (m : Msg) (states : ℕ → State (Body M))
      → from_a a ((put states c (fetch (states c) m).0 b).pending 0)
      ≡ from_a a ((states b).pending 0) ++ contents a (if is_lane (lane a b 0) (lane m.from.0 c m.prio.0) then m ∷ [] else [])
  unfolding put fetch is_lane
  fetched_pending a b c m states =
      go (b == c) refl (0 == m.prio.0) refl ∙ ap (λ (z : List Msg). from_a a ((states b).pending 0) ++ z) (sym (contents_if a (((a == m.from.0) && (b == c)) && (0 == m.prio.0)) m))
    where
      nothing : (x : Bool) (ms : List Msg) → ms ≡ ms ++ (if (x && false) && (0 == m.prio.0) then stamped a 0 m ∷ [] else [])
      nothing true ms = sym (append-nil ms)
      nothing false ms = sym (append-nil ms)

      apart : (x : Bool) (ms : List Msg) → ms ≡ ms ++ (if (x && true) && false then stamped a 0 m ∷ [] else [])
      apart true ms = sym (append-nil ms)
      apart false ms = sym (append-nil ms)

      whole : (x : Bool) (ms : List Msg) → ms ++ (if x then stamped a 0 m ∷ [] else []) ≡ ms ++ (if (x && true) && true then stamped a 0 m ∷ [] else [])
      whole true ms = refl
      whole false ms = refl

      go : (y : Bool) → (b == c) ≡ y → (z : Bool) → (0 == m.prio.0) ≡ z
          → from_a a ((if y then (fetch (states c) m).0 else states b).pending 0)
          ≡ from_a a ((states b).pending 0) ++ (if ((a == m.from.0) && y) && (0 == m.prio.0) then stamped a 0 m ∷ [] else [])
      go false e z f = nothing (a == m.from.0) (from_a a ((states b).pending 0))
      go true e false f =
          rw f (ap (λ n. from_a a ((states n).pending 0)) (sym (eqb-true b c e)) ∙ apart (a == m.from.0) (from_a a ((states b).pending 0)))
      go true e true f =
          rw f (
          ap (λ n. from_a a ((states c).pending n ++ m ∷ [])) (sym (eqb-true 0 m.prio.0 f))
          ∙ ap (λ n. from_a a ((states n).pending 0 ++ m ∷ [])) (sym (eqb-true b c e))
          ∙ from_append a ((states b).pending 0) (m ∷ [])
          ∙ ap (λ (z : List Msg). from_a a ((states b).pending 0) ++ z) (from_one a m)
          ∙ whole (a == m.from.0) (from_a a ((states b).pending 0))
          )

  fetch_moves : (w : World (Body M)) (c : ℕ) (stamp : Stamp) (m : Msg) (s : State (Body M))
      → controller_does (plant_of model t lines) w c (event_of (entry.Fetch stamp m)) ≡ Some (s, entry.Fetch stamp m)
      → (a b : ℕ) → trail (world_after w c (entry.Fetch stamp m) s) a b ≡ trail w a b
  unfolding fetch
  fetch_moves w c stamp m s h a b =
      let at : Lane = lane m.from.0 c m.prio.0 in
      let r = fetch_front_from (w.controllers c) s (w.lanes at) (entry.Fetch stamp m) m stamp.0 refl h in
      let state : (fetch (w.controllers c) m).0 ≡ s = ap (λ (z : State (Body M) × Entry). z.0) r.1 in
      let out : List Msg = if is_lane (lane a b 0) at then m ∷ [] else [] in
      let first : from_a a ((put w.controllers c s b).pending 0) ≡ from_a a ((w.controllers b).pending 0) ++ contents a out =
      subst (λ (z : State (Body M)). from_a a ((put w.controllers c z b).pending 0) ≡ from_a a ((w.controllers b).pending 0) ++ contents a out) state
      (fetched_pending a b c m w.controllers) in
      let middle : contents a out ++ contents a (put_lane w.lanes at (drop 1 (w.lanes at)) (lane a b 0)) ≡ contents a (w.lanes (lane a b 0)) =
      sym (contents_append a out (put_lane w.lanes at (drop 1 (w.lanes at)) (lane a b 0)))
      ∙ ap (contents a) (fetch_step w.lanes at (lane a b 0) m (drop 1 (w.lanes at)) r.0) in
      let box : (put w.controllers c s a).outbox ≡ (w.controllers a).outbox = kept_by (λ (z : State (Body M)). z.outbox) w.controllers c s (boxed state) a in
      ap (λ (z : List Msg). from_a a ((put w.controllers c s b).pending 0) ++ (contents a (put_lane w.lanes at (drop 1 (w.lanes at)) (lane a b 0)) ++ system_to a b z)) box
      ∙ fetch_parts (from_a a ((w.controllers b).pending 0)) (from_a a ((put w.controllers c s b).pending 0)) (contents a (w.lanes (lane a b 0)))
      (contents a (put_lane w.lanes at (drop 1 (w.lanes at)) (lane a b 0))) (system_to a b (w.controllers a).outbox) (contents a out) first middle
    where
      boxed : (fetch (w.controllers c) m).0 ≡ s → s.outbox ≡ (w.controllers c).outbox
      boxed e = sym (ap (λ (z : State (Body M)). z.outbox) e)

  -- what is posted stood at the front of the outbox
  posted_box : (a b c k : ℕ) (m : Msg) (rest : List Msg) (states : ℕ → State (Body M)) (s : State (Body M)) → (states c).outbox ≡ m ∷ rest → s.outbox ≡ rest
      → system_to a b (states a).outbox
      ≡ contents a (if is_lane (lane a b 0) (lane c m.to.0 m.prio.0) then stamped c k m ∷ [] else []) ++ system_to a b (put states c s a).outbox
  unfolding put is_lane
  posted_box a b c k m rest states s h r =
      go (a == c) refl ∙ ap (λ (z : List Msg). z ++ system_to a b (put states c s a).outbox) (sym (contents_if a (((a == c) && (b == m.to.0)) && (0 == m.prio.0)) (stamped c k m)))
    where
      go : (x : Bool) → (a == c) ≡ x
          → system_to a b (states a).outbox ≡ (if (x && (b == m.to.0)) && (0 == m.prio.0) then stamped a 0 m ∷ [] else []) ++ system_to a b (if x then s else states a).outbox
      go false e = refl
      go true e =
          ap (λ n. system_to a b (states n).outbox) (eqb-true a c e) ∙ ap (system_to a b) h ∙ system_more a b m rest
          ∙ ap (λ (z : List Msg). (if (b == m.to.0) && (0 == m.prio.0) then stamped a 0 m ∷ [] else []) ++ system_to a b z) (sym r)

  post_moves : (w : World (Body M)) (c : ℕ) (stamp : Stamp) (m : Msg) (s : State (Body M))
      → controller_does (plant_of model t lines) w c (event_of (entry.Post stamp m)) ≡ Some (s, entry.Post stamp m)
      → (a b : ℕ) → trail (world_after w c (entry.Post stamp m) s) a b ≡ trail w a b
  unfolding post
  post_moves w c stamp m s h a b =
      let r = post_from c (w.controllers c) s (entry.Post stamp m) (w.controllers c).outbox h in
      let k : ℕ = (w.controllers c).clock + 1 in
      let same : stamped c k r.0 ≡ m = (let f : entry.Post (record { 0 = k }) (stamped c k r.0) ≡ entry.Post stamp m = ap (λ (z : State (Body M) × Entry). z.1) r.3 in cc) in
      let state : record (w.controllers c) { clock = k; outbox = r.1 } ≡ s = ap (λ (z : State (Body M) × Entry). z.0) r.3 in
      let at : Lane = lane c m.to.0 m.prio.0 in
      let first : (put w.controllers c s b).pending ≡ (w.controllers b).pending =
      kept_by (λ (z : State (Body M)). z.pending) w.controllers c s (sym (ap (λ (z : State (Body M)). z.pending) state)) b in
      let out : List Msg = if is_lane (lane a b 0) at then m ∷ [] else [] in
      let last : system_to a b (w.controllers a).outbox ≡ contents a out ++ system_to a b (put w.controllers c s a).outbox =
      subst (λ (z : Msg). system_to a b (w.controllers a).outbox ≡ contents a (if is_lane (lane a b 0) (lane c z.to.0 z.prio.0) then z ∷ [] else []) ++ system_to a b (put w.controllers c s a).outbox) same
      (posted_box a b c k r.0 r.1 w.controllers s r.2 (sym (ap (λ (z : State (Body M)). z.outbox) state))) in
      let middle : contents a (put_lane w.lanes at (w.lanes at ++ m ∷ []) (lane a b 0)) ≡ contents a (w.lanes (lane a b 0)) ++ contents a out =
      ap (contents a) (post_step w.lanes at (lane a b 0) m) ∙ contents_append a (w.lanes (lane a b 0)) out in
      ap (λ (z : ℕ → List Msg). from_a a (z 0) ++ (contents a (put_lane w.lanes at (w.lanes at ++ m ∷ []) (lane a b 0)) ++ system_to a b (put w.controllers c s a).outbox)) first
      ∙ post_parts (from_a a ((w.controllers b).pending 0)) (contents a (w.lanes (lane a b 0))) (contents a (put_lane w.lanes at (w.lanes at ++ m ∷ []) (lane a b 0)))
      (system_to a b (w.controllers a).outbox) (system_to a b (put w.controllers c s a).outbox) (contents a out) middle last

  -- what a turn takes out stood at the front of the pending list
  turned_pending : (a b c : ℕ) (states : ℕ → State (Body M)) (s : State (Body M)) (k : Taken) (back : List Msg)
      → next_of (states c).pending ≡ Some k → NotSystem back → s.pending ≡ put_back back (put (states c).pending k.priority k.rest)
      → (if b == c then taken_from a (next_of (states b).pending) else []) ++ from_a a ((put states c s b).pending 0) ≡ from_a a ((states b).pending 0)
  unfolding put put_back
  turned_pending a b c states s k back front none pending = go (b == c) refl
    where
      none_back : (at : ℕ → List Msg) → put_back back at 0 ≡ at 0
      none_back at = ap (λ (z : List Msg). z ++ at 0) (filter_none (λ (m : Msg). m.prio.0 == 0) back none)

      taken : (x : Bool) → (0 == k.priority) ≡ x
          → (if x then from_a a (k.message ∷ []) else []) ++ from_a a (if x then k.rest else (states c).pending 0) ≡ from_a a ((states c).pending 0)
      taken true e =
          sym (from_append a (k.message ∷ []) k.rest)
          ∙ ap (from_a a) (sym (next_front (states c).pending k front))
          ∙ ap (λ n. from_a a ((states c).pending n)) (sym (eqb-true 0 k.priority e))
      taken false e = refl

      here : taken_from a (next_of (states c).pending) ++ from_a a (s.pending 0) ≡ from_a a ((states c).pending 0)
      here =
          ap (λ (o : Option Taken). taken_from a o ++ from_a a (s.pending 0)) front
          ∙ ap (λ (z : ℕ → List Msg). taken_from a (Some k) ++ from_a a (z 0)) pending
          ∙ ap (λ (z : List Msg). taken_from a (Some k) ++ from_a a z) (none_back (put (states c).pending k.priority k.rest))
          ∙ taken (0 == k.priority) refl

      go : (x : Bool) → (b == c) ≡ x
          → (if x then taken_from a (next_of (states b).pending) else []) ++ from_a a ((if x then s else states b).pending 0) ≡ from_a a ((states b).pending 0)
      go true e =
          subst (λ n. taken_from a (next_of (states n).pending) ++ from_a a (s.pending 0) ≡ from_a a ((states n).pending 0)) (sym (eqb-true b c e)) here
      go false e = refl

  turned_box : (a b c : ℕ) (states : ℕ → State (Body M)) (s : State (Body M)) → (states c).outbox ≡ []
      → system_to a b (put states c s a).outbox ≡ system_to a b (states a).outbox ++ (if a == c then system_to a b (put states c s a).outbox else [])
  unfolding put
  turned_box a b c states s h = go (a == c) refl
    where
      go : (x : Bool) → (a == c) ≡ x
          → system_to a b (if x then s else states a).outbox ≡ system_to a b (states a).outbox ++ (if x then system_to a b (if x then s else states a).outbox else [])
      go true e =
          ap (λ (z : List Msg). z ++ system_to a b s.outbox) (sym (ap (λ n. system_to a b (states n).outbox) (eqb-true a c e) ∙ ap (system_to a b) h ∙ system_none a b))
      go false e = sym (append-nil (system_to a b (states a).outbox))

  turn_moves : (clear : IsOpen model) (w : World (Body M)) (c : ℕ) (s : State (Body M)) (k : Taken) → IsSorted (w.controllers c)
      → (w.controllers c).outbox ≡ [] → next_of (w.controllers c).pending ≡ Some k → s ≡ (turned (w.controllers c) k (treat model t c (w.controllers c).body k.message)).0
      → (a b : ℕ)
      → (if b == c then taken_from a (next_of (w.controllers b).pending) else []) ++ trail (record w { controllers = put w.controllers c s }) a b
      ≡ trail w a b ++ (if a == c then system_to a b (put w.controllers c s a).outbox else [])
  turn_moves clear w c s k sorted box front same a b =
      let r : Treated (Body M) = treat model t c (w.controllers c).body k.message in
      let z : TurnSays t c (w.controllers c).body k.message r = treat_says model clear t c (w.controllers c).body k.message sorted.deferred in
      parts_move (if b == c then taken_from a (next_of (w.controllers b).pending) else []) (from_a a ((w.controllers b).pending 0)) (from_a a ((put w.controllers c s b).pending 0))
      (contents a (w.lanes (lane a b 0))) (contents a (w.lanes (lane a b 0))) (system_to a b (w.controllers a).outbox) (system_to a b (put w.controllers c s a).outbox)
      (if a == c then system_to a b (put w.controllers c s a).outbox else [])
      (turned_pending a b c w.controllers s k r.back front z.says.back (ap (λ (q : State (Body M)). q.pending) same)) refl
      (turned_box a b c w.controllers s box)

  -- each event of a controller: what leaves a trail and then stands is what stood and then comes
  pub controller_moves : (clear : IsOpen model) (w : World (Body M)) (c : ℕ) (e : Entry) (s : State (Body M)) → IsSorted (w.controllers c)
      → controller_does (plant_of model t lines) w c (event_of e) ≡ Some (s, e)
      → (a b : ℕ) → leaves w c e a b ++ trail (world_after w c e s) a b ≡ trail w a b ++ comes (world_after w c e s) c e a b
  unfolding turn
  controller_moves clear w c (entry.Start who state ns) s sorted h a b = absurd cc
  controller_moves clear w c (entry.Fetch stamp m) s sorted h a b = fetch_moves w c stamp m s h a b ∙ sym (append-nil (trail w a b))
  controller_moves clear w c (entry.Post stamp m) s sorted h a b = post_moves w c stamp m s h a b ∙ sym (append-nil (trail w a b))
  controller_moves clear w c (entry.Turn stamp from sent what ns) s sorted h a b =
      let r = turn_from c (w.controllers c) s (entry.Turn stamp from sent what ns) (w.controllers c).outbox (next_of (w.controllers c).pending) h in
      turn_moves clear w c s r.0 sorted r.1 r.2 (sym (ap (λ (z : State (Body M) × Entry). z.0) r.3)) a b
