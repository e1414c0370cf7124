-- A run of the world, seen from one controller and from one lane.
use Rattle.std.proofs.Common.{◌≡◌, ℕ, ◌<◌, ◌==◌, nat_lt, Bool, true, false, if◌then◌else◌, List, [], ◌∷◌, ◌++◌, drop, Option, Some, None, option_map, refl, sym, ap, ◌∙◌, subst, append-nil, eqb-true, eq-eqb, ltb-true, arith, append_assoc, ◌⊎◌, inl, inr}
use Rattle.std.proofs.lemmas.Bool.{cases_eq, ne_eqb}
use Rattle.room_kinds.specs.declared.message.Msg.{Msg}
use Rattle.journal.specs.declared.entry.Entry.{Entry}
use Rattle.journal.specs.declared.entry.Entry.TheVariants as entry
use Rattle.actor_merge.specs.Mail.{Lane, lane, event_of, takes, gives}
use Rattle.actor_merge.specs.Parties.{State, Environment, Plant, put, fetch, fetch_stamp, Does, Replays}
use Rattle.actor_merge.specs.World.{World, Placed, fetch_front, controller_does, environment_does, lanes_after, controller_after, environment_after, happens, Runs}
use Rattle.actor_merge.specs.Merge.{entries_of, Projects}
use Rattle.actor_merge.proofs.Lanes.{fetch_step, post_step, put-same, put-other}
use Rattle.actor_merge.proofs.Steps.{all_taken, all_given, all_taken-of, all_given-of}

option_map_from : {A B : Type 0} (f : A → B) (o : Option A) (y : B) → option_map f o ≡ Some y → (x : A) × (o ≡ Some x) × (f x ≡ y)
option_map_from f None y h = absurd cc
option_map_from f (Some x) y h = (x, refl, cc)

-- one step, without the options
pub data Happened {B : Type 0} (plant : Plant B) (w : World B) (x : Placed) (next : World B) : Type 0 where
  controller : x.party < plant.controllers → (s : State B) → controller_does plant w x.party (event_of x.entry) ≡ Some (s, x.entry)
      → next ≡ (controller_after w x.party (event_of x.entry) (s, x.entry)).0 → Happened plant w x next
  environment : x.party ≡ plant.controllers → (v : Environment) → environment_does plant w (event_of x.entry) ≡ Some (v, x.entry)
      → next ≡ (environment_after w x.party (event_of x.entry) (v, x.entry)).0 → Happened plant w x next

lanes_run : (t rest before now g later end : List Msg) → t ++ now ≡ before ++ g → now ++ later ≡ rest ++ end → before ++ (g ++ later) ≡ (t ++ rest) ++ end
lanes_run t rest before now g later end h k =
    sym (append_assoc before g later) ∙ ap (λ (z : List Msg). z ++ later) (sym h) ∙ append_assoc t now later
    ∙ ap (λ (z : List Msg). t ++ z) k ∙ sym (append_assoc t rest end)

-- what a controller does in the world it does by itself, and a Fetch takes the lane's front
pub fetch_front_from : {B : Type 0} (s next : State B) (ms : List Msg) (e : Entry) (m : Msg) (stamp : ℕ)
    → e ≡ entry.Fetch (record { 0 = stamp }) m → fetch_front s ms ≡ Some (next, e)
    → (ms ≡ m ∷ drop 1 ms) × (fetch s m ≡ (next, e))
unfolding fetch
fetch_front_from s next [] e m stamp is h = absurd cc
fetch_front_from {B} s next (y ∷ ys) e m stamp is h =
    let r : State B × Entry = fetch s y in
    let q : State B × Entry = (next, e) in
    let same_outcome : r ≡ q = cc in
    let f : entry.Fetch (record { 0 = fetch_stamp s y }) y ≡ entry.Fetch (record { 0 = stamp }) m = ap (λ z. z.1) same_outcome ∙ is in
    let same : y ≡ m = cc in
    (ap (λ z. z ∷ ys) same, subst (λ z. fetch s z ≡ (next, e)) same same_outcome)

module _ {B : Type 0} (plant : Plant B) where
  pub happened : (w : World B) (x : Placed) (next : World B) → happens plant w x.party (event_of x.entry) ≡ Some (next, x.entry) → Happened plant w x next
  unfolding happens
  happened w x next h = go (nat_lt x.party plant.controllers) refl (x.party == plant.controllers) refl h
    where
      go : (b : Bool) → nat_lt x.party plant.controllers ≡ b → (d : Bool) → (x.party == plant.controllers) ≡ d
          → (if b then option_map (controller_after w x.party (event_of x.entry)) (controller_does plant w x.party (event_of x.entry))
          else if d then option_map (environment_after w x.party (event_of x.entry)) (environment_does plant w (event_of x.entry))
          else None) ≡ Some (next, x.entry) → Happened plant w x next
      go true e d f k =
          let m = option_map_from (controller_after w x.party (event_of x.entry)) (controller_does plant w x.party (event_of x.entry)) (next, x.entry) k in
          let same : m.0.1 ≡ x.entry = ap (λ z. z.1) m.2 in
          controller (ltb-true _ _ e) m.0.0 (m.1 ∙ ap (λ z. Some (m.0.0, z)) same)
          (sym (ap (λ z. z.0) m.2) ∙ ap (λ z. (controller_after w x.party (event_of x.entry) (m.0.0, z)).0) same)
      go false e true f k =
          let m = option_map_from (environment_after w x.party (event_of x.entry)) (environment_does plant w (event_of x.entry)) (next, x.entry) k in
          let same : m.0.1 ≡ x.entry = ap (λ z. z.1) m.2 in
          environment (eqb-true _ _ f) m.0.0 (m.1 ∙ ap (λ z. Some (m.0.0, z)) same)
          (sym (ap (λ z. z.0) m.2) ∙ ap (λ z. (environment_after w x.party (event_of x.entry) (m.0.0, z)).0) same)
      go false e false f k = absurd cc

  pub own_of : (w : World B) (c : ℕ) (e : Entry) (s : State B) → controller_does plant w c (event_of e) ≡ Some (s, e) → Does plant c (w.controllers c) e s
  own_of w c (entry.Start who state notes) s h = cc
  own_of w c (entry.Fetch stamp m) s h =
      (fetch_front_from (w.controllers c) s (w.lanes (lane m.from.0 c m.prio.0)) (entry.Fetch stamp m) m stamp.0 refl h).1
  own_of w c (entry.Turn stamp from sent did notes) s h = h
  own_of w c (entry.Post stamp m) s h = h

  lane_change : (w : World B) (c : ℕ) (e : Entry) (s : State B) → controller_does plant w c (event_of e) ≡ Some (s, e)
      → (l : Lane) → takes l c e ++ lanes_after w c (event_of e) e l ≡ w.lanes l ++ gives l c e
  lane_change w c (entry.Start who state notes) s h l = sym (append-nil (w.lanes l))
  lane_change w c (entry.Fetch stamp m) s h l =
      fetch_step w.lanes (lane m.from.0 c m.prio.0) l m _
      (fetch_front_from (w.controllers c) s (w.lanes (lane m.from.0 c m.prio.0)) (entry.Fetch stamp m) m stamp.0 refl h).0
      ∙ sym (append-nil (w.lanes l))
  lane_change w c (entry.Turn stamp from sent did notes) s h l = sym (append-nil (w.lanes l))
  lane_change w c (entry.Post stamp m) s h l = post_step w.lanes (lane c m.to.0 m.prio.0) l m

  line_change : (w : World B) (c : ℕ) (e : Entry) (v : Environment) → environment_does plant w (event_of e) ≡ Some (v, e)
      → (l : Lane) → takes l c e ++ lanes_after w c (event_of e) e l ≡ w.lanes l ++ gives l c e
  line_change w c (entry.Start who state notes) v h l = sym (append-nil (w.lanes l))
  line_change w c (entry.Fetch stamp m) v h l = absurd cc
  line_change w c (entry.Turn stamp from sent did notes) v h l = absurd cc
  line_change w c (entry.Post stamp m) v h l = post_step w.lanes (lane c m.to.0 m.prio.0) l m

  -- both together, over the run
  pub record Seen (w : World B) (xs : List Placed) (end : World B) : Type 0 where
    pub controllers : (c : ℕ) → c < plant.controllers → Replays plant c (w.controllers c) (entries_of c xs) (end.controllers c)
    pub lanes : (l : Lane) → w.lanes l ++ all_given l xs ≡ all_taken l xs ++ end.lanes l

  seen_step : (w next : World B) (x : Placed) (xs : List Placed) (end : World B) → Happened plant w x next → Seen next xs end → Seen w (x ∷ xs) end
  seen_step w next x xs end (controller below s does same) r =
      record {
        controllers = λ c h. own c h (cases_eq c x.party);
        lanes = λ l. lanes_run (takes l x.party x.entry) (all_taken l xs) (w.lanes l) (next.lanes l) (gives l x.party x.entry) (all_given l xs) (end.lanes l)
            (ap (λ z. takes l x.party x.entry ++ z.lanes l) same ∙ lane_change w x.party x.entry s does l) (r.lanes l);
      }
    where
      own : (c : ℕ) → c < plant.controllers → (c ≡ x.party) ⊎ (c ≡ x.party → ⊥) → Replays plant c (w.controllers c) (entries_of c (x ∷ xs)) (end.controllers c)
      own c h (inl e) =
          let after : next.controllers c ≡ s = ap (λ z. z.controllers c) same ∙ ap (put w.controllers x.party s) e ∙ put-same w.controllers x.party s in
          rw (eq-eqb c x.party e) (
            s,
            subst (λ k. Does plant k (w.controllers k) x.entry s) (sym e) (own_of w x.party x.entry s does),
            subst (λ z. Replays plant c z (entries_of c xs) (end.controllers c)) after (r.controllers c h),
          )
      own c h (inr n) =
          let after : next.controllers c ≡ w.controllers c = ap (λ z. z.controllers c) same ∙ put-other w.controllers x.party s c (ne_eqb c x.party n) in
          rw (ne_eqb c x.party n) (subst (λ z. Replays plant c z (entries_of c xs) (end.controllers c)) after (r.controllers c h))
  seen_step w next x xs end (environment is v does same) r =
      record {
        controllers = λ c h. rw (ne_eqb c x.party (λ e. omega arith))
            (subst (λ z. Replays plant c z (entries_of c xs) (end.controllers c)) (ap (λ z. z.controllers c) same) (r.controllers c h));
        lanes = λ l. lanes_run (takes l x.party x.entry) (all_taken l xs) (w.lanes l) (next.lanes l) (gives l x.party x.entry) (all_given l xs) (end.lanes l)
            (ap (λ z. takes l x.party x.entry ++ z.lanes l) same ∙ line_change w x.party x.entry v does l) (r.lanes l);
      }

  seen : (w : World B) (xs : List Placed) (end : World B) → Runs plant w xs end → Seen w xs end
  seen w [] end h =
      record { controllers = λ c k. ap (λ z. z.controllers c) h; lanes = λ l. append-nil (w.lanes l) ∙ ap (λ z. z.lanes l) (sym h) }
  seen w (x ∷ xs) end h = seen_step w h.0 x xs end (happened w x h.0 h.2) (seen h.0 xs end h.3)

  -- the converse law
  pub run_projects : (w : World B) (xs : List Placed) (end : World B) → Runs plant w xs end → Projects plant w xs end
  run_projects w xs end h =
      let s : Seen w xs end = seen w xs end h in
      record { controllers = s.controllers; lanes = λ l. rw (← all_taken-of, ← all_given-of) (s.lanes l) }
