-- Runs of the world, of both behaviours.
use Rattle.std.proofs.Common.{◌≡◌, ℕ, zero, suc, ◌<◌, ◌==◌, max, Bool, true, false, if◌then◌else◌, List, [], ◌∷◌, ◌++◌, drop, length, Some, None, option_map, refl, sym, ap, ◌∙◌, subst, lt-ltb, le-ltb, eq-eqb, arith}
use Rattle.room_kinds.specs.declared.message.Msg.{Msg}
use Rattle.journal.specs.declared.entry.Entry.{Entry}
use Rattle.journal.specs.declared.entry.Entry.TheVariants as entry
use Rattle.room_wiring.specs.declared.tables.Tables.{Tables}
use Rattle.actor_merge.specs.Mail.{Lane, lane, is_lane, Event, Fetch, Turn, Post, Start, event_of}
use Rattle.actor_merge.specs.Parties.{State, Environment, Line, Plant, put, turn, post, environment_post, begins}
use Rattle.actor_merge.specs.World.{World, Placed, start, IsQuiet, latest, latest_of, caught_up, put_lane, fetch_front, controller_does, environment_does, lanes_after, controller_after, environment_after, happens, IsReady, Runs}
use Rattle.actor_merge.proofs.Back.{Happened, controller, environment, happened}
use Rattle.actor_world.specs.Behaviour.{Behaviour}
use Rattle.actor_world.specs.Body.{Body}
use Rattle.actor_world.specs.Start.{plant_of}
use Rattle.law_charts.specs.Alike.{DoAlike}
use Rattle.law_charts.proofs.Events.{Rest, rest_of, state_of, StateAlike, OutcomeAlike, no_event, Follows, follows, fetch_alike, post_alike, turn_alike, first_alike}

module _ {M N : Type 0} (R : ℕ → M → N → Type 0) (one : Behaviour M) (other : Behaviour N) (alike : DoAlike R one other) (t : Tables) (lines : List Line) where
  abbrev pub plan : Plant (Body M)
  plan = plant_of one t lines

  abbrev pub plan' : Plant (Body N)
  plan' = plant_of other t lines

  -- two worlds are one but for machines
  pub record Match (w : World (Body M)) (v : World (Body N)) : Type 0 where
    pub controllers : (c : ℕ) → c < length t.controllers → rest_of (w.controllers c) ≡ rest_of (v.controllers c)
    pub environment : w.environment ≡ v.environment
    pub lanes : (l : Lane) → w.lanes l ≡ v.lanes l

  -- and machines are related
  pub record WorldAlike (w : World (Body M)) (v : World (Body N)) : Type 0 where
    pub controllers : (c : ℕ) → StateAlike R (w.controllers c) (v.controllers c)
    pub environment : w.environment ≡ v.environment
    pub lanes : (l : Lane) → w.lanes l ≡ v.lanes l

  pub match_of : (w : World (Body M)) (v : World (Body N)) → WorldAlike w v → Match w v
  match_of w v h = record { controllers = λ c below. (h.controllers c).rest; environment = h.environment; lanes = h.lanes }

  pub quiet_match : (w : World (Body M)) (v : World (Body N)) → Match w v → IsQuiet plan w → IsQuiet plan' v
  quiet_match w v h q = record {
    lanes = λ l. sym (h.lanes l) ∙ q.lanes l;
    pending = λ c p below. ap (λ (r : Rest). r.pending p) (sym (h.controllers c below)) ∙ q.pending c p below;
    outbox = λ c below. ap (λ (r : Rest). r.outbox) (sym (h.controllers c below)) ∙ q.outbox c below;
  }

  pub quiet_back : (w : World (Body M)) (v : World (Body N)) → Match w v → IsQuiet plan' v → IsQuiet plan w
  quiet_back w v h q = record {
    lanes = λ l. h.lanes l ∙ q.lanes l;
    pending = λ c p below. ap (λ (r : Rest). r.pending p) (h.controllers c below) ∙ q.pending c p below;
    outbox = λ c below. ap (λ (r : Rest). r.outbox) (h.controllers c below) ∙ q.outbox c below;
  }

  begins_same : (line : ℕ) → begins plan line ≡ begins plan' line
  unfolding begins
  begins_same line = refl

  latest_match : (n : ℕ) (f : ℕ → State (Body M)) (g : ℕ → State (Body N)) (a b : ℕ) → ((c : ℕ) → c < n → rest_of (f c) ≡ rest_of (g c)) → a ≡ b → latest f n a ≡ latest g n b
  latest_match zero f g a b h e = e
  latest_match (suc n) f g a b h e =
      ap (λ (r : Rest). max r.clock (latest f n a)) (h n (omega arith)) ∙ ap (λ (k : ℕ). max (g n).clock k) (latest_match n f g a b (λ c below. h c (omega arith)) e)

  pub latest_of_match : (w : World (Body M)) (v : World (Body N)) → Match w v → latest_of plan w ≡ latest_of plan' v
  latest_of_match w v h = latest_match (length t.controllers) w.controllers v.controllers w.environment.clock v.environment.clock h.controllers (ap (λ (e : Environment). e.clock) h.environment)

  caught_match : (w : World (Body M)) (v : World (Body N)) → Match w v → caught_up plan w ≡ caught_up plan' v
  unfolding caught_up
  caught_match w v h =
      ap (λ (b : Bool). if b then record w.environment { clock = latest_of plan w } else w.environment) (begins_same w.environment.posted)
      ∙ ap (λ (k : ℕ). if begins plan' w.environment.posted then record w.environment { clock = k } else w.environment) (latest_of_match w v h)
      ∙ ap (λ (e : Environment). if begins plan' e.posted then record e { clock = latest_of plan' v } else e) h.environment

  line_same : (e : Environment) → environment_post plan e ≡ environment_post plan' e
  unfolding environment_post
  line_same e = refl

  environment_match : (w : World (Body M)) (v : World (Body N)) → Match w v → (ev : Event) → environment_does plan w ev ≡ environment_does plan' v ev
  environment_match w v h (Fetch sender priority) = refl
  environment_match w v h Turn = refl
  environment_match w v h Post = ap (environment_post plan) (caught_match w v h) ∙ line_same (caught_up plan' v)
  environment_match w v h Start = refl

  controller_alike : (w : World (Body M)) (v : World (Body N)) → WorldAlike w v → (c : ℕ) (ev : Event) → OutcomeAlike R (controller_does plan w c ev) (controller_does plan' v c ev)
  controller_alike w v h c (Fetch sender priority) =
      let l = lane sender c priority in
      let s = w.controllers c in
      let u = v.controllers c in
      subst (λ (ms : List Msg). OutcomeAlike R (fetch_front (w.controllers c) (w.lanes (lane sender c priority))) (fetch_front (v.controllers c) ms)) (h.lanes (lane sender c priority))
      (subst (λ (r : Rest). OutcomeAlike R (fetch_front (w.controllers c) (w.lanes (lane sender c priority))) (fetch_front (state_of r (v.controllers c).body.machines) (w.lanes (lane sender c priority)))) (h.controllers c).rest
      (fetch_alike R (rest_of (w.controllers c)) (w.controllers c).body.machines (v.controllers c).body.machines (h.controllers c).machines (w.lanes (lane sender c priority))))
  controller_alike w v h c Turn =
      subst (λ (r : Rest). OutcomeAlike R (turn plan c (w.controllers c)) (turn plan' c (state_of r (v.controllers c).body.machines))) (h.controllers c).rest
      (turn_alike R one other alike t lines c (rest_of (w.controllers c)) (w.controllers c).body.machines (v.controllers c).body.machines (h.controllers c).machines)
  controller_alike w v h c Post =
      subst (λ (r : Rest). OutcomeAlike R (post c (w.controllers c)) (post c (state_of r (v.controllers c).body.machines))) (h.controllers c).rest
      (post_alike R c (rest_of (w.controllers c)) (w.controllers c).body.machines (v.controllers c).body.machines (h.controllers c).machines)
  controller_alike w v h c Start = no_event

  put_lane_match : (f g : Lane → List Msg) (at : Lane) (a b : List Msg) → ((l : Lane) → f l ≡ g l) → a ≡ b → (l : Lane) → put_lane f at a l ≡ put_lane g at b l
  unfolding put_lane
  put_lane_match f g at a b h e l = go (is_lane l at)
    where
      go : (q : Bool) → (if q then a else f l) ≡ (if q then b else g l)
      go true = e
      go false = h l

  lanes_match : (w : World (Body M)) (v : World (Body N)) → ((l : Lane) → w.lanes l ≡ v.lanes l) → (party : ℕ) (ev : Event) (e : Entry) (l : Lane)
      → lanes_after w party ev e l ≡ lanes_after v party ev e l
  lanes_match w v h party (Fetch sender priority) e l =
      put_lane_match w.lanes v.lanes (lane sender party priority) (drop 1 (w.lanes (lane sender party priority))) (drop 1 (v.lanes (lane sender party priority))) h (ap (drop 1) (h (lane sender party priority))) l
  lanes_match w v h party Turn e l = h l
  lanes_match w v h party Start e l = h l
  lanes_match w v h party Post (entry.Start who state notes) l = h l
  lanes_match w v h party Post (entry.Fetch stamp m) l = h l
  lanes_match w v h party Post (entry.Turn stamp from sent did notes) l = h l
  lanes_match w v h party Post (entry.Post stamp m) l =
      let at = lane party m.to.0 m.prio.0 in
      put_lane_match w.lanes v.lanes (lane party m.to.0 m.prio.0) (w.lanes (lane party m.to.0 m.prio.0) ++ m ∷ []) (v.lanes (lane party m.to.0 m.prio.0) ++ m ∷ []) h
      (ap (λ (z : List Msg). z ++ m ∷ []) (h (lane party m.to.0 m.prio.0))) l

  -- the world after a step, and that it may be taken
  record StepAlike (v : World (Body N)) (x : Placed) (next : World (Body M)) : Type 0 where
    after : World (Body N)
    happens_too : happens plan' v x.party (event_of x.entry) ≡ Some (after, x.entry)
    are : WorldAlike next after

  controller_happens : (v : World (Body N)) (party : ℕ) (ev : Event) (u : State (Body N)) (e : Entry) → party < length t.controllers → controller_does plan' v party ev ≡ Some (u, e)
      → happens plan' v party ev ≡ Some ((controller_after v party ev (u, e)).0, e)
  unfolding happens
  controller_happens v party ev u e below does =
      ap (λ (b : Bool). if b then option_map (controller_after v party ev) (controller_does plan' v party ev)
      else if party == length t.controllers then option_map (environment_after v party ev) (environment_does plan' v ev) else None) (lt-ltb party (length t.controllers) below)
      ∙ ap (option_map (controller_after v party ev)) does

  environment_happens : (v : World (Body N)) (party : ℕ) (ev : Event) (u : Environment) (e : Entry) → party ≡ length t.controllers → environment_does plan' v ev ≡ Some (u, e)
      → happens plan' v party ev ≡ Some ((environment_after v party ev (u, e)).0, e)
  unfolding happens
  environment_happens v party ev u e is does =
      ap (λ (b : Bool). if b then option_map (controller_after v party ev) (controller_does plan' v party ev)
      else if party == length t.controllers then option_map (environment_after v party ev) (environment_does plan' v ev) else None) (le-ltb party (length t.controllers) (omega (arith, is)))
      ∙ ap (λ (b : Bool). if b then option_map (environment_after v party ev) (environment_does plan' v ev) else None) (eq-eqb party (length t.controllers) is)
      ∙ ap (option_map (environment_after v party ev)) does

  put_alike : (f : ℕ → State (Body M)) (g : ℕ → State (Body N)) (at : ℕ) (s : State (Body M)) (u : State (Body N)) → ((c : ℕ) → StateAlike R (f c) (g c)) → StateAlike R s u
      → (c : ℕ) → StateAlike R (put f at s c) (put g at u c)
  unfolding put
  put_alike f g at s u h k c = go (c == at)
    where
      go : (b : Bool) → StateAlike R (if b then s else f c) (if b then u else g c)
      go true = k
      go false = h c

  step_alike : (w : World (Body M)) (v : World (Body N)) (x : Placed) (next : World (Body M)) → WorldAlike w v → Happened plan w x next → StepAlike v x next
  step_alike w v x next h (controller below s does same) =
      let f : Follows R s x.entry (controller_does plan' v x.party (event_of x.entry)) =
      follows R (controller_does plan w x.party (event_of x.entry)) (controller_does plan' v x.party (event_of x.entry)) s x.entry (controller_alike w v h x.party (event_of x.entry)) does in
      record {
        after = (controller_after v x.party (event_of x.entry) (f.next, x.entry)).0;
        happens_too = controller_happens v x.party (event_of x.entry) f.next x.entry below f.is;
        are = subst (λ (z : World (Body M)). WorldAlike z (controller_after v x.party (event_of x.entry) (f.next, x.entry)).0) (sym same) (record {
          controllers = put_alike w.controllers v.controllers x.party s f.next h.controllers f.alike;
          environment = h.environment;
          lanes = lanes_match w v h.lanes x.party (event_of x.entry) x.entry;
        });
      }
  step_alike w v x next h (environment is e does same) =
      let too : environment_does plan' v (event_of x.entry) ≡ Some (e, x.entry) = sym (environment_match w v (match_of w v h) (event_of x.entry)) ∙ does in
      record {
        after = (environment_after v x.party (event_of x.entry) (e, x.entry)).0;
        happens_too = environment_happens v x.party (event_of x.entry) e x.entry is too;
        are = subst (λ (z : World (Body M)). WorldAlike z (environment_after v x.party (event_of x.entry) (e, x.entry)).0) (sym same) (record {
          controllers = h.controllers;
          environment = refl;
          lanes = lanes_match w v h.lanes x.party (event_of x.entry) x.entry;
        });
      }

  ready_alike : (w : World (Body M)) (v : World (Body N)) (party : ℕ) → WorldAlike w v → IsReady plan w party → IsReady plan' v party
  ready_alike w v party h ready is b =
      quiet_match w v (match_of w v h)
      (ready is (begins_same w.environment.posted ∙ ap (λ (e : Environment). begins plan' e.posted) h.environment ∙ b))

  pub record RunAlike (v : World (Body N)) (xs : List Placed) (end : World (Body M)) : Type 0 where
    pub last : World (Body N)
    pub runs : Runs plan' v xs last
    pub are : WorldAlike end last

  pub run_alike : (xs : List Placed) (w : World (Body M)) (v : World (Body N)) (end : World (Body M)) → WorldAlike w v → Runs plan w xs end → RunAlike v xs end
  run_alike [] w v end h r = record { last = v; runs = refl; are = subst (λ (z : World (Body M)). WorldAlike z v) (sym r) h }
  run_alike (x ∷ xs) w v end h r =
      let s = step_alike w v x r.0 h (happened plan w x r.0 r.2) in
      let rest = run_alike xs r.0 s.after end s.are r.3 in
      record {
        last = rest.last;
        runs = (s.after, ready_alike w v x.party h r.1, s.happens_too, rest.runs);
        are = rest.are;
      }

  pub start_alike : WorldAlike (start plan) (start plan')
  start_alike = record { controllers = first_alike R one other alike t lines; environment = refl; lanes = λ l. refl }
