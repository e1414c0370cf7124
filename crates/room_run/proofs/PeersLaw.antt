-- Where controllers agree on peers, those that a snapshot shows are each other's.
use Rattle.std.proofs.Common.{◌≡◌, ℕ, zero, suc, ◌+◌, ◌<◌, ◌==◌, ◌&&◌, Bool, true, false, List, [], ◌∷◌, map, length, refl, sym, ap, ◌∙◌, subst, Option, Some, None, option_and_then, slice_get, arith, inl, inr, ◌⊎◌, if◌then◌else◌, eq-eqb}
use Rattle.std.specs.List.{Contains, flat_map, range_with_len}
use Rattle.std.specs.Option.{option_map_or}
use Rattle.std.proofs.lemmas.Bool.{and_from, and_parts}
use Rattle.std.proofs.lemmas.List.Elements.{Contains-append_cases, Contains-append_left, Contains-append_right}
use Rattle.std.proofs.lemmas.List.FromFn.{get_or-range_with_len, length-range_with_len}
use Rattle.std.proofs.lemmas.Option.{slice_get_within}
use Rattle.room_kinds.specs.declared.numbers.Endpoint.{Endpoint}
use Rattle.room_kinds.specs.declared.numbers.Incarnation.{Incarnation}
use Rattle.room_wiring.specs.Places.{port_count}
use Rattle.room_wiring.specs.Slots.{class_of, port_at}
use Rattle.room_wiring.specs.declared.names.ClassNames.{ClassNames}
use Rattle.room_wiring.specs.declared.names.PortNames.{PortNames}
use Rattle.room_wiring.specs.declared.tables.Tables.{Tables}
use Rattle.inject_reader.specs.Fitting.{has_end_places}
use Rattle.actor_duties.specs.Commands.{all_places}
use Rattle.actor_duties.specs.Lives.{is_live, last_of}
use Rattle.actor_duties.specs.Peers.{peer}
use Rattle.actor_duties.specs.State.{Lives}
use Rattle.actor_duties.specs.Words.{endpoint, is_own, owner_of, ports_of, slots_of, whose}
use Rattle.actor_merge.specs.World.{World}
use Rattle.actor_world.specs.Agreed.{PeersAgree, lives_in, peer_in}
use Rattle.actor_world.specs.Body.{Body}
use Rattle.actor_world.proofs.TrueTurns.{own_owner}
use Rattle.room_show.specs.declared.snapshot.ActorView.{ActorView}
use Rattle.room_show.specs.declared.snapshot.ControllerView.{ControllerView}
use Rattle.room_show.specs.declared.snapshot.PeerView.{PeerView}
use Rattle.room_show.specs.declared.snapshot.Snapshot.{Snapshot}
use Rattle.room_verify.specs.Shown.{Observer, actor_seen, controller_seen, is_end_port, living, peer_seen, peers_seen, port_seen, shown, slot_seen}
use Rattle.room_run.specs.ShownPeers.{ArePeersMutual, IsEndPlace, ShowsActor, ShowsPeer}

-- ---- lists

in_map : {A B : Type 0} (f : A → B) (xs : List A) (y : B) → Contains (map f xs) y → (x : A) × (f x ≡ y)
in_map f [] y (k, low, is) = absurd (omega (arith, low))
in_map f (x ∷ xs) y (zero, low, is) = (x, is)
in_map f (x ∷ xs) y (suc k, low, is) = in_map f xs y (k, omega (arith, low), is)

in_flat : {A B : Type 0} (f : A → List B) (xs : List A) (y : B) → Contains (flat_map f xs) y → (x : A) × Contains (f x) y
in_flat f [] y (k, low, is) = absurd (omega (arith, low))
in_flat {A} {B} f (x ∷ xs) y there = go (Contains-append_cases (f x) (flat_map f xs) y there) (in_flat f xs y)
  where
    go : Contains (f x) y ⊎ Contains (flat_map f xs) y → (Contains (flat_map f xs) y → (z : A) × Contains (f z) y) → (z : A) × Contains (f z) y
    go (inl here) more = (x, here)
    go (inr later) more = more later

the_one : {A : Type 0} (x y : A) → Contains (x ∷ []) y → x ≡ y
the_one x y (zero, low, is) = is
the_one x y (suc k, low, is) = absurd (omega (arith, low))

in_some : {A B : Type 0} (f : A → B) (o : Option A) (y : B) → Contains (option_map_or (λ (x : A). f x ∷ []) o []) y → (x : A) × (o ≡ Some x) × (f x ≡ y)
in_some f None y (k, low, is) = absurd (omega (arith, low))
in_some f (Some x) y there = (x, refl, the_one (f x) y there)

in_where : {A : Type 0} (test : Bool) (xs : List A) (y : A) → Contains (if test then xs else []) y → Contains xs y
in_where true xs y there = there
in_where false xs y (k, low, is) = absurd (omega (arith, low))

-- and what is there stays there
keep_flat : {A B : Type 0} (f : A → List B) (xs : List A) (x : A) (y : B) → Contains xs x → Contains (f x) y → Contains (flat_map f xs) y
keep_flat f [] x y (k, low, is) there = absurd (omega (arith, low))
keep_flat {A} {B} f (z ∷ xs) x y (zero, low, is) there =
    Contains-append_left (f z) (flat_map f xs) y (subst (λ (v : A). Contains (f v) y) (sym is) there)
keep_flat f (z ∷ xs) x y (suc k, low, is) there =
    Contains-append_right (f z) (flat_map f xs) y (keep_flat f xs x y (k, omega (arith, low), is) there)

keep_some : {A B : Type 0} (f : A → B) (o : Option A) (x : A) → o ≡ Some x → Contains (option_map_or (λ (z : A). f z ∷ []) o []) (f x)
keep_some {A} {B} f o x e = subst (λ (p : Option A). Contains (option_map_or (λ (z : A). f z ∷ []) p []) (f x)) (sym e) (0, omega arith, refl)

keep_where : {A : Type 0} (test : Bool) (xs : List A) (y : A) → test ≡ true → Contains xs y → Contains (if test then xs else []) y
keep_where {A} test xs y e there = subst (λ (b : Bool). Contains (if b then xs else []) y) (sym e) there

number_there : (n k : ℕ) → k < n → Contains (range_with_len 0 n) k
number_there n k low =
    let long = length-range_with_len 0 n in
    let z : 0 + k ≡ k = omega arith in
    (k, omega (arith, low, long), get_or-range_with_len 0 n k k low ∙ z)

-- a port with end places is one of its slot
port_within : (xs : List PortNames) (p : ℕ) (o : Option PortNames) → slice_get xs p ≡ o → option_map_or (λ (x : PortNames). has_end_places x.kind) o false ≡ true → p < length xs
port_within xs p None e h = absurd cc
port_within xs p (Some x) e h = slice_get_within xs p x e

port_below : (t : Tables) (s p : ℕ) → is_end_port t s p ≡ true → p < port_count t s
unfolding is_end_port port_at port_count
port_below t s p h = go (class_of t s) h
  where
    go : (o : Option ClassNames) → option_map_or (λ (x : PortNames). has_end_places x.kind) (option_and_then (λ (c : ClassNames). slice_get c.ports p) o) false ≡ true
        → p < option_map_or (λ (c : ClassNames). length c.ports) o 0
    go None k = absurd cc
    go (Some c) k = port_within c.ports p (slice_get c.ports p) refl k

-- ---- what is shown

-- who lives in a slot of a controller is its last one
living_is : (t : Tables) (me : ℕ) (l : Lives) (s : ℕ) (x : Incarnation) → living t me l s ≡ Some x → (is_own t me s ≡ true) × (l.lives s ≡ true) × (x ≡ last_of l s)
living_is t me l s x h = go (is_own t me s && l.lives s) refl h
  where
    go : (b : Bool) → (is_own t me s && l.lives s) ≡ b → (if b then Some (last_of l s) else None) ≡ Some x
        → (is_own t me s ≡ true) × (l.lives s ≡ true) × (x ≡ last_of l s)
    go true e k = let parts = and_parts (is_own t me s) (l.lives s) e in (parts.0, parts.1, cc)
    go false e k = absurd cc

last_lives : (l : Lives) (s : ℕ) → l.lives s ≡ true → is_live l (last_of l s) ≡ true
last_lives l s h = and_from (l.lives s) (l.generation s == l.generation s) h (eq-eqb (l.generation s) (l.generation s) refl)

module _ {M : Type 0} (o : Observer M) (t : Tables) (w : World (Body M)) (at : ℕ) where
  -- an actor that is shown lives at its owner, and is shown as that one sees it
  record SeenAt (x : Incarnation) (view : ActorView) : Type 0 where
    owner : ℕ
    owns : owner_of t x.slot.0 ≡ owner
    lives : is_live (w.controllers owner).body.frame.lives x ≡ true
    is : view ≡ actor_seen o t owner (w.controllers owner).body x

  seen_there : (c s : ℕ) (view : ActorView) → Contains (slot_seen o t c (w.controllers c).body s) view → (x : Incarnation) × SeenAt x view
  seen_there c s view there =
      let l : Lives = (w.controllers c).body.frame.lives in
      let one = in_some (actor_seen o t c (w.controllers c).body) (living t c l s) view there in
      let lives = living_is t c l s one.0 one.1 in (
        one.0,
        record {
          owner = c;
          owns = ap (λ (x : Incarnation). owner_of t x.slot.0) lives.2 ∙ own_owner t c s lives.0;
          lives = subst (λ (x : Incarnation). is_live l x ≡ true) (sym lives.2) (last_lives l s lives.1);
          is = sym one.2;
        },
      )

  among : (c : ℕ) (view : ActorView) → Contains (controller_seen o t c (w.controllers c)).actors view → (x : Incarnation) × SeenAt x view
  unfolding controller_seen
  among c view there =
      let slot = in_flat (slot_seen o t c (w.controllers c).body) (slots_of t) view there in
      seen_there c slot.0 view slot.1

  actor_of : (x : Incarnation) (h : ShowsActor (shown o t w at) x) → (y : Incarnation) × SeenAt y h.view
  unfolding shown
  actor_of x h =
      let at_controller = in_map (λ (c : ℕ). controller_seen o t c (w.controllers c)) (range_with_len 0 _) h.controller h.there in
      among at_controller.0 h.view (subst (λ (c : ControllerView). Contains c.actors h.view) (sym at_controller.1) h.among)

  who_is : (c : ℕ) (x : Incarnation) → (actor_seen o t c (w.controllers c).body x).who ≡ x
  unfolding actor_seen
  who_is c x = refl

  peers_are : (c : ℕ) (x : Incarnation) → (actor_seen o t c (w.controllers c).body x).peers ≡ peers_seen t c (w.controllers c).body x
  unfolding actor_seen
  peers_are c x = refl

  actor_is : (x : Incarnation) (h : ShowsActor (shown o t w at) x) → SeenAt x h.view
  actor_is x h =
      let seen = actor_of x h in
      let same : seen.0 ≡ x = sym (who_is seen.1.owner seen.0) ∙ ap (λ (v : ActorView). v.who) (sym seen.1.is) ∙ h.who in
      subst (λ (z : Incarnation). SeenAt z h.view) same seen.1

  -- a peer that is shown is one
  at_place : (c : ℕ) (x : Incarnation) (p k : ℕ) (v : PeerView) → Contains (peer_seen t c (w.controllers c).body x p k) v
      → peer t c (w.controllers c).body.frame (w.controllers c).body.links (endpoint x.slot.0 x.generation.0 v.port v.place) ≡ Some v.peer
  at_place c x p k v there =
      let b : Body M = (w.controllers c).body in
      let one = in_some (λ (e : Endpoint). record { port = p; place = k; peer = e }) (peer t c b.frame b.links (endpoint x.slot.0 x.generation.0 p k)) v there in
      subst (λ (z : PeerView). peer t c b.frame b.links (endpoint x.slot.0 x.generation.0 z.port z.place) ≡ Some z.peer) one.2 one.1

  at_port : (c : ℕ) (x : Incarnation) (p : ℕ) (v : PeerView) → Contains (port_seen t c (w.controllers c).body x p) v
      → peer t c (w.controllers c).body.frame (w.controllers c).body.links (endpoint x.slot.0 x.generation.0 v.port v.place) ≡ Some v.peer
  unfolding port_seen
  at_port c x p v there =
      let b : Body M = (w.controllers c).body in
      let places = all_places t b.links x.slot.0 p in
      let place = in_flat (peer_seen t c b x p) places v (in_where (is_end_port t x.slot.0 p) (flat_map (peer_seen t c b x p) places) v there) in
      at_place c x p place.0 v place.1

  at_actor : (c : ℕ) (x : Incarnation) (v : PeerView) → Contains (peers_seen t c (w.controllers c).body x) v
      → peer t c (w.controllers c).body.frame (w.controllers c).body.links (endpoint x.slot.0 x.generation.0 v.port v.place) ≡ Some v.peer
  unfolding peers_seen
  at_actor c x v there =
      let port = in_flat (port_seen t c (w.controllers c).body x) (ports_of t x.slot.0) v there in
      at_port c x port.0 v port.1

  leads_to : (a b : Endpoint) → ShowsPeer (shown o t w at) a b → (lives_in t w (whose a) ≡ true) × (peer_in t w a ≡ Some b)
  leads_to a b h =
      let seen : SeenAt (whose a) h.actor.view = actor_is (whose a) h.actor in
      let view : PeerView = record { port = a.port; place = a.place; peer = b } in
      let there : Contains (peers_seen t seen.owner (w.controllers seen.owner).body (whose a)) view =
      subst (λ (vs : List PeerView). Contains vs view) (peers_are seen.owner (whose a))
      (subst (λ (v : ActorView). Contains v.peers view) seen.is h.leads) in (
        subst (λ (c : ℕ). is_live (w.controllers c).body.frame.lives (whose a) ≡ true) (sym seen.owns) seen.lives,
        subst (λ (c : ℕ). peer t c (w.controllers c).body.frame (w.controllers c).body.links a ≡ Some b) (sym seen.owns)
            (at_actor seen.owner (whose a) view there),
      )

  -- a peer of an end place is shown
  view_there : (c : ℕ) (x : Incarnation) (p k : ℕ) (e : Endpoint) → is_end_port t x.slot.0 p ≡ true → Contains (all_places t (w.controllers c).body.links x.slot.0 p) k
      → peer t c (w.controllers c).body.frame (w.controllers c).body.links (endpoint x.slot.0 x.generation.0 p k) ≡ Some e
      → Contains (peers_seen t c (w.controllers c).body x) (record { port = p; place = k; peer = e })
  unfolding peers_seen port_seen
  view_there c x p k e port place is =
      let b : Body M = (w.controllers c).body in
      let view : PeerView = record { port = p; place = k; peer = e } in
      let places = all_places t b.links x.slot.0 p in
      let here = keep_some (λ (z : Endpoint). record { port = p; place = k; peer = z }) (peer t c b.frame b.links (endpoint x.slot.0 x.generation.0 p k)) e is in
      keep_flat (port_seen t c b x) (ports_of t x.slot.0) p view (number_there (port_count t x.slot.0) p (port_below t x.slot.0 p port))
      (keep_where (is_end_port t x.slot.0 p) (flat_map (peer_seen t c b x p) places) view port (keep_flat (peer_seen t c b x p) places k view place here))

  leads_back : PeersAgree t w → (a b : Endpoint) → ShowsPeer (shown o t w at) a b → ShowsActor (shown o t w at) (whose b) → IsEndPlace t w b → ShowsPeer (shown o t w at) b a
  leads_back agree a b near actor there =
      let one = leads_to a b near in
      let seen : SeenAt (whose b) actor.view = actor_is (whose b) actor in
      let owner : ℕ = seen.owner in
      let lives = subst (λ (c : ℕ). is_live (w.controllers c).body.frame.lives (whose b) ≡ true) (sym seen.owns) seen.lives in
      let known = subst (λ (c : ℕ). peer t c (w.controllers c).body.frame (w.controllers c).body.links b ≡ Some a) seen.owns (agree a b one.0 lives one.1) in
      let place = subst (λ (c : ℕ). Contains (all_places t (w.controllers c).body.links b.slot.0 b.port) b.place) seen.owns there.place in
      let view : PeerView = record { port = b.port; place = b.place; peer = a } in
      record {
        actor = actor;
        leads =
            subst (λ (v : ActorView). Contains v.peers view) (sym seen.is)
            (subst (λ (vs : List PeerView). Contains vs view) (sym (peers_are owner (whose b))) (view_there owner (whose b) b.port b.place a there.port place known));
      }

  nowhere_else : PeersAgree t w → (a b c : Endpoint) → ShowsPeer (shown o t w at) a b → ShowsPeer (shown o t w at) b c → c ≡ a
  nowhere_else agree a b c h k =
      let near = leads_to a b h in
      let far = leads_to b c k in
      let both : Some c ≡ Some a = sym far.1 ∙ agree a b near.0 far.0 near.1 in cc

  pub peers_mutual : PeersAgree t w → ArePeersMutual t w (shown o t w at)
  peers_mutual agree = record { back = leads_back agree; nowhere_else = nowhere_else agree }
