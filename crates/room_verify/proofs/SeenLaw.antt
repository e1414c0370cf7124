-- What is seen of worlds that are alike: two behaviours that do the same, and whose machines show the same, show the same
-- snapshots.
use Rattle.std.proofs.Common.{◌≡◌, ℕ, List, [], ◌∷◌, ◌++◌, map, length, Option, Some, None, refl, ap, ◌∙◌}
use Rattle.std.specs.Option.{option_map_or}
use Rattle.std.specs.List.{flat_map, range_with_len}
use Rattle.room_kinds.specs.declared.numbers.Incarnation.{Incarnation}
use Rattle.room_wiring.specs.declared.tables.Tables.{Tables}
use Rattle.journal.specs.declared.entry.Journals.{Journals}
use Rattle.inject_reader.specs.declared.inject_lines.accepted.Line.{Line as InjectedLine}
use Rattle.actor_merge.specs.World.{World}
use Rattle.actor_merge.specs.Parties.{State}
use Rattle.actor_duties.specs.Words.{slots_of}
use Rattle.actor_world.specs.Behaviour.{Behaviour}
use Rattle.actor_world.specs.Body.{Body}
use Rattle.actor_world.specs.Journals.{Item}
use Rattle.chart_model.specs.Chart.{Chart}
use Rattle.chart_behaviour.specs.ModelCharts.{behaviour_of}
use Rattle.chart_behaviour.specs.ModelCharts as tables
use Rattle.controller_actors.specs.Plants.{model_of}
use Rattle.controller_actors.specs.Seen.{attributes_of}
use Rattle.controller_actors.specs.declared.plant.Plant.{Plant}
use Rattle.law_charts.specs.Alike.{DoAlike}
use Rattle.law_charts.specs.Charts.{Actor, ShowCharts, behaviour_by_charts}
use Rattle.law_charts.proofs.ChartsAlike.{AreNamed, no_actor, an_actor, charts_alike}
use Rattle.law_charts.proofs.Doings.{Both, neither, both, Like, Core, body_of}
use Rattle.law_charts.proofs.Events.{Rest, rest_of, state_of, StateAlike}
use Rattle.model_run.specs.part_posts.Items.{items_of}
use Rattle.room_show.specs.Text.{no_state}
use Rattle.room_show.specs.declared.snapshot.ActorView.{ActorView}
use Rattle.room_show.specs.declared.snapshot.ControllerView.{ControllerView}
use Rattle.room_show.specs.declared.snapshot.Snapshot.{Snapshot}
use Rattle.room_verify.specs.Shown.{Observer, peers_seen, port_seen, living, actor_seen, slot_seen, controller_seen, shown, IsShown}
use Rattle.room_verify.specs.Showing.{actors_observer, charts_observer}
use Rattle.room_verify.proofs.ChartsLaw.{reaches_alike}

flat_same : {X Y : Type 0} (f g : X → List Y) → ((x : X) → f x ≡ g x) → (xs : List X) → flat_map f xs ≡ flat_map g xs
flat_same f g h [] = refl
flat_same {X} {Y} f g h (x ∷ xs) = ap (λ (z : List Y). z ++ flat_map f xs) (h x) ∙ ap (λ (z : List Y). g x ++ z) (flat_same f g h xs)

map_same : {X Y : Type 0} (f g : X → Y) → ((x : X) → f x ≡ g x) → (xs : List X) → map f xs ≡ map g xs
map_same f g h [] = refl
map_same {X} {Y} f g h (x ∷ xs) = ap (λ (z : Y). z ∷ map f xs) (h x) ∙ ap (λ (z : List Y). g x ∷ z) (map_same f g h xs)

-- machines that are related show the same
pub record ShowAlike {M N : Type 0} (R : ℕ → M → N → Type 0) (o : Observer M) (p : Observer N) : Type 0 where
  pub state : (slot : ℕ) (a : M) (b : N) → R slot a b → o.state a ≡ p.state b
  pub attributes : (slot : ℕ) (a : M) (b : N) → R slot a b → o.attributes a ≡ p.attributes b

both_show : {A B C : Type 0} (R : A → B → Type 0) (f : A → C) (g : B → C) (d : C) → ((a : A) (b : B) → R a b → f a ≡ g b)
    → (a : Option A) (b : Option B) → Both R a b → option_map_or f a d ≡ option_map_or g b d
both_show R f g d h a b neither = refl
both_show R f g d h a b (both {x} {y} r) = h x y r

module _ {M N : Type 0} (R : ℕ → M → N → Type 0) (o : Observer M) (p : Observer N) (same : ShowAlike R o p) (t : Tables) where
  -- peers don't look at machines
  peers_same : (me : ℕ) (k : Core) (f : ℕ → Option M) (g : ℕ → Option N) (x : Incarnation) → peers_seen t me (body_of k f) x ≡ peers_seen t me (body_of k g) x
  unfolding peers_seen port_seen
  peers_same me k f g x = refl

  actor_same : (me : ℕ) (k : Core) (f : ℕ → Option M) (g : ℕ → Option N) → Like R f g → (x : Incarnation)
      → actor_seen o t me (body_of k f) x ≡ actor_seen p t me (body_of k g) x
  unfolding actor_seen
  actor_same me k f g like x =
      let state : option_map_or o.state (f x.slot.0) no_state ≡ option_map_or p.state (g x.slot.0) no_state =
      both_show (R x.slot.0) o.state p.state no_state (same.state x.slot.0) (f x.slot.0) (g x.slot.0) (like x.slot.0) in
      let attributes : option_map_or o.attributes (f x.slot.0) [] ≡ option_map_or p.attributes (g x.slot.0) [] =
      both_show (R x.slot.0) o.attributes p.attributes [] (same.attributes x.slot.0) (f x.slot.0) (g x.slot.0) (like x.slot.0) in
      let peers = peers_same me k f g x in
      λ i. record { who = x; state = state i; attributes = attributes i; deferred = k.deferred x.slot.0; peers = peers i }

  slot_same : (me : ℕ) (k : Core) (f : ℕ → Option M) (g : ℕ → Option N) → Like R f g → (s : ℕ)
      → slot_seen o t me (body_of k f) s ≡ slot_seen p t me (body_of k g) s
  slot_same me k f g like s = go (living t me k.frame.lives s)
    where
      go : (l : Option Incarnation) → option_map_or (λ (x : Incarnation). actor_seen o t me (body_of k f) x ∷ []) l []
          ≡ option_map_or (λ (x : Incarnation). actor_seen p t me (body_of k g) x ∷ []) l []
      go None = refl
      go (Some x) = ap (λ (z : ActorView). z ∷ []) (actor_same me k f g like x)

  state_same : (me : ℕ) (r : Rest) (f : ℕ → Option M) (g : ℕ → Option N) → Like R f g
      → controller_seen o t me (state_of r f) ≡ controller_seen p t me (state_of r g)
  unfolding controller_seen
  state_same me r f g like =
      let actors = flat_same (slot_seen o t me (body_of r.core f)) (slot_seen p t me (body_of r.core g)) (slot_same me r.core f g like) (slots_of t) in
      ap (λ (z : List ActorView). record (controller_seen o t me (state_of r f)) { actors = z }) actors

  controller_same : (me : ℕ) (s : State (Body M)) (u : State (Body N)) → StateAlike R s u → controller_seen o t me s ≡ controller_seen p t me u
  controller_same me s u h =
      state_same me (rest_of s) s.body.machines u.body.machines h.machines
      ∙ ap (λ (r : Rest). controller_seen p t me (state_of r u.body.machines)) h.rest

  pub shown_same : (w : World (Body M)) (v : World (Body N)) (at : ℕ) → ((c : ℕ) → StateAlike R (w.controllers c) (v.controllers c)) → shown o t w at ≡ shown p t v at
  unfolding shown
  shown_same w v at h =
      ap (λ (z : List ControllerView). record { at = at; controllers = z })
      (map_same (λ (c : ℕ). controller_seen o t c (w.controllers c)) (λ (c : ℕ). controller_seen p t c (v.controllers c))
      (λ c. controller_same c (w.controllers c) (v.controllers c) (h c)) (range_with_len 0 (length t.controllers)))

-- what is shown by one behaviour is shown by the other
shown_alike : {M N : Type 0} (R : ℕ → M → N → Type 0) (one : Behaviour M) (other : Behaviour N) (alike : DoAlike R one other) (o : Observer M) (p : Observer N)
    → ShowAlike R o p → (t : Tables) (items : List Item) (j : Journals) (at : ℕ) (snapshot : Snapshot)
    → IsShown one t items j at o snapshot → IsShown other t items j at p snapshot
shown_alike R one other alike o p same t items j at snapshot h =
    let a = reaches_alike R one other alike t items 0 j h.front h.behind h.w h.reaches in
    record {
      front = h.front;
      behind = h.behind;
      w = a.v;
      reaches = a.reaches;
      low = h.low;
      high = h.high;
      is = h.is ∙ shown_same R o p same t h.w a.v at a.are.controllers;
    }

-- actors by tables and by the charts that they show have the same attributes
same_attributes : (plant : Plant) (charts : List (Option Chart)) (slot : ℕ) (a : tables.Actor) (b : Actor) → AreNamed plant.wiring plant.tables.items charts slot a b
    → attributes_of a ≡ charts_observer.attributes b
same_attributes plant charts slot a b no_actor = refl
same_attributes plant charts slot a b (an_actor v chart k vo co same stands) = stands.vars

pub shown_by_charts : (plant : Plant) (charts : List (Option Chart)) (lines : List InjectedLine) (j : Journals) (at : ℕ) (snapshot : Snapshot) → ShowCharts plant.tables.items charts
    → IsShown (model_of plant) plant.wiring (items_of plant.wiring lines) j at actors_observer snapshot
    → IsShown (behaviour_by_charts plant.wiring charts) plant.wiring (items_of plant.wiring lines) j at charts_observer snapshot
shown_by_charts plant charts lines j at snapshot stand h =
    let alike = charts_alike plant.wiring plant.tables.items charts stand in
    shown_alike (AreNamed plant.wiring plant.tables.items charts) (behaviour_of plant.wiring plant.tables.items) (behaviour_by_charts plant.wiring charts) alike
    actors_observer charts_observer (record { state = alike.state; attributes = same_attributes plant charts })
    plant.wiring (items_of plant.wiring lines) j at snapshot h
