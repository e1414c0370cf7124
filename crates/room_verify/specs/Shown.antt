-- What is seen of a system at a moment of its run.
-- `shown` is the snapshot of a world: each controller with its clock, its turns, its live actors and the import places
-- of its live containers. An actor's peers are those of its end places, by the five cases of `peer`. What a machine
-- shows is left open (`Observer`), so the same is said of tables and of charts. `IsShown`: a snapshot is that of the
-- world to which the entries of the merge of journals lead whose stamps are at most this one.
use Rattle.std.specs.Prelude.{◌≡◌, ℕ, ℤ, ◌≤◌, ◌<◌, ◌&&◌, Bool, false, List, [], ◌∷◌, map, length, Option, Some, None, if◌then◌else◌}
use Rattle.std.specs.Option.{option_map_or}
use Rattle.std.specs.List.{AllByRecursion, flat_map, range_with_len}
use Rattle.room_kinds.specs.declared.numbers.Endpoint.{Endpoint}
use Rattle.room_kinds.specs.declared.numbers.Incarnation.{Incarnation}
use Rattle.room_kinds.specs.declared.place_state.PlaceState.{PlaceState}
use Rattle.room_wiring.specs.declared.tables.Tables.{Tables}
use Rattle.room_wiring.specs.declared.names.PortNames.{PortNames}
use Rattle.room_wiring.specs.Slots.{port_at}
use Rattle.journal.specs.declared.entry.Journals.{Journals}
use Rattle.actor_duties.specs.Words.{endpoint, is_own, is_imported, ports_of, slots_of}
use Rattle.actor_duties.specs.State.{Frame, Lives}
use Rattle.actor_duties.specs.Lives.{last_of}
use Rattle.actor_duties.specs.Peers.{peer}
use Rattle.actor_duties.specs.Commands.{all_places}
use Rattle.frame_service.specs.Places.{shown_place}
use Rattle.inject_reader.specs.Fitting.{has_end_places}
use Rattle.actor_merge.specs.Mail.{stamp_of}
use Rattle.actor_merge.specs.Parties.{State}
use Rattle.actor_merge.specs.World.{World, Placed}
use Rattle.actor_world.specs.Behaviour.{Behaviour}
use Rattle.actor_world.specs.Body.{Body}
use Rattle.actor_world.specs.Journals.{Item, lines_of}
use Rattle.room_show.specs.Text.{no_state}
use Rattle.room_show.specs.declared.snapshot.ActorView.{ActorView}
use Rattle.room_show.specs.declared.snapshot.ControllerView.{ControllerView}
use Rattle.room_show.specs.declared.snapshot.PeerView.{PeerView}
use Rattle.room_show.specs.declared.snapshot.PlaceView.{PlaceView}
use Rattle.room_show.specs.declared.snapshot.Snapshot.{Snapshot}
use Rattle.room_verify.specs.Steps.{Reaches}
use Rattle.room_verify.specs.Verdicts.{IsVerdict}
use Rattle.room_verify.specs.declared.verdict.Verdict.{Verdict}
use Rattle.room_verify.specs.declared.verdict.Verdict.TheVariants as verdicts

-- what a machine shows: the number of its state, and the numbers of its attributes in order of declaration
pub record Observer (M : Type 0) : Type 0 where
  pub state : M → ℕ
  pub attributes : M → List ℤ

-- ---- peers

-- whether a port of a slot has end places
unfoldable pub is_end_port : Tables → ℕ → ℕ → Bool
is_end_port t s p = option_map_or (λ (x : PortNames). has_end_places x.kind) (port_at t s p) false

-- a place of a port of an actor, with its peer, if it has one
abbrev pub peer_seen : {M : Type 0} → Tables → ℕ → Body M → Incarnation → ℕ → ℕ → List PeerView
peer_seen t me b x p k =
    option_map_or (λ (e : Endpoint). record { port = p; place = k; peer = e } ∷ [])
    (peer t me b.frame b.links (endpoint x.slot.0 x.generation.0 p k)) []

-- the peers at the places of a port of an actor, ascending
unfoldable pub port_seen : {M : Type 0} → Tables → ℕ → Body M → Incarnation → ℕ → List PeerView
port_seen t me b x p = if is_end_port t x.slot.0 p then flat_map (peer_seen t me b x p) (all_places t b.links x.slot.0 p) else []

-- all peers of an actor
unfoldable pub peers_seen : {M : Type 0} → Tables → ℕ → Body M → Incarnation → List PeerView
peers_seen t me b x = flat_map (port_seen t me b x) (ports_of t x.slot.0)

-- ---- actors and import places

-- who lives in a slot of this controller, if anybody does
abbrev pub living : Tables → ℕ → Lives → ℕ → Option Incarnation
living t me l s = if is_own t me s && l.lives s then Some (last_of l s) else None

-- a live actor
unfoldable pub actor_seen : {M : Type 0} → Observer M → Tables → ℕ → Body M → Incarnation → ActorView
actor_seen o t me b x = record {
  who = x;
  state = option_map_or o.state (b.machines x.slot.0) no_state;
  attributes = option_map_or o.attributes (b.machines x.slot.0) [];
  deferred = b.deferred x.slot.0;
  peers = peers_seen t me b x;
}

-- the actor that lives in a slot of this controller, if one does
abbrev pub slot_seen : {M : Type 0} → Observer M → Tables → ℕ → Body M → ℕ → List ActorView
slot_seen o t me b s = option_map_or (λ (x : Incarnation). actor_seen o t me b x ∷ []) (living t me b.frame.lives s) []

-- the import place of an imported slot whose container lives at this controller
abbrev pub place_seen : Tables → Frame → ℕ → List PlaceView
place_seen t f s =
    if is_imported t s then option_map_or (λ (p : PlaceState). record { slot = record { 0 = s }; state = p } ∷ []) (shown_place t f s) []
    else []

-- ---- controllers

-- a controller
unfoldable pub controller_seen : {M : Type 0} → Observer M → Tables → ℕ → State (Body M) → ControllerView
controller_seen o t me s = record {
  clock = record { 0 = s.clock };
  turns = s.turns;
  actors = flat_map (slot_seen o t me s.body) (slots_of t);
  places = flat_map (place_seen t s.body.frame) (slots_of t);
}

-- the snapshot of a world, under a stamp
unfoldable pub shown : {M : Type 0} → Observer M → Tables → World (Body M) → ℕ → Snapshot
shown {M} o t w at = record {
  at = at;
  controllers = map (λ (c : ℕ). controller_seen o t c (w.controllers c)) (range_with_len 0 (length t.controllers));
}

-- ---- up to a stamp

-- a verdict that is told before anything is shown at this stamp: of stamps that don't rise, of a wrong start, or of
-- an entry with a stamp of at most this one
abbrev pub IsEarly : ℕ → Verdict → Type 0
IsEarly at (verdicts.Order party) = Unit {0}
IsEarly at (verdicts.Start c) = Unit {0}
IsEarly at (verdicts.Entry party stamp) = stamp.0 ≤ at
IsEarly at verdicts.Left = ⊥
IsEarly at (verdicts.Fuel c) = ⊥
IsEarly at verdicts.Ended = ⊥
IsEarly at (verdicts.Prompt c stamp) = ⊥
IsEarly at verdicts.Lawful = ⊥

module _ {M : Type 0} (model : Behaviour M) (t : Tables) (items : List Item) (j : Journals) (at : ℕ) where
  -- The journals' stamps rise and they begin with their controllers' starts (`Reaches`); of their merge the entries
  -- with a stamp of at most this one happen one after another, and this is the snapshot of the world to which they
  -- lead. The entries behind are stamped later; of them nothing is said.
  pub record IsShown (o : Observer M) (snapshot : Snapshot) : Type 0 where
    pub front : List Placed
    pub behind : List Placed
    pub w : World (Body M)
    pub reaches : Reaches model t (lines_of items) j front behind w
    pub low : AllByRecursion (λ (x : Placed). stamp_of x.entry ≤ at) front
    pub high : AllByRecursion (λ (x : Placed). at < stamp_of x.entry) behind
    pub is : snapshot ≡ shown o t w at

  -- why nothing is shown at this stamp; no fuel has a part in it
  pub record IsUnshown (verdict : Verdict) : Type 0 where
    pub early : IsEarly at verdict
    pub is : (fuel : ℕ) → IsVerdict model t items fuel j verdict
