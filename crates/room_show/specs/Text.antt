-- The text of a snapshot: the stamp; each controller with its actors, and then its import places; and the end.
use Rattle.std.specs.Prelude.{ℕ, suc, ℤ, ◌==◌, List, [], ◌∷◌, ◌++◌, take, drop, Option, option_map, unwrap_or, if◌then◌else◌, codes}
use Rattle.std.specs.List.{flat_map}
use Rattle.room_kinds.specs.declared.message.Msg.{Msg}
use Rattle.room_wiring.specs.declared.tables.Tables.{Tables}
use Rattle.room_wiring.specs.declared.names.AttrNames.{AttrNames}
use Rattle.room_wiring.specs.declared.names.ClassNames.{ClassNames}
use Rattle.room_wiring.specs.Slots.{class_of}
use Rattle.room_outside.specs.line_text.Lines.{line}
use Rattle.room_show.specs.declared.snapshot.ActorView.{ActorView}
use Rattle.room_show.specs.declared.snapshot.ControllerView.{ControllerView}
use Rattle.room_show.specs.declared.snapshot.PeerView.{PeerView}
use Rattle.room_show.specs.declared.snapshot.PlaceView.{PlaceView}
use Rattle.room_show.specs.declared.snapshot.Snapshot.{Snapshot}
use Rattle.room_show.specs.Lines.{at_line, controller_line, actor_line, attribute_line, deferred_line, peer_line, place_line}

-- the number of the state of an actor whose class has no chart
abbrev pub no_state : ℕ
no_state = 65535

-- attributes one after another, each with as many of the numbers as it stands for
abbrev pub attribute_lines : List AttrNames → List ℤ → List ℕ
attribute_lines [] numbers = []
attribute_lines (a ∷ more) numbers =
    attribute_line a.name (take a.numbers numbers) ++ attribute_lines more (drop a.numbers numbers)

-- the attributes of the class of a slot
unfoldable pub attributes_at : Tables → ℕ → List AttrNames
attributes_at t s = unwrap_or (option_map (λ (c : ClassNames). c.attributes) (class_of t s)) []

-- an actor's attributes; none where its class has no chart
unfoldable pub attributes_text : Tables → ActorView → List ℕ
attributes_text t a = if a.state == no_state then [] else attribute_lines (attributes_at t a.who.slot.0) a.attributes

-- the messages that an actor keeps for later, oldest first
unfoldable pub deferred_text : Tables → List Msg → List ℕ
deferred_text t ms = flat_map (deferred_line t) ms

-- the peers of the actor in a slot
unfoldable pub peers_text : Tables → ℕ → List PeerView → List ℕ
peers_text t s ps = flat_map (peer_line t s) ps

-- an actor: its state, its attributes, what it keeps for later, and its peers
unfoldable pub actor_text : Tables → ActorView → List ℕ
actor_text t a =
    actor_line t a.who a.state
    ++ (attributes_text t a ++ (deferred_text t a.deferred ++ peers_text t a.who.slot.0 a.peers))

-- actors one after another
unfoldable pub actors_text : Tables → List ActorView → List ℕ
actors_text t vs = flat_map (actor_text t) vs

-- import places one after another
unfoldable pub places_text : Tables → List PlaceView → List ℕ
places_text t ps = flat_map (place_line t) ps

-- the controller of this number: its clock and turns, its actors, and its import places
unfoldable pub controller_text : Tables → ℕ → ControllerView → List ℕ
controller_text t c v = controller_line c v.clock.0 v.turns ++ (actors_text t v.actors ++ places_text t v.places)

-- the controllers from this number on
abbrev pub controllers_text : Tables → ℕ → List ControllerView → List ℕ
controllers_text t c [] = []
controllers_text t c (v ∷ more) = controller_text t c v ++ controllers_text t (suc c) more

-- the text of a snapshot, under the names of a wiring
unfoldable pub snapshot_text : Tables → Snapshot → List ℕ
snapshot_text t s = at_line s.at ++ (controllers_text t 0 s.controllers ++ line (codes "end" ∷ []))
