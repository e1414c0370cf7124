-- Places of imported slots that are joined.
use Rattle.std.specs.Prelude.{◌≡◌, ◌≢◌, ℕ, List, Some, slice_get}
use Rattle.number_graphs.specs.declared.face_chains.FacePair.{FacePair}
use Rattle.room_wiring.specs.declared.slot.Slot.{Slot}
use Rattle.wiring_places.specs.declared.place_rules.place.Place.{Place}
use Rattle.wiring_places.specs.declared.place_rules.place.Role.{Role}
use Rattle.wiring_places.specs.declared.place_rules.place.Role.TheVariants.{End, Socket}
use Rattle.wiring_places.specs.place_rules.Partners.{owner_of}
use Rattle.wiring_joins.specs.place_joins.Joined.{IsJoined}

-- A place of one role is joined to a socket.
pub record JoinsSocket (role : Role) (places : List Place) (pairs : List FacePair) : Type 0 where
  pub i : ℕ
  pub j : ℕ
  pub place : Place
  pub socket : Place
  pub place_at : slice_get places i ≡ Some place
  pub socket_at : slice_get places j ≡ Some socket
  pub place_role : place.role ≡ role
  pub socket_role : socket.role ≡ Socket
  pub joined : IsJoined places pairs i j

-- Two sockets are joined to each other.
abbrev pub JoinsSockets : List Place → List FacePair → Type 0
JoinsSockets places pairs = JoinsSocket Socket places pairs

-- An end place is joined to a socket, and their slots have different owners.
pub record JoinsAway (slots : List Slot) (places : List Place) (pairs : List FacePair) : Type 0 where
  pub joins : JoinsSocket End places pairs
  pub away : owner_of (slice_get slots joins.place.slot) ≢ owner_of (slice_get slots joins.socket.slot)
