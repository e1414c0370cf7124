-- What is kept of service points, as lists: by slot, and within a slot by port.
use Rattle.std.specs.Prelude.{ℕ, ◌<◌, List, [], map, filter, length, slice_index_or}
use Rattle.room_kinds.specs.declared.numbers.Incarnation.{Incarnation}
use Rattle.room_kinds.specs.declared.message.Msg.{Msg}
use Rattle.room_kinds.specs.declared.system.SysKind.TheVariants as kinds
use Rattle.actor_duties.specs.Words.{updated}
use Rattle.actor_duties.specs.State as rows
use Rattle.actor_duties.specs.Messages.{system}
use Rattle.actor_duties.specs.Links.{updated_at, point_of, is_entered}
use Rattle.layer_service.specs.declared.layer_links.point.Registration.{Registration}
use Rattle.layer_service.specs.declared.layer_links.point.Registration.TheVariants as registrations

-- the registration of the rows
abbrev pub registration_of : Registration → rows.Registration
registration_of registrations.Unnamed = rows.Unnamed
registration_of registrations.Asked = rows.Asked
registration_of registrations.Registered = rows.Registered
registration_of registrations.Leaving = rows.Leaving

-- what is kept of one service point: how far it is registered, and its links in order of place
pub record PointState : Type 0 where
  pub registration : rows.Registration
  pub linked : List rows.Link

-- a point that was never named
abbrev pub unnamed : PointState
unnamed = record { registration = rows.Unnamed; linked = [] }

-- what is kept of a port; a port that isn't listed was never named
unfoldable pub point_at : List PointState → ℕ → PointState
point_at points port = slice_index_or points port unnamed

-- the points of a slot; of a slot that isn't listed none was named
unfoldable pub points_of : List (List PointState) → ℕ → List PointState
points_of slots slot = slice_index_or slots slot []

-- what is kept of a port of a slot
unfoldable pub point_in : List (List PointState) → ℕ → ℕ → PointState
point_in slots slot = point_at (points_of slots slot)

-- registrations and links by the point
unfoldable pub links_by : (ℕ → ℕ → PointState) → rows.Links
links_by point = record {
  registrations = λ slot port. (point slot port).registration;
  linked = λ slot port. (point slot port).linked;
}

-- the registrations and links that the lists show
abbrev pub links_of : List (List PointState) → rows.Links
links_of slots = links_by (point_in slots)

-- nobody is registered, and nothing is linked
abbrev pub no_links : rows.Links
no_links = record { registrations = λ slot port. rows.Unnamed; linked = λ slot port. [] }

-- the registration of a port of a slot becomes another one
abbrev pub with_registration : rows.Links → ℕ → ℕ → rows.Registration → rows.Links
with_registration l slot port next = record l { registrations = updated_at l.registrations slot port next }

-- the registrations and links of a slot go
abbrev pub cleared : rows.Links → ℕ → rows.Links
cleared l slot = record {
  registrations = updated l.registrations slot (λ port. rows.Unnamed);
  linked = updated l.linked slot (λ port. []);
}

-- a Withdraw for each of these ports of an actor that is asked for or registered
unfoldable pub withdrawals : ℕ → Incarnation → (ℕ → PointState) → List ℕ → List Msg
withdrawals me actor point ports =
    map (λ port. system me 0 kinds.Withdraw (point_of actor port) (point_of actor port) []) (filter (λ port. is_entered (point port).registration) ports)

-- a port of a slot is listed
pub record IsListed (slots : List (List PointState)) (s p : ℕ) : Type 0 where
  pub slot : s < length slots
  pub port : p < length (points_of slots s)
