-- The places of a provider's links, as the name table keeps them.
-- The law `places_ascend`: the name table stays in order. A service without a provider has no
-- links; with one, all its users are linked, at places that rise in the order of the users, behind
-- the provider's static places and below its next place. So to end a provider's links in order of
-- its users is to end them in order of places.
use Rattle.std.specs.Prelude.{◌≡◌, ℕ, ◌+◌, ◌≤◌, List, [], ◌∷◌, Option, Some, None}
use Rattle.room_kinds.specs.declared.message.Msg.{Msg}
use Rattle.room_kinds.specs.declared.system.SysKind.{SysKind}
use Rattle.room_wiring.specs.declared.tables.Tables.{Tables}
use Rattle.room_wiring.specs.Places.{place_count}
use Rattle.actor_duties.specs.State.{User, Provider, Service, NameTable}
use Rattle.actor_duties.specs.Names.{table_duty}

-- users that are all linked, in order of their places, from this place on and below the next one
abbrev pub InPlaces : ℕ → ℕ → List User → Type 0
InPlaces from next [] = from ≤ next
InPlaces from next (u ∷ us) = (k : ℕ) × (u.linked ≡ Some k) × (from ≤ k) × InPlaces (k + 1) next us

-- users of whom none is linked
abbrev pub AllWait : List User → Type 0
AllWait [] = Unit {0}
AllWait (u ∷ us) = (u.linked ≡ None) × AllWait us

-- a service in order: without a provider no user is linked; with one all are, at places that rise in
-- the order of the users, behind the provider's static places and below its next place
abbrev pub IsOrderlyWith : Tables → Option Provider → List User → Type 0
IsOrderlyWith t None users = AllWait users
IsOrderlyWith t (Some p) users = InPlaces (place_count t p.at.slot.0 p.at.port) p.next users

-- the same of a service
abbrev pub IsOrderly : Tables → Service → Type 0
IsOrderly t s = IsOrderlyWith t s.provider s.users

-- the same of all services
abbrev pub AreOrderly : Tables → NameTable → Type 0
AreOrderly t [] = Unit {0}
AreOrderly t (s ∷ table) = IsOrderly t s × AreOrderly t table

-- the name table stays in order: so the order of a provider's users is that of their places
abbrev pub TableStaysOrderly : Type 0
TableStaysOrderly =
    (t : Tables) (me : ℕ) (table : NameTable) (kind : SysKind) (m : Msg)
    → AreOrderly t table → AreOrderly t (table_duty t me table kind m).now
