-- The name table of controller 0: where service points meet by name. A service has one name and one
-- protocol (ROOM: layer connections; services by name are this project's own).
-- A service has at most one provider, and its users in order of registration; a link takes the
-- provider's next place.
use Rattle.std.specs.Prelude.{ℕ, ℤ, pos, ◌+◌, ◌==◌, ◌&&◌, ◌||◌, Bool, false, not, is_some, List, [], ◌∷◌, ◌++◌, map, filter, Option, Some, None, if◌then◌else◌}
use Rattle.std.specs.Option.{option_map_or}
use Rattle.std.specs.List.{list_any}
use Rattle.room_kinds.specs.declared.message.Msg.{Msg}
use Rattle.room_kinds.specs.declared.numbers.Endpoint.{Endpoint}
use Rattle.room_kinds.specs.declared.system.SysKind.{SysKind}
use Rattle.room_kinds.specs.declared.system.SysKind.TheVariants as kinds
use Rattle.room_wiring.specs.declared.tables.Tables.{Tables}
use Rattle.room_wiring.specs.Places.{place_count}
use Rattle.actor_duties.specs.Words.{is_endpoint, is_sap, is_spp, protocol_of}
use Rattle.actor_duties.specs.Messages.{to_owner, coded, NameTaken, NotRegistered}
use Rattle.actor_duties.specs.State.{User, Provider, Service, NameTable, Done}

-- the same place of a service point at another number
abbrev pub at_place : Endpoint → ℕ → Endpoint
at_place e k = record e { place = k }

-- a NameReply goes to the owner of the endpoint's slot
abbrev pub name_reply_to : Tables → Endpoint → List ℤ → Msg
name_reply_to t e code = to_owner t 0 kinds.NameReply e e code

-- one message to the provider's owner, and then one to the user's; each names the other as its source
abbrev pub both_told : Tables → SysKind → Endpoint → ℕ → Endpoint → List Msg
both_told t kind provider k user =
    to_owner t 0 kind user (at_place provider k) [] ∷ to_owner t 0 kind (at_place provider k) user [] ∷ []

-- users with the provider's next place, and the messages that link them
pub record Linking : Type 0 where
  pub users : List User
  pub next : ℕ
  pub sent : List Msg

-- a user that is linked stays as it is; one that isn't takes the next place
abbrev pub linked_first : Tables → Endpoint → ℕ → User → Option ℕ → (ℕ → Linking) → Linking
linked_first t provider next u (Some k) rest =
    let r = rest next in record { users = u ∷ r.users; next = r.next; sent = r.sent }
linked_first t provider next u None rest =
    let r = rest (next + 1) in
    record { users = record u { linked = Some next } ∷ r.users; next = r.next; sent = both_told t kinds.Bound provider next u.at ++ r.sent }

-- each user that isn't linked is linked, in order of the users; a link takes the provider's next place
abbrev pub linked_users : Tables → Endpoint → List User → ℕ → Linking
linked_users t provider [] next = record { users = []; next = next; sent = [] }
linked_users t provider (u ∷ us) next = linked_first t provider next u u.linked (linked_users t provider us)

-- where a service has a provider, its users are linked
abbrev pub meet_with : Tables → Service → Option Provider → Done Service
meet_with t s None = record { now = s; sent = [] }
meet_with t s (Some p) =
    let r = linked_users t p.at s.users p.next in
    record { now = record s { provider = Some (record { at = p.at; next = r.next }); users = r.users }; sent = r.sent }

-- the same at the provider that the service has
unfoldable pub meet : Tables → Service → Done Service
meet t s = meet_with t s s.provider

-- a provider registers: where one stands, it is refused with 8 and nothing else is done; else it
-- enters, with its first place behind the static ones, and meets the users
unfoldable pub provide : Tables → ℕ → Endpoint → Service → Done Service
provide t base e s =
    if is_some s.provider then record { now = s; sent = name_reply_to t e (coded NameTaken) ∷ [] }
    else
    let r = meet t (record s { provider = Some (record { at = e; next = base }) }) in
    record { now = r.now; sent = name_reply_to t e (pos 0 ∷ []) ∷ r.sent }

-- a user registers: it enters at the end, and meets the provider if there is one
unfoldable pub use_service : Tables → Endpoint → Service → Done Service
use_service t e s =
    let r = meet t (record s { users = s.users ++ record { at = e; linked = None } ∷ [] }) in
    record { now = r.now; sent = name_reply_to t e (pos 0 ∷ []) ∷ r.sent }

-- a service without anybody
abbrev pub unmet : ℕ → ℕ → Service
unmet name protocol = record { name = name; protocol = protocol; provider = None; users = [] }

-- a step of the service of this name and protocol, which is made at the end if it isn't there
abbrev pub in_service : ℕ → ℕ → (Service → Done Service) → NameTable → Done NameTable
in_service name protocol step [] = let r = step (unmet name protocol) in record { now = r.now ∷ []; sent = r.sent }
in_service name protocol step (s ∷ rest) =
    if (s.name == name) && (s.protocol == protocol)
    then (let r = step s in record { now = r.now ∷ rest; sent = r.sent })
    else (let r = in_service name protocol step rest in record { now = s ∷ r.now; sent = r.sent })

-- a provider with so many static places registers under a name
unfoldable pub register_spp : Tables → ℕ → ℕ → ℕ → Endpoint → NameTable → Done NameTable
register_spp t name protocol base e table = in_service name protocol (provide t base e) table

-- a user registers under a name
unfoldable pub register_sap : Tables → ℕ → ℕ → Endpoint → NameTable → Done NameTable
register_sap t name protocol e table = in_service name protocol (use_service t e) table

-- whether an endpoint is the provider of a service
abbrev pub is_provider : Endpoint → Service → Bool
is_provider e s = option_map_or (λ (p : Provider). is_endpoint p.at e) s.provider false

-- whether an endpoint is this user
abbrev pub is_user : Endpoint → User → Bool
is_user e u = is_endpoint u.at e

-- a link ends: Ended to the provider's owner, and then to the user's
abbrev pub link_ended : Tables → Endpoint → User → List Msg
link_ended t provider u = option_map_or (λ k. both_told t kinds.Ended provider k u.at) u.linked []

-- all links of a provider end, in order of the users, which is the order of their places
abbrev pub links_ended : Tables → Endpoint → List User → List Msg
links_ended t provider [] = []
links_ended t provider (u ∷ us) = link_ended t provider u ++ links_ended t provider us

-- a user that waits again
abbrev pub waiting : User → User
waiting u = record u { linked = None }

-- the provider's place is taken back, and all its users wait again
abbrev pub unprovide : Tables → Endpoint → Service → Done Service
unprovide t e s = record {
  now = record s { provider = None; users = map waiting s.users };
  sent = links_ended t e s.users;
}

-- the links of this user to the provider, if there are any, end
abbrev pub user_ended : Tables → Endpoint → Option Provider → List User → List Msg
user_ended t e None users = []
user_ended t e (Some p) users = links_ended t p.at (filter (is_user e) users)

-- a user is taken back
abbrev pub unuse : Tables → Endpoint → Service → Done Service
unuse t e s = record {
  now = record s { users = filter (λ u. not (is_user e u)) s.users };
  sent = user_ended t e s.provider s.users;
}

-- an endpoint leaves the service in which it stands
abbrev pub leave : Tables → Endpoint → Service → Done Service
leave t e s = if is_provider e s then unprovide t e s else unuse t e s

-- whether an endpoint stands in a service
abbrev pub stands_in : Endpoint → Service → Bool
stands_in e s = is_provider e s || list_any (is_user e) s.users

-- an endpoint is withdrawn: its links end, and the answer is 0; 9 where it doesn't stand in the table
unfoldable pub withdraw : Tables → Endpoint → NameTable → Done NameTable
withdraw t e [] = record { now = []; sent = name_reply_to t e (coded NotRegistered) ∷ [] }
withdraw t e (s ∷ rest) =
    if stands_in e s
    then (let r = leave t e s in record { now = r.now ∷ rest; sent = r.sent ++ name_reply_to t e (pos 0 ∷ []) ∷ [] })
    else (let r = withdraw t e rest in record { now = s ∷ r.now; sent = r.sent })

-- row 12, Register: under this name, by the kind and the protocol of the endpoint's port
unfoldable pub register : Tables → Endpoint → ℕ → NameTable → Done NameTable
register t e name table =
    if is_spp t e.slot.0 e.port
    then register_spp t name (protocol_of t e.slot.0 e.port) (place_count t e.slot.0 e.port) e table
    else register_sap t name (protocol_of t e.slot.0 e.port) e table

-- place 0 of a service point, which says of itself, at controller 0
abbrev pub is_name_request : Tables → ℕ → Endpoint → Endpoint → Bool
is_name_request t me e target =
    (me == 0) && is_endpoint e target && (e.place == 0) && (is_sap t e.slot.0 e.port || is_spp t e.slot.0 e.port)

-- a table that nothing was done to
abbrev pub same_table : NameTable → Done NameTable
same_table table = record { now = table; sent = [] }

-- the duties of the kinds 12 and 13 at a message of their form
abbrev pub table_duty_of : Tables → ℕ → NameTable → SysKind → Endpoint → Endpoint → List ℤ → Done NameTable
table_duty_of t me table kinds.Register e target (pos name ∷ []) = if is_name_request t me e target then register t e name table else same_table table
table_duty_of t me table kinds.Withdraw e target [] = if is_name_request t me e target then withdraw t e table else same_table table
table_duty_of t me table _ e target _ = same_table table

-- a message without a source has the form of no row
abbrev pub table_duty_from : Tables → ℕ → NameTable → SysKind → Option Endpoint → Msg → Done NameTable
table_duty_from t me table kind None m = same_table table
table_duty_from t me table kind (Some source) m = table_duty_of t me table kind source m.target m.payload

-- what the name table does at a message of this kind
unfoldable pub table_duty : Tables → ℕ → NameTable → SysKind → Msg → Done NameTable
table_duty t me table kind m = table_duty_from t me table kind m.source m
