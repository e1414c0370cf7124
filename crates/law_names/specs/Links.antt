-- Who is linked by name: what the name table of controller 0 says, and what the owners of the linked
-- service points know.
-- A join is a link as the table has it: the provider's place, and the user. `table_peer`: what the table
-- links a place to. `link_heard`: what a place is linked to after a message.
-- The law `tables_are_sound`: in every run of the world the name table is sound: it is in order, no endpoint
-- stands in it twice, and so no place is a side of two joins.
-- The law `links_foretell`: at every moment, what the owner links a place of a live actor to, changed by
-- what is on the trail from controller 0, is what the table links it to; where nobody lives there is no link.
-- The law `links_agree`: so in every run that is quiet at its end owners and table agree on links.
-- Premises: actors and lines send nothing at priority 0, which is the system's; actors register service
-- points alone; and at quiet that each slot's owner is a controller.
use Rattle.std.specs.Prelude.{◌≡◌, ℕ, ℤ, pos, ◌+◌, ◌≤◌, ◌↔◌, ◌==◌, ◌&&◌, true, false, List, [], ◌∷◌, ◌++◌, slice_get, Contains, Option, Some, None, if◌then◌else◌}
use Rattle.std.specs.Option.{option_map_or}
use Rattle.room_kinds.specs.declared.numbers.Endpoint.{Endpoint}
use Rattle.room_kinds.specs.declared.message.Msg.{Msg}
use Rattle.room_kinds.specs.declared.system.SysKind.{SysKind}
use Rattle.room_kinds.specs.declared.system.SysKind.TheVariants as kinds
use Rattle.room_wiring.specs.declared.tables.Tables.{Tables}
use Rattle.actor_duties.specs.Words.{whose, owner_of, is_endpoint, is_sap, is_spp}
use Rattle.actor_duties.specs.State.{Links, User, Provider, NameTable}
use Rattle.actor_duties.specs.Names.{at_place, table_duty}
use Rattle.actor_duties.specs.Links.{is_own_point}
use Rattle.actor_duties.specs.Peers.{or_else, link_peer}
use Rattle.actor_duties.specs.Places.{AreOrderly}
use Rattle.actor_merge.specs.Parties.{Line}
use Rattle.actor_merge.specs.World.{World, Placed, IsQuiet}
use Rattle.actor_world.specs.Behaviour.{Behaviour}
use Rattle.actor_world.specs.Body.{Body}
use Rattle.actor_world.specs.Turns.{all_kinds}
use Rattle.actor_world.specs.Start.{plant_of}
use Rattle.actor_world.specs.Directories.{IsOpen, AreOpen}
use Rattle.actor_world.specs.Agreed.{lives_in, TableLinks, LinksAgree}
use Rattle.law_agreement.specs.Trails.{RunsTo, trail, hear_all}
use Rattle.law_agreement.specs.Imports.{OwnersAreThere}
use Rattle.law_names.specs.Registrations.{RegistersPoints, stands}

-- a link of the table: the place of the provider, and the user
pub record Join : Type 0 where
  pub place : Endpoint
  pub user : Endpoint

-- the joins of a provider with these users, in their order
abbrev pub joins_with : Endpoint → List User → List Join
joins_with p [] = []
joins_with p (u ∷ us) =
    option_map_or (λ k. record { place = at_place p k; user = u.at } ∷ []) u.linked [] ++ joins_with p us

-- the joins of a service, which has them where it has a provider
abbrev pub joins_of : Option Provider → List User → List Join
joins_of None users = []
joins_of (Some p) users = joins_with p.at users

-- all joins of a name table
abbrev pub joins : NameTable → List Join
joins [] = []
joins (s ∷ table) = joins_of s.provider s.users ++ joins table

-- the other side of a join, seen from one of its two sides
abbrev pub across : Endpoint → Join → Option Endpoint
across a j = if is_endpoint j.place a then Some j.user else if is_endpoint j.user a then Some j.place else None

-- the other side of the first of these joins of which a place is a side
abbrev pub joined_in : Endpoint → List Join → Option Endpoint
joined_in a [] = None
joined_in a (j ∷ js) = or_else (across a j) (joined_in a js)

-- what the name table links a place to
abbrev pub table_peer : NameTable → Endpoint → Option Endpoint
table_peer table a = joined_in a (joins table)

-- of how many of these joins a place is a side
abbrev pub times_joined : Endpoint → List Join → ℕ
times_joined a [] = 0
times_joined a (j ∷ js) = option_map_or (λ x. 1) (across a j) 0 + times_joined a js

-- a peer that is no longer linked
abbrev pub without : Endpoint → Option Endpoint → Option Endpoint
without peer None = None
without peer (Some x) = if is_endpoint x peer then None else Some x

-- what place a is linked to after a message of a kind from a source to a target at controller d, if it was
-- linked so before: a Bound links it, an Ended ends the link that it names
abbrev pub linked_by : Tables → ℕ → Endpoint → Option SysKind → Option Endpoint → Endpoint → List ℤ → Option Endpoint → Option Endpoint
linked_by t d a (Some kinds.Bound) (Some peer) own [] before =
    if is_own_point t d own && is_endpoint own a then Some peer else before
linked_by t d a (Some kinds.Ended) (Some peer) own [] before =
    if is_own_point t d own && is_endpoint own a then without peer before else before
linked_by t d a kind source target numbers before = before

-- the same after a message
unfoldable pub link_heard : Tables → ℕ → Endpoint → Msg → Option Endpoint → Option Endpoint
link_heard t d a m before =
    if m.prio.0 == 0
    then linked_by t d a (slice_get all_kinds m.signal) m.source m.target m.payload before
    else before

-- a user is a service access point, named by its place 0
abbrev pub IsUserPoint : Tables → Endpoint → Type 0
IsUserPoint t e = (is_sap t e.slot.0 e.port ≡ true) × (e.place ≡ 0)

-- a provider is a service provision point, named by its place 0
abbrev pub IsProviderPoint : Tables → Option Provider → Type 0
IsProviderPoint t None = Unit {0}
IsProviderPoint t (Some p) = (is_spp t p.at.slot.0 p.at.port ≡ true) × (p.at.place ≡ 0)

-- the same of all users
abbrev pub AreUserPoints : Tables → List User → Type 0
AreUserPoints t [] = Unit {0}
AreUserPoints t (u ∷ us) = IsUserPoint t u.at × AreUserPoints t us

-- the same of all services
abbrev pub ArePoints : Tables → NameTable → Type 0
ArePoints t [] = Unit {0}
ArePoints t (s ∷ table) = (IsProviderPoint t s.provider × AreUserPoints t s.users) × ArePoints t table

-- a name table is sound: it is in order, so that only a user of a service with a provider is linked, at a
-- place behind the provider's static ones and below its next one; no endpoint stands in it twice; and
-- providers are service provision points, users service access points
pub record IsSound (t : Tables) (table : NameTable) : Type 0 where
  pub orderly : AreOrderly t table
  pub once : (e : Endpoint) → stands e table ≤ 1
  pub points : ArePoints t table

-- the endpoint that registers by a message of a kind from a source to a target: it says of itself, and a name
abbrev pub registers_by : Option SysKind → Option Endpoint → Endpoint → List ℤ → Option Endpoint
registers_by (Some kinds.Register) (Some e) target (pos name ∷ []) = if is_endpoint e target then Some e else None
registers_by kind source target numbers = None

-- the same of a message, if it registers one
abbrev pub registers : Msg → Option Endpoint
registers m = if m.prio.0 == 0 then registers_by (slice_get all_kinds m.signal) m.source m.target m.payload else None

-- what registers by a message of a kind doesn't stand in the table yet
abbrev pub IsNew : NameTable → SysKind → Msg → Type 0
IsNew table kind m = (e : Endpoint) → registers_by (Some kind) m.source m.target m.payload ≡ Some e → stands e table ≡ 0

-- a sound table stays sound
abbrev pub TableStaysSound : Type 0
TableStaysSound =
    (t : Tables) (me : ℕ) (table : NameTable) (kind : SysKind) (m : Msg) → IsNew table kind m
    → IsSound t table → IsSound t (table_duty t me table kind m).now

-- in a sound table no place is a side of two joins
abbrev pub JoinsAreSingle : Type 0
JoinsAreSingle =
    (t : Tables) (table : NameTable) → IsSound t table → (a : Endpoint) → times_joined a (joins table) ≤ 1

-- what registers by a message on its way to controller 0 doesn't stand in the name table yet
abbrev pub RegistersAreNew : {M : Type 0} → World (Body M) → Type 0
RegistersAreNew w =
    (a : ℕ) (m : Msg) (e : Endpoint) → Contains (trail w a 0) m → registers m ≡ Some e
    → stands e (w.controllers 0).body.table ≡ 0

-- the links that the owner of an endpoint's slot keeps
abbrev pub links_at : {M : Type 0} → Tables → World (Body M) → Endpoint → Links
links_at t w a = (w.controllers (owner_of t a.slot.0)).body.links

-- for each place of a live actor: what its owner links it to, changed by what is on the trail from
-- controller 0, is what the name table links it to
abbrev pub LinksAreForetold : {M : Type 0} → Tables → World (Body M) → Type 0
LinksAreForetold t w =
    (a : Endpoint) → lives_in t w (whose a) ≡ true
    → hear_all (link_heard t (owner_of t a.slot.0) a) (trail w 0 (owner_of t a.slot.0)) (link_peer (links_at t w a) a)
    ≡ table_peer (w.controllers 0).body.table a

-- where nobody lives, a controller keeps no link
abbrev pub DeadAreUnlinked : {M : Type 0} → World (Body M) → Type 0
DeadAreUnlinked w =
    (c s p : ℕ) → (w.controllers c).body.frame.lives.lives s ≡ false → (w.controllers c).body.links.linked s p ≡ []

-- over every run of the world: the name table of controller 0 is sound
abbrev pub RunsKeepTablesSound : Type 0 → Type 0
RunsKeepTablesSound M =
    (model : Behaviour M) (t : Tables) (lines : List Line) → IsOpen model → AreOpen lines
    → RegistersPoints t model
    → (xs : List Placed) (end : World (Body M)) → RunsTo model t lines xs end
    → IsSound t (end.controllers 0).body.table

-- over every run of the world: what is told, and on its way, is what the table links; and the dead are not
-- linked
abbrev pub RunsForetellLinks : Type 0 → Type 0
RunsForetellLinks M =
    (model : Behaviour M) (t : Tables) (lines : List Line) → IsOpen model → AreOpen lines
    → RegistersPoints t model
    → (xs : List Placed) (end : World (Body M)) → RunsTo model t lines xs end
    → LinksAreForetold t end × DeadAreUnlinked end

-- over every run of the world that is quiet at its end: what a place of a live actor is linked to at its
-- owner is what the table links it to, seen from either side
abbrev pub QuietLinksAgree : Type 0 → Type 0
QuietLinksAgree M =
    (model : Behaviour M) (t : Tables) (lines : List Line) → IsOpen model → AreOpen lines
    → RegistersPoints t model → OwnersAreThere t
    → (xs : List Placed) (end : World (Body M)) → RunsTo model t lines xs end
    → IsQuiet (plant_of model t lines) end
    → (a b : Endpoint) → lives_in t end (whose a) ≡ true
    → (link_peer (links_at t end a) a ≡ Some b) ↔ TableLinks (end.controllers 0).body.table a b

-- over every run of the world that is quiet at its end: owners and table agree on links, and who stands in
-- the table is of a live actor
abbrev pub QuietNamesAgree : Type 0 → Type 0
QuietNamesAgree M =
    (model : Behaviour M) (t : Tables) (lines : List Line) → IsOpen model → AreOpen lines
    → RegistersPoints t model → OwnersAreThere t
    → (xs : List Placed) (end : World (Body M)) → RunsTo model t lines xs end
    → IsQuiet (plant_of model t lines) end → LinksAgree t end
