-- How far service points are registered, and that in the end every registration is settled.
-- Of each service point the owner, the name table and the messages on their way say something: its stage
-- at its owner; forth, what it asks on the trail to controller 0 (`asked`); how often it stands in the name
-- table (`stands`); and back, the codes of the replies to it on the trail from there (`replied`).
-- The law `registrations_are_in_rows`: at every moment these four are one of the rows of `IsRow`. So no
-- endpoint stands twice in the table; and of an actor that has ended it stands there only where its
-- Withdraw alone is on the way. What is on its way has its form (`HasForm`), so the row leaves out nothing.
-- The law `registrations_settle`: in every run of the world that is quiet at its end, every user and every
-- provider in the table is of a live actor and registered at its owner; and every registration of a live
-- actor is none or registered, and registered exactly where it stands in the table, once.
-- Premises: actors and lines send nothing at priority 0, which is the system's; actors register service
-- points alone, since of another port nobody would answer; and at quiet that each slot's owner is a
-- controller.
use Rattle.std.specs.Prelude.{◌≡◌, ℕ, ℤ, pos, ◌+◌, ◌≤◌, ◌==◌, ◌&&◌, ◌||◌, ◌⊎◌, nat_le, Bool, true, false, List, [], ◌∷◌, flat_map, slice_get, Contains, Option, Some, if◌then◌else◌}
use Rattle.room_kinds.specs.declared.message.Msg.{Msg}
use Rattle.room_kinds.specs.declared.numbers.Incarnation.{Incarnation}
use Rattle.room_kinds.specs.declared.numbers.Endpoint.{Endpoint}
use Rattle.room_kinds.specs.declared.system.SysKind.{SysKind}
use Rattle.room_kinds.specs.declared.system.SysKind.TheVariants as kinds
use Rattle.room_kinds.specs.declared.command.NameCommand.{NameCommand}
use Rattle.room_kinds.specs.declared.command.NameCommand.TheVariants as names
use Rattle.room_wiring.specs.declared.tables.Tables.{Tables}
use Rattle.actor_merge.specs.Parties.{Line}
use Rattle.actor_merge.specs.World.{World, Placed, IsQuiet}
use Rattle.actor_duties.specs.Words.{whose, is_endpoint, is_sap, is_spp, owner_of}
use Rattle.actor_duties.specs.State.{Lives, Registration, Unnamed, Asked, Registered, Leaving, Links, User, Provider, Service, NameTable}
use Rattle.actor_duties.specs.Lives.{is_live}
use Rattle.actor_duties.specs.Names.{is_provider, is_user}
use Rattle.actor_duties.specs.Links.{point_of}
use Rattle.actor_world.specs.Behaviour.{Behaviour}
use Rattle.actor_world.specs.Body.{Body}
use Rattle.actor_world.specs.Turns.{all_kinds}
use Rattle.actor_world.specs.Start.{plant_of}
use Rattle.actor_world.specs.Agreed.{lives_in}
use Rattle.actor_world.specs.Directories.{IsOpen, AreOpen}
use Rattle.law_agreement.specs.Trails.{RunsTo, trail}
use Rattle.law_agreement.specs.Imports.{OwnersAreThere}
use Rattle.law_names.specs.Asking.{AllAsk}
use Rattle.law_names.specs.Created.{asker}

-- whether a port of a slot is a service point
abbrev pub is_point_port : Tables → ℕ → ℕ → Bool
is_point_port t s p = is_sap t s p || is_spp t s p

-- a request of an actor is of a service point, where it registers one
abbrev pub IsOfPoint : Tables → Incarnation → NameCommand → Type 0
IsOfPoint t x (names.Register p name) = is_point_port t x.slot.0 p ≡ true
IsOfPoint t x (names.Withdraw p) = Unit {0}

-- a behaviour whose actors register service points alone
pub record RegistersPoints {M : Type 0} (t : Tables) (model : Behaviour M) : Type 0 where
  pub begin : (x : Incarnation) → AllAsk (IsOfPoint t x) (model.begin x).commands
  pub handle : (x : Incarnation) (machine : M) (m : Msg) → AllAsk (IsOfPoint t x) (model.handle x machine m).commands

-- how far an endpoint is at its owner: no service point, or of a generation that wasn't created yet; of a
-- live actor, with its registration; or of an actor that has ended
pub data Stage : Type 0 where
  NotYet Over : Stage
  Now : (registration : Registration) → Stage

-- whether an endpoint is place 0 of a service point
abbrev pub is_point : Tables → Endpoint → Bool
is_point t e = (e.place == 0) && is_point_port t e.slot.0 e.port

-- the stage of an endpoint: whether it is a point, lives and was created, and the registration of its port
abbrev pub stage_by : Bool → Bool → Bool → Registration → Stage
stage_by false live created r = NotYet
stage_by true true created r = Now r
stage_by true false true r = Over
stage_by true false false r = NotYet

-- the stage of an endpoint by the lives and the links of its owner
abbrev pub stage : Tables → Lives → Links → Endpoint → Stage
stage t l k e = stage_by (is_point t e) (is_live l (whose e)) (nat_le e.generation.0 (l.generation e.slot.0)) (k.registrations e.slot.0 e.port)

-- what a message of a kind asks for an endpoint, which says of itself
abbrev pub asked_by : Endpoint → Option SysKind → Option Endpoint → Endpoint → List ℤ → List SysKind
asked_by e (Some kinds.Register) (Some x) target (pos name ∷ []) = if is_endpoint x e && is_endpoint x target then kinds.Register ∷ [] else []
asked_by e (Some kinds.Withdraw) (Some x) target [] = if is_endpoint x e && is_endpoint x target then kinds.Withdraw ∷ [] else []
asked_by e _ _ target _ = []

-- what a message asks for an endpoint: Register, Withdraw or nothing
abbrev pub asked : Endpoint → Msg → List SysKind
asked e m = if m.prio.0 == 0 then asked_by e (slice_get all_kinds m.signal) m.source m.target m.payload else []

-- the code that a message of a kind replies to an endpoint, of which it says
abbrev pub replied_by : Endpoint → Option SysKind → Option Endpoint → Endpoint → List ℤ → List ℕ
replied_by e (Some kinds.NameReply) (Some x) target (pos code ∷ []) = if is_endpoint target e && is_endpoint x target then code ∷ [] else []
replied_by e _ _ target _ = []

-- the code that a message replies to an endpoint, if it does
abbrev pub replied : Endpoint → Msg → List ℕ
replied e m = if m.prio.0 == 0 then replied_by e (slice_get all_kinds m.signal) m.source m.target m.payload else []

-- whether a kind is Register or Withdraw
abbrev pub is_asking_kind : Option SysKind → Bool
is_asking_kind (Some kinds.Register) = true
is_asking_kind (Some kinds.Withdraw) = true
is_asking_kind _ = false

-- whether a message is a Register or a Withdraw
abbrev pub is_asking : Msg → Bool
is_asking m = (m.prio.0 == 0) && is_asking_kind (slice_get all_kinds m.signal)

-- whether a kind is NameReply
abbrev pub is_reply_kind : Option SysKind → Bool
is_reply_kind (Some kinds.NameReply) = true
is_reply_kind _ = false

-- whether a message is a NameReply
abbrev pub is_reply : Msg → Bool
is_reply m = (m.prio.0 == 0) && is_reply_kind (slice_get all_kinds m.signal)

-- a NameReply replies one code to its target
abbrev pub RepliesOne : Msg → Type 0
RepliesOne m = is_reply m ≡ true → (code : ℕ) × (replied m.target m ≡ code ∷ [])

-- each Register and Withdraw asks for an endpoint, its source, and each NameReply replies to its target; so
-- `asked` and `replied` miss none
pub record HasForm (m : Msg) : Type 0 where
  pub asks : is_asking m ≡ true → (e : Endpoint) × (kind : SysKind) × (asker m ≡ Some e) × (asked e m ≡ kind ∷ [])
  pub replies : RepliesOne m

-- how often an endpoint stands among users
abbrev pub uses : Endpoint → List User → ℕ
uses e [] = 0
uses e (u ∷ us) = (if is_user e u then 1 else 0) + uses e us

-- how often it stands in a service
abbrev pub stands_as : Endpoint → Service → ℕ
stands_as e s = (if is_provider e s then 1 else 0) + uses e s.users

-- how often it stands in the name table
abbrev pub stands : Endpoint → NameTable → ℕ
stands e [] = 0
stands e (s ∷ table) = stands_as e s + stands e table

-- forth, in the table, and back it is so
abbrev pub AreSo : List SysKind → ℕ → List ℕ → List SysKind → ℕ → List ℕ → Type 0
AreSo forth times back f n b = (forth ≡ f) × (times ≡ n) × (back ≡ b)

-- the rows of an endpoint: its stage, what is forth, how often it stands in the table, and what is back
abbrev pub IsRow : Stage → List SysKind → ℕ → List ℕ → Type 0
IsRow NotYet forth times back = AreSo forth times back [] 0 []
IsRow (Now Unnamed) forth times back = AreSo forth times back [] 0 []
IsRow (Now Asked) forth times back =
    AreSo forth times back (kinds.Register ∷ []) 0 []
    ⊎ (AreSo forth times back [] 1 (0 ∷ [])
    ⊎ AreSo forth times back [] 0 (8 ∷ []))
IsRow (Now Registered) forth times back = AreSo forth times back [] 1 []
IsRow (Now Leaving) forth times back =
    AreSo forth times back (kinds.Withdraw ∷ []) 1 []
    ⊎ AreSo forth times back [] 0 (0 ∷ [])
IsRow Over forth times back =
    ((forth ≡ []) × (times ≡ 0))
    ⊎ (((forth ≡ kinds.Withdraw ∷ []) × (times ≤ 1))
    ⊎ ((forth ≡ kinds.Register ∷ (kinds.Withdraw ∷ [])) × (times ≡ 0)))

-- the stage of an endpoint in a world
abbrev pub stage_in : {M : Type 0} → Tables → World (Body M) → Endpoint → Stage
stage_in t w e = let c = owner_of t e.slot.0 in stage t (w.controllers c).body.frame.lives (w.controllers c).body.links e

-- each endpoint is in one of the rows
abbrev pub AreInRows : {M : Type 0} → Tables → World (Body M) → Type 0
AreInRows t w =
    (e : Endpoint)
    → IsRow (stage_in t w e) (flat_map (asked e) (trail w (owner_of t e.slot.0) 0)) (stands e (w.controllers 0).body.table) (flat_map (replied e) (trail w 0 (owner_of t e.slot.0)))

-- over every run of the world: what is on its way on names has its form
abbrev pub RunsKeepForms : Type 0 → Type 0
RunsKeepForms M =
    (model : Behaviour M) (t : Tables) (lines : List Line) → IsOpen model → AreOpen lines
    → (xs : List Placed) (end : World (Body M)) → RunsTo model t lines xs end
    → (a b : ℕ) (m : Msg) → Contains (trail end a b) m → HasForm m

-- over every run of the world: each endpoint is in one of the rows
abbrev pub RunsKeepRows : Type 0 → Type 0
RunsKeepRows M =
    (model : Behaviour M) (t : Tables) (lines : List Line) → IsOpen model → AreOpen lines
    → RegistersPoints t model
    → (xs : List Placed) (end : World (Body M)) → RunsTo model t lines xs end
    → AreInRows t end

-- at a controller only service points of live actors have registrations
abbrev pub RegistersTheLiving : {M : Type 0} → Tables → Body M → Type 0
RegistersTheLiving t b =
    (s p : ℕ) → (b.links.registrations s p ≡ Unnamed) ⊎ ((b.frame.lives.lives s ≡ true) × (is_point_port t s p ≡ true))

-- over every run of the world: each controller registers the living
abbrev pub RunsRegisterTheLiving : Type 0 → Type 0
RunsRegisterTheLiving M =
    (model : Behaviour M) (t : Tables) (lines : List Line) → IsOpen model → AreOpen lines
    → RegistersPoints t model
    → (xs : List Placed) (end : World (Body M)) → RunsTo model t lines xs end
    → (c : ℕ) → RegistersTheLiving t (end.controllers c).body

-- the registration of a port, at the owner of the endpoint's slot
abbrev pub registration_in : {M : Type 0} → Tables → World (Body M) → Endpoint → Registration
registration_in t w e = (w.controllers (owner_of t e.slot.0)).body.links.registrations e.slot.0 e.port

-- an endpoint is of a live actor and is registered
abbrev pub IsRegistered : {M : Type 0} → Tables → World (Body M) → Endpoint → Type 0
IsRegistered t w e = (lives_in t w (whose e) ≡ true) × (registration_in t w e ≡ Registered)

-- who stands in the table is registered, and a live actor's port is registered exactly where it stands in
-- the table
pub record AreSettled {M : Type 0} (t : Tables) (w : World (Body M)) : Type 0 where
  pub users : (s : Service) (u : User) → Contains (w.controllers 0).body.table s → Contains s.users u → IsRegistered t w u.at
  pub providers : (s : Service) (p : Provider) → Contains (w.controllers 0).body.table s → s.provider ≡ Some p → IsRegistered t w p.at
  pub settled : (x : Incarnation) (p : ℕ) → lives_in t w x ≡ true
      → ((registration_in t w (point_of x p) ≡ Unnamed) × (stands (point_of x p) (w.controllers 0).body.table ≡ 0))
      ⊎ ((registration_in t w (point_of x p) ≡ Registered) × (stands (point_of x p) (w.controllers 0).body.table ≡ 1))

-- over every run of the world that is quiet at its end: registrations are settled
abbrev pub QuietRegistrationsSettle : Type 0 → Type 0
QuietRegistrationsSettle M =
    (model : Behaviour M) (t : Tables) (lines : List Line) → IsOpen model → AreOpen lines
    → RegistersPoints t model → OwnersAreThere t
    → (xs : List Placed) (end : World (Body M)) → RunsTo model t lines xs end
    → IsQuiet (plant_of model t lines) end → AreSettled t end
