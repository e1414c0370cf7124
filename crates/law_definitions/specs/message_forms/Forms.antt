-- The forms of the system messages: for each of the nineteen kinds from whom to whom a message of the kind
-- goes, whose controllers these are, and which numbers it tells.
-- A container asks for the life or the end of a slot of its own at the slot's owner, which answers. Messages
-- on an import go between its place and its home. The owner of a slot tells of what lives there, and of the
-- parts of an optional slot, just those controllers that are to be told. Service points ask the name table of
-- controller 0, which tells them.
-- The law `messages_have_their_forms`: in every run of the world each message on a trail has the form of its
-- kind; and all that is the system's stands on trails, whether it waits at a controller, in a lane or in an
-- outbox, and no actor keeps such a message for later. Premises: actors and lines send nothing at priority 0,
-- which is the system's; and for the forms an imported slot is its container's owner's.
use Rattle.std.specs.Prelude.{◌≡◌, ℕ, ℤ, pos, ◌==◌, ◌⊎◌, true, false, List, [], ◌∷◌, slice_get, Contains, Some}
use Rattle.room_kinds.specs.declared.message.Msg.{Msg}
use Rattle.room_kinds.specs.declared.numbers.Endpoint.{Endpoint}
use Rattle.room_kinds.specs.declared.system.SysKind.{SysKind}
use Rattle.room_kinds.specs.declared.system.SysKind.TheVariants as kinds
use Rattle.room_wiring.specs.declared.tables.Tables.{Tables}
use Rattle.actor_merge.specs.Mail.{Lane}
use Rattle.actor_merge.specs.Parties.{Line, stamped}
use Rattle.actor_merge.specs.World.{World, Placed}
use Rattle.actor_duties.specs.Words.{whose, is_frame, is_endpoint, is_optional, is_part_of, owner_of}
use Rattle.actor_duties.specs.Messages.{coded, Occupied, NotHere, StaleId, PortTaken, NameTaken, NotRegistered}
use Rattle.actor_duties.specs.Frame.{is_announced, is_part_told}
use Rattle.actor_world.specs.Behaviour.{Behaviour}
use Rattle.actor_world.specs.Body.{Body}
use Rattle.actor_world.specs.Turns.{all_kinds}
use Rattle.actor_world.specs.Directories.{IsOpen, AreOpen}
use Rattle.law_agreement.specs.Trails.{RunsTo, trail}
use Rattle.law_agreement.specs.Imports.{IsBetween, PlacesAreLocal}

-- two endpoints at which frame services answer
abbrev pub AreFrames : Endpoint → Endpoint → Type 0
AreFrames x y = (is_frame x ≡ true) × (is_frame y ≡ true)

-- from an incarnation of a container, which controller a owns, to a slot of it, which b owns
pub record IsRequest (t : Tables) (a b : ℕ) (x o : Endpoint) : Type 0 where
  pub frames : AreFrames x o
  pub part : is_part_of t o.slot.0 x.slot.0 ≡ true
  pub container : owner_of t x.slot.0 ≡ a
  pub slot : owner_of t o.slot.0 ≡ b
  -- whoever stands in the slot
  pub anybody : o.generation.0 ≡ 0

-- from an optional slot, which controller a owns, back to the incarnation of its container, which b owns
pub record IsAnswer (t : Tables) (a b : ℕ) (o x : Endpoint) : Type 0 where
  pub frames : AreFrames o x
  pub part : is_part_of t o.slot.0 x.slot.0 ≡ true
  pub optional : is_optional t o.slot.0 ≡ true
  pub slot : owner_of t o.slot.0 ≡ a
  pub container : owner_of t x.slot.0 ≡ b

-- an endpoint of a generation that came up
abbrev pub IsMade : Endpoint → Type 0
IsMade o = (o.generation.0 == 0) ≡ false

-- what a DestroyDone tells: 0 of the generation that has ended, or that nobody was there
abbrev pub TellsEnd : Endpoint → List ℤ → Type 0
TellsEnd o numbers = (IsMade o × (numbers ≡ pos 0 ∷ [])) ⊎ ((o.generation.0 ≡ 0) × (numbers ≡ coded NotHere))

-- an import place, of controller here, and a home, of controller there
abbrev pub AreOnLoan : Tables → ℕ → ℕ → Endpoint → Endpoint → Type 0
AreOnLoan t here there i h = AreFrames i h × IsBetween t here there (record { place = whose i; home = whose h })

-- 0, that an actor went down, or 1, that it came up
abbrev pub TellsLife : List ℤ → Type 0
TellsLife numbers = (numbers ≡ pos 0 ∷ []) ⊎ (numbers ≡ pos 1 ∷ [])

-- what a NameReply tells: 0, that the name table did as it was asked, or why it didn't
abbrev pub TellsReply : List ℤ → Type 0
TellsReply numbers = (numbers ≡ pos 0 ∷ []) ⊎ ((numbers ≡ coded NameTaken) ⊎ (numbers ≡ coded NotRegistered))

-- one natural number
abbrev pub TellsOne : List ℤ → Type 0
TellsOne numbers = (n : ℕ) × (numbers ≡ pos n ∷ [])

-- from a service point of controller a, which says of itself, to controller 0
abbrev pub IsAsking : Tables → ℕ → ℕ → Endpoint → Endpoint → Type 0
IsAsking t a b e target = (owner_of t e.slot.0 ≡ a) × (b ≡ 0) × (is_endpoint e target ≡ true)

-- from controller 0 to a service point of controller b
abbrev pub IsTelling : Tables → ℕ → ℕ → Endpoint → Type 0
IsTelling t a b e = (a ≡ 0) × (owner_of t e.slot.0 ≡ b)

-- the form of a kind: of a message from controller a to controller b, from a source to a target, with numbers
abbrev pub FormOf : Tables → ℕ → ℕ → SysKind → Endpoint → Endpoint → List ℤ → Type 0
FormOf t a b kinds.Create x o numbers = IsRequest t a b x o × (numbers ≡ [])
FormOf t a b kinds.CreateDone o x numbers = IsAnswer t a b o x × IsMade o × (numbers ≡ [])
FormOf t a b kinds.CreateRefused o x numbers =
    IsAnswer t a b o x × (o.generation.0 ≡ 0) × ((numbers ≡ coded Occupied) ⊎ (numbers ≡ coded NotHere))
FormOf t a b kinds.Destroy x o numbers = IsRequest t a b x o × (numbers ≡ [])
FormOf t a b kinds.DestroyDone o x numbers = IsAnswer t a b o x × TellsEnd o numbers
FormOf t a b kinds.Import i h numbers = AreOnLoan t a b i h × (numbers ≡ [])
FormOf t a b kinds.ImportDone h i numbers = AreOnLoan t b a i h × (numbers ≡ [])
FormOf t a b kinds.ImportRefused h i numbers = AreOnLoan t b a i h × ((numbers ≡ coded StaleId) ⊎ (numbers ≡ coded PortTaken))
FormOf t a b kinds.ImportEnded h i numbers = AreOnLoan t b a i h × (numbers ≡ [])
FormOf t a b kinds.Deport i h numbers = AreOnLoan t a b i h × (numbers ≡ [])
FormOf t a b kinds.DeportDone h i numbers = AreOnLoan t b a i h × (numbers ≡ [])
FormOf t a b kinds.Announce x y numbers = (owner_of t x.slot.0 ≡ a) × (is_announced t b x y ≡ true) × TellsLife numbers
FormOf t a b kinds.Register e y numbers = IsAsking t a b e y × TellsOne numbers
FormOf t a b kinds.Withdraw e y numbers = IsAsking t a b e y × (numbers ≡ [])
FormOf t a b kinds.Bound peer e numbers = IsTelling t a b e × (numbers ≡ [])
FormOf t a b kinds.Ended peer e numbers = IsTelling t a b e × (numbers ≡ [])
FormOf t a b kinds.NameReply y e numbers = IsTelling t a b e × (is_endpoint y e ≡ true) × TellsReply numbers
FormOf t a b kinds.PartMake o y numbers = (owner_of t o.slot.0 ≡ a) × (is_part_told t b o y ≡ true) × (numbers ≡ [])
FormOf t a b kinds.PartEnd o y numbers = (owner_of t o.slot.0 ≡ a) × (is_part_told t b o y ≡ true) × (numbers ≡ [])

-- a message from controller a to controller b is of a kind, and has its form
pub record HasForm (t : Tables) (a b : ℕ) (m : Msg) : Type 0 where
  pub system : m.prio.0 ≡ 0
  pub kind : SysKind
  pub is : slice_get all_kinds m.signal ≡ Some kind
  pub source : Endpoint
  pub comes : m.source ≡ Some source
  pub form : FormOf t a b kind source m.target m.payload

-- over every run of the world: each message on a trail has the form of its kind
abbrev pub RunsSendForms : Type 0 → Type 0
RunsSendForms M =
    (model : Behaviour M) (t : Tables) (lines : List Line) → IsOpen model → AreOpen lines
    → PlacesAreLocal t
    → (xs : List Placed) (end : World (Body M)) → RunsTo model t lines xs end
    → (a b : ℕ) (m : Msg) → Contains (trail end a b) m → HasForm t a b m

-- the system messages of a world stand on trails alone: what is pending at a controller, in a lane or in an
-- outbox is on the trail from its sender to its receiver, and no actor keeps one for later
pub record StandOnTrails {M : Type 0} (w : World (Body M)) : Type 0 where
  pub pending : (b p : ℕ) (m : Msg) → Contains ((w.controllers b).pending p) m → m.prio.0 ≡ 0
      → Contains (trail w m.from.0 b) (stamped m.from.0 0 m)
  pub lanes : (l : Lane) (m : Msg) → Contains (w.lanes l) m → m.prio.0 ≡ 0 → Contains (trail w l.sender l.receiver) (stamped l.sender 0 m)
  pub outbox : (a : ℕ) (m : Msg) → Contains (w.controllers a).outbox m → m.prio.0 ≡ 0 → Contains (trail w a m.to.0) (stamped a 0 m)
  pub deferred : (a s : ℕ) (m : Msg) → Contains ((w.controllers a).body.deferred s) m → (m.prio.0 == 0) ≡ false

-- over every run of the world: system messages stand on trails alone
abbrev pub RunsStandOnTrails : Type 0 → Type 0
RunsStandOnTrails M =
    (model : Behaviour M) (t : Tables) (lines : List Line) → IsOpen model → AreOpen lines
    → (xs : List Placed) (end : World (Body M)) → RunsTo model t lines xs end
    → StandOnTrails end
