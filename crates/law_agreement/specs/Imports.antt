-- Which controllers the messages on imports pass between, and what is lent to whom.
-- A loan is of an import place, an imported slot in the generation of its container, and the home that it
-- asks for. Import and Deport are sent forth, from the place to the home; ImportDone, ImportRefused,
-- ImportEnded and DeportDone back.
-- The law `loans_are_routed`: in every run of the world what is sent forth goes from the controller of the
-- place to the controller of the home, and what is sent back the other way. Premises: actors and lines send
-- nothing at priority 0, which is the system's; and an imported slot is its container's owner's.
-- The law `loans_are_of_the_living`: at every moment an import place that isn't empty is of a live container
-- and names a fixed or optional slot, and only live actors of such slots have plugs, which are import places.
-- The law `places_settle`: in every run of the world that is quiet at its end each import place is empty or
-- holds a home. For at every moment, while a place asks for a home or gives it back, its message is on the
-- trail forth, or the home's answer on the trail back (`PlacesAwait`).
use Rattle.std.specs.Prelude.{◌≡◌, ℕ, ℤ, ◌∷◌, ◌<◌, ◌⊎◌, length, ◌==◌, true, false, List, [], slice_get, Contains, Option, Some, None, if◌then◌else◌}
use Rattle.room_kinds.specs.declared.message.Msg.{Msg}
use Rattle.room_kinds.specs.declared.numbers.Incarnation.{Incarnation}
use Rattle.room_kinds.specs.declared.numbers.Endpoint.{Endpoint}
use Rattle.room_kinds.specs.declared.system.SysKind.{SysKind}
use Rattle.room_kinds.specs.declared.system.SysKind.TheVariants as kinds
use Rattle.room_wiring.specs.declared.tables.Tables.{Tables}
use Rattle.actor_merge.specs.Parties.{Line}
use Rattle.actor_merge.specs.World.{World, Placed, IsQuiet}
use Rattle.actor_duties.specs.Words.{incarnation, frame_of, whose, owner_of, is_imported, is_home, container_of}
use Rattle.actor_duties.specs.State.{Frame, ImportPlace, Empty, Asking, Held, Leaving}
use Rattle.actor_duties.specs.Messages.{system, coded, StaleId, PortTaken}
use Rattle.actor_world.specs.Behaviour.{Behaviour}
use Rattle.actor_world.specs.Body.{Body}
use Rattle.actor_world.specs.Turns.{all_kinds}
use Rattle.actor_world.specs.Start.{plant_of}
use Rattle.actor_world.specs.Agreed.{frame_at, place_of}
use Rattle.actor_world.specs.Directories.{IsOpen, AreOpen}
use Rattle.law_agreement.specs.Trails.{RunsTo, trail}

-- an import place, and the home that it asks for, holds or gives back
pub record Loan : Type 0 where
  pub place : Incarnation
  pub home : Incarnation

-- the loan that a message of a kind from a source to a target is sent forth on
abbrev pub forth_by : Option SysKind → Option Endpoint → Endpoint → Option Loan
forth_by (Some kinds.Import) (Some i) h = Some (record { place = whose i; home = whose h })
forth_by (Some kinds.Deport) (Some i) h = Some (record { place = whose i; home = whose h })
forth_by _ _ _ = None

-- the same of a message, if it is an Import or a Deport
abbrev pub forth_on : Msg → Option Loan
forth_on m = if m.prio.0 == 0 then forth_by (slice_get all_kinds m.signal) m.source m.target else None

-- the loan that a message of a kind from a source to a target is sent back on
abbrev pub back_by : Option SysKind → Option Endpoint → Endpoint → Option Loan
back_by (Some kinds.ImportDone) (Some h) i = Some (record { place = whose i; home = whose h })
back_by (Some kinds.ImportRefused) (Some h) i = Some (record { place = whose i; home = whose h })
back_by (Some kinds.ImportEnded) (Some h) i = Some (record { place = whose i; home = whose h })
back_by (Some kinds.DeportDone) (Some h) i = Some (record { place = whose i; home = whose h })
back_by _ _ _ = None

-- the same of a message, if it answers an import place
abbrev pub back_on : Msg → Option Loan
back_on m = if m.prio.0 == 0 then back_by (slice_get all_kinds m.signal) m.source m.target else None

-- the place of a loan, where it is an import place, is one controller's, and its home another's
pub record IsBetween (t : Tables) (here there : ℕ) (x : Loan) : Type 0 where
  pub place : is_imported t x.place.slot.0 ≡ true → owner_of t x.place.slot.0 ≡ here
  pub home : owner_of t x.home.slot.0 ≡ there

-- a message from controller a to controller b, if it is on a loan, goes from the place's controller forth
-- to the home's, or back
pub record IsRouted (t : Tables) (a b : ℕ) (m : Msg) : Type 0 where
  pub forth : (x : Loan) → forth_on m ≡ Some x → IsBetween t a b x
  pub back : (x : Loan) → back_on m ≡ Some x → IsBetween t b a x

-- an imported slot is its container's owner's
abbrev pub PlacesAreLocal : Tables → Type 0
PlacesAreLocal t =
    (i c : ℕ) → is_imported t i ≡ true → container_of t i ≡ Some c → owner_of t i ≡ owner_of t c

-- the home that an import place asks for, holds or gives back
abbrev pub home_of : ImportPlace → Option Incarnation
home_of Empty = None
home_of (Asking h) = Some h
home_of (Held h) = Some h
home_of (Leaving h) = Some h

-- over every run of the world: the messages on loans go between the controllers of place and home
abbrev pub RunsRouteLoans : Type 0 → Type 0
RunsRouteLoans M =
    (model : Behaviour M) (t : Tables) (lines : List Line) → IsOpen model → AreOpen lines
    → PlacesAreLocal t
    → (xs : List Placed) (end : World (Body M)) → RunsTo model t lines xs end
    → (a b : ℕ) (m : Msg) → Contains (trail end a b) m → IsRouted t a b m

-- at a controller only a live container has import places that aren't empty, each of which is tied to a
-- fixed or optional slot; and only live actors of such slots have plugs, each of which is an import place
pub record LendsToTheLiving (t : Tables) (f : Frame) : Type 0 where
  pub places : (i c : ℕ) → is_imported t i ≡ true → container_of t i ≡ Some c → f.lives.lives c ≡ false
      → f.places i ≡ Empty
  pub homes : (i : ℕ) (h : Incarnation) → home_of (f.places i) ≡ Some h → is_home t h.slot.0 ≡ true
  pub plugs : (s : ℕ) → f.lives.lives s ≡ false → f.plugs s ≡ []
  pub plugged : (s : ℕ) (i : Incarnation) → Contains (f.plugs s) i
      → (is_imported t i.slot.0 ≡ true) × (is_home t s ≡ true)

-- over every run of the world: each controller lends to the living
abbrev pub RunsLendToTheLiving : Type 0 → Type 0
RunsLendToTheLiving M =
    (model : Behaviour M) (t : Tables) (lines : List Line) → IsOpen model → AreOpen lines
    → (xs : List Placed) (end : World (Body M)) → RunsTo model t lines xs end
    → (c : ℕ) → LendsToTheLiving t (end.controllers c).body.frame

-- what an import place waits for: a home that it asked for, or that a home be taken back
pub data Wait : Type 0 where
  Ask Leave : Wait

-- the place that waits
abbrev pub place_for : Wait → Incarnation → ImportPlace
place_for Ask h = Asking h
place_for Leave h = Leaving h

-- what it sent
abbrev pub kind_for : Wait → SysKind
kind_for Ask = kinds.Import
kind_for Leave = kinds.Deport

-- the message that it sent, to the home's owner
abbrev pub sent_for : Tables → Wait → Incarnation → Incarnation → Msg
sent_for t wait i h = system (owner_of t i.slot.0) (owner_of t h.slot.0) (kind_for wait) (frame_of i) (frame_of h) []

-- an answer of the home
abbrev pub answer : Tables → Incarnation → Incarnation → SysKind → List ℤ → Msg
answer t i h kind payload = system (owner_of t h.slot.0) (owner_of t i.slot.0) kind (frame_of h) (frame_of i) payload

-- all answers to it
abbrev pub answers : Tables → Wait → Incarnation → Incarnation → List Msg
answers t Ask i h =
    answer t i h kinds.ImportDone [] ∷ answer t i h kinds.ImportRefused (coded StaleId) ∷ answer t i h kinds.ImportRefused (coded PortTaken) ∷ []
answers t Leave i h = answer t i h kinds.DeportDone [] ∷ []

-- what a place waits for is on the trail to the home's owner, or an answer is on the trail back
abbrev pub IsAwaited : {M : Type 0} → Tables → World (Body M) → Wait → Incarnation → Incarnation → Type 0
IsAwaited t w wait i h =
    Contains (trail w (owner_of t i.slot.0) (owner_of t h.slot.0)) (sent_for t wait i h)
    ⊎ ((m : Msg) × Contains (answers t wait i h) m × Contains (trail w (owner_of t h.slot.0) (owner_of t i.slot.0)) m)

-- each import place that waits for a home awaits it, in the generation of its container
abbrev pub PlacesAwait : {M : Type 0} → Tables → World (Body M) → Type 0
PlacesAwait t w =
    (i c : ℕ) → is_imported t i ≡ true → container_of t i ≡ Some c
    → (wait : Wait) (h : Incarnation) → place_of t w i ≡ place_for wait h
    → IsAwaited t w wait (incarnation i ((frame_at t w i).lives.generation c)) h

-- over every run of the world: who waits awaits it
abbrev pub RunsAwait : Type 0 → Type 0
RunsAwait M =
    (model : Behaviour M) (t : Tables) (lines : List Line) → IsOpen model → AreOpen lines
    → (xs : List Placed) (end : World (Body M)) → RunsTo model t lines xs end
    → PlacesAwait t end

-- each slot's owner is a controller
abbrev pub OwnersAreThere : Tables → Type 0
OwnersAreThere t = (s : ℕ) → owner_of t s < length t.controllers

-- each import place is empty or holds a home: none asks for one, or gives one back
abbrev pub PlacesSettle : {M : Type 0} → Tables → World (Body M) → Type 0
PlacesSettle t w =
    (i c : ℕ) → is_imported t i ≡ true → container_of t i ≡ Some c
    → (place_of t w i ≡ Empty) ⊎ ((h : Incarnation) × (place_of t w i ≡ Held h))

-- over every run of the world that is quiet at its end: import places are settled
abbrev pub QuietPlacesSettle : Type 0 → Type 0
QuietPlacesSettle M =
    (model : Behaviour M) (t : Tables) (lines : List Line) → IsOpen model → AreOpen lines
    → OwnersAreThere t
    → (xs : List Placed) (end : World (Body M)) → RunsTo model t lines xs end
    → IsQuiet (plant_of model t lines) end → PlacesSettle t end
