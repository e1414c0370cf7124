-- The rows of an import place and a home: how they stand to each other, and what is on its way between them.
-- A pair is an import place, an imported slot in the generation of its container, and a home. What is on
-- its way forth is the kinds of the pair's messages from the place's controller to the home's, Import and
-- Deport, oldest first; what is on its way back, those of the home's answers. `Row` is the table: how the
-- place stands to the home, what is on its way forth and back, and how often the place is among the home's
-- plugs.
-- The law `loans_keep_rows`: at every moment of every run of the world each pair stands in a row. While the
-- container lives exactly one message is on its way where the place asks for a home or gives it back, the
-- request or its answer, and beside it at most word that the home has ended. So no place stands twice among
-- the plugs of a home. Premises: actors and lines send nothing at priority 0, which is the system's; an
-- imported slot is its container's owner's; and for the last, it has a container.
use Rattle.std.specs.Prelude.{◌≡◌, ℕ, ℤ, ◌≤◌, ◌==◌, ◌&&◌, ◌||◌, nat_lt, Bool, true, false, List, [], ◌∷◌, flat_map, count_by, slice_get, Option, Some, None, if◌then◌else◌}
use Rattle.room_kinds.specs.declared.message.Msg.{Msg}
use Rattle.room_kinds.specs.declared.numbers.Incarnation.{Incarnation}
use Rattle.room_kinds.specs.declared.numbers.Endpoint.{Endpoint}
use Rattle.room_kinds.specs.declared.system.SysKind.{SysKind}
use Rattle.room_kinds.specs.declared.system.SysKind.TheVariants as kinds
use Rattle.room_wiring.specs.declared.tables.Tables.{Tables}
use Rattle.actor_merge.specs.Parties.{Line}
use Rattle.actor_merge.specs.World.{World, Placed}
use Rattle.actor_duties.specs.Words.{whose, is_frame, is_incarnation, owner_of, is_imported, is_home, container_of}
use Rattle.actor_duties.specs.State.{Frame, ImportPlace, Empty, Asking, Held, Leaving}
use Rattle.actor_duties.specs.Lives.{is_live}
use Rattle.actor_duties.specs.Messages.{is_code, StaleId, PortTaken}
use Rattle.actor_world.specs.Behaviour.{Behaviour}
use Rattle.actor_world.specs.Body.{Body}
use Rattle.actor_world.specs.Turns.{all_kinds}
use Rattle.actor_world.specs.Agreed.{frame_at, plugged}
use Rattle.actor_world.specs.Directories.{IsOpen, AreOpen}
use Rattle.law_agreement.specs.Trails.{RunsTo, trail}
use Rattle.law_agreement.specs.Imports.{PlacesAreLocal}
use Rattle.law_agreement.specs.Held.{PlacesAreContained}

-- how an import place stands to a home: its container hasn't come up yet; it is empty, or of another home;
-- it asks for the home, holds it, or gives it back; its container has ended
pub data Side : Type 0 where
  Unmade Apart Asks Holds Leaves Over : Side

-- the rows of a pair: how the place stands to the home, what is on its way forth and back, and how often the
-- place is among the home's plugs; `bereft` is a place that is yet to hear that its home has ended
pub data Row : Side → List SysKind → List SysKind → ℕ → Type 0 where
  unmade : Row Unmade [] [] 0
  apart : Row Apart [] [] 0
  asked : Row Asks (kinds.Import ∷ []) [] 0
  granted : Row Asks [] (kinds.ImportDone ∷ []) 1
  granted_bereft : Row Asks [] (kinds.ImportDone ∷ kinds.ImportEnded ∷ []) 0
  refused : Row Asks [] (kinds.ImportRefused ∷ []) 0
  held : Row Holds [] [] 1
  held_bereft : Row Holds [] (kinds.ImportEnded ∷ []) 0
  leaves : Row Leaves (kinds.Deport ∷ []) [] 1
  leaves_unplugged : Row Leaves (kinds.Deport ∷ []) [] 0
  leaves_bereft : Row Leaves (kinds.Deport ∷ []) (kinds.ImportEnded ∷ []) 0
  left : Row Leaves [] (kinds.DeportDone ∷ []) 0
  left_bereft : Row Leaves [] (kinds.ImportEnded ∷ kinds.DeportDone ∷ []) 0
  over : (back : List SysKind) → Row Over [] back 0
  over_asked : (back : List SysKind) → Row Over (kinds.Import ∷ kinds.Deport ∷ []) back 0
  over_plugged : (back : List SysKind) → Row Over (kinds.Deport ∷ []) back 1
  over_unplugged : (back : List SysKind) → Row Over (kinds.Deport ∷ []) back 0

-- what a place that holds this, or waits for it, is to a home
abbrev pub tied_as : Incarnation → ImportPlace → Side
tied_as h Empty = Apart
tied_as h (Asking x) = if is_incarnation x h then Asks else Apart
tied_as h (Held x) = if is_incarnation x h then Holds else Apart
tied_as h (Leaving x) = if is_incarnation x h then Leaves else Apart

-- how an import place stands to a home, by the last generation of its container, whether that lives, and what
-- the place holds
unfoldable pub side_by : Incarnation → Incarnation → ℕ → Bool → ImportPlace → Side
side_by i h generation lives place =
    if nat_lt generation i.generation.0 then Unmade
    else if lives && (generation == i.generation.0) then tied_as h place
    else Over

-- the same at the place's controller, where slot c is the container
abbrev pub side_of : ℕ → Incarnation → Incarnation → Frame → Side
side_of c i h f = side_by i h (f.lives.generation c) (f.lives.lives c) (f.places i.slot.0)

-- how often a place is among the plugs of a home, where the home lives
unfoldable pub lent_by : Incarnation → Bool → List Incarnation → ℕ
lent_by i lives plugs = if lives then count_by (is_incarnation i) plugs else 0

-- the same at the home's controller
abbrev pub lent_of : Incarnation → Incarnation → Frame → ℕ
lent_of i h f = lent_by i (is_live f.lives h) (f.plugs h.slot.0)

-- whether a message goes from the frame of one incarnation to that of another
abbrev pub goes_between : Incarnation → Incarnation → Option Endpoint → Endpoint → Bool
goes_between a b (Some source) target =
    is_frame source && is_frame target && is_incarnation a (whose source) && is_incarnation b (whose target)
goes_between a b None target = false

-- the kind of a message that an import place sends to its home, with these numbers, if it is one
abbrev pub kind_forth : Option SysKind → List ℤ → List SysKind
kind_forth (Some kinds.Import) [] = kinds.Import ∷ []
kind_forth (Some kinds.Deport) [] = kinds.Deport ∷ []
kind_forth kind numbers = []

-- the kind of an answer of the home
abbrev pub kind_back : Option SysKind → List ℤ → List SysKind
kind_back (Some kinds.ImportDone) [] = kinds.ImportDone ∷ []
kind_back (Some kinds.ImportEnded) [] = kinds.ImportEnded ∷ []
kind_back (Some kinds.DeportDone) [] = kinds.DeportDone ∷ []
kind_back (Some kinds.ImportRefused) (code ∷ []) = if is_code StaleId code || is_code PortTaken code then kinds.ImportRefused ∷ [] else []
kind_back kind numbers = []

-- the kind of a message forth of import place i to home h, of a message that isn't one nothing
unfoldable pub forth_of : Incarnation → Incarnation → Msg → List SysKind
forth_of i h m =
    if (m.prio.0 == 0) && goes_between i h m.source m.target then kind_forth (slice_get all_kinds m.signal) m.payload else []

-- the kind of an answer back of home h to import place i, of a message that isn't one nothing
unfoldable pub back_of : Incarnation → Incarnation → Msg → List SysKind
back_of i h m =
    if (m.prio.0 == 0) && goes_between h i m.source m.target then kind_back (slice_get all_kinds m.signal) m.payload else []

-- an import place of container c and a home stand in a row
abbrev pub IsInRow : {M : Type 0} → Tables → World (Body M) → ℕ → Incarnation → Incarnation → Type 0
IsInRow t w c i h =
    Row (side_of c i h (frame_at t w i.slot.0)) (flat_map (forth_of i h) (trail w (owner_of t i.slot.0) (owner_of t h.slot.0)))
    (flat_map (back_of i h) (trail w (owner_of t h.slot.0) (owner_of t i.slot.0))) (lent_of i h (frame_at t w h.slot.0))

-- over every run of the world: each import place and each home stand in a row
abbrev pub RunsKeepRows : Type 0 → Type 0
RunsKeepRows M =
    (model : Behaviour M) (t : Tables) (lines : List Line) → IsOpen model → AreOpen lines
    → PlacesAreLocal t
    → (xs : List Placed) (end : World (Body M)) → RunsTo model t lines xs end
    → (c : ℕ) (i h : Incarnation) → is_imported t i.slot.0 ≡ true → container_of t i.slot.0 ≡ Some c → is_home t h.slot.0 ≡ true
    → IsInRow t end c i h

-- over every run of the world: no import place stands twice among the plugs of a home
abbrev pub RunsPlugOnce : Type 0 → Type 0
RunsPlugOnce M =
    (model : Behaviour M) (t : Tables) (lines : List Line) → IsOpen model → AreOpen lines
    → PlacesAreLocal t → PlacesAreContained t
    → (xs : List Placed) (end : World (Body M)) → RunsTo model t lines xs end
    → (i h : Incarnation) → plugged t end i h ≤ 1
