-- What lives with an optional slot, whoever owns it, and that in the end it does.
-- The body of an optional slot is the slot and all that it reaches by fixed references; its parts are
-- what each controller owns of it. `part_heard`: whether a part lives after a message, if it lived or
-- didn't before: a PartMake of the slot makes it, a PartEnd ends it.
-- The law `bodies_agree`: in every run of the world that is quiet at its end each slot of a body
-- lives, at its owner, exactly where the optional slot lives at its own. It follows from what holds
-- at every moment: at the slot's owner the body lives with the slot (`OwnPartsLive`), and at every
-- other controller what lives there, changed by what is on the trail from the slot's owner
-- (`PartsAreForetold`), where PartMake and PartEnd of it alternate (`PartsAlternate`).
-- The law `containers_live`: at every moment a live optional slot has a live container.
-- Premises beside those of `directories_agree`: slots are numbered depth first; and for containers
-- that another controller owns, such a container lives from the start.
use Rattle.std.specs.Prelude.{◌≡◌, ℕ, ℤ, ◌<◌, ◌==◌, Bool, true, false, not, List, [], ◌∷◌, length, slice_get, Option, Some, if◌then◌else◌}
use Rattle.room_kinds.specs.declared.message.Msg.{Msg}
use Rattle.room_kinds.specs.declared.numbers.Incarnation.{Incarnation}
use Rattle.room_kinds.specs.declared.numbers.Endpoint.{Endpoint}
use Rattle.room_kinds.specs.declared.system.SysKind.{SysKind}
use Rattle.room_kinds.specs.declared.system.SysKind.TheVariants as kinds
use Rattle.room_wiring.specs.declared.tables.Tables.{Tables}
use Rattle.actor_merge.specs.Parties.{Line}
use Rattle.actor_merge.specs.World.{World, Placed, IsQuiet}
use Rattle.actor_duties.specs.Words.{whose, owner_of, is_optional, container_of}
use Rattle.actor_duties.specs.Lives.{is_made_with}
use Rattle.actor_duties.specs.Frame.{is_part_told}
use Rattle.actor_world.specs.Behaviour.{Behaviour}
use Rattle.actor_world.specs.Body.{Body}
use Rattle.actor_world.specs.Turns.{all_kinds}
use Rattle.actor_world.specs.Start.{lives_from_start, plant_of}
use Rattle.actor_world.specs.Directories.{IsOpen, AreOpen}
use Rattle.actor_world.specs.Agreed.{frame_at}
use Rattle.service_messages.specs.slot_runs.Runs.{IsDepthFirst}
use Rattle.law_agreement.specs.Trails.{RunsTo, trail, hear_all}

-- whether a part of slot o lives after a message on x without numbers that makes or ends it, where the
-- message is of its form
abbrev pub part_if : Bool → ℕ → Incarnation → Bool → List ℤ → Bool → Bool
part_if true o x now [] lives = if x.slot.0 == o then now else lives
part_if fits o x now numbers lives = lives

-- the same of a message of a kind, from a source to a target, at controller d
abbrev pub part_heard_of : Tables → ℕ → ℕ → Option SysKind → Option Endpoint → Endpoint → List ℤ → Bool → Bool
part_heard_of t d o (Some kinds.PartMake) (Some x) target numbers lives =
    part_if (is_part_told t d x target) o (whose x) true numbers lives
part_heard_of t d o (Some kinds.PartEnd) (Some x) target numbers lives =
    part_if (is_part_told t d x target) o (whose x) false numbers lives
part_heard_of t d o kind source target numbers lives = lives

-- whether controller d's part of slot o lives after a message, if it lived or didn't before
unfoldable pub part_heard : Tables → ℕ → ℕ → Msg → Bool → Bool
part_heard t d o m lives =
    if m.prio.0 == 0
    then part_heard_of t d o (slice_get all_kinds m.signal) m.source m.target m.payload lives
    else lives

-- whether a message of a kind from a source makes or ends parts of slot o
abbrev pub is_on : ℕ → Option SysKind → Option Endpoint → Bool
is_on o (Some kinds.PartMake) (Some x) = x.slot.0 == o
is_on o (Some kinds.PartEnd) (Some x) = x.slot.0 == o
is_on o kind source = false

-- whether a message is a PartMake or a PartEnd of slot o
abbrev pub is_on_part : ℕ → Msg → Bool
is_on_part o m = if m.prio.0 == 0 then is_on o (slice_get all_kinds m.signal) m.source else false

-- PartMake and PartEnd of slot o alternate among these messages: each changes whether the part at
-- controller d lives, which it does or doesn't before them
abbrev pub Alternate : Tables → ℕ → ℕ → Bool → List Msg → Type 0
Alternate t d o lives [] = Unit {0}
Alternate t d o lives (m ∷ ms) =
    (is_on_part o m ≡ true → part_heard t d o m lives ≡ not lives)
    × Alternate t d o (part_heard t d o m lives) ms

-- whether an actor lives in a slot, at the slot's owner
abbrev pub lives_at : {M : Type 0} → Tables → World (Body M) → ℕ → Bool
lives_at t w s = (frame_at t w s).lives.lives s

-- slot s is in the body of the optional slot o
pub record IsInBody (t : Tables) (o s : ℕ) : Type 0 where
  pub optional : is_optional t o ≡ true
  pub there : s < length t.slots
  pub made : is_made_with t o s ≡ true

-- at the owner of an optional slot what it owns of the slot's body lives exactly where the slot does
abbrev pub OwnPartsLive : {M : Type 0} → Tables → World (Body M) → Type 0
OwnPartsLive t w =
    (o s : ℕ) → IsInBody t o s → owner_of t s ≡ owner_of t o → lives_at t w s ≡ lives_at t w o

-- at every other controller: what lives of the body, changed by what is on the trail from the optional
-- slot's owner, is whether the slot lives there
abbrev pub PartsAreForetold : {M : Type 0} → Tables → World (Body M) → Type 0
PartsAreForetold t w =
    (o s : ℕ) → IsInBody t o s → owner_of t s < length t.controllers
    → (owner_of t s == owner_of t o) ≡ false
    → hear_all (part_heard t (owner_of t s) o) (trail w (owner_of t o) (owner_of t s)) (lives_at t w s)
    ≡ lives_at t w o

-- on the trail to it PartMake and PartEnd of the optional slot alternate, the first is a PartMake exactly
-- where the part doesn't live
abbrev pub PartsAlternate : {M : Type 0} → Tables → World (Body M) → Type 0
PartsAlternate t w =
    (o s : ℕ) → IsInBody t o s → owner_of t s < length t.controllers
    → (owner_of t s == owner_of t o) ≡ false
    → Alternate t (owner_of t s) o (lives_at t w s) (trail w (owner_of t o) (owner_of t s))

-- the part of a controller lives as a whole or not at all
abbrev pub PartsAreWhole : {M : Type 0} → Tables → World (Body M) → Type 0
PartsAreWhole t w =
    (o s u : ℕ) → IsInBody t o s → IsInBody t o u → owner_of t s < length t.controllers
    → owner_of t u ≡ owner_of t s → lives_at t w s ≡ lives_at t w u

-- over every run of the world: parts are whole, and live with their slots, where what is on its way
-- counts, and that alternates
abbrev pub RunsForetellParts : Type 0 → Type 0
RunsForetellParts M =
    (model : Behaviour M) (t : Tables) (lines : List Line) → IsOpen model → AreOpen lines
    → IsDepthFirst t
    → (xs : List Placed) (end : World (Body M)) → RunsTo model t lines xs end
    → PartsAreWhole t end × OwnPartsLive t end × PartsAreForetold t end × PartsAlternate t end

-- over every run of the world that is quiet at its end: each slot of a body lives exactly where the
-- optional slot does
abbrev pub QuietBodiesAgree : Type 0 → Type 0
QuietBodiesAgree M =
    (model : Behaviour M) (t : Tables) (lines : List Line) → IsOpen model → AreOpen lines
    → IsDepthFirst t
    → (xs : List Placed) (end : World (Body M)) → RunsTo model t lines xs end
    → IsQuiet (plant_of model t lines) end
    → (o s : ℕ) → IsInBody t o s → owner_of t s < length t.controllers
    → lives_at t end s ≡ lives_at t end o

-- the container of an optional slot, where another controller owns it, lives from the start
abbrev pub OthersLiveFromStart : Tables → Type 0
OthersLiveFromStart t =
    (s c : ℕ) → is_optional t s ≡ true → container_of t s ≡ Some c
    → (owner_of t c == owner_of t s) ≡ false
    → lives_from_start t c ≡ true

-- over every run of the world: a live optional slot has a live container
abbrev pub ContainersLive : Type 0 → Type 0
ContainersLive M =
    (model : Behaviour M) (t : Tables) (lines : List Line) → IsOpen model → AreOpen lines
    → IsDepthFirst t → OthersLiveFromStart t
    → (xs : List Placed) (end : World (Body M)) → RunsTo model t lines xs end
    → (s c : ℕ) → is_optional t s ≡ true → container_of t s ≡ Some c
    → lives_at t end s ≡ true → lives_at t end c ≡ true
