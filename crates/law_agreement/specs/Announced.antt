-- What controllers are told of each other's actors, and that in the end they agree.
-- `heard`: what a directory tells of a slot after a message, if it told something before: an
-- Announce of the slot tells the generation that came up, or 0; every other message tells nothing
-- of it.
-- The law `directories_agree`: in every run of the world that is quiet at its end all directories
-- agree with the owners' lives. It follows from what holds at every moment (`AreForetold`): for
-- each slot that is announced to a controller, what its directory tells, changed by what is on the
-- trail from the slot's owner, is what stands in the slot at its owner. Premises: actors and lines
-- send nothing at priority 0, which is the system's.
use Rattle.std.specs.Prelude.{◌≡◌, ℕ, ℤ, pos, ◌<◌, ◌==◌, Bool, true, List, [], ◌∷◌, length, slice_get, Option, Some, if◌then◌else◌}
use Rattle.room_kinds.specs.declared.message.Msg.{Msg}
use Rattle.room_kinds.specs.declared.numbers.Incarnation.{Incarnation}
use Rattle.room_kinds.specs.declared.numbers.Endpoint.{Endpoint}
use Rattle.room_kinds.specs.declared.system.SysKind.{SysKind}
use Rattle.room_kinds.specs.declared.system.SysKind.TheVariants as kinds
use Rattle.room_wiring.specs.declared.tables.Tables.{Tables}
use Rattle.room_wiring.specs.Places.{is_told}
use Rattle.actor_merge.specs.Parties.{Line}
use Rattle.actor_merge.specs.World.{World, Placed, IsQuiet}
use Rattle.actor_duties.specs.Words.{whose, owner_of}
use Rattle.actor_duties.specs.Lives.{standing}
use Rattle.actor_duties.specs.Frame.{is_announced}
use Rattle.actor_world.specs.Behaviour.{Behaviour}
use Rattle.actor_world.specs.Body.{Body}
use Rattle.actor_world.specs.Turns.{all_kinds}
use Rattle.actor_world.specs.Start.{plant_of}
use Rattle.actor_world.specs.Directories.{IsOpen, AreOpen}
use Rattle.actor_world.specs.Agreed.{frame_at, DirectoriesAgree}
use Rattle.law_agreement.specs.Trails.{RunsTo, trail, hear_all}

-- what a directory tells of slot s after an Announce of x, if it told n before: x came up, or it went
-- down; any other number says nothing
abbrev pub told_by : ℕ → Incarnation → ℕ → ℕ → ℕ
told_by s x up n =
    if x.slot.0 == s
    then (if up == 1 then x.generation.0 else if up == 0 then 0 else n)
    else n

-- the same where the Announce is of its form, by its numbers
abbrev pub told_if : Bool → ℕ → Incarnation → List ℤ → ℕ → ℕ
told_if true s x (pos up ∷ []) n = told_by s x up n
told_if fits s x numbers n = n

-- the same of a message of a kind, from a source to a target, at controller d
abbrev pub heard_of : Tables → ℕ → ℕ → Option SysKind → Option Endpoint → Endpoint → List ℤ → ℕ → ℕ
heard_of t d s (Some kinds.Announce) (Some x) target numbers n =
    told_if (is_announced t d x target) s (whose x) numbers n
heard_of t d s kind source target numbers n = n

-- what the directory of controller d tells of slot s after a message, if it told n before
unfoldable pub heard : Tables → ℕ → ℕ → Msg → ℕ → ℕ
heard t d s m n =
    if m.prio.0 == 0
    then heard_of t d s (slice_get all_kinds m.signal) m.source m.target m.payload n
    else n

-- at each controller that a slot is announced to: what its directory tells of the slot, changed by what
-- is on the trail from the slot's owner, is what stands in the slot at its owner
abbrev pub AreForetold : {M : Type 0} → Tables → World (Body M) → Type 0
AreForetold t w =
    (s d : ℕ) → s < length t.slots → d < length t.controllers → is_told t s d ≡ true
    → hear_all (heard t d s) (trail w (owner_of t s) d) ((w.controllers d).body.frame.told s)
    ≡ standing (frame_at t w s).lives s

-- over every run of the world: what is told, and on its way, is what stands
abbrev pub RunsForetell : Type 0 → Type 0
RunsForetell M =
    (model : Behaviour M) (t : Tables) (lines : List Line) → IsOpen model → AreOpen lines
    → (xs : List Placed) (end : World (Body M)) → RunsTo model t lines xs end
    → AreForetold t end

-- over every run of the world that is quiet at its end: all directories agree with the owners
abbrev pub QuietDirectoriesAgree : Type 0 → Type 0
QuietDirectoriesAgree M =
    (model : Behaviour M) (t : Tables) (lines : List Line) → IsOpen model → AreOpen lines
    → (xs : List Placed) (end : World (Body M)) → RunsTo model t lines xs end
    → IsQuiet (plant_of model t lines) end → DirectoriesAgree t end
