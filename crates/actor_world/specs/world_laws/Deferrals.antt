-- Who keeps a message deferred it.
use Rattle.std.specs.Prelude.{◌≡◌, ℕ, ◌+◌, ◌≤◌, ◌==◌, ◌&&◌, Bool, true, false, List, [], ◌∷◌, if◌then◌else◌}
use Rattle.room_kinds.specs.declared.message.Msg.{Msg}
use Rattle.room_kinds.specs.declared.numbers.Incarnation.{Incarnation}
use Rattle.journal.specs.declared.entry.Did.{Did}
use Rattle.journal.specs.declared.entry.Did.TheVariants as did
use Rattle.journal.specs.declared.entry.Entry.{Entry}
use Rattle.journal.specs.declared.entry.Entry.TheVariants as entry
use Rattle.room_wiring.specs.declared.tables.Tables.{Tables}
use Rattle.actor_merge.specs.Parties.{State, Line, Replays}
use Rattle.actor_duties.specs.Words.{is_incarnation}
use Rattle.actor_duties.specs.Lives.{is_live}
use Rattle.actor_world.specs.Behaviour.{Behaviour}
use Rattle.actor_world.specs.Body.{Body}
use Rattle.actor_world.specs.Start.{plant_of, first_state}
use Rattle.actor_world.specs.Life.{IsModest}
use Rattle.actor_world.specs.world_laws.Counting.{times}
use Rattle.actor_world.specs.world_laws.Whereabouts.{TellsDefers}

-- whether a turn says that this incarnation deferred its message
abbrev pub deferred_by : Incarnation → Did → Bool
deferred_by x (did.Deferred who state) = is_incarnation who x
deferred_by x (did.Handled who state) = false
deferred_by x (did.Unhandled who state) = false
deferred_by x did.Duty = false
deferred_by x (did.Stale target) = false
deferred_by x (did.Empty target) = false

-- how often an entry says that an incarnation deferred a message of this name
abbrev pub defers : Incarnation → Msg → Entry → ℕ
defers x m (entry.Turn stamp from sent what notes) = if deferred_by x what && ((from.0 == m.from.0) && (sent.0 == m.stamp.0)) then 1 else 0
defers x m (entry.Start who state notes) = 0
defers x m (entry.Fetch stamp y) = 0
defers x m (entry.Post stamp y) = 0

-- how often entries say so
abbrev pub deferrals : Incarnation → Msg → List Entry → ℕ
deferrals x m [] = 0
deferrals x m (e ∷ es) = defers x m e + deferrals x m es

-- over every replay of a controller from its start: what a live incarnation keeps, it deferred itself, and
-- keeps it no more often than it deferred it
abbrev pub KeptByDeferrer : Type 0 → Type 0
KeptByDeferrer M =
    (model : Behaviour M) (t : Tables) (lines : List Line) (c : ℕ) → IsModest model → TellsDefers model
    → (es : List Entry) (end : State (Body M)) → Replays (plant_of model t lines) c (first_state model t c) es end
    → (x : Incarnation) → is_live end.body.frame.lives x ≡ true → (m : Msg) → times m (end.body.deferred x.slot.0) ≤ deferrals x m es
