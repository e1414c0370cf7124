-- How a run starts: what lives from the start, the first directories, and the initial transitions.
-- `plant_of` is the plant of a model over the definitions of `actor_merge`, so the laws of that
-- crate hold of it.
use Rattle.std.specs.Prelude.{ℕ, zero, suc, ◌&&◌, Bool, true, false, List, [], ◌∷◌, ◌++◌, map, filter, length, Some, None, if◌then◌else◌}
use Rattle.std.specs.Option.{option_map_or}
use Rattle.room_kinds.specs.declared.numbers.Incarnation.{Incarnation}
use Rattle.journal.specs.declared.entry.Entry.{Entry}
use Rattle.journal.specs.declared.entry.Entry.TheVariants as entry
use Rattle.room_wiring.specs.declared.tables.Tables.{Tables}
use Rattle.room_wiring.specs.Places.{is_told}
use Rattle.actor_merge.specs.Parties.{State, Line, Plant}
use Rattle.actor_duties.specs.Words.{updated, incarnation, slots_of, is_own, is_fixed, container_of}
use Rattle.actor_duties.specs.State.{Lives, Frame, Empty, Unnamed, Links}
use Rattle.actor_world.specs.Behaviour.{Behaviour}
use Rattle.actor_world.specs.Body.{Body, Doing, apply_all}
use Rattle.actor_world.specs.Turns.{doing, treat}

-- whether a slot is fixed and, so many containers up, in fixed slots alone
abbrev pub is_fixed_up : Tables → ℕ → ℕ → Bool
is_fixed_up t zero s = is_fixed t s
is_fixed_up t (suc up) s = is_fixed t s && option_map_or (λ c. is_fixed_up t up c) (container_of t s) true

-- whether a slot lives from the start: it is fixed and not below an optional one
unfoldable pub lives_from_start : Tables → ℕ → Bool
lives_from_start t s = is_fixed_up t (length t.slots) s

-- what lives from the start has generation 1
abbrev pub first_lives : Tables → ℕ → Lives
first_lives t me = record {
  generation = λ s. if is_own t me s && lives_from_start t s then 1 else 0;
  lives = λ s. is_own t me s && lives_from_start t s;
}

-- the frame service at the start; directories tell generation 1 of what lives from the start
abbrev pub first_frame : Tables → ℕ → Frame
first_frame t me = record {
  lives = first_lives t me;
  told = λ s. if is_told t s me && lives_from_start t s then 1 else 0;
  places = λ i. Empty;
  plugs = λ s. [];
}

-- no registrations and no links
abbrev pub first_links : Links
first_links = record { registrations = λ s p. Unnamed; linked = λ s p. [] }

-- a controller's body before any initial transition
abbrev pub first_body : {M : Type 0} → Tables → ℕ → Body M
first_body t me = record {
  frame = first_frame t me;
  links = first_links;
  table = [];
  machines = λ s. None;
  deferred = λ s. [];
}

-- the actors that live from the start on a controller, in slot order
unfoldable pub first_actors : Tables → ℕ → List Incarnation
first_actors t me = map (λ s. incarnation s 1) (filter (λ s. is_own t me s && lives_from_start t s) (slots_of t))

-- a start: the body and the messages so far, and the entries
pub record Starting (M : Type 0) : Type 0 where
  pub doing : Doing M
  pub entries : List Entry

-- an actor starts: its initial transition, its commands, and its entry
abbrev pub started : {M : Type 0} → Behaviour M → Tables → ℕ → Starting M → Incarnation → Starting M
started model t me s x =
    let new = model.begin x in
    let after = apply_all t me x None new.commands (record s.doing {
      body = record s.doing.body { machines = updated s.doing.body.machines x.slot.0 (Some new.machine) };
      notes = new.notes;
      kept = false;
    }) in
    record { doing = after; entries = s.entries ++ entry.Start x (model.state new.machine) after.notes ∷ [] }

-- actors start one after another
abbrev pub all_started : {M : Type 0} → Behaviour M → Tables → ℕ → List Incarnation → Starting M → Starting M
all_started model t me [] s = s
all_started model t me (x ∷ xs) s = all_started model t me xs (started model t me s x)

-- the whole start of a controller
unfoldable pub starting : {M : Type 0} → Behaviour M → Tables → ℕ → Starting M
starting model t me = all_started model t me (first_actors t me) (record { doing = doing (first_body t me); entries = [] })

-- the state of a controller after its start: clock 0, nothing pending, and what was sent in the outbox
abbrev pub first_state : {M : Type 0} → Behaviour M → Tables → ℕ → State (Body M)
first_state model t me = record {
  clock = 0;
  turns = 0;
  pending = λ p. [];
  outbox = (starting model t me).doing.sent;
  body = (starting model t me).doing.body;
}

-- the entries with which a controller's journal begins
abbrev pub start_entries : {M : Type 0} → Behaviour M → Tables → ℕ → List Entry
start_entries model t me = (starting model t me).entries

-- the plant of a model: its controllers, its lines, how each controller starts and what its turns do
abbrev pub plant_of : {M : Type 0} → Behaviour M → Tables → List Line → Plant (Body M)
plant_of model t lines = record {
  controllers = length t.controllers;
  lines = lines;
  start = first_state model t;
  treat = treat model t;
}
