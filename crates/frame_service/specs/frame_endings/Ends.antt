-- What the end of actors sends.
use Rattle.std.specs.Prelude.{ℕ, List, [], ◌∷◌, ◌++◌, pos, Option, if◌then◌else◌}
use Rattle.std.specs.List.{flat_map}
use Rattle.std.specs.Option.{option_map_or}
use Rattle.room_kinds.specs.declared.message.Msg.{Msg}
use Rattle.room_kinds.specs.declared.numbers.Incarnation.{Incarnation}
use Rattle.room_kinds.specs.declared.system.SysKind.TheVariants as kinds
use Rattle.room_wiring.specs.declared.tables.Tables.{Tables}
use Rattle.actor_duties.specs.Words.{incarnation, frame_of, is_optional}
use Rattle.actor_duties.specs.Messages.{to_owner}
use Rattle.actor_duties.specs.State.{ImportPlace}
use Rattle.actor_duties.specs.Imports.{ended_plugs, given_back, imported_parts}
use Rattle.actor_duties.specs.Lives.{announces, parts_told}
use Rattle.actor_duties.specs.Frame.{FrameDone}
use Rattle.frame_service.specs.frame_imports.import_places.Lending.{is_import_of}
use Rattle.frame_lives.specs.declared.done.DutyDone.{DutyDone}

-- a home that goes back from an import place
abbrev pub back_from : Tables → ℕ → Incarnation → Option Incarnation → List Msg
back_from t me i home = option_map_or (λ (h : Incarnation). to_owner t me kinds.Deport (frame_of i) (frame_of h) [] ∷ []) home []

-- what an actor gives back from one of its imported slots
abbrev pub back_at : Tables → ℕ → (ℕ → ImportPlace) → Incarnation → ℕ → List Msg
back_at t me places x i = given_back t me (incarnation i x.generation.0) (places i)

-- what an actor gives back from a slot, if that is an imported one of its own
abbrev pub back_if_own : Tables → ℕ → (ℕ → ImportPlace) → Incarnation → ℕ → List Msg
back_if_own t me places x i = if is_import_of t x.slot.0 i then back_at t me places x i else []

-- what an actor gives back, in slot order
abbrev pub all_given_back : Tables → ℕ → (ℕ → ImportPlace) → Incarnation → List Msg
all_given_back t me places x = flat_map (back_at t me places x) (imported_parts t x.slot.0)

-- what the end of an actor sends: to its plugs, oldest first; for its import places in slot order; and
-- to the controllers that are told, ascending
abbrev pub end_sends : Tables → ℕ → (ℕ → ImportPlace) → (ℕ → List Incarnation) → Incarnation → List Msg
end_sends t me places plugs x =
    ended_plugs t me x (plugs x.slot.0) ++ (all_given_back t me places x ++ announces t me x (pos 0))

-- what the end of an actor sends to the other parts of its slot, if that is optional
abbrev pub part_sends : Tables → ℕ → Incarnation → List Msg
part_sends t me x = if is_optional t x.slot.0 then parts_told t me kinds.PartEnd x else []

-- what a duty leaves to the controller
abbrev pub left_of : FrameDone → DutyDone
left_of r = record { made = r.made; ended = r.ended; last = r.last }
