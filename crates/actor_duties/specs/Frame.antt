-- The frame service of a controller: the duties of the kinds 0 to 11, 17 and 18, whose messages must
-- be of the form of a row, and the commands on the life and the import of actors.
-- `destroy` is a Destroy with all that ends with an actor; `frame_duty` the duty of a kind at a
-- message of its form. A message of another form does nothing. The commands tell their codes in
-- order.
use Rattle.std.specs.Prelude.{ℕ, ℤ, pos, negsuc, ◌==◌, ◌&&◌, ◌||◌, Bool, false, not, List, [], ◌∷◌, ◌++◌, map, flat_map, Option, Some, None, if◌then◌else◌}
use Rattle.std.specs.Option.{option_map_or}
use Rattle.room_kinds.specs.declared.message.Msg.{Msg}
use Rattle.room_kinds.specs.declared.numbers.Incarnation.{Incarnation}
use Rattle.room_kinds.specs.declared.numbers.Endpoint.{Endpoint}
use Rattle.room_kinds.specs.declared.system.SysKind.{SysKind}
use Rattle.room_kinds.specs.declared.system.SysKind.TheVariants as kinds
use Rattle.room_kinds.specs.declared.command.FrameCommand.{FrameCommand}
use Rattle.room_kinds.specs.declared.command.FrameCommand.TheVariants as commands
use Rattle.room_wiring.specs.declared.tables.Tables.{Tables}
use Rattle.room_wiring.specs.Places.{is_told}
use Rattle.actor_duties.specs.Words.{updated, incarnation, frame_at, frame_of, whose, is_frame, is_endpoint, of_id, is_own, is_optional, is_imported, is_home, is_part_of, container_of, part_at, class_number}
use Rattle.actor_duties.specs.Messages.{reply, to_owner, refused_at_once, Code, coded, code_number, NotHere, NoSlot, StaleId, WrongClass, Occupied, Busy}
use Rattle.actor_duties.specs.State.{Lives, Frame, ImportPlace, Empty, Asking, Held, Leaving, Done}
use Rattle.actor_duties.specs.Lives.{counts_as_live, last_of, Lived, create, create_done, create_refused, destroy_done, announce, announces, has_part, parts_told, goes_down, ended_slots, lives_ended, part_make}
use Rattle.actor_duties.specs.Imports.{import, import_done, import_refused, import_ended, deport, deport_done, imported_parts, ended_plugs, given_back}

-- what a duty of the frame service gives: its state, the messages at once, what was made or ended, and
-- for Create and Destroy the message that closes it
pub record FrameDone : Type 0 where
  pub frame : Frame
  pub sent : List Msg
  pub made : List Incarnation
  pub ended : List Incarnation
  pub last : Option Msg

-- a duty that changes nothing and sends these
abbrev pub only_sends : Frame → List Msg → FrameDone
only_sends f sent = record { frame = f; sent = sent; made = []; ended = []; last = None }

-- a duty that does nothing
abbrev pub nothing : Frame → FrameDone
nothing f = only_sends f []

-- a duty that changes the lives alone
abbrev pub with_lives : Frame → Lived → FrameDone
with_lives f r = record { frame = record f { lives = r.lives }; sent = r.sent; made = r.made; ended = r.ended; last = r.last }

-- a duty that changes the plugs alone
abbrev pub with_plugs : Frame → Done (ℕ → List Incarnation) → FrameDone
with_plugs f r = only_sends (record f { plugs = r.now }) r.sent

-- a duty that changes the import places alone
abbrev pub with_places : Frame → Done (ℕ → ImportPlace) → FrameDone
with_places f r = only_sends (record f { places = r.now }) r.sent

-- a duty that changes the directory alone
abbrev pub with_told : Frame → (ℕ → ℕ) → FrameDone
with_told f told = only_sends (record f { told = told }) []

-- what the end of one actor sends: to its plugs, oldest first; for its import places in slot order;
-- and to the controllers that are told, ascending
unfoldable pub end_messages : Tables → ℕ → Frame → ℕ → List Msg
end_messages t me f s =
    let x = last_of f.lives s in
    ended_plugs t me x (f.plugs s)
    ++ (flat_map (λ i. given_back t me (incarnation i x.generation.0) (f.places i)) (imported_parts t s)
    ++ announces t me x (pos 0))

-- what the end of one actor sends to the other parts: where its slot is optional, a PartEnd to each
-- other controller that has a part of it, ascending
unfoldable pub part_ends : Tables → ℕ → Frame → ℕ → List Msg
part_ends t me f s = if is_optional t s then parts_told t me kinds.PartEnd (last_of f.lives s) else []

-- whether the container of an import place goes down with slot o
abbrev pub is_place_ended : Tables → ℕ → Lives → ℕ → ℕ → Bool
is_place_ended t me l o i = is_imported t i && option_map_or (goes_down t me l o) (container_of t i) false

-- the state after slot o has ended: where an actor went down there is no plug and no import place
unfoldable pub frame_ended : Tables → ℕ → ℕ → Frame → Frame
frame_ended t me o f = record {
  lives = lives_ended t me o f.lives;
  told = f.told;
  places = λ i. if is_place_ended t me f.lives o i then Empty else f.places i;
  plugs = λ s. if goes_down t me f.lives o s then [] else f.plugs s;
}

-- the end set of slot o ends at this controller, in descending slot order; then the other parts are
-- told of each optional slot in it
unfoldable pub end_set_ended : Tables → ℕ → Frame → ℕ → Option Msg → FrameDone
end_set_ended t me f o last =
    let down = ended_slots t me f.lives o in
    record {
      frame = frame_ended t me o f;
      sent = flat_map (end_messages t me f) down ++ flat_map (part_ends t me f) down;
      made = [];
      ended = map (last_of f.lives) down;
      last = last;
    }

-- row 3, Destroy: from the container x to its optional slot o. If x doesn't live or o is empty, the
-- answer is 3; else the end set of o ends
unfoldable pub destroy : Tables → ℕ → Frame → Msg → ℕ → Endpoint → FrameDone
destroy t me f m o x =
    if not (counts_as_live t me f.lives (whose x)) || not (f.lives.lives o)
    then record { frame = f; sent = []; made = []; ended = []; last = Some (reply me m kinds.DestroyDone (frame_at o 0) x (coded NotHere)) }
    else end_set_ended t me f o (Some (reply me m kinds.DestroyDone (frame_of (last_of f.lives o)) x (pos 0 ∷ [])))

-- row 18, PartEnd: the end set of slot o at this controller ends
unfoldable pub part_end : Tables → ℕ → Frame → ℕ → FrameDone
part_end t me f o = end_set_ended t me f o None

-- from a container to its optional slot, generation 0: the form of Create and Destroy, at the slot's
-- owner
abbrev pub is_request : Tables → ℕ → Endpoint → Endpoint → Bool
is_request t me x o =
    is_frame x && is_frame o && (o.generation.0 == 0) && is_optional t o.slot.0 && is_own t me o.slot.0 && is_part_of t o.slot.0 x.slot.0

-- from an optional slot back to its container, at the container's owner
abbrev pub is_answer : Tables → ℕ → Endpoint → Endpoint → Bool
is_answer t me o x = is_frame x && is_frame o && is_optional t o.slot.0 && is_part_of t o.slot.0 x.slot.0 && is_own t me x.slot.0

-- from an import place to a home, at the home's owner
abbrev pub is_forth : Tables → ℕ → Endpoint → Endpoint → Bool
is_forth t me i h = is_frame i && is_frame h && is_imported t i.slot.0 && is_home t h.slot.0 && is_own t me h.slot.0

-- from a home back to an import place, at the place's owner
abbrev pub is_back : Tables → ℕ → Endpoint → Endpoint → Bool
is_back t me h i = is_frame i && is_frame h && is_imported t i.slot.0 && is_home t h.slot.0 && is_own t me i.slot.0

-- an incarnation that says of itself, at a controller that is told of its slot
abbrev pub is_announced : Tables → ℕ → Endpoint → Endpoint → Bool
is_announced t me x y = is_frame x && is_endpoint x y && is_told t x.slot.0 me

-- an optional slot's incarnation, at another controller that has a part of the slot: the form of
-- PartMake and PartEnd
abbrev pub is_part_told : Tables → ℕ → Endpoint → Endpoint → Bool
is_part_told t me o again =
    is_frame o && is_endpoint o again && not (o.generation.0 == 0)
    && (is_optional t o.slot.0 && (not (is_own t me o.slot.0) && has_part t me o.slot.0))

-- a duty without numbers, at a message of its form
abbrev pub plainly : Frame → Bool → List ℤ → FrameDone → FrameDone
plainly f fits [] done = if fits then done else nothing f
plainly f fits (n ∷ ns) done = nothing f

-- a duty with one number, at a message of its form
abbrev pub with_number : Frame → Bool → List ℤ → (ℤ → FrameDone) → FrameDone
with_number f fits [] done = nothing f
with_number f fits (n ∷ []) done = if fits then done n else nothing f
with_number f fits (n ∷ (k ∷ ns)) done = nothing f

-- a duty with a natural number
abbrev pub of_natural : Frame → ℤ → (ℕ → FrameDone) → FrameDone
of_natural f (pos n) done = done n
of_natural f (negsuc n) done = nothing f

-- the duty of a kind, at a message from this source to that target; the kinds from 12 to 16 are the
-- layer service's
abbrev pub frame_duty_of : Tables → ℕ → Frame → Msg → SysKind → Endpoint → Endpoint → FrameDone
frame_duty_of t me f m kinds.Create x o = plainly f (is_request t me x o) m.payload (with_lives f (create t me f.lives m o.slot.0 x))
frame_duty_of t me f m kinds.CreateDone o x =
    plainly f (is_answer t me o x && not (o.generation.0 == 0)) m.payload (only_sends f (create_done t me o x))
frame_duty_of t me f m kinds.CreateRefused o x =
    with_number f (is_answer t me o x && (o.generation.0 == 0)) m.payload (λ code. only_sends f (create_refused t me o x code))
frame_duty_of t me f m kinds.Destroy x o = plainly f (is_request t me x o) m.payload (destroy t me f m o.slot.0 x)
frame_duty_of t me f m kinds.DestroyDone o x =
    with_number f (is_answer t me o x) m.payload (λ n. of_natural f n (λ code. only_sends f (destroy_done t me o x code)))
frame_duty_of t me f m kinds.Import i h = plainly f (is_forth t me i h) m.payload (with_plugs f (import t me f.lives f.plugs m i h))
frame_duty_of t me f m kinds.ImportDone h i = plainly f (is_back t me h i) m.payload (with_places f (import_done t me f.lives f.places h i))
frame_duty_of t me f m kinds.ImportRefused h i =
    with_number f (is_back t me h i) m.payload (λ code. with_places f (import_refused t me f.lives f.places h i code))
frame_duty_of t me f m kinds.ImportEnded h i = plainly f (is_back t me h i) m.payload (with_places f (import_ended t me f.lives f.places h i))
frame_duty_of t me f m kinds.Deport i h = plainly f (is_forth t me i h) m.payload (with_plugs f (deport me f.lives f.plugs m i h))
frame_duty_of t me f m kinds.DeportDone h i = plainly f (is_back t me h i) m.payload (with_places f (deport_done t me f.lives f.places h i))
frame_duty_of t me f m kinds.Announce x y =
    with_number f (is_announced t me x y) m.payload (λ n. of_natural f n (λ up. with_told f (announce f.told (whose x) up)))
frame_duty_of t me f m kinds.Register x y = nothing f
frame_duty_of t me f m kinds.Withdraw x y = nothing f
frame_duty_of t me f m kinds.Bound x y = nothing f
frame_duty_of t me f m kinds.Ended x y = nothing f
frame_duty_of t me f m kinds.NameReply x y = nothing f
frame_duty_of t me f m kinds.PartMake o again =
    plainly f (is_part_told t me o again) m.payload (with_lives f (part_make t me f.lives o.slot.0))
frame_duty_of t me f m kinds.PartEnd o again = plainly f (is_part_told t me o again) m.payload (part_end t me f o.slot.0)

-- a message without a source has the form of no row
abbrev pub frame_duty_from : Tables → ℕ → Frame → Msg → SysKind → Option Endpoint → FrameDone
frame_duty_from t me f m kind None = nothing f
frame_duty_from t me f m kind (Some source) = frame_duty_of t me f m kind source m.target

-- what controller me does at a message of this kind
unfoldable pub frame_duty : Tables → ℕ → Frame → SysKind → Msg → FrameDone
frame_duty t me f kind m = frame_duty_from t me f m kind m.source

-- a command that sends one message
abbrev pub sends : {C : Type 0} → C → Msg → Done C
sends c m = record { now = c; sent = m ∷ [] }

-- a request of x to its optional slot, to the slot's owner; code 2 where the index is out of range
abbrev pub asked_of : Tables → ℕ → SysKind → Incarnation → ℕ → ℤ → Option ℕ → Msg
asked_of t me kind x reference index None = refused_at_once me x reference index (code_number NoSlot)
asked_of t me kind x reference index (Some o) = to_owner t me kind (frame_of x) (frame_at o 0) []

-- `incarnate`: Create goes to the slot's owner
unfoldable pub incarnate : Tables → ℕ → Incarnation → ℕ → ℤ → Msg
incarnate t me x reference index = asked_of t me kinds.Create x reference index (part_at t x.slot.0 reference index)

-- `destroy`: Destroy goes to the slot's owner
unfoldable pub destroy_command : Tables → ℕ → Incarnation → ℕ → ℤ → Msg
destroy_command t me x reference index = asked_of t me kinds.Destroy x reference index (part_at t x.slot.0 reference index)

-- an import place that is busy is not asked again: code 1 where it holds, 6 where it is on the way
abbrev pub busy_code : ImportPlace → Option Code
busy_code Empty = None
busy_code (Held h) = Some Occupied
busy_code (Asking h) = Some Busy
busy_code (Leaving h) = Some Busy

-- whether two slots have one class
abbrev pub is_same_class : Option ℕ → Option ℕ → Bool
is_same_class (Some a) (Some b) = a == b
is_same_class None b = false
is_same_class (Some a) None = false

-- why an import of this id into imported slot i is refused at once, if it is: 4 where the id names no
-- fixed or optional slot, 7 where that slot has another class, then 1 and 6
abbrev pub import_code : Tables → (ℕ → ImportPlace) → ℕ → Option Incarnation → Option Code
import_code t places i None = Some StaleId
import_code t places i (Some h) =
    if not (is_home t h.slot.0) then Some StaleId
    else if not (is_same_class (class_number t i) (class_number t h.slot.0)) then Some WrongClass
    else busy_code (places i)

-- the import place asks for h, and Import goes to h's owner
abbrev pub asks_for : Tables → ℕ → (ℕ → ImportPlace) → Incarnation → ℕ → Incarnation → Done (ℕ → ImportPlace)
asks_for t me places x i h = record {
  now = updated places i (Asking h);
  sent = to_owner t me kinds.Import (frame_at i x.generation.0) (frame_of h) [] ∷ [];
}

-- an import that no code refuses asks for its home
abbrev pub import_with : Tables → ℕ → (ℕ → ImportPlace) → Incarnation → ℕ → ℤ → ℕ → Option Incarnation → Option Code → Done (ℕ → ImportPlace)
import_with t me places x reference index i home (Some code) = sends places (refused_at_once me x reference index (code_number code))
import_with t me places x reference index i (Some h) None = asks_for t me places x i h
import_with t me places x reference index i None None = sends places (refused_at_once me x reference index (code_number StaleId))

-- an import into an imported slot; code 2 where the index is out of range
abbrev pub import_into : Tables → ℕ → (ℕ → ImportPlace) → Incarnation → ℕ → ℤ → ℤ → Option ℕ → Done (ℕ → ImportPlace)
import_into t me places x reference index id None = sends places (refused_at_once me x reference index (code_number NoSlot))
import_into t me places x reference index id (Some i) =
    import_with t me places x reference index i (of_id id) (import_code t places i (of_id id))

-- `import`: the codes 2, 4, 7, 1 and 6 in this order; else the place asks for the id
unfoldable pub import_command : Tables → ℕ → (ℕ → ImportPlace) → Incarnation → ℕ → ℤ → ℤ → Done (ℕ → ImportPlace)
import_command t me places x reference index id = import_into t me places x reference index id (part_at t x.slot.0 reference index)

-- a held home is given back: Deport goes to its owner; code 3 where the place is empty, 6 where it is
-- on the way
abbrev pub deport_from : Tables → ℕ → (ℕ → ImportPlace) → Incarnation → ℕ → ℤ → ℕ → ImportPlace → Done (ℕ → ImportPlace)
deport_from t me places x reference index i Empty = sends places (refused_at_once me x reference index (code_number NotHere))
deport_from t me places x reference index i (Asking h) = sends places (refused_at_once me x reference index (code_number Busy))
deport_from t me places x reference index i (Leaving h) = sends places (refused_at_once me x reference index (code_number Busy))
deport_from t me places x reference index i (Held h) = record {
  now = updated places i (Leaving h);
  sent = to_owner t me kinds.Deport (frame_at i x.generation.0) (frame_of h) [] ∷ [];
}

-- a deport from an imported slot; code 2 where the index is out of range
abbrev pub deport_of : Tables → ℕ → (ℕ → ImportPlace) → Incarnation → ℕ → ℤ → Option ℕ → Done (ℕ → ImportPlace)
deport_of t me places x reference index None = sends places (refused_at_once me x reference index (code_number NoSlot))
deport_of t me places x reference index (Some i) = deport_from t me places x reference index i (places i)

-- `deport`: the codes 2, 3 and 6 in this order; else the place gives its home back
unfoldable pub deport_command : Tables → ℕ → (ℕ → ImportPlace) → Incarnation → ℕ → ℤ → Done (ℕ → ImportPlace)
deport_command t me places x reference index = deport_of t me places x reference index (part_at t x.slot.0 reference index)

-- a command of x on the life or the import of actors
abbrev pub frame_request : Tables → ℕ → Frame → Incarnation → FrameCommand → Done Frame
frame_request t me f x (commands.Incarnate reference index) = sends f (incarnate t me x reference index)
frame_request t me f x (commands.Destroy reference index) = sends f (destroy_command t me x reference index)
frame_request t me f x (commands.Import reference index id) =
    let r = import_command t me f.places x reference index id in record { now = record f { places = r.now }; sent = r.sent }
frame_request t me f x (commands.Deport reference index) =
    let r = deport_command t me f.places x reference index in record { now = record f { places = r.now }; sent = r.sent }
