-- The rows on the lives of actors: Create and Destroy with what they answer, and Announce, by which
-- directories are kept (this project's own). Actors are created and destroyed by others, and what
-- is fixed in an actor lives and ends with it (ROOM: Selic, Gullekson and Ward 1994).
-- The body of an optional slot is the slot and all that it reaches by fixed references; its part at a
-- controller is what that controller owns of the body. `create`: an occupied slot is refused with 1, a
-- container that is gone with 3; else the owner's part, where nobody lives there, lives with the next
-- generation, which is announced, and a PartMake goes to each other controller that has a part.
-- `part_make` makes such a part. `made_slots` is what is made, in slot order; `ended_slots` what ends,
-- in descending order: the controller's part, and of each live optional slot in what ends the same.
-- An answer that no row sends does nothing.
use Rattle.std.specs.Prelude.{ℕ, zero, suc, ℤ, pos, ◌+◌, ◌==◌, ◌&&◌, ◌||◌, Bool, true, false, not, List, [], ◌∷◌, ◌++◌, map, filter, flat_map, reverse, length, Option, Some, None, if◌then◌else◌}
use Rattle.std.specs.Option.{option_map_or}
use Rattle.std.specs.List.{range_with_len, list_any}
use Rattle.room_kinds.specs.declared.message.Msg.{Msg}
use Rattle.room_kinds.specs.declared.numbers.Incarnation.{Incarnation}
use Rattle.room_kinds.specs.declared.numbers.Endpoint.{Endpoint}
use Rattle.room_kinds.specs.declared.system.SysKind.{SysKind}
use Rattle.room_kinds.specs.declared.system.SysKind.TheVariants as kinds
use Rattle.room_wiring.specs.declared.tables.Tables.{Tables}
use Rattle.room_wiring.specs.Places.{is_told}
use Rattle.actor_duties.specs.Words.{updated, incarnation, frame_at, frame_of, whose, id_of, slots_of, is_fixed, is_optional, container_of, is_own}
use Rattle.actor_duties.specs.Messages.{system, reply, told_of, coded, Created, Destroyed, Refused, NotHere, Occupied, is_code}
use Rattle.actor_duties.specs.State.{Lives}

-- the generation that lives in a slot, 0 for none
abbrev pub standing : Lives → ℕ → ℕ
standing l s = if l.lives s then l.generation s else 0

-- whether this incarnation lives
abbrev pub is_live : Lives → Incarnation → Bool
is_live l x = l.lives x.slot.0 && (l.generation x.slot.0 == x.generation.0)

-- whether a container lives, as its part's owner sees it: one that another controller owns is a slot
-- that lives from the start, and counts as live
abbrev pub counts_as_live : Tables → ℕ → Lives → Incarnation → Bool
counts_as_live t me l x = if is_own t me x.slot.0 then is_live l x else true

-- the incarnation that stands in a slot, or stood there last
abbrev pub last_of : Lives → ℕ → Incarnation
last_of l s = incarnation s (l.generation s)

-- whether slot s is made with slot o, as all of o's body is: it is o, or a fixed slot of one that is
-- made with o; so many containers up are looked at
abbrev pub is_made_within : Tables → ℕ → ℕ → ℕ → Bool
is_made_within t o zero s = s == o
is_made_within t o (suc up) s =
    (s == o) || (is_fixed t s && option_map_or (λ c. is_made_within t o up c) (container_of t s) false)

-- the same, however deep
unfoldable pub is_made_with : Tables → ℕ → ℕ → Bool
is_made_with t o s = is_made_within t o (length t.slots) s

-- whether slot s is in the part of slot o at controller d
abbrev pub is_in_part : Tables → ℕ → ℕ → ℕ → Bool
is_in_part t d o s = is_made_with t o s && is_own t d s

-- whether controller d has a part of slot o
unfoldable pub has_part : Tables → ℕ → ℕ → Bool
has_part t d o = list_any (is_in_part t d o) (slots_of t)

-- the other controllers that have a part of slot o, ascending
unfoldable pub part_controllers : Tables → ℕ → ℕ → List ℕ
part_controllers t me o = filter (λ d. not (d == me) && has_part t d o) (range_with_len 0 (length t.controllers))

-- whether a slot is this controller's own and nobody lives there
abbrev pub is_vacant : Tables → ℕ → Lives → ℕ → Bool
is_vacant t me l s = is_own t me s && not (l.lives s)

-- whether an actor comes up in slot s when this controller makes slot o: s is made with o, and is vacant
unfoldable pub comes_up : Tables → ℕ → Lives → ℕ → ℕ → Bool
comes_up t me l o s = is_made_with t o s && is_vacant t me l s

-- the slots where an actor comes up with slot o, in their order
unfoldable pub made_slots : Tables → ℕ → Lives → ℕ → List ℕ
made_slots t me l o = filter (comes_up t me l o) (slots_of t)

-- whether slot s ends with its container c: it is fixed, or a live optional slot of a container that
-- this controller owns
abbrev pub ends_by : Tables → ℕ → Lives → ℕ → ℕ → Bool
ends_by t me l s c = is_fixed t s || (is_optional t s && l.lives s && is_own t me c)

-- whether the end of slot o reaches slot s: it is o, or ends with its container, which the end of o
-- reaches; so many containers up are looked at
abbrev pub is_reached_within : Tables → ℕ → Lives → ℕ → ℕ → ℕ → Bool
is_reached_within t me l o zero s = s == o
is_reached_within t me l o (suc up) s =
    (s == o) || option_map_or (λ c. ends_by t me l s c && is_reached_within t me l o up c) (container_of t s) false

-- the same, however deep
unfoldable pub is_reached : Tables → ℕ → Lives → ℕ → ℕ → Bool
is_reached t me l o s = is_reached_within t me l o (length t.slots) s

-- whether slot s is in the end set of slot o at this controller: the part of o here, and with each slot
-- in it the end set of each live optional slot whose container that slot is
abbrev pub is_in_end_set : Tables → ℕ → Lives → ℕ → ℕ → Bool
is_in_end_set t me l o s = is_own t me s && is_reached t me l o s

-- whether an actor goes down in slot s when slot o ends at this controller
unfoldable pub goes_down : Tables → ℕ → Lives → ℕ → ℕ → Bool
goes_down t me l o s = is_in_end_set t me l o s && l.lives s

-- the slots where an actor goes down with slot o, in descending order
unfoldable pub ended_slots : Tables → ℕ → Lives → ℕ → List ℕ
ended_slots t me l o = reverse (filter (goes_down t me l o) (slots_of t))

-- lives after a slot is made: what comes up lives with the next generation
unfoldable pub lives_made : Tables → ℕ → ℕ → Lives → Lives
lives_made t me o l = record {
  generation = λ s. if comes_up t me l o s then l.generation s + 1 else l.generation s;
  lives = λ s. comes_up t me l o s || l.lives s;
}

-- lives after a slot has ended: nobody lives where an actor went down
unfoldable pub lives_ended : Tables → ℕ → ℕ → Lives → Lives
lives_ended t me o l = record { generation = l.generation; lives = λ s. not (goes_down t me l o s) && l.lives s }

-- an Announce of an incarnation to one controller: 1 that it came up, 0 that it went down
abbrev pub announce_to : ℕ → Incarnation → ℤ → ℕ → Msg
announce_to me x up d = system me d kinds.Announce (frame_of x) (frame_of x) (up ∷ [])

-- the controllers that are told of the actors in a slot, ascending
unfoldable pub told_controllers : Tables → ℕ → List ℕ
told_controllers t s = filter (is_told t s) (range_with_len 0 (length t.controllers))

-- an Announce to each controller that is told, ascending
unfoldable pub announces : Tables → ℕ → Incarnation → ℤ → List Msg
announces t me x up = map (announce_to me x up) (told_controllers t x.slot.0)

-- a message on the part of an optional slot's incarnation, to one controller
abbrev pub part_told_to : ℕ → SysKind → Incarnation → ℕ → Msg
part_told_to me kind x d = system me d kind (frame_of x) (frame_of x) []

-- the same to each other controller that has a part, ascending
unfoldable pub parts_told : Tables → ℕ → SysKind → Incarnation → List Msg
parts_told t me kind x = map (part_told_to me kind x) (part_controllers t me x.slot.0)

-- what making gives: the lives after it, the messages at once, the incarnations that were made in slot
-- order, those that ended in descending slot order, and for a Create the message that closes it once
-- the initial transitions of the made are through
pub record Lived : Type 0 where
  pub lives : Lives
  pub sent : List Msg
  pub made : List Incarnation
  pub ended : List Incarnation
  pub last : Option Msg

-- the request is answered at once, and nothing else is done
abbrev pub answered : Lives → Msg → Lived
answered l m = record { lives = l; sent = []; made = []; ended = []; last = Some m }

-- row 17, PartMake: the part of slot o at this controller is made
unfoldable pub part_make : Tables → ℕ → Lives → ℕ → Lived
part_make t me l o =
    let now = lives_made t me o l in
    let new = map (last_of now) (made_slots t me l o) in
    record {
      lives = now;
      sent = flat_map (λ (i : Incarnation). announces t me i (pos 1)) new;
      made = new;
      ended = [];
      last = None;
    }

-- slot o is made for x: the part here, and by a message each other part
unfoldable pub made : Tables → ℕ → Lives → Msg → ℕ → Endpoint → Lived
made t me l m o x =
    let here = part_make t me l o in
    let new = last_of here.lives o in
    record here {
      sent = here.sent ++ parts_told t me kinds.PartMake new;
      last = Some (reply me m kinds.CreateDone (frame_of new) x []);
    }

-- row 0, Create: from the container x to its optional slot o. If x doesn't live, the answer is 3; if
-- o lives, 1; else o is made
unfoldable pub create : Tables → ℕ → Lives → Msg → ℕ → Endpoint → Lived
create t me l m o x =
    if not (counts_as_live t me l (whose x)) then answered l (reply me m kinds.CreateRefused (frame_at o 0) x (coded NotHere))
    else if l.lives o then answered l (reply me m kinds.CreateRefused (frame_at o 0) x (coded Occupied))
    else made t me l m o x

-- row 1, CreateDone: the container x is told `created`
unfoldable pub create_done : Tables → ℕ → Endpoint → Endpoint → List Msg
create_done t me new x = told_of t me Created new x new.slot.0 (id_of (whose new)) ∷ []

-- row 2, CreateRefused: the container x is told `refused`, with the code 1 or 3
unfoldable pub create_refused : Tables → ℕ → Endpoint → Endpoint → ℤ → List Msg
create_refused t me o x code =
    if is_code Occupied code || is_code NotHere code then told_of t me Refused o x o.slot.0 code ∷ [] else []

-- row 4, DestroyDone: the container x is told `destroyed`, of the generation that has ended, or
-- `refused`, of generation 0, where nothing was there
unfoldable pub destroy_done : Tables → ℕ → Endpoint → Endpoint → ℕ → List Msg
destroy_done t me o x code =
    if (code == 0) && not (o.generation.0 == 0) then told_of t me Destroyed o x o.slot.0 (id_of (whose o)) ∷ []
    else if (code == 3) && (o.generation.0 == 0) then told_of t me Refused o x o.slot.0 (pos code) ∷ []
    else []

-- row 11, Announce: the directory tells the generation that came up, or 0
unfoldable pub announce : (ℕ → ℕ) → Incarnation → ℕ → ℕ → ℕ
announce told x up =
    if up == 1 then updated told x.slot.0 x.generation.0
    else if up == 0 then updated told x.slot.0 0
    else told
