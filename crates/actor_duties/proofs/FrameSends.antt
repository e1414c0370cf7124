-- Whatever holds of all messages of the kinds of the frame service holds of all that its duties and the commands on lives
-- and imports send: the one walk over them. Each row takes what it needs of the messages that it makes.
-- What is said of a message may ask for a receiver that is one of some: the owners of slots, and controllers.
use Rattle.std.proofs.Common.{ℕ, ◌+◌, ◌<◌, ◌==◌, Bool, true, false, not, ◌&&◌, ◌||◌, if◌then◌else◌, List, [], ◌∷◌, ◌++◌, map, flat_map, length, Option, Some, None, ℤ, pos, negsuc, arith}
use Rattle.std.specs.List.{AllByRecursion as Each, range_with_len}
use Rattle.room_kinds.specs.declared.message.Msg.{Msg}
use Rattle.room_kinds.specs.declared.numbers.Incarnation.{Incarnation}
use Rattle.room_kinds.specs.declared.numbers.Endpoint.{Endpoint}
use Rattle.room_kinds.specs.declared.system.SysKind.{SysKind}
use Rattle.room_kinds.specs.declared.system.SysKind.TheVariants as kinds
use Rattle.room_kinds.specs.declared.command.FrameCommand.{FrameCommand}
use Rattle.room_kinds.specs.declared.command.FrameCommand.TheVariants as frames
use Rattle.room_wiring.specs.declared.tables.Tables.{Tables}
use Rattle.room_wiring.specs.Places.{is_told}
use Rattle.actor_duties.specs.Words.{owner_of, incarnation, frame_at, frame_of, of_id, part_at, is_optional, whose}
use Rattle.actor_duties.specs.State.{Lives, Frame, ImportPlace, Empty, Asking, Held, Leaving}
use Rattle.actor_duties.specs.Messages.{system, reply, Code, coded, is_code, Occupied, NotHere}
use Rattle.actor_duties.specs.Lives.{Lived, answered, counts_as_live, is_live, last_of, lives_made, made_slots, create, made, part_make, announce_to, announces, told_controllers, part_told_to, parts_told, has_part, part_controllers, create_done, create_refused, destroy_done, ended_slots}
use Rattle.actor_duties.specs.Imports.{imported_parts, given_back, ended_plugs, is_port_taken, import, heard, import_done, import_refused, import_ended, deport, deport_done, is_container_live}
use Rattle.actor_duties.specs.Frame.{FrameDone, nothing, end_messages, part_ends, end_set_ended, destroy, part_end, plainly, with_number, of_natural, frame_duty_of, frame_duty_from, frame_duty, asked_of, incarnate, destroy_command, import_code, import_with, import_into, import_command, deport_from, deport_of, deport_command, frame_request}
use Rattle.actor_duties.proofs.Each.{each_both, each_if, each_of, each_any, each_flat, each_passes, range_below}
use Rattle.actor_duties.proofs.NameSends.{HoldsOfTold, each_done}

-- receivers: the owner of each slot, and each controller
pub record AreReceivers (t : Tables) (R : ℕ → Type 0) : Type 0 where
  pub owner : (s : ℕ) → R (owner_of t s)
  pub controller : (d : ℕ) → d < length t.controllers → R d

-- where nothing is asked of a receiver
abbrev pub IsAny : ℕ → Type 0
IsAny d = Unit {0}

pub any_receivers : (t : Tables) → AreReceivers t IsAny
any_receivers t = record { owner = λ s. tt; controller = λ d h. tt }

-- P holds of the messages of a kind to such receivers
abbrev pub HoldsOf : ℕ → (ℕ → Type 0) → (Msg → Type 0) → SysKind → Type 0
HoldsOf me R P kind = (d : ℕ) → R d → (source target : Endpoint) (payload : List ℤ) → P (system me d kind source target payload)

-- P holds of all messages of the frame service
pub record HoldsOfFrame (me : ℕ) (R : ℕ → Type 0) (P : Msg → Type 0) : Type 0 where
  pub told : HoldsOfTold me P
  pub creates : HoldsOf me R P kinds.Create
  pub created : HoldsOf me R P kinds.CreateDone
  pub uncreated : HoldsOf me R P kinds.CreateRefused
  pub destroys : HoldsOf me R P kinds.Destroy
  pub destroyed : HoldsOf me R P kinds.DestroyDone
  pub imports : HoldsOf me R P kinds.Import
  pub imported : HoldsOf me R P kinds.ImportDone
  pub unimported : HoldsOf me R P kinds.ImportRefused
  pub plug_ended : HoldsOf me R P kinds.ImportEnded
  pub deports : HoldsOf me R P kinds.Deport
  pub deported : HoldsOf me R P kinds.DeportDone
  pub announces : HoldsOf me R P kinds.Announce
  pub part_made : HoldsOf me R P kinds.PartMake
  pub part_ended : HoldsOf me R P kinds.PartEnd

-- so it does where it holds of the messages of any kind
pub of_all_kinds : (me : ℕ) (R : ℕ → Type 0) (P : Msg → Type 0) → HoldsOfTold me P → ((kind : SysKind) → HoldsOf me R P kind) → HoldsOfFrame me R P
of_all_kinds me R P told holds = record {
  told = told;
  creates = holds kinds.Create;
  created = holds kinds.CreateDone;
  uncreated = holds kinds.CreateRefused;
  destroys = holds kinds.Destroy;
  destroyed = holds kinds.DestroyDone;
  imports = holds kinds.Import;
  imported = holds kinds.ImportDone;
  unimported = holds kinds.ImportRefused;
  plug_ended = holds kinds.ImportEnded;
  deports = holds kinds.Deport;
  deported = holds kinds.DeportDone;
  announces = holds kinds.Announce;
  part_made = holds kinds.PartMake;
  part_ended = holds kinds.PartEnd;
}

-- ---- what tells actors what came of their requests

module _ (t : Tables) (me : ℕ) (P : Msg → Type 0) (told : HoldsOfTold me P) where
  pub create_done_sends : (o x : Endpoint) → Each P (create_done t me o x)
  unfolding create_done
  create_done_sends o x = (told _ _ _ _, tt)

  pub create_refused_sends : (o x : Endpoint) (code : ℤ) → Each P (create_refused t me o x code)
  unfolding create_refused
  create_refused_sends o x code = each_if P (is_code Occupied code || is_code NotHere code) _ _ (told _ _ _ _, tt) tt

  pub destroy_done_sends : (o x : Endpoint) (code : ℕ) → Each P (destroy_done t me o x code)
  unfolding destroy_done
  destroy_done_sends o x code =
      each_if P ((code == 0) && not (o.generation.0 == 0)) _ _ (told _ _ _ _, tt) (each_if P ((code == 3) && (o.generation.0 == 0)) _ _ (told _ _ _ _, tt) tt)

  heard_sends : (l : Lives) (places : ℕ → ImportPlace) (i : Endpoint) (fits : Bool) (next : ImportPlace) (m : Msg) → P m → Each P (heard t l places i fits next m).sent
  heard_sends l places i fits next m h = each_done P (is_container_live t l i && fits) _ _ (h, tt) tt

  pub import_done_sends : (l : Lives) (places : ℕ → ImportPlace) (h i : Endpoint) → Each P (import_done t me l places h i).sent
  unfolding import_done
  import_done_sends l places h i = heard_sends l places i _ _ _ (told _ _ _ _)

  pub import_refused_sends : (l : Lives) (places : ℕ → ImportPlace) (h i : Endpoint) (code : ℤ) → Each P (import_refused t me l places h i code).sent
  unfolding import_refused
  import_refused_sends l places h i code = heard_sends l places i _ _ _ (told _ _ _ _)

  pub import_ended_sends : (l : Lives) (places : ℕ → ImportPlace) (h i : Endpoint) → Each P (import_ended t me l places h i).sent
  unfolding import_ended
  import_ended_sends l places h i = heard_sends l places i _ _ _ (told _ _ _ _)

  pub deport_done_sends : (l : Lives) (places : ℕ → ImportPlace) (h i : Endpoint) → Each P (deport_done t me l places h i).sent
  unfolding deport_done
  deport_done_sends l places h i = heard_sends l places i _ _ _ (told _ _ _ _)

module _ (t : Tables) (me : ℕ) (R : ℕ → Type 0) (receivers : AreReceivers t R) (P : Msg → Type 0) where
  -- ---- what makes and ends actors

  pub announces_send : HoldsOf me R P kinds.Announce → (x : Incarnation) (up : ℤ) → Each P (announces t me x up)
  unfolding announces told_controllers
  announces_send holds x up =
      each_of P (λ d. d < length t.controllers) (announce_to me x up) (λ d h. holds d (receivers.controller d h) _ _ _) (told_controllers t x.slot.0)
      (each_passes (λ d. d < length t.controllers) (is_told t x.slot.0) (range_with_len 0 (length t.controllers)) (range_below (length t.controllers) 0 (length t.controllers) (omega arith)))

  parts_send : (kind : SysKind) → HoldsOf me R P kind → (x : Incarnation) → Each P (parts_told t me kind x)
  unfolding parts_told part_controllers
  parts_send kind holds x =
      each_of P (λ d. d < length t.controllers) (part_told_to me kind x) (λ d h. holds d (receivers.controller d h) _ _ _) (part_controllers t me x.slot.0)
      (each_passes (λ d. d < length t.controllers) (λ d. not (d == me) && has_part t d x.slot.0) (range_with_len 0 (length t.controllers)) (range_below (length t.controllers) 0 (length t.controllers) (omega arith)))

  pub part_makes_send : HoldsOf me R P kinds.PartMake → (x : Incarnation) → Each P (parts_told t me kinds.PartMake x)
  part_makes_send holds x = parts_send kinds.PartMake holds x

  pub part_ends_told : HoldsOf me R P kinds.PartEnd → (x : Incarnation) → Each P (parts_told t me kinds.PartEnd x)
  part_ends_told holds x = parts_send kinds.PartEnd holds x

  pub made_announced : HoldsOf me R P kinds.Announce → (xs : List Incarnation) → Each P (flat_map (λ (i : Incarnation). announces t me i (pos 1)) xs)
  made_announced holds xs = each_flat P (λ (i : Incarnation). announces t me i (pos 1)) (λ i. announces_send holds i (pos 1)) xs

  pub part_make_sends : HoldsOf me R P kinds.Announce → (l : Lives) (o : ℕ) → Each P (part_make t me l o).sent
  unfolding part_make
  part_make_sends holds l o = made_announced holds (map (last_of (lives_made t me o l)) (made_slots t me l o))

  -- what making gives, and the messages that it sends
  LivedSends : Lived → Type 0
  LivedSends r = Each P r.sent

  pub create_sends : HoldsOf me R P kinds.Announce → HoldsOf me R P kinds.PartMake → (l : Lives) (m : Msg) (o : ℕ) (x : Endpoint) → Each P (create t me l m o x).sent
  unfolding create made LivedSends
  create_sends announce make l m o x = go (counts_as_live t me l (whose x)) (l.lives o)
    where
      go : (a b : Bool) → LivedSends (
          if not a then answered l (reply me m kinds.CreateRefused (frame_at o 0) x (coded NotHere))
          else if b then answered l (reply me m kinds.CreateRefused (frame_at o 0) x (coded Occupied))
          else made t me l m o x)
      go false b = tt
      go true true = tt
      go true false = each_both P (part_make t me l o).sent _ (part_make_sends announce l o) (part_makes_send make (last_of (part_make t me l o).lives o))

  pub ended_plugs_send : HoldsOf me R P kinds.ImportEnded → (x : Incarnation) (plugs : List Incarnation) → Each P (ended_plugs t me x plugs)
  ended_plugs_send holds x plugs = each_any P _ (λ i. holds _ (receivers.owner i.slot.0) _ _ _) plugs

  pub given_back_sends : HoldsOf me R P kinds.Deport → (x : Incarnation) (place : ImportPlace) → Each P (given_back t me x place)
  given_back_sends holds x Empty = tt
  given_back_sends holds x (Asking h) = (holds _ (receivers.owner h.slot.0) _ _ _, tt)
  given_back_sends holds x (Held h) = (holds _ (receivers.owner h.slot.0) _ _ _, tt)
  given_back_sends holds x (Leaving h) = tt

  pub part_ends_send : HoldsOf me R P kinds.PartEnd → (f : Frame) (ss : List ℕ) → Each P (flat_map (part_ends t me f) ss)
  unfolding part_ends
  part_ends_send holds f ss = each_flat P (part_ends t me f) (λ s. each_if P (is_optional t s) _ _ (part_ends_told holds (last_of f.lives s)) tt) ss

  -- ---- what answers imports

  pub import_sends : HoldsOf me R P kinds.ImportRefused → HoldsOf me R P kinds.ImportDone → (m : Msg) → R m.from.0
      → (l : Lives) (plugs : ℕ → List Incarnation) (i h : Endpoint) → Each P (import t me l plugs m i h).sent
  unfolding import
  import_sends refused done m from l plugs i h =
      each_done P (not (is_live l (whose h))) _ _ (refused m.from.0 from _ _ _, tt)
      (each_done P (is_port_taken t (plugs h.slot.0) (whose i) (whose h)) _ _ (refused m.from.0 from _ _ _, tt) (done m.from.0 from _ _ _, tt))

  pub deport_sends : HoldsOf me R P kinds.DeportDone → (m : Msg) → R m.from.0 → (l : Lives) (plugs : ℕ → List Incarnation) (i h : Endpoint) → Each P (deport me l plugs m i h).sent
  unfolding deport
  deport_sends done m from l plugs i h = (done m.from.0 from _ _ _, tt)

  -- ---- the commands on lives and imports

  -- a request to an optional slot
  pub asked_holds : HoldsOfTold me P → (kind : SysKind) → HoldsOf me R P kind → (x : Incarnation) (reference : ℕ) (index : ℤ) (o : Option ℕ) → P (asked_of t me kind x reference index o)
  asked_holds told kind holds x reference index None = told _ _ _ _
  asked_holds told kind holds x reference index (Some o) = holds _ (receivers.owner o) _ _ _

  module _ (told : HoldsOfTold me P) (creates : HoldsOf me R P kinds.Create) (destroys : HoldsOf me R P kinds.Destroy) (imports : HoldsOf me R P kinds.Import) (deports : HoldsOf me R P kinds.Deport) where
    imports_with : (places : ℕ → ImportPlace) (x : Incarnation) (reference : ℕ) (index : ℤ) (i : ℕ) (home : Option Incarnation) (code : Option Code)
        → Each P (import_with t me places x reference index i home code).sent
    imports_with places x reference index i home (Some code) = (told _ _ _ _, tt)
    imports_with places x reference index i (Some h) None = (imports _ (receivers.owner h.slot.0) _ _ _, tt)
    imports_with places x reference index i None None = (told _ _ _ _, tt)

    imports_into : (places : ℕ → ImportPlace) (x : Incarnation) (reference : ℕ) (index id : ℤ) (o : Option ℕ) → Each P (import_into t me places x reference index id o).sent
    imports_into places x reference index id None = (told _ _ _ _, tt)
    imports_into places x reference index id (Some i) = imports_with places x reference index i (of_id id) (import_code t places i (of_id id))

    deports_from : (places : ℕ → ImportPlace) (x : Incarnation) (reference : ℕ) (index : ℤ) (i : ℕ) (place : ImportPlace)
        → Each P (deport_from t me places x reference index i place).sent
    deports_from places x reference index i Empty = (told _ _ _ _, tt)
    deports_from places x reference index i (Asking h) = (told _ _ _ _, tt)
    deports_from places x reference index i (Held h) = (deports _ (receivers.owner h.slot.0) _ _ _, tt)
    deports_from places x reference index i (Leaving h) = (told _ _ _ _, tt)

    deports_of : (places : ℕ → ImportPlace) (x : Incarnation) (reference : ℕ) (index : ℤ) (o : Option ℕ) → Each P (deport_of t me places x reference index o).sent
    deports_of places x reference index None = (told _ _ _ _, tt)
    deports_of places x reference index (Some i) = deports_from places x reference index i (places i)

    pub frame_request_sends : (f : Frame) (x : Incarnation) (c : FrameCommand) → Each P (frame_request t me f x c).sent
    unfolding incarnate destroy_command import_command deport_command
    frame_request_sends f x (frames.Incarnate reference index) = (asked_holds told kinds.Create creates x reference index (part_at t x.slot.0 reference index), tt)
    frame_request_sends f x (frames.Destroy reference index) = (asked_holds told kinds.Destroy destroys x reference index (part_at t x.slot.0 reference index), tt)
    frame_request_sends f x (frames.Import reference index id) = imports_into f.places x reference index id (part_at t x.slot.0 reference index)
    frame_request_sends f x (frames.Deport reference index) = deports_of f.places x reference index (part_at t x.slot.0 reference index)

-- ---- all duties

-- P holds of the message that closes a duty, if there is one
abbrev pub HoldsOfLast : (Msg → Type 0) → Option Msg → Type 0
HoldsOfLast P None = Unit {0}
HoldsOfLast P (Some m) = P m

-- P holds of all that a duty sends
pub record HoldsOfDuty (P : Msg → Type 0) (r : FrameDone) : Type 0 where
  pub sent : Each P r.sent
  pub last : HoldsOfLast P r.last

record HoldsOfLived (P : Msg → Type 0) (r : Lived) : Type 0 where
  sent : Each P r.sent
  last : HoldsOfLast P r.last

-- what holds where nothing is done, and of a duty, holds of the duty at a message of its form, and else
module _ (f : Frame) (Q : FrameDone → Type 0) (still : Q (nothing f)) where
  at_plain : (fits : Bool) (ns : List ℤ) (done : FrameDone) → Q done → Q (plainly f fits ns done)
  at_plain true [] done h = h
  at_plain false [] done h = still
  at_plain fits (k ∷ ns) done h = still

  at_number : (fits : Bool) (ns : List ℤ) (done : ℤ → FrameDone) → ((k : ℤ) → Q (done k)) → Q (with_number f fits ns done)
  at_number fits [] done h = still
  at_number true (k ∷ []) done h = h k
  at_number false (k ∷ []) done h = still
  at_number fits (k ∷ (j ∷ ns)) done h = still

  at_natural : (k : ℤ) (done : ℕ → FrameDone) → ((j : ℕ) → Q (done j)) → Q (of_natural f k done)
  at_natural (pos j) done h = h j
  at_natural (negsuc j) done h = still

module _ (t : Tables) (me : ℕ) (R : ℕ → Type 0) (receivers : AreReceivers t R) (P : Msg → Type 0) (holds : HoldsOfFrame me R P) where
  -- the commands
  pub request_sends : (f : Frame) (x : Incarnation) (c : FrameCommand) → Each P (frame_request t me f x c).sent
  request_sends f x c = frame_request_sends t me R receivers P holds.told holds.creates holds.destroys holds.imports holds.deports f x c

  end_sends : (f : Frame) (s : ℕ) → Each P (end_messages t me f s)
  unfolding end_messages
  end_sends f s =
      let x : Incarnation = last_of f.lives s in
      let back : ℕ → List Msg = λ i. given_back t me (incarnation i x.generation.0) (f.places i) in
      each_both P (ended_plugs t me x (f.plugs s)) (flat_map back (imported_parts t s) ++ announces t me x (pos 0)) (ended_plugs_send t me R receivers P holds.plug_ended x (f.plugs s))
      (each_both P (flat_map back (imported_parts t s)) (announces t me x (pos 0))
      (each_flat P back (λ i. given_back_sends t me R receivers P holds.deports (incarnation i x.generation.0) (f.places i)) (imported_parts t s))
      (announces_send t me R receivers P holds.announces x (pos 0)))

  end_set_sends : (f : Frame) (o : ℕ) (last : Option Msg) → Each P (end_set_ended t me f o last).sent
  unfolding end_set_ended
  end_set_sends f o last =
      each_both P _ _ (each_flat P (end_messages t me f) (end_sends f) (ended_slots t me f.lives o)) (part_ends_send t me R receivers P holds.part_ended f (ended_slots t me f.lives o))

  module _ (m : Msg) (from : R m.from.0) where
    creates_sends : (l : Lives) (o : ℕ) (x : Endpoint) → HoldsOfLived P (create t me l m o x)
    unfolding create made
    creates_sends l o x = go (counts_as_live t me l (whose x)) (l.lives o)
      where
        go : (a b : Bool) → HoldsOfLived P (
            if not a then answered l (reply me m kinds.CreateRefused (frame_at o 0) x (coded NotHere))
            else if b then answered l (reply me m kinds.CreateRefused (frame_at o 0) x (coded Occupied))
            else made t me l m o x)
        go false b = record { sent = tt; last = holds.uncreated m.from.0 from _ _ _ }
        go true true = record { sent = tt; last = holds.uncreated m.from.0 from _ _ _ }
        go true false = record {
          sent = each_both P (part_make t me l o).sent _ (part_make_sends t me R receivers P holds.announces l o)
              (part_makes_send t me R receivers P holds.part_made (last_of (part_make t me l o).lives o));
          last = holds.created m.from.0 from _ _ _;
        }

    destroys_sends : (f : Frame) (o : ℕ) (x : Endpoint) → HoldsOfDuty P (destroy t me f m o x)
    unfolding destroy end_set_ended
    destroys_sends f o x = go (not (counts_as_live t me f.lives (whose x)) || not (f.lives.lives o))
      where
        done : Option Msg
        done = Some (reply me m kinds.DestroyDone (frame_of (last_of f.lives o)) x (pos 0 ∷ []))

        ended : HoldsOfDuty P (end_set_ended t me f o done)
        ended = record { sent = end_set_sends f o done; last = holds.destroyed m.from.0 from _ _ _ }

        go : (a : Bool) → HoldsOfDuty P (
            if a then record { frame = f; sent = []; made = []; ended = []; last = Some (reply me m kinds.DestroyDone (frame_at o 0) x (coded NotHere)) }
            else end_set_ended t me f o done)
        go true = record { sent = tt; last = holds.destroyed m.from.0 from _ _ _ }
        go false = ended

    part_end_sends : (f : Frame) (o : ℕ) → HoldsOfDuty P (part_end t me f o)
    unfolding part_end end_set_ended
    part_end_sends f o = record { sent = end_set_sends f o None; last = tt }

    part_makes : (f : Frame) (o : ℕ) → HoldsOfLived P (part_make t me f.lives o)
    unfolding part_make
    part_makes f o = record { sent = part_make_sends t me R receivers P holds.announces f.lives o; last = tt }

    module _ (f : Frame) where
      still : HoldsOfDuty P (nothing f)
      still = record { sent = tt; last = tt }

      duty_of_kind : (kind : SysKind) (x y : Endpoint) → HoldsOfDuty P (frame_duty_of t me f m kind x y)
      duty_of_kind kinds.Create x o =
          at_plain f (HoldsOfDuty P) still _ m.payload _ (record { sent = (creates_sends f.lives o.slot.0 x).sent; last = (creates_sends f.lives o.slot.0 x).last })
      duty_of_kind kinds.CreateDone o x = at_plain f (HoldsOfDuty P) still _ m.payload _ (record { sent = create_done_sends t me P holds.told o x; last = tt })
      duty_of_kind kinds.CreateRefused o x =
          at_number f (HoldsOfDuty P) still _ m.payload _ (λ code. record { sent = create_refused_sends t me P holds.told o x code; last = tt })
      duty_of_kind kinds.Destroy x o = at_plain f (HoldsOfDuty P) still _ m.payload _ (destroys_sends f o.slot.0 x)
      duty_of_kind kinds.DestroyDone o x =
          at_number f (HoldsOfDuty P) still _ m.payload _
          (λ k. at_natural f (HoldsOfDuty P) still k _ (λ code. record { sent = destroy_done_sends t me P holds.told o x code; last = tt }))
      duty_of_kind kinds.Import i h =
          at_plain f (HoldsOfDuty P) still _ m.payload _ (record { sent = import_sends t me R receivers P holds.unimported holds.imported m from f.lives f.plugs i h; last = tt })
      duty_of_kind kinds.ImportDone h i = at_plain f (HoldsOfDuty P) still _ m.payload _ (record { sent = import_done_sends t me P holds.told f.lives f.places h i; last = tt })
      duty_of_kind kinds.ImportRefused h i =
          at_number f (HoldsOfDuty P) still _ m.payload _ (λ code. record { sent = import_refused_sends t me P holds.told f.lives f.places h i code; last = tt })
      duty_of_kind kinds.ImportEnded h i = at_plain f (HoldsOfDuty P) still _ m.payload _ (record { sent = import_ended_sends t me P holds.told f.lives f.places h i; last = tt })
      duty_of_kind kinds.Deport i h =
          at_plain f (HoldsOfDuty P) still _ m.payload _ (record { sent = deport_sends t me R receivers P holds.deported m from f.lives f.plugs i h; last = tt })
      duty_of_kind kinds.DeportDone h i = at_plain f (HoldsOfDuty P) still _ m.payload _ (record { sent = deport_done_sends t me P holds.told f.lives f.places h i; last = tt })
      duty_of_kind kinds.Announce x y =
          at_number f (HoldsOfDuty P) still _ m.payload _ (λ k. at_natural f (HoldsOfDuty P) still k _ (λ up. record { sent = tt; last = tt }))
      duty_of_kind kinds.Register x y = still
      duty_of_kind kinds.Withdraw x y = still
      duty_of_kind kinds.Bound x y = still
      duty_of_kind kinds.Ended x y = still
      duty_of_kind kinds.NameReply x y = still
      duty_of_kind kinds.PartMake o again =
          at_plain f (HoldsOfDuty P) still _ m.payload _ (record { sent = (part_makes f o.slot.0).sent; last = (part_makes f o.slot.0).last })
      duty_of_kind kinds.PartEnd o again = at_plain f (HoldsOfDuty P) still _ m.payload _ (part_end_sends f o.slot.0)

      duty_from : (kind : SysKind) (source : Option Endpoint) → HoldsOfDuty P (frame_duty_from t me f m kind source)
      duty_from kind None = still
      duty_from kind (Some x) = duty_of_kind kind x m.target

      -- the duties of the kinds 0 to 11, 17 and 18
      pub frame_duty_sends : (kind : SysKind) → HoldsOfDuty P (frame_duty t me f kind m)
      unfolding frame_duty
      frame_duty_sends kind = duty_from kind m.source
