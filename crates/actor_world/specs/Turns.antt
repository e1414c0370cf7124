-- What a turn makes of its message: a duty at priority 0; else the message is discarded, or the actor
-- handles it by its machine, and its commands are applied.
-- A message is discarded as `empty` where nobody lives in its slot, as `stale` where its
-- generation is neither 0 nor the live one. After a Create each new actor takes its initial
-- transition, in slot order; after a Destroy each ended one withdraws its names.
use Rattle.std.specs.Prelude.{ℕ, ◌==◌, ◌&&◌, ◌||◌, Bool, false, not, List, [], ◌∷◌, ◌++◌, length, slice_get, Option, Some, None, if◌then◌else◌}
use Rattle.room_kinds.specs.declared.message.Msg.{Msg}
use Rattle.room_kinds.specs.declared.note.Note.TheVariants as notes
use Rattle.room_kinds.specs.declared.numbers.Incarnation.{Incarnation}
use Rattle.room_kinds.specs.declared.system.SysKind.{SysKind}
use Rattle.room_kinds.specs.declared.system.SysKind.TheVariants as kinds
use Rattle.journal.specs.declared.entry.Did.{Did}
use Rattle.journal.specs.declared.entry.Did.TheVariants as did
use Rattle.room_wiring.specs.declared.tables.Tables.{Tables}
use Rattle.actor_merge.specs.Parties.{Treated}
use Rattle.actor_duties.specs.Words.{updated, whose, is_own}
use Rattle.actor_duties.specs.State.{Frame, Links, NameTable, Done}
use Rattle.actor_duties.specs.Lives.{is_live, last_of}
use Rattle.actor_duties.specs.Frame.{FrameDone, frame_duty}
use Rattle.actor_duties.specs.Names.{table_duty}
use Rattle.actor_duties.specs.Links.{links_duty, end_of}
use Rattle.actor_world.specs.Behaviour.{Behaviour, Outcome, Handling, Handled, Deferred, Unhandled}
use Rattle.actor_world.specs.Body.{Body, Doing, naming, apply_all}

-- the kinds of system messages in order of number
abbrev pub all_kinds : List SysKind
all_kinds =
    kinds.Create ∷ kinds.CreateDone ∷ kinds.CreateRefused ∷ kinds.Destroy ∷ kinds.DestroyDone ∷ kinds.Import ∷ kinds.ImportDone
    ∷ kinds.ImportRefused ∷ kinds.ImportEnded ∷ kinds.Deport ∷ kinds.DeportDone ∷ kinds.Announce ∷ kinds.Register ∷ kinds.Withdraw
    ∷ kinds.Bound ∷ kinds.Ended ∷ kinds.NameReply ∷ kinds.PartMake ∷ kinds.PartEnd ∷ []

-- a body to which nothing was done yet
abbrev pub doing : {M : Type 0} → Body M → Doing M
doing b = record { body = b; sent = []; back = []; notes = []; kept = false }

-- what is done by the end of a turn
abbrev pub treated : {M : Type 0} → Doing M → Did → Treated (Body M)
treated d what = record { body = d.body; sent = d.sent; back = d.back; did = what; notes = d.notes }

-- an actor begins: its note `up`, the notes of its initial transition, and its commands
abbrev pub begun : {M : Type 0} → Behaviour M → Tables → ℕ → Incarnation → Doing M → Doing M
begun model t me x d =
    let new = model.begin x in
    apply_all t me x None new.commands (record d {
      body = record d.body {
        machines = updated d.body.machines x.slot.0 (Some new.machine);
        deferred = updated d.body.deferred x.slot.0 [];
      };
      notes = d.notes ++ (notes.Up x (model.state new.machine) ∷ new.notes);
      kept = false;
    })

-- actors begin one after another
abbrev pub all_begun : {M : Type 0} → Behaviour M → Tables → ℕ → List Incarnation → Doing M → Doing M
all_begun model t me [] d = d
all_begun model t me (x ∷ xs) d = all_begun model t me xs (begun model t me x d)

-- an actor is gone: its note `down` with how many messages it had kept; its machine, its kept
-- messages, registrations and links go, and its names are withdrawn
abbrev pub gone : {M : Type 0} → Tables → ℕ → Incarnation → Doing M → Doing M
gone t me x d =
    naming (record d {
      body = record d.body {
        machines = updated d.body.machines x.slot.0 None;
        deferred = updated d.body.deferred x.slot.0 [];
      };
      notes = d.notes ++ notes.Down x (length (d.body.deferred x.slot.0)) ∷ [];
    }) (end_of t me d.body.links x)

-- actors are gone one after another
abbrev pub all_gone : {M : Type 0} → Tables → ℕ → List Incarnation → Doing M → Doing M
all_gone t me [] d = d
all_gone t me (x ∷ xs) d = all_gone t me xs (gone t me x d)

-- the message that closes a Create or a Destroy
abbrev pub closing : {M : Type 0} → Doing M → Option Msg → Doing M
closing d None = d
closing d (Some m) = record d { sent = d.sent ++ m ∷ [] }

-- a duty of the frame service, with the initial transitions of what it made and the withdrawals of
-- what it ended
abbrev pub with_frame : {M : Type 0} → Behaviour M → Tables → ℕ → Body M → FrameDone → Doing M
with_frame model t me b r =
    closing
    (all_gone t me r.ended (all_begun model t me r.made (record (doing b) { body = record b { frame = r.frame }; sent = r.sent })))
    r.last

-- a duty of the name table
abbrev pub with_table : {M : Type 0} → Body M → Done NameTable → Doing M
with_table b r = record (doing b) { body = record b { table = r.now }; sent = r.sent }

-- a duty of the links
abbrev pub with_links : {M : Type 0} → Body M → Done Links → Doing M
with_links b r = record (doing b) { body = record b { links = r.now }; sent = r.sent }

-- a duty on the own side of a name, where the target's actor lives
abbrev pub links_done : {M : Type 0} → Tables → ℕ → Body M → SysKind → Msg → Doing M
links_done t me b kind m = with_links b (links_duty t me b.links (is_own t me m.target.slot.0 && is_live b.frame.lives (whose m.target)) kind m)

-- the duty of a kind
abbrev pub duty : {M : Type 0} → Behaviour M → Tables → ℕ → Body M → Msg → SysKind → Doing M
duty model t me b m kinds.Register = with_table b (table_duty t me b.table kinds.Register m)
duty model t me b m kinds.Withdraw = with_table b (table_duty t me b.table kinds.Withdraw m)
duty model t me b m kinds.Bound = links_done t me b kinds.Bound m
duty model t me b m kinds.Ended = links_done t me b kinds.Ended m
duty model t me b m kinds.NameReply = links_done t me b kinds.NameReply m
duty model t me b m kinds.Create = with_frame model t me b (frame_duty t me b.frame kinds.Create m)
duty model t me b m kinds.CreateDone = with_frame model t me b (frame_duty t me b.frame kinds.CreateDone m)
duty model t me b m kinds.CreateRefused = with_frame model t me b (frame_duty t me b.frame kinds.CreateRefused m)
duty model t me b m kinds.Destroy = with_frame model t me b (frame_duty t me b.frame kinds.Destroy m)
duty model t me b m kinds.DestroyDone = with_frame model t me b (frame_duty t me b.frame kinds.DestroyDone m)
duty model t me b m kinds.Import = with_frame model t me b (frame_duty t me b.frame kinds.Import m)
duty model t me b m kinds.ImportDone = with_frame model t me b (frame_duty t me b.frame kinds.ImportDone m)
duty model t me b m kinds.ImportRefused = with_frame model t me b (frame_duty t me b.frame kinds.ImportRefused m)
duty model t me b m kinds.ImportEnded = with_frame model t me b (frame_duty t me b.frame kinds.ImportEnded m)
duty model t me b m kinds.Deport = with_frame model t me b (frame_duty t me b.frame kinds.Deport m)
duty model t me b m kinds.DeportDone = with_frame model t me b (frame_duty t me b.frame kinds.DeportDone m)
duty model t me b m kinds.Announce = with_frame model t me b (frame_duty t me b.frame kinds.Announce m)
duty model t me b m kinds.PartMake = with_frame model t me b (frame_duty t me b.frame kinds.PartMake m)
duty model t me b m kinds.PartEnd = with_frame model t me b (frame_duty t me b.frame kinds.PartEnd m)

-- a system message; a number that is no kind's is passed over
abbrev pub system_done : {M : Type 0} → Behaviour M → Tables → ℕ → Body M → Msg → Option SysKind → Doing M
system_done model t me b m None = doing b
system_done model t me b m (Some kind) = duty model t me b m kind

-- what a journal says of a message that an actor handled
abbrev pub handled_as : Handling → Incarnation → ℕ → Did
handled_as Handled x state = did.Handled x state
handled_as Deferred x state = did.Deferred x state
handled_as Unhandled x state = did.Unhandled x state

-- an actor's machine after a message, and its commands applied
abbrev pub moved : {M : Type 0} → Tables → ℕ → Body M → Incarnation → Msg → Outcome M → Doing M
moved t me b x m r =
    apply_all t me x (Some m) r.commands (record (doing b) {
      body = record b { machines = updated b.machines x.slot.0 (Some r.machine) };
      notes = r.notes;
    })

-- an actor handles a message
unfoldable pub handled : {M : Type 0} → Behaviour M → Tables → ℕ → Body M → Incarnation → Msg → M → Treated (Body M)
handled model t me b x m machine =
    let r = model.handle x machine m in treated (moved t me b x m r) (handled_as r.result x (model.state r.machine))

-- a message that nobody stands there for
abbrev pub nobody_there : {M : Type 0} → Body M → Msg → Treated (Body M)
nobody_there b m = treated (doing b) (did.Empty (whose m.target))

-- the actor of a slot handles a message, if there is one
abbrev pub dispatched : {M : Type 0} → Behaviour M → Tables → ℕ → Body M → Msg → Option M → Treated (Body M)
dispatched model t me b m None = nobody_there b m
dispatched model t me b m (Some machine) = handled model t me b (last_of b.frame.lives m.target.slot.0) m machine

-- whether a message's target is whoever stands in its slot, or just what lives there
abbrev pub is_meant : Frame → Msg → Bool
is_meant f m = (m.target.generation.0 == 0) || (m.target.generation.0 == f.lives.generation m.target.slot.0)

-- a message of priority 1 to 5: discarded where nobody lives in the slot, or another generation; else
-- the actor handles it
unfoldable pub dispatch : {M : Type 0} → Behaviour M → Tables → ℕ → Body M → Msg → Treated (Body M)
dispatch model t me b m =
    if not (is_own t me m.target.slot.0 && b.frame.lives.lives m.target.slot.0) then nobody_there b m
    else if not (is_meant b.frame m) then treated (doing b) (did.Stale (whose m.target))
    else dispatched model t me b m (b.machines m.target.slot.0)

-- what a turn makes of the message that it took out
unfoldable pub treat : {M : Type 0} → Behaviour M → Tables → ℕ → Body M → Msg → Treated (Body M)
treat model t me b m =
    if m.prio.0 == 0 then treated (system_done model t me b m (slice_get all_kinds m.signal)) did.Duty
    else dispatch model t me b m
