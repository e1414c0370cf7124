-- The commands of actions but those of the frame and layer services: sends, and messages that are
-- kept for later (ROOM: defer and recall; their exact rules are this project's own).
use Rattle.std.specs.Prelude.{ℕ, ℤ, pos, negsuc, nat_le, nat_lt, Bool, true, false, List, [], ◌∷◌, ◌++◌, map, filter, length, Option, Some, None, if◌then◌else◌}
use Rattle.room_kinds.specs.declared.message.Msg.{Msg}
use Rattle.room_kinds.specs.declared.numbers.Incarnation.{Incarnation}
use Rattle.room_kinds.specs.declared.numbers.Endpoint.{Endpoint}
use Rattle.room_kinds.specs.declared.numbers.Priority.{Priority}
use Rattle.room_kinds.specs.declared.note.Note.{Note}
use Rattle.room_kinds.specs.declared.note.Note.TheVariants as notes
use Rattle.room_wiring.specs.declared.tables.Tables.{Tables}
use Rattle.room_wiring.specs.Places.{port_count, place_count}
use Rattle.actor_duties.specs.Words.{endpoint, owner_of, is_spp, places_of}
use Rattle.actor_duties.specs.State.{Frame, Link, Links}
use Rattle.actor_duties.specs.Peers.{peer}

-- what an action sends: the signal, the numbers and the priority
pub record Content : Type 0 where
  pub signal : ℕ
  pub payload : List ℤ
  pub prio : Priority

-- messages for the outbox, and notes
pub record Sent : Type 0 where
  pub messages : List Msg
  pub notes : List Note

-- a message from one end place to another, at the owner of the other
abbrev pub message : Tables → ℕ → Endpoint → Endpoint → Content → Msg
message t me source target c = record {
  from = record { 0 = me };
  to = record { 0 = owner_of t target.slot.0 };
  prio = c.prio;
  stamp = record { 0 = 0 };
  source = Some source;
  target = target;
  signal = c.signal;
  payload = c.payload;
}

-- to the peer of a place; without one, a note
abbrev pub send_to : Tables → ℕ → Endpoint → Content → Option Endpoint → Sent
send_to t me source c (Some target) = record { messages = message t me source target c ∷ []; notes = [] }
send_to t me source c None = record { messages = []; notes = notes.Unbound source.port (pos source.place) ∷ [] }

-- send at a place of a port of x: a message to the peer, and without a peer, or with a place out of
-- range, the note `unbound`
unfoldable pub send : Tables → ℕ → Frame → Links → Incarnation → ℕ → ℤ → Content → Sent
send t me f l x p (pos k) c =
    let source = endpoint x.slot.0 x.generation.0 p k in send_to t me source c (peer t me f l source)
send t me f l x p (negsuc k) c = record { messages = []; notes = notes.Unbound p (negsuc k) ∷ [] }

-- the places of a port, ascending: those of the model, and behind them at a service provision point those
-- that are linked by name
abbrev pub all_places : Tables → Links → ℕ → ℕ → List ℕ
all_places t l s p =
    places_of t s p
    ++ (if is_spp t s p then filter (nat_le (place_count t s p)) (map (λ (x : Link). x.place) (l.linked s p)) else [])

-- the places that a broadcast goes to; none where the class of the slot has no such port
unfoldable pub broadcast_places : Tables → Links → ℕ → ℕ → List ℕ
broadcast_places t l s p = if nat_lt p (port_count t s) then all_places t l s p else []

-- a send at each of these places, in order
abbrev pub send_each : Tables → ℕ → Frame → Links → Incarnation → ℕ → Content → List ℕ → Sent
send_each t me f l x p c [] = record { messages = []; notes = [] }
send_each t me f l x p c (k ∷ ks) =
    let first = send t me f l x p (pos k) c in
    let rest = send_each t me f l x p c ks in
    record { messages = first.messages ++ rest.messages; notes = first.notes ++ rest.notes }

-- send without a place: a send at each place of the port
unfoldable pub broadcast : Tables → ℕ → Frame → Links → Incarnation → ℕ → Content → Sent
broadcast t me f l x p c = send_each t me f l x p c (broadcast_places t l x.slot.0 p)

-- what a command makes of the messages that an actor keeps: those that it keeps then, oldest first,
-- those that come back to the front of the pending lists, in order, and notes
pub record Kept : Type 0 where
  pub deferred : List Msg
  pub back : List Msg
  pub notes : List Note

-- `defer`: the message goes to the end of what is kept; a second one in a chain does nothing; without
-- a message the note `nomessage`
unfoldable pub defer : Bool → Option Msg → List Msg → Kept
defer true m deferred = record { deferred = deferred; back = []; notes = [] }
defer false (Some m) deferred = record { deferred = deferred ++ m ∷ []; back = []; notes = [] }
defer false None deferred = record { deferred = deferred; back = []; notes = notes.NoMessage ∷ [] }

-- `recall`: the oldest message that is kept comes back
unfoldable pub recall : List Msg → Kept
recall [] = record { deferred = []; back = []; notes = notes.Recall 0 ∷ [] }
recall (m ∷ ms) = record { deferred = ms; back = m ∷ []; notes = notes.Recall 1 ∷ [] }

-- `recallAll`: all messages that are kept come back
unfoldable pub recall_all : List Msg → Kept
recall_all deferred = record { deferred = []; back = deferred; notes = notes.Recall (length deferred) ∷ [] }
