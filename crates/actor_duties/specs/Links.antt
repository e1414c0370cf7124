-- Registrations and links at the owner of a service point: the duties of the kinds 14 to 16, the
-- commands `register` and `withdraw`, and what the end of an actor withdraws.
use Rattle.std.specs.Prelude.{ℕ, ℤ, pos, ◌==◌, ◌&&◌, ◌||◌, nat_lt, nat_le, Bool, true, false, not, List, [], ◌∷◌, map, filter, find, Option, Some, None, option_map, if◌then◌else◌}
use Rattle.room_kinds.specs.declared.message.Msg.{Msg}
use Rattle.room_kinds.specs.declared.numbers.Incarnation.{Incarnation}
use Rattle.room_kinds.specs.declared.numbers.Endpoint.{Endpoint}
use Rattle.room_kinds.specs.declared.system.SysKind.{SysKind}
use Rattle.room_kinds.specs.declared.system.SysKind.TheVariants as kinds
use Rattle.room_kinds.specs.declared.command.NameCommand.{NameCommand}
use Rattle.room_kinds.specs.declared.command.NameCommand.TheVariants as commands
use Rattle.room_wiring.specs.declared.tables.Tables.{Tables}
use Rattle.actor_duties.specs.Words.{updated, endpoint, whose, is_endpoint, is_own, is_sap, is_spp, joined_at, is_joined, ports_of}
use Rattle.actor_duties.specs.Messages.{system, name_told, Code, code_number, Named, Unnamed, NameRefused, PortTaken, Busy, NameTaken, NotRegistered}
use Rattle.actor_duties.specs.State.{Registration, Unnamed as NoName, Asked, Registered, Leaving, Link, Links, Done}

-- a function of two numbers with another value at one pair
abbrev pub updated_at : {A : Type 0} → (ℕ → ℕ → A) → ℕ → ℕ → A → ℕ → ℕ → A
updated_at f s p value = updated f s (updated (f s) p value)

-- links with one more at its place, in order of place; a link that stood there is replaced
abbrev pub with_link : Link → List Link → List Link
with_link x [] = x ∷ []
with_link x (y ∷ ys) =
    if nat_lt x.place y.place then x ∷ (y ∷ ys)
    else if x.place == y.place then x ∷ ys
    else y ∷ with_link x ys

-- whether a link is the one of this place to this peer
abbrev pub is_link : Endpoint → ℕ → Link → Bool
is_link peer k x = (x.place == k) && is_endpoint x.peer peer

-- row 14, Bound: the own place is linked to the peer
unfoldable pub bound : Links → Endpoint → Endpoint → Links
bound l peer own = record l {
  linked = updated_at l.linked own.slot.0 own.port (with_link (record { place = own.place; peer = peer }) (l.linked own.slot.0 own.port));
}

-- row 15, Ended: the link of the own place to the peer goes, if it is there
unfoldable pub unbound : Links → Endpoint → Endpoint → Links
unbound l peer own = record l {
  linked = updated_at l.linked own.slot.0 own.port (filter (λ x. not (is_link peer own.place x)) (l.linked own.slot.0 own.port));
}

-- a registration becomes another one, and the actor is told
abbrev pub name_heard : ℕ → Links → Endpoint → Registration → Msg → Done Links
name_heard me l e next tell = record {
  now = record l { registrations = updated_at l.registrations e.slot.0 e.port next };
  sent = tell ∷ [];
}

-- nothing is done
abbrev pub same_links : Links → Done Links
same_links l = record { now = l; sent = [] }

-- a reply to who asked: registered with 0, refused with 8
abbrev pub asked_heard : ℕ → Links → Endpoint → ℕ → Done Links
asked_heard me l e code =
    if code == 0 then name_heard me l e Registered (name_told me Named (whose e) (pos e.port ∷ []))
    else if code == 8 then name_heard me l e NoName (name_told me NameRefused (whose e) (pos e.port ∷ pos code ∷ []))
    else same_links l

-- row 16, NameReply: by the registration of the endpoint; who leaves is told `withdrawn` whatever the code
abbrev pub replied : ℕ → Links → Endpoint → ℕ → Registration → Done Links
replied me l e code Asked = asked_heard me l e code
replied me l e code Leaving = name_heard me l e NoName (name_told me Unnamed (whose e) (pos e.port ∷ []))
replied me l e code NoName = same_links l
replied me l e code Registered = same_links l

-- the same at the registration that the endpoint has
unfoldable pub name_reply : ℕ → Links → Endpoint → ℕ → Done Links
name_reply me l e code = replied me l e code (l.registrations e.slot.0 e.port)

-- whether a slot's port is a service point of this controller
abbrev pub is_own_point : Tables → ℕ → Endpoint → Bool
is_own_point t me e = is_own t me e.slot.0 && (is_sap t e.slot.0 e.port || is_spp t e.slot.0 e.port)

-- the duties of the kinds 14 to 16 at a message of their form, where the own actor lives
abbrev pub links_duty_of : Tables → ℕ → Links → SysKind → Endpoint → Endpoint → List ℤ → Done Links
links_duty_of t me l kinds.Bound peer own [] = if is_own_point t me own then record { now = bound l peer own; sent = [] } else same_links l
links_duty_of t me l kinds.Ended peer own [] = if is_own_point t me own then record { now = unbound l peer own; sent = [] } else same_links l
links_duty_of t me l kinds.NameReply e own (pos code ∷ []) =
    if is_own_point t me own && is_endpoint e own && (own.place == 0) then name_reply me l own code else same_links l
links_duty_of t me l _ peer own _ = same_links l

-- a message without a source has the form of no row
abbrev pub links_duty_from : Tables → ℕ → Links → SysKind → Option Endpoint → Msg → Done Links
links_duty_from t me l kind None m = same_links l
links_duty_from t me l kind (Some source) m = links_duty_of t me l kind source m.target m.payload

-- what a controller does at a message of this kind; live says whether the target's actor lives
unfoldable pub links_duty : Tables → ℕ → Links → Bool → SysKind → Msg → Done Links
links_duty t me l live kind m = if live then links_duty_from t me l kind m.source m else same_links l

-- place 0 of a port of an actor
abbrev pub point_of : Incarnation → ℕ → Endpoint
point_of x p = endpoint x.slot.0 x.generation.0 p 0

-- a code found when a command is applied
abbrev pub name_refused : ℕ → Links → Incarnation → ℕ → Code → Done Links
name_refused me l x p code = record { now = l; sent = name_told me NameRefused x (pos p ∷ pos (code_number code) ∷ []) ∷ [] }

-- a request to the name table, and the registration that waits for its answer
abbrev pub name_asked : ℕ → Links → Incarnation → ℕ → Registration → SysKind → List ℤ → Done Links
name_asked me l x p next kind payload = record {
  now = record l { registrations = updated_at l.registrations x.slot.0 p next };
  sent = system me 0 kind (point_of x p) (point_of x p) payload ∷ [];
}

-- `register`, by the registration so far: 6 where it is on the way, 8 where it is registered
abbrev pub register_from : ℕ → Links → Incarnation → ℕ → ℕ → Registration → Done Links
register_from me l x p name NoName = name_asked me l x p Asked kinds.Register (pos name ∷ [])
register_from me l x p name Asked = name_refused me l x p Busy
register_from me l x p name Leaving = name_refused me l x p Busy
register_from me l x p name Registered = name_refused me l x p NameTaken

-- `register`: the codes 5, where a service access point is joined by the model, 6 and 8 in this order;
-- else Register goes to controller 0
unfoldable pub register_command : Tables → ℕ → Links → Incarnation → ℕ → ℕ → Done Links
register_command t me l x p name =
    if is_sap t x.slot.0 p && is_joined (joined_at t x.slot.0 p 0) then name_refused me l x p PortTaken
    else register_from me l x p name (l.registrations x.slot.0 p)

-- `withdraw`, by the registration so far: 9 where there is none, 6 where it is on the way
abbrev pub withdraw_from : ℕ → Links → Incarnation → ℕ → Registration → Done Links
withdraw_from me l x p NoName = name_refused me l x p NotRegistered
withdraw_from me l x p Asked = name_refused me l x p Busy
withdraw_from me l x p Leaving = name_refused me l x p Busy
withdraw_from me l x p Registered = name_asked me l x p Leaving kinds.Withdraw []

-- `withdraw`: the codes 9 and 6 in this order; else Withdraw goes to controller 0
unfoldable pub withdraw_command : ℕ → Links → Incarnation → ℕ → Done Links
withdraw_command me l x p = withdraw_from me l x p (l.registrations x.slot.0 p)

-- a command of x on names
abbrev pub name_request : Tables → ℕ → Links → Incarnation → NameCommand → Done Links
name_request t me l x (commands.Register p name) = register_command t me l x p name
name_request t me l x (commands.Withdraw p) = withdraw_command me l x p

-- whether a registration is to be withdrawn when its actor ends
abbrev pub is_entered : Registration → Bool
is_entered Asked = true
is_entered Registered = true
is_entered NoName = false
is_entered Leaving = false

-- an actor ends: a Withdraw for each of its ports that is asked for or registered, in port order; its
-- registrations and links go
unfoldable pub end_of : Tables → ℕ → Links → Incarnation → Done Links
end_of t me l x = record {
  now = record {
    registrations = updated l.registrations x.slot.0 (λ p. NoName);
    linked = updated l.linked x.slot.0 (λ p. []);
  };
  sent = map (λ p. system me 0 kinds.Withdraw (point_of x p) (point_of x p) [])
      (filter (λ p. is_entered (l.registrations x.slot.0 p)) (ports_of t x.slot.0));
}

-- the least linked place of a port at or above the endpoint's
unfoldable pub next_place : Links → Endpoint → Option ℕ
next_place l e = option_map (λ (x : Link). x.place) (find (λ (x : Link). nat_le e.place x.place) (l.linked e.slot.0 e.port))
