-- Whatever duties and commands send goes from a port of the wiring to one, with a signal of that one or of a kind of
-- system messages: each message's source and target are those of messages that came, of slots of the wiring, or of
-- what places are joined to, and a place leads to ports that have the signals of its own.
use Rattle.std.proofs.Common.{◌≡◌, ℕ, ◌+◌, ◌<◌, ◌≤◌, ◌==◌, nat_lt, Bool, true, false, not, ◌&&◌, ◌||◌, if◌then◌else◌, cond, is_some, List, [], ◌∷◌, ◌++◌, map, filter, find, length, Option, Some, None, IfSome, slice_get, option_map, ℤ, pos, negsuc, refl, sym, ap, ◌∙◌, subst, eqb-true, ltb-true, arith}
use Rattle.std.specs.Option.{option_map_or}
use Rattle.std.specs.List.{AllByRecursion as Each, flat_map, position, position_or_len}
use Rattle.std.proofs.lemmas.Bool.{and_parts}
use Rattle.std.proofs.lemmas.Option.{slice_get_within}
use Rattle.room_kinds.specs.declared.message.Msg.{Msg}
use Rattle.room_kinds.specs.declared.numbers.Incarnation.{Incarnation}
use Rattle.room_kinds.specs.declared.numbers.SlotId.{SlotId}
use Rattle.room_kinds.specs.declared.numbers.Endpoint.{Endpoint}
use Rattle.room_kinds.specs.declared.system.SysKind.{SysKind}
use Rattle.room_kinds.specs.declared.system.SysKind.TheVariants as kinds
use Rattle.room_kinds.specs.Kinds.{number_of}
use Rattle.room_kinds.specs.declared.command.FrameCommand.{FrameCommand}
use Rattle.room_kinds.specs.declared.command.FrameCommand.TheVariants as frames
use Rattle.room_wiring.specs.declared.tables.Tables.{Tables}
use Rattle.room_wiring.specs.declared.slot.Partner.{Partner}
use Rattle.room_wiring.specs.declared.slot.Partner.TheVariants as partners
use Rattle.room_wiring.specs.declared.slot.Slot.{Slot}
use Rattle.room_wiring.specs.Places.{port_count, place_count}
use Rattle.journal.specs.Fits.{HasSignal}
use Rattle.actor_duties.specs.Words.{updated, incarnation, is_incarnation, is_endpoint, endpoint, frame_at, frame_of, whose, part_at, of_id, is_spp, is_sap, is_optional, is_imported, is_home, is_part_of, is_slot_for, container_of, class_number, protocol_of, joined_at, is_joined, is_end, slots_of, ports_of, is_frame, is_own}
use Rattle.actor_duties.specs.State.{Lives, Frame, Links, Link, ImportPlace, Empty, Asking, Held, Leaving, Registration, Unnamed, Asked, Registered, Leaving as LeavingName, User, Provider, Service, NameTable, Done}
use Rattle.actor_duties.specs.Messages.{FrameSignal, Created, Destroyed, Imported, Ended, Deported, Refused, Named, Unnamed as Withdrawn, NameRefused, signal_number, Code, coded, system, reply, to_owner, is_code, Occupied, NotHere, StaleId, WrongClass, NameTaken}
use Rattle.actor_duties.specs.Lives.{is_live, counts_as_live, last_of, Lived, answered, create, create_done, create_refused, destroy_done, announces, announce_to, part_told_to, told_controllers, part_controllers, part_make, made, made_slots, lives_made, goes_down, ended_slots, parts_told}
use Rattle.actor_duties.specs.Imports.{is_asking, container_frame, is_port_taken, heard, import, import_done, import_refused, import_ended, deport, deport_done, is_container_live, imported_parts, ended_plugs, given_back}
use Rattle.actor_duties.specs.Frame.{is_answer, is_back, FrameDone, only_sends, nothing, end_messages, part_ends, is_place_ended, frame_ended, end_set_ended, destroy, part_end, plainly, with_number, of_natural, frame_duty_of, frame_duty_from, frame_duty, asked_of, incarnate, destroy_command, is_same_class, busy_code, import_code, asks_for, import_with, import_into, import_command, deport_from, deport_of, deport_command, frame_request}
use Rattle.actor_duties.specs.Names.{Linking, linked_users, linked_first, meet_with, meet, provide, use_service, in_service, register_spp, register_sap, links_ended, link_ended, user_ended, is_user, waiting, name_reply_to, same_table, leave, is_provider, stands_in, withdraw, register, is_name_request, table_duty_of, table_duty_from, table_duty, both_told, at_place}
use Rattle.actor_duties.specs.Links.{updated_at, with_link, is_link, bound, unbound, name_reply, replied, links_duty_of, links_duty_from, links_duty, register_from, register_command, withdraw_from, withdraw_command, is_entered, point_of, end_of, is_own_point}
use Rattle.actor_duties.specs.Peers.{known, known_end, held_end, fitting_plug, end_of_partner, through_plug, peer_by, frame_peer, link_at, link_peer, or_else, peer}
use Rattle.actor_duties.specs.Commands.{Content, send, send_to, send_each, broadcast, broadcast_places}
use Rattle.room_run.specs.fitting_journals.Places.{IsPlace, given, of_user, by_name, of_provider, FitsPlace, SourceFits}
use Rattle.room_run.proofs.fitting_journals.Acting.{numbers_below, filter_below, slots_below, made_below, ended_below, last_there}
use Rattle.room_run.proofs.fitting_journals.Signals.{Carries, Linked, LeadsTo, same_class, numbered_class, class_ports, is_service_point, IsPointOf, TiesBy, Says, TiesNothing, says_worded, signal_low}

-- ---- wirings

-- a port of a slot, with the signals of another one
abbrev pub PortCarries : Tables → ℕ → ℕ → ℕ → ℕ → Type 0
PortCarries t s p x q = (x < length t.slots) × (q < port_count t x) × Carries t s p x q

-- place k of port p of slot s is joined to place j of port q of slot x: both are there, and the other port has the
-- signals of its own
pub record IsJoinedWell (t : Tables) (s p k x q j : ℕ) : Type 0 where
  pub carries : PortCarries t s p x q
  pub near : k < place_count t s p
  pub far : j < place_count t x q

-- each slot has a port, `frame`, with a place, and with the signals of the frame service; what is joined to a place is a
-- place, of a port with the signals of its own; a socket's slot is imported, and a place that is joined there is one of
-- each slot of the class; the container of a slot is a slot; and service points of one protocol have the same signals
pub record IsWired (t : Tables) : Type 0 where
  pub frames : (s signal : ℕ) → s < length t.slots → signal < 9 → HasSignal t s 0 signal
  pub frame_places : (s : ℕ) → s < length t.slots → 0 < place_count t s 0
  pub ports : (s : ℕ) → s < length t.slots → 0 < port_count t s
  pub ends : (s p k : ℕ) (x : SlotId) (q j : ℕ) → joined_at t s p k ≡ partners.End x q j → IsJoinedWell t s p k x.0 q j
  pub sockets : (s p k : ℕ) (x : SlotId) (q j : ℕ) → joined_at t s p k ≡ partners.Socket x q j
      → IsJoinedWell t s p k x.0 q j × (is_imported t x.0 ≡ true) × (is_joined (joined_at t x.0 q j) ≡ true)
  pub lent : (i h p k : ℕ) → is_imported t i ≡ true → class_number t h ≡ class_number t i → is_joined (joined_at t i p k) ≡ true → k < place_count t h p
  pub containers : (s c : ℕ) → s < length t.slots → container_of t s ≡ Some c → c < length t.slots
  pub points : (s p x q : ℕ) → is_service_point t s p ≡ true → is_service_point t x q ≡ true → protocol_of t s p ≡ protocol_of t x q → Carries t s p x q

-- a message's source and target are places of ports of the wiring, and its signal is one of the target's port, or a kind
-- of system messages, which says what its kind says
abbrev pub IsNamed : Tables → Linked → Msg → Type 0
IsNamed t L m = SourceFits t L m.prio.0 m.source × FitsPlace t L m.prio.0 m.target × Says t L m.prio.0 m.signal m.source m.target

-- the source and the target of a system message
abbrev pub SystemNamed : Tables → Linked → Msg → Type 0
SystemNamed t L m = SourceFits t L 0 m.source × FitsPlace t L 0 m.target

abbrev pub AreNamed : Tables → Linked → List Msg → Type 0
AreNamed t L ms = Each (IsNamed t L) ms

abbrev pub LastNamed : Tables → Linked → Option Msg → Type 0
LastNamed t L None = Unit {0}
LastNamed t L (Some m) = IsNamed t L m

-- ---- lists

pub each_both : {X : Type 0} (P : X → Type 0) (a b : List X) → Each P a → Each P b → Each P (a ++ b)
each_both P [] b h k = k
each_both P (x ∷ a) b h k = (h.0, each_both P a b h.1 k)

each_map : {X Y : Type 0} (Q : X → Type 0) (P : Y → Type 0) (f : X → Y) → ((x : X) → Q x → P (f x)) → (xs : List X) → Each Q xs → Each P (map f xs)
each_map Q P f h [] k = tt
each_map Q P f h (x ∷ xs) k = (h x k.0, each_map Q P f h xs k.1)

each_flat : {X Y : Type 0} (Q : X → Type 0) (P : Y → Type 0) (f : X → List Y) → ((x : X) → Q x → Each P (f x)) → (xs : List X) → Each Q xs → Each P (flat_map f xs)
each_flat Q P f h [] k = tt
each_flat Q P f h (x ∷ xs) k = each_both P (f x) (flat_map f xs) (h x k.0) (each_flat Q P f h xs k.1)

pub each_kept : {X : Type 0} (P : X → Type 0) (test : X → Bool) (xs : List X) → Each P xs → Each P (filter test xs)
each_kept P test [] h = tt
each_kept P test (x ∷ xs) h = go (test x) (each_kept P test xs h.1)
  where
    go : (b : Bool) → Each P (filter test xs) → Each P (cond b (x ∷ filter test xs) (filter test xs))
    go true rest = (h.0, rest)
    go false rest = rest

all_of : {X : Type 0} (xs : List X) → Each (λ (x : X). Unit {0}) xs
all_of [] = tt
all_of (x ∷ xs) = (tt, all_of xs)

each_found : {X : Type 0} (P : X → Type 0) (test : X → Bool) (xs : List X) → Each P xs → IfSome (find test xs) P
each_found P test [] h = tt
each_found P test (x ∷ xs) h = go (test x) (each_found P test xs h.1)
  where
    go : (b : Bool) → IfSome (find test xs) P → IfSome (cond b (Some x) (find test xs)) P
    go true rest = h.0
    go false rest = rest

if_named : (t : Tables) (L : Linked) (b : Bool) (x y : List Msg) → AreNamed t L x → AreNamed t L y → AreNamed t L (if b then x else y)
if_named t L true x y h k = h
if_named t L false x y h k = k

position_within : {X : Type 0} (test : X → Bool) (xs : List X) (i : ℕ) → position test xs ≡ Some i → i < length xs
position_within test xs i h = go (nat_lt (position_or_len test xs) (length xs)) refl h
  where
    go : (b : Bool) → nat_lt (position_or_len test xs) (length xs) ≡ b → cond b (Some (position_or_len test xs)) None ≡ Some i → i < length xs
    go true e k =
        let same : position_or_len test xs ≡ i = cc in
        let low = ltb-true (position_or_len test xs) (length xs) e in omega (arith, same, low)
    go false e k = absurd cc

-- ---- what a controller keeps

-- a home that an import place asks for or holds: a slot of the same class
abbrev pub IsHome : Tables → ℕ → Incarnation → Type 0
IsHome t i h = (h.slot.0 < length t.slots) × (class_number t h.slot.0 ≡ class_number t i)

-- an import place that holds a home: an imported slot of the same class
abbrev pub IsPlug : Tables → ℕ → Incarnation → Type 0
IsPlug t h i = IsHome t h i × (is_imported t i.slot.0 ≡ true)

abbrev pub PlaceNamed : Tables → ℕ → ImportPlace → Type 0
PlaceNamed t i Empty = Unit {0}
PlaceNamed t i (Asking h) = IsHome t i h
PlaceNamed t i (Held h) = IsHome t i h
PlaceNamed t i (Leaving h) = IsHome t i h

abbrev pub PlacesNamed : Tables → (ℕ → ImportPlace) → Type 0
PlacesNamed t places = (i : ℕ) → PlaceNamed t i (places i)

abbrev pub PlugsNamed : Tables → (ℕ → List Incarnation) → Type 0
PlugsNamed t plugs = (s : ℕ) → Each (IsPlug t s) (plugs s)

pub record FrameNamed (t : Tables) (f : Frame) : Type 0 where
  pub plugs : PlugsNamed t f.plugs
  pub places : PlacesNamed t f.places

-- a link of a port: its place is one of the port, and leads to a place
abbrev pub LinkNamed : Tables → Linked → ℕ → ℕ → Link → Type 0
LinkNamed t L s p x = LeadsTo t L s p x.peer × IsPlace t L 1 s p x.place

abbrev pub LinkedNamed : Tables → Linked → (ℕ → ℕ → List Link) → Type 0
LinkedNamed t L linked = (s p : ℕ) → Each (LinkNamed t L s p) (linked s p)

-- what is asked for or registered is a service point
abbrev pub EnteredNamed : Tables → (ℕ → ℕ → Registration) → Type 0
EnteredNamed t f = (s p : ℕ) → is_entered (f s p) ≡ true → is_service_point t s p ≡ true

pub record LinksNamed (t : Tables) (L : Linked) (l : Links) : Type 0 where
  pub entered : EnteredNamed t l.registrations
  pub linked : LinkedNamed t L l.linked

-- a user of a service is a service point of its protocol, at a place from which actors may send
abbrev pub IsUserOf : Tables → Linked → ℕ → Endpoint → Type 0
IsUserOf t L protocol e = IsPointOf t L protocol e × FitsPlace t L 1 e

-- its provider is a service provision point of its protocol
abbrev pub IsProviderOf : Tables → Linked → ℕ → Endpoint → Type 0
IsProviderOf t L protocol e = IsPointOf t L protocol e × (is_spp t e.slot.0 e.port ≡ true)

abbrev pub UsersNamed : Tables → Linked → ℕ → List User → Type 0
UsersNamed t L protocol us = Each (λ (u : User). IsUserOf t L protocol u.at) us

abbrev pub ProviderNamed : Tables → Linked → ℕ → Option Provider → Type 0
ProviderNamed t L protocol o = IfSome o (λ (p : Provider). IsProviderOf t L protocol p.at)

-- a user is linked to a place of the provider that was linked; where there is no provider, it isn't
abbrev pub IsLinkedTo : Linked → Option Provider → User → Type 0
IsLinkedTo L None u = u.linked ≡ None
IsLinkedTo L (Some p) u = IfSome u.linked (L p.at.slot.0 p.at.port)

abbrev pub AreLinkedTo : Linked → Option Provider → List User → Type 0
AreLinkedTo L o us = Each (IsLinkedTo L o) us

abbrev pub ServiceNamed : Tables → Linked → Service → Type 0
ServiceNamed t L s = ProviderNamed t L s.protocol s.provider × UsersNamed t L s.protocol s.users × AreLinkedTo L s.provider s.users

abbrev pub TableNamed : Tables → Linked → NameTable → Type 0
TableNamed t L table = Each (ServiceNamed t L) table

pub record FrameDoneNamed (t : Tables) (L : Linked) (r : FrameDone) : Type 0 where
  pub frame : FrameNamed t r.frame
  pub sent : AreNamed t L r.sent
  pub last : LastNamed t L r.last

record LivedNamed (t : Tables) (L : Linked) (r : Lived) : Type 0 where
  sent : AreNamed t L r.sent
  last : LastNamed t L r.last

-- what a row gives: a component of which this is so, and messages
abbrev pub DoneNamed : {C : Type 0} → Tables → Linked → (C → Type 0) → Done C → Type 0
DoneNamed t L P r = P r.now × AreNamed t L r.sent

done_if : {C : Type 0} (t : Tables) (L : Linked) (P : C → Type 0) (b : Bool) (x y : Done C) → DoneNamed t L P x → DoneNamed t L P y → DoneNamed t L P (if b then x else y)
done_if t L P true x y h k = h
done_if t L P false x y h k = k

done_when : {C : Type 0} (t : Tables) (L : Linked) (P : C → Type 0) (b : Bool) (x y : Done C) → (b ≡ true → DoneNamed t L P x) → DoneNamed t L P y → DoneNamed t L P (if b then x else y)
done_when t L P true x y h k = h refl
done_when t L P false x y h k = k

-- place 0 of a service point, for system messages
first_place : (t : Tables) (L : Linked) (s p : ℕ) → is_service_point t s p ≡ true → IsPlace t L 0 s p 0
first_place t L s p point = go (is_sap t s p) refl point
  where
    go : (b : Bool) → is_sap t s p ≡ b → (b || is_spp t s p) ≡ true → IsPlace t L 0 s p 0
    go true e h = of_user e refl
    go false e h = of_provider h refl refl

-- a place for messages of actors is one for all messages
for_all : {t : Tables} {L : Linked} {q s p k : ℕ} → IsPlace t L 1 s p k → IsPlace t L q s p k
for_all (given h) = given h
for_all (of_user sap first) = of_user sap first
for_all (by_name spp linked) = by_name spp linked
for_all (of_provider spp first none) = absurd (omega (arith, none))

-- a message that tells of a place that it is linked tells it of one that was linked
abbrev pub GivesPlace : Linked → Msg → Type 0
GivesPlace L m = m.prio.0 ≡ 0 → m.signal ≡ number_of kinds.Bound → L m.target.slot.0 m.target.port m.target.place

-- the same of what tells such places
done_telling : {C : Type 0} (t : Tables) (L : Linked) (P : C → Type 0) (b : Bool) (x y : Done C) → (b ≡ true → Each (GivesPlace L) x.sent → DoneNamed t L P x)
    → (b ≡ false → Each (GivesPlace L) y.sent → DoneNamed t L P y) → Each (GivesPlace L) (if b then x else y).sent → DoneNamed t L P (if b then x else y)
done_telling t L P true x y h k told = h refl told
done_telling t L P false x y h k told = k refl told

each_later : {X : Type 0} (P : X → Type 0) (a b : List X) → Each P (a ++ b) → Each P b
each_later P [] b h = h
each_later P (x ∷ a) b h = each_later P a b h.1

-- slots that pass for one class have one
abbrev class_in : Option Slot → Option ℕ
class_in o = option_map_or (λ (x : Slot). Some x.class) o None

one_class : (a b : Option ℕ) → is_same_class a b ≡ true → b ≡ a
one_class None b k = absurd cc
one_class (Some a) None k = absurd cc
one_class (Some a) (Some b) k = ap Some (sym (eqb-true a b k))

-- what has the class of another slot is a slot
class_within : (t : Tables) (h : ℕ) (o : Option ℕ) → is_same_class o (class_number t h) ≡ true → h < length t.slots
class_within t h o e = go (slice_get t.slots h) refl o e
  where
    go : (p : Option Slot) → slice_get t.slots h ≡ p → (o : Option ℕ) → is_same_class o (class_in p) ≡ true → h < length t.slots
    go None is None k = absurd cc
    go None is (Some a) k = absurd cc
    go (Some x) is o k = slice_get_within t.slots h x is

-- ---- forms of system messages

-- what passes the tests of a form passes the first two
first_tests : (a b c d e : Bool) → (a && b && c && d && e) ≡ true → (a ≡ true) × (b ≡ true)
first_tests true true c d e h = (refl, refl)
first_tests true false c d e h = absurd cc
first_tests false b c d e h = absurd cc

third_test : (a b c d e : Bool) → (a && b && c && d && e) ≡ true → c ≡ true
third_test true true true d e h = refl
third_test true true false d e h = absurd cc
third_test true false c d e h = absurd cc
third_test false b c d e h = absurd cc

last_test : (a b c d : Bool) → (a && b && c && d) ≡ true → d ≡ true
last_test true true true d h = h
last_test true true false d h = absurd cc
last_test true false c d h = absurd cc
last_test false b c d h = absurd cc

-- an answer goes from the `frame` of an optional slot to that of a container
answers_frame : (t : Tables) (me : ℕ) (o x : Endpoint) → is_answer t me o x ≡ true → (is_frame x ≡ true) × (is_frame o ≡ true)
answers_frame t me o x h = first_tests (is_frame x) (is_frame o) (is_optional t o.slot.0) (is_part_of t o.slot.0 x.slot.0) (is_own t me x.slot.0) h

-- and what goes back to an import place goes from the `frame` of a home
back_frame : (t : Tables) (me : ℕ) (h i : Endpoint) → is_back t me h i ≡ true → is_frame h ≡ true
back_frame t me h i e = (first_tests (is_frame i) (is_frame h) (is_imported t i.slot.0) (is_home t h.slot.0) (is_own t me i.slot.0) e).1

module _ (t : Tables) (L : Linked) (w : IsWired t) (me : ℕ) where
  -- ---- endpoints

  frame_named : {q : ℕ} (s g : ℕ) → s < length t.slots → FitsPlace t L q (frame_at s g)
  frame_named s g low = record { slot = low; port = w.ports s low; place = given (w.frame_places s low) }

  -- what passes for a `frame`
  passed_frame : {q : ℕ} (e : Endpoint) → e.slot.0 < length t.slots → e.port < port_count t e.slot.0 → is_frame e ≡ true → FitsPlace t L q e
  passed_frame e low port is =
      let parts = and_parts (e.port == 0) (e.place == 0) is in
      record {
        slot = low;
        port = port;
        place = given (subst (λ (p : ℕ). e.place < place_count t e.slot.0 p) (sym (eqb-true e.port 0 parts.0))
            (subst (λ (k : ℕ). k < place_count t e.slot.0 0) (sym (eqb-true e.place 0 parts.1)) (w.frame_places e.slot.0 low)));
      }

  -- `frame` has the signals of the frame service
  frame_says : (s : ℕ) → s < length t.slots → (signal : FrameSignal) → HasSignal t s 0 (signal_number signal)
  frame_says s low signal = w.frames s (signal_number signal) low (signal_low signal)

  told_says : (e : Endpoint) → e.slot.0 < length t.slots → is_frame e ≡ true → (signal : FrameSignal) → HasSignal t e.slot.0 e.port (signal_number signal)
  told_says e low is signal =
      subst (λ (q : ℕ). HasSignal t e.slot.0 q (signal_number signal)) (sym (eqb-true e.port 0 (and_parts (e.port == 0) (e.place == 0) is).0)) (frame_says e.slot.0 low signal)

  -- what a container is told of a slot goes from the slot's `frame` to its own
  record FramesMeet (a b : Endpoint) : Type 0 where
    near : FitsPlace t L 3 a
    far : FitsPlace t L 3 b
    says : (signal : FrameSignal) → HasSignal t b.slot.0 b.port (signal_number signal)

  frames_meet : (a b : Endpoint) → FitsPlace t L 0 a → FitsPlace t L 0 b → is_answer t me a b ≡ true → FramesMeet a b
  frames_meet a b p q e =
      let frames = answers_frame t me a b e in
      record { near = passed_frame a p.slot p.port frames.1; far = passed_frame b q.slot q.port frames.0; says = told_says b q.slot frames.0 }

  of_named : {q : ℕ} (x : Incarnation) → x.slot.0 < length t.slots → FitsPlace t L q (frame_of x)
  of_named x low = frame_named x.slot.0 x.generation.0 low

  container_named : {q : ℕ} (i : Endpoint) → i.slot.0 < length t.slots → FitsPlace t L q (container_frame t i)
  container_named {q} i low = go (container_of t i.slot.0) refl
    where
      go : (o : Option ℕ) → container_of t i.slot.0 ≡ o → FitsPlace t L q (frame_at (option_map_or (λ c. c) o 0) i.generation.0)
      go None e = frame_named 0 i.generation.0 (omega (arith, low))
      go (Some c) e = frame_named c i.generation.0 (w.containers i.slot.0 c low e)

  -- ---- lives

  announces_named : (x : Incarnation) (up : ℤ) → x.slot.0 < length t.slots → AreNamed t L (announces t me x up)
  unfolding announces
  announces_named x up low =
      each_map (λ (d : ℕ). Unit {0}) (IsNamed t L) (announce_to me x up) (λ d u. (of_named x low, of_named x low, tt)) (told_controllers t x.slot.0) (all_of (told_controllers t x.slot.0))

  parts_named : (kind : SysKind) → TiesNothing t L kind → (x : Incarnation) → x.slot.0 < length t.slots → AreNamed t L (parts_told t me kind x)
  unfolding parts_told
  parts_named kind plain x low =
      each_map (λ (d : ℕ). Unit {0}) (IsNamed t L) (part_told_to me kind x) (λ d u. (of_named x low, of_named x low, plain (frame_of x) (frame_of x))) (part_controllers t me x.slot.0) (all_of (part_controllers t me x.slot.0))

  part_make_named : (l : Lives) (o : ℕ) → LivedNamed t L (part_make t me l o)
  unfolding part_make
  part_make_named l o = record {
    sent = each_flat (λ (x : Incarnation). x.slot.0 < length t.slots) (IsNamed t L) (λ (i : Incarnation). announces t me i (pos 1)) (λ x low. announces_named x (pos 1) low)
        (map (last_of (lives_made t me o l)) (made_slots t me l o)) (last_there t (lives_made t me o l) (made_slots t me l o) (made_below t me l o));
    last = tt;
  }

  made_named : (l : Lives) (m : Msg) (o : ℕ) (x : Endpoint) → o < length t.slots → FitsPlace t L 0 x → LivedNamed t L (made t me l m o x)
  unfolding made
  made_named l m o x low h = record {
    sent = each_both (IsNamed t L) (part_make t me l o).sent _ (part_make_named l o).sent (parts_named kinds.PartMake (λ a b. tt) (last_of (part_make t me l o).lives o) low);
    last = (of_named (last_of (part_make t me l o).lives o) low, h, tt);
  }

  create_named : (l : Lives) (m : Msg) (o : ℕ) (x : Endpoint) → o < length t.slots → FitsPlace t L 0 x → LivedNamed t L (create t me l m o x)
  unfolding create
  create_named l m o x low h = go (not (counts_as_live t me l (whose x))) (l.lives o)
    where
      go : (a b : Bool) → LivedNamed t L (
          if a then answered l (reply me m kinds.CreateRefused (frame_at o 0) x (coded NotHere))
          else if b then answered l (reply me m kinds.CreateRefused (frame_at o 0) x (coded Occupied))
          else made t me l m o x)
      go true b = record { sent = tt; last = (frame_named o 0 low, h, tt) }
      go false true = record { sent = tt; last = (frame_named o 0 low, h, tt) }
      go false false = made_named l m o x low h

  create_done_named : (a b : Endpoint) → FramesMeet a b → AreNamed t L (create_done t me a b)
  unfolding create_done
  create_done_named a b h = ((h.near, h.far, h.says Created), tt)

  create_refused_named : (a b : Endpoint) (code : ℤ) → FramesMeet a b → AreNamed t L (create_refused t me a b code)
  unfolding create_refused
  create_refused_named a b code h = if_named t L (is_code Occupied code || is_code NotHere code) _ _ ((h.near, h.far, h.says Refused), tt) tt

  destroy_done_named : (a b : Endpoint) (code : ℕ) → FramesMeet a b → AreNamed t L (destroy_done t me a b code)
  unfolding destroy_done
  destroy_done_named a b code h =
      if_named t L ((code == 0) && not (a.generation.0 == 0)) _ _ ((h.near, h.far, h.says Destroyed), tt)
      (if_named t L ((code == 3) && (a.generation.0 == 0)) _ _ ((h.near, h.far, h.says Refused), tt) tt)

  -- ---- imports

  back_named : (i : Incarnation) (place : ImportPlace) (s : ℕ) → i.slot.0 < length t.slots → PlaceNamed t s place → AreNamed t L (given_back t me i place)
  back_named i Empty s low h = tt
  back_named i (Asking x) s low h = ((of_named i low, of_named x h.0, tt), tt)
  back_named i (Held x) s low h = ((of_named i low, of_named x h.0, tt), tt)
  back_named i (Leaving x) s low h = tt

  plugs_named : (x : Incarnation) (plugs : List Incarnation) → x.slot.0 < length t.slots → (s : ℕ) → Each (IsPlug t s) plugs → AreNamed t L (ended_plugs t me x plugs)
  plugs_named x plugs low s h =
      each_map (IsPlug t s) (IsNamed t L) (λ (i : Incarnation). to_owner t me kinds.ImportEnded (frame_of x) (frame_of i) [])
      (λ i there. (of_named x low, of_named i there.0.0, tt)) plugs h

  end_messages_named : (f : Frame) (s : ℕ) → FrameNamed t f → s < length t.slots → AreNamed t L (end_messages t me f s)
  unfolding end_messages
  end_messages_named f s h low =
      each_both (IsNamed t L) (ended_plugs t me (last_of f.lives s) (f.plugs s)) _ (plugs_named (last_of f.lives s) (f.plugs s) low s (h.plugs s))
      (each_both (IsNamed t L) (flat_map (λ (i : ℕ). given_back t me (incarnation i (last_of f.lives s).generation.0) (f.places i)) (imported_parts t s)) _
      (each_flat (λ (i : ℕ). i < length t.slots) (IsNamed t L) (λ (i : ℕ). given_back t me (incarnation i (last_of f.lives s).generation.0) (f.places i))
      (λ i there. back_named (incarnation i (last_of f.lives s).generation.0) (f.places i) i there (h.places i)) (imported_parts t s)
      (filter_below (length t.slots) (λ i. is_imported t i && is_part_of t i s) (slots_of t) (slots_below t)))
      (announces_named (last_of f.lives s) (pos 0) low))

  part_ends_named : (f : Frame) (s : ℕ) → s < length t.slots → AreNamed t L (part_ends t me f s)
  unfolding part_ends
  part_ends_named f s low = if_named t L (is_optional t s) _ _ (parts_named kinds.PartEnd (λ a b. tt) (last_of f.lives s) low) tt

  frame_ended_named : (o : ℕ) (f : Frame) → FrameNamed t f → FrameNamed t (frame_ended t me o f)
  unfolding frame_ended
  frame_ended_named o f h = record {
    plugs = λ s. plugs s (goes_down t me f.lives o s);
    places = λ i. places i (is_place_ended t me f.lives o i);
  }
    where
      plugs : (s : ℕ) (b : Bool) → Each (IsPlug t s) (if b then [] else f.plugs s)
      plugs s true = tt
      plugs s false = h.plugs s

      places : (i : ℕ) (b : Bool) → PlaceNamed t i (if b then Empty else f.places i)
      places i true = tt
      places i false = h.places i

  end_set_named : (f : Frame) (o : ℕ) (last : Option Msg) → FrameNamed t f → LastNamed t L last → FrameDoneNamed t L (end_set_ended t me f o last)
  unfolding end_set_ended
  end_set_named f o last h k = record {
    frame = frame_ended_named o f h;
    sent = each_both (IsNamed t L) (flat_map (end_messages t me f) (ended_slots t me f.lives o)) _
        (each_flat (λ (s : ℕ). s < length t.slots) (IsNamed t L) (end_messages t me f) (λ s low. end_messages_named f s h low) (ended_slots t me f.lives o) (ended_below t me f.lives o))
        (each_flat (λ (s : ℕ). s < length t.slots) (IsNamed t L) (part_ends t me f) (λ s low. part_ends_named f s low) (ended_slots t me f.lives o) (ended_below t me f.lives o));
    last = k;
  }

  destroy_named : (f : Frame) (m : Msg) (o : ℕ) (x : Endpoint) → FrameNamed t f → o < length t.slots → FitsPlace t L 0 x → FrameDoneNamed t L (destroy t me f m o x)
  unfolding destroy
  destroy_named f m o x h low k = go (not (counts_as_live t me f.lives (whose x)) || not (f.lives.lives o))
    where
      go : (a : Bool) → FrameDoneNamed t L (
          if a then record { frame = f; sent = []; made = []; ended = []; last = Some (reply me m kinds.DestroyDone (frame_at o 0) x (coded NotHere)) }
          else end_set_ended t me f o (Some (reply me m kinds.DestroyDone (frame_of (last_of f.lives o)) x (pos 0 ∷ []))))
      go true = record { frame = h; sent = tt; last = (frame_named o 0 low, k, tt) }
      go false = end_set_named f o _ h (of_named (last_of f.lives o) low, k, tt)

  updated_plugs : (plugs : ℕ → List Incarnation) (at : ℕ) (now : List Incarnation) → PlugsNamed t plugs → Each (IsPlug t at) now → PlugsNamed t (updated plugs at now)
  unfolding updated
  updated_plugs plugs at now h k s = go (s == at) refl
    where
      go : (b : Bool) → (s == at) ≡ b → Each (IsPlug t s) (if b then now else plugs s)
      go true e = subst (λ (n : ℕ). Each (IsPlug t n) now) (sym (eqb-true s at e)) k
      go false e = h s

  updated_places : (places : ℕ → ImportPlace) (at : ℕ) (now : ImportPlace) → PlacesNamed t places → PlaceNamed t at now → PlacesNamed t (updated places at now)
  unfolding updated
  updated_places places at now h k s = go (s == at) refl
    where
      go : (b : Bool) → (s == at) ≡ b → PlaceNamed t s (if b then now else places s)
      go true e = subst (λ (n : ℕ). PlaceNamed t n now) (sym (eqb-true s at e)) k
      go false e = h s

  import_named : (l : Lives) (plugs : ℕ → List Incarnation) (m : Msg) (i h : Endpoint) → PlugsNamed t plugs → FitsPlace t L 0 i → FitsPlace t L 0 h
      → class_number t i.slot.0 ≡ class_number t h.slot.0 → is_imported t i.slot.0 ≡ true → DoneNamed t L (PlugsNamed t) (import t me l plugs m i h)
  unfolding import
  import_named l plugs m i h p a b same imported =
      done_if t L (PlugsNamed t) (not (is_live l (whose h))) _ _ (p, ((b, a, tt), tt))
      (done_if t L (PlugsNamed t) (is_port_taken t (plugs h.slot.0) (whose i) (whose h)) _ _ (p, ((b, a, tt), tt)) (
        updated_plugs plugs h.slot.0 (plugs h.slot.0 ++ whose i ∷ []) p (each_both (IsPlug t h.slot.0) (plugs h.slot.0) (whose i ∷ []) (p h.slot.0) (((a.slot, same), imported), tt)),
        ((b, a, tt), tt),
      ))

  deport_named : (l : Lives) (plugs : ℕ → List Incarnation) (m : Msg) (i h : Endpoint) → PlugsNamed t plugs → FitsPlace t L 0 i → FitsPlace t L 0 h
      → DoneNamed t L (PlugsNamed t) (deport me l plugs m i h)
  unfolding deport
  deport_named l plugs m i h p a b = (go (is_live l (whose h)), ((b, a, tt), tt))
    where
      go : (c : Bool) → PlugsNamed t (if c then updated plugs h.slot.0 (filter (λ (q : Incarnation). not (is_incarnation q (whose i))) (plugs h.slot.0)) else plugs)
      go true =
          updated_plugs plugs h.slot.0 (filter (λ (q : Incarnation). not (is_incarnation q (whose i))) (plugs h.slot.0)) p
          (each_kept (IsPlug t h.slot.0) (λ (q : Incarnation). not (is_incarnation q (whose i))) (plugs h.slot.0) (p h.slot.0))
      go false = p

  heard_named : (l : Lives) (places : ℕ → ImportPlace) (i : Endpoint) (fits : Bool) (next : ImportPlace) (m : Msg) → PlacesNamed t places
      → (fits ≡ true → PlaceNamed t i.slot.0 next) → IsNamed t L m → DoneNamed t L (PlacesNamed t) (heard t l places i fits next m)
  heard_named l places i fits next m p k h = go (is_container_live t l i && fits) refl
    where
      go : (b : Bool) → (is_container_live t l i && fits) ≡ b → DoneNamed t L (PlacesNamed t) (
          if b then record { now = updated places i.slot.0 next; sent = m ∷ [] } else record { now = places; sent = [] })
      go true e = (updated_places places i.slot.0 next p (k (and_parts (is_container_live t l i) fits e).1), (h, tt))
      go false e = (p, tt)

  -- who asked for a home asked for one of the same class
  asked_home : (s : ℕ) (h : Incarnation) (place : ImportPlace) → PlaceNamed t s place → is_asking h place ≡ true → IsHome t s h
  asked_home s h Empty p e = absurd cc
  asked_home s h (Held x) p e = absurd cc
  asked_home s h (Leaving x) p e = absurd cc
  asked_home s h (Asking x) p e =
      let same = eqb-true x.slot.0 h.slot.0 (and_parts (x.slot.0 == h.slot.0) (x.generation.0 == h.generation.0) e).0 in
      (subst (λ (n : ℕ). n < length t.slots) same p.0, ap (class_number t) (sym same) ∙ p.1)

  -- what its container is told of an import place
  place_told : (i : Endpoint) → i.slot.0 < length t.slots → (signal : FrameSignal) → HasSignal t (container_frame t i).slot.0 0 (signal_number signal)
  place_told i low signal = frame_says (container_frame t i).slot.0 (container_named {q = 3} i low).slot signal

  import_done_named : (l : Lives) (places : ℕ → ImportPlace) (h i : Endpoint) → PlacesNamed t places → FitsPlace t L 3 h → FitsPlace t L 0 i
      → DoneNamed t L (PlacesNamed t) (import_done t me l places h i)
  unfolding import_done
  import_done_named l places h i p a b =
      heard_named l places i _ _ _ p (λ e. asked_home i.slot.0 (whose h) (places i.slot.0) (p i.slot.0) e) (a, container_named i b.slot, place_told i b.slot Imported)

  import_refused_named : (l : Lives) (places : ℕ → ImportPlace) (h i : Endpoint) (code : ℤ) → PlacesNamed t places → FitsPlace t L 3 h → FitsPlace t L 0 i
      → DoneNamed t L (PlacesNamed t) (import_refused t me l places h i code)
  unfolding import_refused
  import_refused_named l places h i code p a b = heard_named l places i _ _ _ p (λ e. tt) (a, container_named i b.slot, place_told i b.slot Refused)

  import_ended_named : (l : Lives) (places : ℕ → ImportPlace) (h i : Endpoint) → PlacesNamed t places → FitsPlace t L 3 h → FitsPlace t L 0 i
      → DoneNamed t L (PlacesNamed t) (import_ended t me l places h i)
  unfolding import_ended
  import_ended_named l places h i p a b = heard_named l places i _ _ _ p (λ e. tt) (a, container_named i b.slot, place_told i b.slot Ended)

  deport_done_named : (l : Lives) (places : ℕ → ImportPlace) (h i : Endpoint) → PlacesNamed t places → FitsPlace t L 3 h → FitsPlace t L 0 i
      → DoneNamed t L (PlacesNamed t) (deport_done t me l places h i)
  unfolding deport_done
  deport_done_named l places h i p a b = heard_named l places i _ _ _ p (λ e. tt) (a, container_named i b.slot, place_told i b.slot Deported)

  -- ---- duties of the frame service

  nothing_named : (f : Frame) → FrameNamed t f → FrameDoneNamed t L (nothing f)
  nothing_named f h = record { frame = h; sent = tt; last = tt }

  lived_named : (f : Frame) (r : Lived) → FrameNamed t f → LivedNamed t L r
      → FrameDoneNamed t L (record { frame = record f { lives = r.lives }; sent = r.sent; made = r.made; ended = r.ended; last = r.last })
  lived_named f r h k = record { frame = record { plugs = h.plugs; places = h.places }; sent = k.sent; last = k.last }

  plainly_named : (f : Frame) (fits : Bool) (payload : List ℤ) (done : FrameDone) → FrameNamed t f → (fits ≡ true → FrameDoneNamed t L done) → FrameDoneNamed t L (plainly f fits payload done)
  plainly_named f true [] done h k = k refl
  plainly_named f false [] done h k = nothing_named f h
  plainly_named f fits (n ∷ ns) done h k = nothing_named f h

  number_named : (f : Frame) (fits : Bool) (payload : List ℤ) (done : ℤ → FrameDone) → FrameNamed t f → (fits ≡ true → (n : ℤ) → FrameDoneNamed t L (done n))
      → FrameDoneNamed t L (with_number f fits payload done)
  number_named f fits [] done h k = nothing_named f h
  number_named f true (n ∷ []) done h k = k refl n
  number_named f false (n ∷ []) done h k = nothing_named f h
  number_named f fits (n ∷ (j ∷ ns)) done h k = nothing_named f h

  natural_named : (f : Frame) (n : ℤ) (done : ℕ → FrameDone) → FrameNamed t f → ((k : ℕ) → FrameDoneNamed t L (done k)) → FrameDoneNamed t L (of_natural f n done)
  natural_named f (pos n) done h k = k n
  natural_named f (negsuc n) done h k = nothing_named f h

  module _ (f : Frame) (h : FrameNamed t f) where
    placed : (r : Done (ℕ → ImportPlace)) → DoneNamed t L (PlacesNamed t) r → FrameDoneNamed t L (only_sends (record f { places = r.now }) r.sent)
    placed r k = record { frame = record { plugs = h.plugs; places = k.0 }; sent = k.1; last = tt }

    plugged : (r : Done (ℕ → List Incarnation)) → DoneNamed t L (PlugsNamed t) r → FrameDoneNamed t L (only_sends (record f { plugs = r.now }) r.sent)
    plugged r k = record { frame = record { plugs = k.0; places = h.places }; sent = k.1; last = tt }

    only_named : (ms : List Msg) → AreNamed t L ms → FrameDoneNamed t L (only_sends f ms)
    only_named ms k = record { frame = h; sent = k; last = tt }

    frame_duty_of_named : (m : Msg) (kind : SysKind) (a b : Endpoint) → FitsPlace t L 0 a → FitsPlace t L 0 b → TiesBy t L kind (Some a) b
        → FrameDoneNamed t L (frame_duty_of t me f m kind a b)
    unfolding part_end
    frame_duty_of_named m kinds.Create x o p q y =
        plainly_named f _ m.payload _ h (λ e. lived_named f (create t me f.lives m o.slot.0 x) h (create_named f.lives m o.slot.0 x q.slot p))
    frame_duty_of_named m kinds.Destroy x o p q y = plainly_named f _ m.payload _ h (λ e. destroy_named f m o.slot.0 x h q.slot p)
    frame_duty_of_named m kinds.CreateDone a b p q y =
        plainly_named f _ m.payload _ h
        (λ e. only_named _ (create_done_named a b (frames_meet a b p q (and_parts (is_answer t me a b) (not (a.generation.0 == 0)) e).0)))
    frame_duty_of_named m kinds.CreateRefused a b p q y =
        number_named f _ m.payload _ h
        (λ e n. only_named _ (create_refused_named a b n (frames_meet a b p q (and_parts (is_answer t me a b) (a.generation.0 == 0) e).0)))
    frame_duty_of_named m kinds.DestroyDone a b p q y =
        number_named f _ m.payload _ h (λ e n. natural_named f n _ h (λ k. only_named _ (destroy_done_named a b k (frames_meet a b p q e))))
    frame_duty_of_named m kinds.Import a b p q y =
        plainly_named f _ m.payload _ h (λ e. plugged (import t me f.lives f.plugs m a b) (import_named f.lives f.plugs m a b h.plugs p q y
        (third_test (is_frame a) (is_frame b) (is_imported t a.slot.0) (is_home t b.slot.0) (is_own t me b.slot.0) e)))
    frame_duty_of_named m kinds.ImportDone a b p q y =
        plainly_named f _ m.payload _ h (λ e. placed (import_done t me f.lives f.places a b) (import_done_named f.lives f.places a b h.places (passed_frame a p.slot p.port (back_frame t me a b e)) q))
    frame_duty_of_named m kinds.ImportRefused a b p q y =
        number_named f _ m.payload _ h (λ e n. placed (import_refused t me f.lives f.places a b n) (import_refused_named f.lives f.places a b n h.places (passed_frame a p.slot p.port (back_frame t me a b e)) q))
    frame_duty_of_named m kinds.ImportEnded a b p q y =
        plainly_named f _ m.payload _ h (λ e. placed (import_ended t me f.lives f.places a b) (import_ended_named f.lives f.places a b h.places (passed_frame a p.slot p.port (back_frame t me a b e)) q))
    frame_duty_of_named m kinds.Deport a b p q y =
        plainly_named f _ m.payload _ h (λ e. plugged (deport me f.lives f.plugs m a b) (deport_named f.lives f.plugs m a b h.plugs p q))
    frame_duty_of_named m kinds.DeportDone a b p q y =
        plainly_named f _ m.payload _ h (λ e. placed (deport_done t me f.lives f.places a b) (deport_done_named f.lives f.places a b h.places (passed_frame a p.slot p.port (back_frame t me a b e)) q))
    frame_duty_of_named m kinds.Announce a b p q y =
        number_named f _ m.payload _ h (λ e n. natural_named f n _ h (λ k. record { frame = record { plugs = h.plugs; places = h.places }; sent = tt; last = tt }))
    frame_duty_of_named m kinds.Register a b p q y = nothing_named f h
    frame_duty_of_named m kinds.Withdraw a b p q y = nothing_named f h
    frame_duty_of_named m kinds.Bound a b p q y = nothing_named f h
    frame_duty_of_named m kinds.Ended a b p q y = nothing_named f h
    frame_duty_of_named m kinds.NameReply a b p q y = nothing_named f h
    frame_duty_of_named m kinds.PartMake a b p q y =
        plainly_named f _ m.payload _ h (λ e. lived_named f (part_make t me f.lives a.slot.0) h (part_make_named f.lives a.slot.0))
    frame_duty_of_named m kinds.PartEnd a b p q y = plainly_named f _ m.payload _ h (λ e. end_set_named f a.slot.0 None h tt)

    frame_duty_from_named : (m : Msg) (kind : SysKind) (o : Option Endpoint) → SourceFits t L 0 o → FitsPlace t L 0 m.target → TiesBy t L kind o m.target
        → FrameDoneNamed t L (frame_duty_from t me f m kind o)
    frame_duty_from_named m kind None p q y = nothing_named f h
    frame_duty_from_named m kind (Some a) p q y = frame_duty_of_named m kind a m.target p q y

    pub frame_duty_named : (kind : SysKind) (m : Msg) → SystemNamed t L m → TiesBy t L kind m.source m.target → FrameDoneNamed t L (frame_duty t me f kind m)
    unfolding frame_duty
    frame_duty_named kind m k y = frame_duty_from_named m kind m.source k.0 k.1 y

  -- ---- requests of actors

  entered_at : (f : ℕ → ℕ → Registration) (a b : ℕ) (now : Registration) → EnteredNamed t f → (is_entered now ≡ true → is_service_point t a b ≡ true)
      → EnteredNamed t (updated_at f a b now)
  unfolding updated
  entered_at f a b now h k s p = go (s == a) refl
    where
      own : (c : Bool) → (p == b) ≡ c → is_entered (if c then now else f a p) ≡ true → is_service_point t a p ≡ true
      own true e r = subst (λ (q : ℕ). is_service_point t a q ≡ true) (sym (eqb-true p b e)) (k r)
      own false e r = h a p r

      go : (c : Bool) → (s == a) ≡ c → is_entered ((if c then (λ (n : ℕ). if n == b then now else f a n) else f s) p) ≡ true → is_service_point t s p ≡ true
      go true e r = subst (λ (z : ℕ). is_service_point t z p ≡ true) (sym (eqb-true s a e)) (own (p == b) refl r)
      go false e r = h s p r

  module _ (x : Incarnation) (low : x.slot.0 < length t.slots) where
    part_within : (reference : ℕ) (index : ℤ) (o : ℕ) → part_at t x.slot.0 reference index ≡ Some o → o < length t.slots
    unfolding part_at
    part_within reference (pos index) o e = position_within (is_slot_for x.slot.0 reference index) t.slots o e
    part_within reference (negsuc index) o e = absurd cc

    -- what an actor is told by its own frame service
    own_told : (signal : FrameSignal) → FitsPlace t L 3 (frame_of x) × FitsPlace t L 3 (frame_of x) × HasSignal t x.slot.0 0 (signal_number signal)
    own_told signal = (of_named x low, of_named x low, frame_says x.slot.0 low signal)

    asked_named : (kind : SysKind) → TiesNothing t L kind → (reference : ℕ) (index : ℤ) (o : Option ℕ) → ((k : ℕ) → o ≡ Some k → k < length t.slots)
        → IsNamed t L (asked_of t me kind x reference index o)
    asked_named kind plain reference index None k = own_told Refused
    asked_named kind plain reference index (Some o) k = (of_named x low, frame_named o 0 (k o refl), plain (frame_of x) (frame_at o 0))

    coded_import : (places : ℕ → ImportPlace) (i : ℕ) (h : Incarnation) → import_code t places i (Some h) ≡ None → is_same_class (class_number t i) (class_number t h.slot.0) ≡ true
    coded_import places i h e = go (is_home t h.slot.0) (is_same_class (class_number t i) (class_number t h.slot.0)) refl e
      where
        go : (a b : Bool) → is_same_class (class_number t i) (class_number t h.slot.0) ≡ b
            → (if not a then Some StaleId else if not b then Some WrongClass else busy_code (places i)) ≡ None → is_same_class (class_number t i) (class_number t h.slot.0) ≡ true
        go false b s k = absurd cc
        go true false s k = absurd cc
        go true true s k = s

    asks_named : (places : ℕ → ImportPlace) (i : ℕ) (h : Incarnation) → PlacesNamed t places → i < length t.slots → h.slot.0 < length t.slots
        → is_same_class (class_number t i) (class_number t h.slot.0) ≡ true → DoneNamed t L (PlacesNamed t) (asks_for t me places x i h)
    asks_named places i h p at there same =
        let class = one_class (class_number t i) (class_number t h.slot.0) same in
        (updated_places places i (Asking h) p (there, class), ((frame_named i x.generation.0 at, of_named h there, sym class), tt))

    -- a home that no code refuses is there
    home_within : (places : ℕ → ImportPlace) (i : ℕ) (h : Incarnation) → import_code t places i (Some h) ≡ None → h.slot.0 < length t.slots
    home_within places i h e = class_within t h.slot.0 (class_number t i) (coded_import places i h e)

    import_with_named : (places : ℕ → ImportPlace) (reference : ℕ) (index : ℤ) (i : ℕ) (o : Option Incarnation) (code : Option Code) → PlacesNamed t places
        → i < length t.slots → import_code t places i o ≡ code → DoneNamed t L (PlacesNamed t) (import_with t me places x reference index i o code)
    import_with_named places reference index i o (Some code) p at e = (p, (own_told Refused, tt))
    import_with_named places reference index i None None p at e = (p, (own_told Refused, tt))
    import_with_named places reference index i (Some h) None p at e = asks_named places i h p at (home_within places i h e) (coded_import places i h e)

    import_into_named : (places : ℕ → ImportPlace) (reference : ℕ) (index id : ℤ) (o : Option ℕ) → PlacesNamed t places
        → ((k : ℕ) → o ≡ Some k → k < length t.slots) → DoneNamed t L (PlacesNamed t) (import_into t me places x reference index id o)
    import_into_named places reference index id None p k = (p, (own_told Refused, tt))
    import_into_named places reference index id (Some i) p k =
        import_with_named places reference index i (of_id id) (import_code t places i (of_id id)) p (k i refl) refl

    deport_from_named : (places : ℕ → ImportPlace) (reference : ℕ) (index : ℤ) (i : ℕ) (place : ImportPlace) → PlacesNamed t places → i < length t.slots
        → PlaceNamed t i place → DoneNamed t L (PlacesNamed t) (deport_from t me places x reference index i place)
    deport_from_named places reference index i Empty p at h = (p, (own_told Refused, tt))
    deport_from_named places reference index i (Asking y) p at h = (p, (own_told Refused, tt))
    deport_from_named places reference index i (Leaving y) p at h = (p, (own_told Refused, tt))
    deport_from_named places reference index i (Held y) p at h =
        (updated_places places i (Leaving y) p h, ((frame_named i x.generation.0 at, of_named y h.0, tt), tt))

    deport_of_named : (places : ℕ → ImportPlace) (reference : ℕ) (index : ℤ) (o : Option ℕ) → PlacesNamed t places
        → ((k : ℕ) → o ≡ Some k → k < length t.slots) → DoneNamed t L (PlacesNamed t) (deport_of t me places x reference index o)
    deport_of_named places reference index None p k = (p, (own_told Refused, tt))
    deport_of_named places reference index (Some i) p k = deport_from_named places reference index i (places i) p (k i refl) (p i)

    import_command_named : (places : ℕ → ImportPlace) (reference : ℕ) (index id : ℤ) → PlacesNamed t places → DoneNamed t L (PlacesNamed t) (import_command t me places x reference index id)
    unfolding import_command
    import_command_named places reference index id p =
        import_into_named places reference index id (part_at t x.slot.0 reference index) p (λ k e. part_within reference index k e)

    deport_command_named : (places : ℕ → ImportPlace) (reference : ℕ) (index : ℤ) → PlacesNamed t places → DoneNamed t L (PlacesNamed t) (deport_command t me places x reference index)
    unfolding deport_command
    deport_command_named places reference index p =
        deport_of_named places reference index (part_at t x.slot.0 reference index) p (λ k e. part_within reference index k e)

    pub request_named : (f : Frame) (c : FrameCommand) → FrameNamed t f → DoneNamed t L (FrameNamed t) (frame_request t me f x c)
    unfolding incarnate destroy_command
    request_named f (frames.Incarnate reference index) h =
        (h, (asked_named kinds.Create (λ a b. tt) reference index (part_at t x.slot.0 reference index) (λ k e. part_within reference index k e), tt))
    request_named f (frames.Destroy reference index) h =
        (h, (asked_named kinds.Destroy (λ a b. tt) reference index (part_at t x.slot.0 reference index) (λ k e. part_within reference index k e), tt))
    request_named f (frames.Import reference index id) h =
        let r = import_command_named f.places reference index id h.places in (record { plugs = h.plugs; places = r.0 }, r.1)
    request_named f (frames.Deport reference index) h =
        let r = deport_command_named f.places reference index h.places in (record { plugs = h.plugs; places = r.0 }, r.1)

    -- ---- names

    point_named : (p : ℕ) → p < port_count t x.slot.0 → is_service_point t x.slot.0 p ≡ true → FitsPlace t L 0 (point_of x p)
    point_named p port point = record { slot = low; port = port; place = first_place t L x.slot.0 p point }

    -- a registration of a port becomes another one
    entered_now : (l : Links) (p : ℕ) (now : Registration) → LinksNamed t L l → (is_entered now ≡ true → is_service_point t x.slot.0 p ≡ true)
        → LinksNamed t L (record l { registrations = updated_at l.registrations x.slot.0 p now })
    entered_now l p now h k = record { entered = entered_at l.registrations x.slot.0 p now h.entered k; linked = h.linked }

    register_from_named : (l : Links) (p name : ℕ) (r : Registration) → LinksNamed t L l → p < port_count t x.slot.0 → is_service_point t x.slot.0 p ≡ true
        → DoneNamed t L (LinksNamed t L) (register_from me l x p name r)
    register_from_named l p name Unnamed h port point = (entered_now l p Asked h (λ e. point), ((point_named p port point, point_named p port point, tt), tt))
    register_from_named l p name Asked h port point = (h, (own_told NameRefused, tt))
    register_from_named l p name LeavingName h port point = (h, (own_told NameRefused, tt))
    register_from_named l p name Registered h port point = (h, (own_told NameRefused, tt))

    withdraw_from_named : (l : Links) (p : ℕ) (r : Registration) → LinksNamed t L l → p < port_count t x.slot.0 → is_service_point t x.slot.0 p ≡ true
        → DoneNamed t L (LinksNamed t L) (withdraw_from me l x p r)
    withdraw_from_named l p Unnamed h port point = (h, (own_told NameRefused, tt))
    withdraw_from_named l p Asked h port point = (h, (own_told NameRefused, tt))
    withdraw_from_named l p LeavingName h port point = (h, (own_told NameRefused, tt))
    withdraw_from_named l p Registered h port point = (entered_now l p LeavingName h (λ e. point), ((point_named p port point, point_named p port point, tt), tt))

    pub register_command_named : (l : Links) (p name : ℕ) → LinksNamed t L l → p < port_count t x.slot.0 → is_service_point t x.slot.0 p ≡ true
        → DoneNamed t L (LinksNamed t L) (register_command t me l x p name)
    unfolding register_command
    register_command_named l p name h port point =
        done_if t L (LinksNamed t L) (is_sap t x.slot.0 p && is_joined (joined_at t x.slot.0 p 0)) _ _ (h, (own_told NameRefused, tt))
        (register_from_named l p name (l.registrations x.slot.0 p) h port point)

    pub withdraw_command_named : (l : Links) (p : ℕ) → LinksNamed t L l → p < port_count t x.slot.0 → is_service_point t x.slot.0 p ≡ true
        → DoneNamed t L (LinksNamed t L) (withdraw_command me l x p)
    unfolding withdraw_command
    withdraw_command_named l p h port point = withdraw_from_named l p (l.registrations x.slot.0 p) h port point

    -- the links of an actor that ends
    end_linked : (l : Links) → LinksNamed t L l → LinkedNamed t L (updated l.linked x.slot.0 (λ q. []))
    unfolding updated
    end_linked l h s p = go (s == x.slot.0)
      where
        go : (b : Bool) → Each (LinkNamed t L s p) ((if b then (λ (q : ℕ). []) else l.linked s) p)
        go true = tt
        go false = h.linked s p

    end_entered : (l : Links) → LinksNamed t L l → EnteredNamed t (updated l.registrations x.slot.0 (λ q. Unnamed))
    unfolding updated
    end_entered l h s p = go (s == x.slot.0)
      where
        go : (b : Bool) → is_entered ((if b then (λ (q : ℕ). Unnamed) else l.registrations s) p) ≡ true → is_service_point t s p ≡ true
        go true e = absurd cc
        go false e = h.entered s p e

    -- the ports that are withdrawn
    withdrawn : (l : Links) → LinksNamed t L l → (ps : List ℕ) → Each (λ (p : ℕ). p < port_count t x.slot.0) ps
        → Each (λ (p : ℕ). (p < port_count t x.slot.0) × (is_service_point t x.slot.0 p ≡ true)) (filter (λ p. is_entered (l.registrations x.slot.0 p)) ps)
    withdrawn l h [] low = tt
    withdrawn l h (p ∷ ps) low = go (is_entered (l.registrations x.slot.0 p)) refl (withdrawn l h ps low.1)
      where
        go : (b : Bool) → is_entered (l.registrations x.slot.0 p) ≡ b
            → Each (λ (p : ℕ). (p < port_count t x.slot.0) × (is_service_point t x.slot.0 p ≡ true)) (filter (λ p. is_entered (l.registrations x.slot.0 p)) ps)
            → Each (λ (p : ℕ). (p < port_count t x.slot.0) × (is_service_point t x.slot.0 p ≡ true))
            (cond b (p ∷ filter (λ p. is_entered (l.registrations x.slot.0 p)) ps) (filter (λ p. is_entered (l.registrations x.slot.0 p)) ps))
        go true e rest = ((low.0, h.entered x.slot.0 p e), rest)
        go false e rest = rest

    pub end_of_named : (l : Links) → LinksNamed t L l → DoneNamed t L (LinksNamed t L) (end_of t me l x)
    unfolding end_of
    end_of_named l h = (
      record { entered = end_entered l h; linked = end_linked l h },
      each_map (λ (p : ℕ). (p < port_count t x.slot.0) × (is_service_point t x.slot.0 p ≡ true)) (IsNamed t L)
          (λ p. system me 0 kinds.Withdraw (point_of x p) (point_of x p) []) (λ p k. (point_named p k.0 k.1, point_named p k.0 k.1, tt))
          (filter (λ p. is_entered (l.registrations x.slot.0 p)) (ports_of t x.slot.0))
          (withdrawn l h (ports_of t x.slot.0) (numbers_below (port_count t x.slot.0) 0 (port_count t x.slot.0) (omega arith))),
    )

  -- ---- links

  links_with : (s p : ℕ) (x : Link) (ys : List Link) → LinkNamed t L s p x → Each (LinkNamed t L s p) ys → Each (LinkNamed t L s p) (with_link x ys)
  links_with s p x [] h k = (h, tt)
  links_with s p x (y ∷ ys) h k = go (nat_lt x.place y.place) (x.place == y.place) (links_with s p x ys h k.1)
    where
      go : (a b : Bool) → Each (LinkNamed t L s p) (with_link x ys)
          → Each (LinkNamed t L s p) (if a then x ∷ (y ∷ ys) else if b then x ∷ ys else y ∷ with_link x ys)
      go true b rest = (h, k)
      go false true rest = (h, k.1)
      go false false rest = (k.0, rest)

  linked_at : (f : ℕ → ℕ → List Link) (a b : ℕ) (now : List Link) → LinkedNamed t L f → Each (LinkNamed t L a b) now → LinkedNamed t L (updated_at f a b now)
  unfolding updated
  linked_at f a b now h k s p = go (s == a) refl
    where
      own : (c : Bool) → (p == b) ≡ c → Each (LinkNamed t L a p) (if c then now else f a p)
      own true e = subst (λ (q : ℕ). Each (LinkNamed t L a q) now) (sym (eqb-true p b e)) k
      own false e = h a p

      go : (c : Bool) → (s == a) ≡ c → Each (LinkNamed t L s p) ((if c then (λ (n : ℕ). if n == b then now else f a n) else f s) p)
      go true e = subst (λ (r : ℕ). Each (LinkNamed t L r p) (if p == b then now else f a p)) (sym (eqb-true s a e)) (own (p == b) refl)
      go false e = h s p

  bound_named : (l : Links) (peer own : Endpoint) → LinksNamed t L l → LinkNamed t L own.slot.0 own.port (record { place = own.place; peer = peer }) → LinksNamed t L (bound l peer own)
  unfolding bound
  bound_named l peer own h k = record {
    entered = h.entered;
    linked = linked_at l.linked own.slot.0 own.port _ h.linked
        (links_with own.slot.0 own.port (record { place = own.place; peer = peer }) (l.linked own.slot.0 own.port) k (h.linked own.slot.0 own.port));
  }

  unbound_named : (l : Links) (peer own : Endpoint) → LinksNamed t L l → LinksNamed t L (unbound l peer own)
  unfolding unbound
  unbound_named l peer own h = record {
    entered = h.entered;
    linked = linked_at l.linked own.slot.0 own.port _ h.linked
        (each_kept (LinkNamed t L own.slot.0 own.port) (λ x. not (is_link peer own.place x)) (l.linked own.slot.0 own.port) (h.linked own.slot.0 own.port));
  }

  -- who asked for a name or gives it back, and is told
  heard_now : (l : Links) (e : Endpoint) (now : Registration) → LinksNamed t L l → (is_entered now ≡ true → is_service_point t e.slot.0 e.port ≡ true)
      → LinksNamed t L (record l { registrations = updated_at l.registrations e.slot.0 e.port now })
  heard_now l e now h k = record { entered = entered_at l.registrations e.slot.0 e.port now h.entered k; linked = h.linked }

  replied_named : (l : Links) (e : Endpoint) (code : ℕ) (r : Registration) → LinksNamed t L l → FitsPlace t L 0 e
      → (is_entered r ≡ true → is_service_point t e.slot.0 e.port ≡ true) → DoneNamed t L (LinksNamed t L) (replied me l e code r)
  replied_named l e code Unnamed h k point = (h, tt)
  replied_named l e code Registered h k point = (h, tt)
  replied_named l e code LeavingName h k point = (heard_now l e Unnamed h (λ n. absurd cc), (own_told (whose e) k.slot Withdrawn, tt))
  replied_named l e code Asked h k point =
      done_if t L (LinksNamed t L) (code == 0) _ _ (heard_now l e Registered h (λ n. point refl), (own_told (whose e) k.slot Named, tt))
      (done_if t L (LinksNamed t L) (code == 8) _ _ (heard_now l e Unnamed h (λ n. absurd cc), (own_told (whose e) k.slot NameRefused, tt)) (h, tt))

  name_reply_named : (l : Links) (e : Endpoint) (code : ℕ) → LinksNamed t L l → FitsPlace t L 0 e → DoneNamed t L (LinksNamed t L) (name_reply me l e code)
  unfolding name_reply
  name_reply_named l e code h k = replied_named l e code (l.registrations e.slot.0 e.port) h k (h.entered e.slot.0 e.port)

  links_duty_of_named : (l : Links) (kind : SysKind) (a b : Endpoint) (payload : List ℤ) → LinksNamed t L l → FitsPlace t L 0 a → FitsPlace t L 0 b
      → TiesBy t L kind (Some a) b → DoneNamed t L (LinksNamed t L) (links_duty_of t me l kind a b payload)
  links_duty_of_named l kinds.Bound peer own [] h p q y = done_if t L (LinksNamed t L) (is_own_point t me own) _ _ (bound_named l peer own h y, tt) (h, tt)
  links_duty_of_named l kinds.Ended peer own [] h p q y = done_if t L (LinksNamed t L) (is_own_point t me own) _ _ (unbound_named l peer own h, tt) (h, tt)
  links_duty_of_named l kinds.NameReply e own (pos code ∷ []) h p q y =
      done_if t L (LinksNamed t L) (is_own_point t me own && is_endpoint e own && (own.place == 0)) _ _ (name_reply_named l own code h q) (h, tt)
  links_duty_of_named l _ peer own _ h p q y = (h, tt)

  links_duty_from_named : (l : Links) (kind : SysKind) (o : Option Endpoint) (m : Msg) → LinksNamed t L l → SourceFits t L 0 o → FitsPlace t L 0 m.target
      → TiesBy t L kind o m.target → DoneNamed t L (LinksNamed t L) (links_duty_from t me l kind o m)
  links_duty_from_named l kind None m h p q y = (h, tt)
  links_duty_from_named l kind (Some a) m h p q y = links_duty_of_named l kind a m.target m.payload h p q y

  pub links_duty_named : (l : Links) (live : Bool) (kind : SysKind) (m : Msg) → LinksNamed t L l → SystemNamed t L m → TiesBy t L kind m.source m.target
      → DoneNamed t L (LinksNamed t L) (links_duty t me l live kind m)
  unfolding links_duty
  links_duty_named l live kind m h k y = done_if t L (LinksNamed t L) live _ _ (links_duty_from_named l kind m.source m h k.0 k.1 y) (h, tt)

  -- ---- the name table

  reply_named : (e : Endpoint) → FitsPlace t L 0 e → FitsPlace t L 0 e × FitsPlace t L 0 e × Unit {0}
  reply_named e h = (h, h, tt)

  -- a place of a provision point that was linked
  linked_place : {q : ℕ} (provider : Endpoint) (k : ℕ) → FitsPlace t L 0 provider → is_spp t provider.slot.0 provider.port ≡ true → L provider.slot.0 provider.port k
      → FitsPlace t L q (at_place provider k)
  linked_place provider k p spp linked = record { slot = p.slot; port = p.port; place = by_name spp linked }

  both_told_named : (kind : SysKind) (provider : Endpoint) (k : ℕ) (user : Endpoint) → FitsPlace t L 0 (at_place provider k) → FitsPlace t L 0 user
      → Says t L 0 (number_of kind) (Some user) (at_place provider k) → Says t L 0 (number_of kind) (Some (at_place provider k)) user
      → AreNamed t L (both_told t kind provider k user)
  both_told_named kind provider k user place u there back = ((u, place, there), ((place, u, back), tt))

  -- two service points of one protocol have the same signals
  points_carry : (protocol : ℕ) (a b : Endpoint) → IsPointOf t L protocol a → IsPointOf t L protocol b → Carries t a.slot.0 a.port b.slot.0 b.port
  points_carry protocol a b h k = w.points a.slot.0 a.port b.slot.0 b.port h.point k.point (h.protocol_is ∙ sym k.protocol_is)

  bound_told : (protocol : ℕ) (provider : Endpoint) (k : ℕ) (user : Endpoint) → IsProviderOf t L protocol provider → IsUserOf t L protocol user
      → L provider.slot.0 provider.port k → AreNamed t L (both_told t kinds.Bound provider k user)
  bound_told protocol provider k user p u linked =
      both_told_named kinds.Bound provider k user (linked_place provider k p.0.place p.1 linked) u.0.place
      ((u.1, points_carry protocol provider user p.0 u.0), by_name p.1 linked)
      ((linked_place provider k p.0.place p.1 linked, points_carry protocol user provider u.0 p.0), u.1.place)

  record LinkingNamed (protocol : ℕ) (provider : Endpoint) (r : Linking) : Type 0 where
    users : UsersNamed t L protocol r.users
    linked : Each (λ (u : User). IfSome u.linked (L provider.slot.0 provider.port)) r.users
    sent : AreNamed t L r.sent

  -- what the table sends tells of each place that it gives out
  linked_first_named : (protocol : ℕ) (provider : Endpoint) (next : ℕ) (u : User) (o : Option ℕ) (rest : ℕ → Linking) → u.linked ≡ o → IsProviderOf t L protocol provider
      → IsUserOf t L protocol u.at → IfSome o (L provider.slot.0 provider.port)
      → ((n : ℕ) → Each (GivesPlace L) (rest n).sent → LinkingNamed protocol provider (rest n))
      → Each (GivesPlace L) (linked_first t provider next u o rest).sent → LinkingNamed protocol provider (linked_first t provider next u o rest)
  linked_first_named protocol provider next u (Some k) rest is p h l more told =
      let r = more next told in
      record { users = (h, r.users); linked = (subst (λ (o : Option ℕ). IfSome o (L provider.slot.0 provider.port)) (sym is) l, r.linked); sent = r.sent }
  linked_first_named protocol provider next u None rest is p h l more told =
      let now : L provider.slot.0 provider.port next = told.0 refl refl in
      let r = more (next + 1) (each_later (GivesPlace L) (both_told t kinds.Bound provider next u.at) (rest (next + 1)).sent told) in
      record {
        users = (h, r.users);
        linked = (now, r.linked);
        sent = each_both (IsNamed t L) (both_told t kinds.Bound provider next u.at) _ (bound_told protocol provider next u.at p h now) r.sent;
      }

  linked_users_named : (protocol : ℕ) (provider : Endpoint) (us : List User) (next : ℕ) → IsProviderOf t L protocol provider → UsersNamed t L protocol us
      → Each (λ (u : User). IfSome u.linked (L provider.slot.0 provider.port)) us → Each (GivesPlace L) (linked_users t provider us next).sent
      → LinkingNamed protocol provider (linked_users t provider us next)
  linked_users_named protocol provider [] next p h l told = record { users = tt; linked = tt; sent = tt }
  linked_users_named protocol provider (u ∷ us) next p h l told =
      linked_first_named protocol provider next u u.linked (linked_users t provider us) refl p h.0 l.0
      (λ n told. linked_users_named protocol provider us n p h.1 l.1 told) told

  meet_with_named : (s : Service) (o : Option Provider) → s.provider ≡ o → ServiceNamed t L s → Each (GivesPlace L) (meet_with t s o).sent
      → DoneNamed t L (ServiceNamed t L) (meet_with t s o)
  meet_with_named s None e h told = (h, tt)
  meet_with_named s (Some p) e h told =
      let provider : IsProviderOf t L s.protocol p.at = subst (ProviderNamed t L s.protocol) e h.0 in
      let r = linked_users_named s.protocol p.at s.users p.next provider h.1 (subst (λ (o : Option Provider). AreLinkedTo L o s.users) e h.2) told in
      ((provider, r.users, r.linked), r.sent)

  meet_named : (s : Service) → ServiceNamed t L s → Each (GivesPlace L) (meet t s).sent → DoneNamed t L (ServiceNamed t L) (meet t s)
  unfolding meet
  meet_named s h told = meet_with_named s s.provider refl h told

  -- who isn't linked is linked to nothing
  none_linked : (o : Provider) (us : List User) → AreLinkedTo L None us → AreLinkedTo L (Some o) us
  none_linked o [] h = tt
  none_linked o (u ∷ us) h = (subst (λ (l : Option ℕ). IfSome l (L o.at.slot.0 o.at.port)) (sym h.0) tt, none_linked o us h.1)

  -- a user that comes isn't linked
  user_comes : (o : Option Provider) (us : List User) (e : Endpoint) → AreLinkedTo L o us → AreLinkedTo L o (us ++ record { at = e; linked = None } ∷ [])
  user_comes o us e h = each_both (IsLinkedTo L o) us (record { at = e; linked = None } ∷ []) h (comes o, tt)
    where
      comes : (o : Option Provider) → IsLinkedTo L o (record { at = e; linked = None })
      comes None = refl
      comes (Some p) = tt

  -- a service with this provider
  abbrev provided : ℕ → Endpoint → Service → Service
  provided base e s = record s { provider = Some (record { at = e; next = base }) }

  not_there : (o : Option Provider) → is_some o ≡ false → o ≡ None
  not_there None e = refl
  not_there (Some p) e = absurd cc

  provide_named : (base : ℕ) (e : Endpoint) (s : Service) → IsProviderOf t L s.protocol e → ServiceNamed t L s → Each (GivesPlace L) (provide t base e s).sent
      → DoneNamed t L (ServiceNamed t L) (provide t base e s)
  unfolding provide
  provide_named base e s k h told =
      done_telling t L (ServiceNamed t L) (is_some s.provider)
      (record { now = s; sent = name_reply_to t e (coded NameTaken) ∷ [] })
      (record { now = (meet t (provided base e s)).now; sent = name_reply_to t e (pos 0 ∷ []) ∷ (meet t (provided base e s)).sent })
      (λ taken told. (h, (reply_named e k.0.place, tt)))
      (λ free told. (
      let waits = subst (λ (o : Option Provider). AreLinkedTo L o s.users) (not_there s.provider free) h.2 in
      let r = meet_named (provided base e s) (k, h.1, none_linked (record { at = e; next = base }) s.users waits) told.1 in
      (r.0, (reply_named e k.0.place, r.1)))) told

  use_named : (e : Endpoint) (s : Service) → IsUserOf t L s.protocol e → ServiceNamed t L s → Each (GivesPlace L) (use_service t e s).sent
      → DoneNamed t L (ServiceNamed t L) (use_service t e s)
  unfolding use_service
  use_named e s k h told =
      let users = each_both (λ (u : User). IsUserOf t L s.protocol u.at) s.users (record { at = e; linked = None } ∷ []) h.1 (k, tt) in
      let r = meet_named (record s { users = s.users ++ record { at = e; linked = None } ∷ [] }) (h.0, users, user_comes s.provider s.users e h.2) told.1 in
      (r.0, (reply_named e k.0.place, r.1))

  in_service_named : (name protocol : ℕ) (step : Service → Done Service)
      → ((s : Service) → s.protocol ≡ protocol → ServiceNamed t L s → Each (GivesPlace L) (step s).sent → DoneNamed t L (ServiceNamed t L) (step s))
      → (table : NameTable) → TableNamed t L table → Each (GivesPlace L) (in_service name protocol step table).sent
      → DoneNamed t L (TableNamed t L) (in_service name protocol step table)
  in_service_named name protocol step k [] h told =
      let r = k (record { name = name; protocol = protocol; provider = None; users = [] }) refl (tt, tt, tt) told in ((r.0, tt), r.1)
  in_service_named name protocol step k (s ∷ rest) h told =
      done_telling t L (TableNamed t L) ((s.name == name) && (s.protocol == protocol))
      (record { now = (step s).now ∷ rest; sent = (step s).sent })
      (record { now = s ∷ (in_service name protocol step rest).now; sent = (in_service name protocol step rest).sent })
      (λ e told. (let here = k s (eqb-true s.protocol protocol (and_parts (s.name == name) (s.protocol == protocol) e).1) h.0 told in ((here.0, h.1), here.1)))
      (λ e told. (let later = in_service_named name protocol step k rest h.1 told in ((h.0, later.0), later.1))) told

  link_ended_named : (provider : Endpoint) (u : User) (o : Option ℕ) → FitsPlace t L 0 provider → is_spp t provider.slot.0 provider.port ≡ true → FitsPlace t L 0 u.at
      → IfSome o (L provider.slot.0 provider.port) → AreNamed t L (option_map_or (λ k. both_told t kinds.Ended provider k u.at) o [])
  link_ended_named provider u None p spp h l = tt
  link_ended_named provider u (Some k) p spp h l = both_told_named kinds.Ended provider k u.at (linked_place provider k p spp l) h tt tt

  links_ended_named : (protocol : ℕ) (provider : Endpoint) (us : List User) → FitsPlace t L 0 provider → is_spp t provider.slot.0 provider.port ≡ true
      → UsersNamed t L protocol us → Each (λ (u : User). IfSome u.linked (L provider.slot.0 provider.port)) us → AreNamed t L (links_ended t provider us)
  links_ended_named protocol provider [] p spp h l = tt
  links_ended_named protocol provider (u ∷ us) p spp h l =
      each_both (IsNamed t L) (link_ended t provider u) (links_ended t provider us) (link_ended_named provider u u.linked p spp h.0.0.place l.0)
      (links_ended_named protocol provider us p spp h.1 l.1)

  user_ended_named : (protocol : ℕ) (e : Endpoint) (o : Option Provider) (us : List User) → ProviderNamed t L protocol o → UsersNamed t L protocol us
      → AreLinkedTo L o us → AreNamed t L (user_ended t e o us)
  user_ended_named protocol e None us p h l = tt
  user_ended_named protocol e (Some p) us k h l =
      links_ended_named protocol p.at (filter (is_user e) us) k.0.place k.1 (each_kept (λ (u : User). IsUserOf t L protocol u.at) (is_user e) us h)
      (each_kept (λ (u : User). IfSome u.linked (L p.at.slot.0 p.at.port)) (is_user e) us l)

  -- users that wait again are linked to nothing
  all_wait : (us : List User) → AreLinkedTo L None (map waiting us)
  all_wait [] = tt
  all_wait (u ∷ us) = (refl, all_wait us)

  -- the links of a provider that leaves
  provider_ended_named : (e : Endpoint) (s : Service) (o : Option Provider) → s.provider ≡ o → is_provider e (record s { provider = o }) ≡ true → FitsPlace t L 0 e
      → ServiceNamed t L s → AreNamed t L (links_ended t e s.users)
  provider_ended_named e s None is k p h = absurd cc
  provider_ended_named e s (Some x) is k p h =
      let same = and_parts (is_incarnation (whose x.at) (whose e) && (x.at.port == e.port)) (x.at.place == e.place) k in
      let parts = and_parts (is_incarnation (whose x.at) (whose e)) (x.at.port == e.port) same.0 in
      let slot : x.at.slot.0 ≡ e.slot.0 = eqb-true x.at.slot.0 e.slot.0 (and_parts (x.at.slot.0 == e.slot.0) (x.at.generation.0 == e.generation.0) parts.0).0 in
      let port : x.at.port ≡ e.port = eqb-true x.at.port e.port parts.1 in
      let provider : IsProviderOf t L s.protocol x.at = subst (ProviderNamed t L s.protocol) is h.0 in
      let linked : Each (λ (u : User). IfSome u.linked (L x.at.slot.0 x.at.port)) s.users = subst (λ (o : Option Provider). AreLinkedTo L o s.users) is h.2 in
      links_ended_named s.protocol e s.users p
      (subst (λ (q : ℕ). is_spp t e.slot.0 q ≡ true) port (subst (λ (z : ℕ). is_spp t z x.at.port ≡ true) slot provider.1)) h.1
      (subst (λ (q : ℕ). Each (λ (u : User). IfSome u.linked (L e.slot.0 q)) s.users) port
      (subst (λ (z : ℕ). Each (λ (u : User). IfSome u.linked (L z x.at.port)) s.users) slot linked))

  leave_named : (e : Endpoint) (s : Service) → FitsPlace t L 0 e → ServiceNamed t L s → DoneNamed t L (ServiceNamed t L) (leave t e s)
  leave_named e s k h =
      let point : User → Type 0 = λ (u : User). IsUserOf t L s.protocol u.at in
      done_when t L (ServiceNamed t L) (is_provider e s) _ _
      (λ is. ((tt, each_map point point waiting (λ (u : User) there. there) s.users h.1, all_wait s.users), provider_ended_named e s s.provider refl is k h)) (
        (h.0, each_kept point (λ u. not (is_user e u)) s.users h.1, each_kept (IsLinkedTo L s.provider) (λ u. not (is_user e u)) s.users h.2),
        user_ended_named s.protocol e s.provider s.users h.0 h.1 h.2,
      )

  withdraw_named : (e : Endpoint) (table : NameTable) → FitsPlace t L 0 e → TableNamed t L table → DoneNamed t L (TableNamed t L) (withdraw t e table)
  unfolding withdraw
  withdraw_named e [] k h = (tt, (reply_named e k, tt))
  withdraw_named e (s ∷ rest) k h =
      let here = leave_named e s k h.0 in
      let later = withdraw_named e rest k h.1 in
      done_if t L (TableNamed t L) (stands_in e s) _ _ ((here.0, h.1), each_both (IsNamed t L) (leave t e s).sent _ here.1 (reply_named e k, tt)) ((h.0, later.0), later.1)

  -- a service point, in a service of its protocol
  point_in : (e : Endpoint) (protocol : ℕ) → IsPointOf t L (protocol_of t e.slot.0 e.port) e → protocol ≡ protocol_of t e.slot.0 e.port → IsPointOf t L protocol e
  point_in e protocol k same = subst (λ (n : ℕ). IsPointOf t L n e) (sym same) k

  -- a service point that is no provision point is an access point, which has place 0
  user_in : (e : Endpoint) (protocol : ℕ) → IsPointOf t L (protocol_of t e.slot.0 e.port) e → protocol ≡ protocol_of t e.slot.0 e.port → e.place ≡ 0
      → is_spp t e.slot.0 e.port ≡ false → IsUserOf t L protocol e
  user_in e protocol k same first other = (
    point_in e protocol k same,
    record { slot = k.place.slot; port = k.place.port; place = of_user (either (is_sap t e.slot.0 e.port) (is_spp t e.slot.0 e.port) other k.point) first },
  )
    where
      either : (a b : Bool) → b ≡ false → (a || b) ≡ true → a ≡ true
      either true b e h = refl
      either false true e h = absurd cc
      either false false e h = absurd cc

  register_named : (e : Endpoint) (name : ℕ) (table : NameTable) → IsPointOf t L (protocol_of t e.slot.0 e.port) e → e.place ≡ 0 → TableNamed t L table
      → Each (GivesPlace L) (register t e name table).sent → DoneNamed t L (TableNamed t L) (register t e name table)
  unfolding register register_spp register_sap
  register_named e name table k first h told =
      done_telling t L (TableNamed t L) (is_spp t e.slot.0 e.port)
      (in_service name (protocol_of t e.slot.0 e.port) (provide t (place_count t e.slot.0 e.port) e) table)
      (in_service name (protocol_of t e.slot.0 e.port) (use_service t e) table)
      (λ spp told. in_service_named name (protocol_of t e.slot.0 e.port) (provide t (place_count t e.slot.0 e.port) e)
      (λ s same j told. provide_named (place_count t e.slot.0 e.port) e s (point_in e s.protocol k same, spp) j told) table h told)
      (λ other told. in_service_named name (protocol_of t e.slot.0 e.port) (use_service t e) (λ s same j told. use_named e s (user_in e s.protocol k same first other) j told) table h told)
      told

  -- who asks for a name is a service point
  request_point : (a b : Endpoint) → FitsPlace t L 0 a → is_name_request t me a b ≡ true → IsPointOf t L (protocol_of t a.slot.0 a.port) a
  request_point a b h e =
      record { place = h; point = last_test (me == 0) (is_endpoint a b) (a.place == 0) (is_service_point t a.slot.0 a.port) e; protocol_is = refl }

  -- with place 0
  request_first : (a b : Endpoint) → is_name_request t me a b ≡ true → a.place ≡ 0
  request_first a b e =
      eqb-true a.place 0 (and_parts ((me == 0) && is_endpoint a b) (a.place == 0)
      (and_parts ((me == 0) && is_endpoint a b && (a.place == 0)) (is_service_point t a.slot.0 a.port) e).0).1

  -- it asks at controller 0
  request_here : (a b : Endpoint) → is_name_request t me a b ≡ true → me ≡ 0
  request_here a b e =
      eqb-true me 0 (and_parts (me == 0) (is_endpoint a b)
      (and_parts ((me == 0) && is_endpoint a b) (a.place == 0) (and_parts ((me == 0) && is_endpoint a b && (a.place == 0)) (is_service_point t a.slot.0 a.port) e).0).0).0

  -- controller 0 tells of each place that it gives out
  abbrev TellsPlaces : List Msg → Type 0
  TellsPlaces ms = me ≡ 0 → Each (GivesPlace L) ms

  registered_named : (a b : Endpoint) (name : ℕ) (table : NameTable) → TableNamed t L table → FitsPlace t L 0 a → (c : Bool) → is_name_request t me a b ≡ c
      → TellsPlaces (if c then register t a name table else same_table table).sent → DoneNamed t L (TableNamed t L) (if c then register t a name table else same_table table)
  registered_named a b name table h k true e told = register_named a name table (request_point a b k e) (request_first a b e) h (told (request_here a b e))
  registered_named a b name table h k false e told = (h, tt)

  table_of_named : (table : NameTable) (kind : SysKind) (a b : Endpoint) (payload : List ℤ) → TableNamed t L table → FitsPlace t L 0 a
      → TellsPlaces (table_duty_of t me table kind a b payload).sent → DoneNamed t L (TableNamed t L) (table_duty_of t me table kind a b payload)
  table_of_named table kinds.Register a b (pos name ∷ []) h k told = registered_named a b name table h k (is_name_request t me a b) refl told
  table_of_named table kinds.Withdraw a b [] h k told = done_if t L (TableNamed t L) (is_name_request t me a b) _ _ (withdraw_named a table k h) (h, tt)
  table_of_named table _ a b _ h k told = (h, tt)

  table_from_named : (table : NameTable) (kind : SysKind) (o : Option Endpoint) (m : Msg) → TableNamed t L table → SourceFits t L 0 o
      → TellsPlaces (table_duty_from t me table kind o m).sent → DoneNamed t L (TableNamed t L) (table_duty_from t me table kind o m)
  table_from_named table kind None m h k told = (h, tt)
  table_from_named table kind (Some a) m h k told = table_of_named table kind a m.target m.payload h k told

  pub table_duty_named : (table : NameTable) (kind : SysKind) (m : Msg) → TableNamed t L table → SystemNamed t L m → TellsPlaces (table_duty t me table kind m).sent
      → DoneNamed t L (TableNamed t L) (table_duty t me table kind m)
  unfolding table_duty
  table_duty_named table kind m h k told = table_from_named table kind m.source m h k.0 told

  -- ---- what actors send

  -- a peer that may be there is a place to which those of this port may lead, and what leads there is a place of the port
  abbrev PeerNamed : ℕ → ℕ → ℕ → Option Endpoint → Type 0
  PeerNamed s p n o = IfSome o (λ (e : Endpoint). LeadsTo t L s p e × IsPlace t L 1 s p n)

  known_named : (f : Frame) (s p n x q k : ℕ) → PortCarries t s p x q → IsPlace t L 1 s p n → k < place_count t x q → PeerNamed s p n (known_end t me f x q k)
  known_named f s p n x q k h near far = go (known t me f x == 0)
    where
      go : (b : Bool) → PeerNamed s p n (if b then None else Some (endpoint x (known t me f x) q k))
      go true = tt
      go false = ((record { slot = h.0; port = h.1; place = given far }, h.2), near)

  held_named : (place : ImportPlace) (s p n i q k : ℕ) → PlaceNamed t i place → PortCarries t s p i q → IsPlace t L 1 s p n → is_imported t i ≡ true
      → is_joined (joined_at t i q k) ≡ true → PeerNamed s p n (held_end place q k)
  held_named Empty s p n i q k h c near imported joined = tt
  held_named (Asking x) s p n i q k h c near imported joined = tt
  held_named (Leaving x) s p n i q k h c near imported joined = tt
  held_named (Held x) s p n i q k h c near imported joined =
      let class = numbered_class t x.slot.0 i h.1 in (
        (
          record {
            slot = h.0;
            port = subst (λ (n : ℕ). q < n) (sym (class_ports t x.slot.0 i class)) c.1;
            place = given (w.lent i x.slot.0 q k imported h.1 joined);
          },
          λ signal has. same_class t i x.slot.0 q (sym class) signal (c.2 signal has),
        ),
        near,
      )

  -- what a plug's place is joined to
  partner_named : (f : Frame) (s p n i q k : ℕ) (o : Partner) → joined_at t i q k ≡ o → Carries t s p i q → (is_joined (joined_at t i q k) ≡ true → IsPlace t L 1 s p n)
      → PeerNamed s p n (end_of_partner t me f o)
  partner_named f s p n i q k partners.Nobody e c near = tt
  partner_named f s p n i q k (partners.Socket x r j) e c near = tt
  partner_named f s p n i q k (partners.End x r j) e c near =
      let there = w.ends i q k x r j e in
      known_named f s p n x.0 r j (there.carries.0, there.carries.1, λ signal has. there.carries.2 signal (c signal has)) (near (ap is_joined e)) there.far

  through_named : (f : Frame) (s p k : ℕ) (o : Option Incarnation) → IfSome o (IsPlug t s) → PeerNamed s p k (through_plug t me f p k o)
  through_named f s p k None h = tt
  through_named f s p k (Some i) h =
      partner_named f s p k i.slot.0 p k (joined_at t i.slot.0 p k) refl (same_class t s i.slot.0 p (sym (numbered_class t i.slot.0 s h.0.1)))
      (λ joined. given (w.lent i.slot.0 s p k h.1 (sym h.0.1) joined))

  peer_by_named : (f : Frame) (e : Endpoint) (o : Partner) → joined_at t e.slot.0 e.port e.place ≡ o → FrameNamed t f
      → PeerNamed e.slot.0 e.port e.place (peer_by t me f e o)
  peer_by_named f e (partners.End x q j) is h =
      let well = w.ends e.slot.0 e.port e.place x q j is in known_named f e.slot.0 e.port e.place x.0 q j well.carries (given well.near) well.far
  peer_by_named f e (partners.Socket x q j) is h =
      let well = w.sockets e.slot.0 e.port e.place x q j is in
      held_named (f.places x.0) e.slot.0 e.port e.place x.0 q j (h.places x.0) well.0.carries (given well.0.near) well.1 well.2
  peer_by_named f e partners.Nobody is h =
      through_named f e.slot.0 e.port e.place (fitting_plug t (f.plugs e.slot.0) e.port e.place)
      (each_found (IsPlug t e.slot.0) (λ (i : Incarnation). is_end (joined_at t i.slot.0 e.port e.place)) (f.plugs e.slot.0) (h.plugs e.slot.0))

  frame_peer_named : (f : Frame) (e : Endpoint) → FrameNamed t f → PeerNamed e.slot.0 e.port e.place (frame_peer t me f e)
  unfolding frame_peer
  frame_peer_named f e h = peer_by_named f e (joined_at t e.slot.0 e.port e.place) refl h

  -- the link of a place is one of that place
  found_link : (s p k : ℕ) (xs : List Link) → Each (LinkNamed t L s p) xs → IfSome (link_at k xs) (λ (x : Link). LeadsTo t L s p x.peer × IsPlace t L 1 s p k)
  found_link s p k [] h = tt
  found_link s p k (x ∷ xs) h = go (x.place == k) refl (found_link s p k xs h.1)
    where
      go : (b : Bool) → (x.place == k) ≡ b → IfSome (link_at k xs) (λ (y : Link). LeadsTo t L s p y.peer × IsPlace t L 1 s p k)
          → IfSome (cond b (Some x) (link_at k xs)) (λ (y : Link). LeadsTo t L s p y.peer × IsPlace t L 1 s p k)
      go true e rest = (h.0.0, subst (λ (n : ℕ). IsPlace t L 1 s p n) (eqb-true x.place k e) h.0.1)
      go false e rest = rest

  link_peer_named : (l : Links) (e : Endpoint) → LinksNamed t L l → PeerNamed e.slot.0 e.port e.place (link_peer l e)
  unfolding link_peer
  link_peer_named l e h =
      go (link_at e.place (l.linked e.slot.0 e.port)) (found_link e.slot.0 e.port e.place (l.linked e.slot.0 e.port) (h.linked e.slot.0 e.port))
    where
      go : (o : Option Link) → IfSome o (λ (x : Link). LeadsTo t L e.slot.0 e.port x.peer × IsPlace t L 1 e.slot.0 e.port e.place)
          → PeerNamed e.slot.0 e.port e.place (option_map (λ (x : Link). x.peer) o)
      go None k = tt
      go (Some y) k = k

  peer_named : (f : Frame) (l : Links) (e : Endpoint) → FrameNamed t f → LinksNamed t L l → PeerNamed e.slot.0 e.port e.place (peer t me f l e)
  unfolding peer
  peer_named f l e h k = go (link_peer l e) (link_peer_named l e k)
    where
      go : (o : Option Endpoint) → PeerNamed e.slot.0 e.port e.place o → PeerNamed e.slot.0 e.port e.place (or_else o (frame_peer t me f e))
      go None p = frame_peer_named f e h
      go (Some y) p = p

  -- a signal of the sender's port goes, at a priority that actions have, to a port that has it, too
  module _ (source : Endpoint) (low : source.slot.0 < length t.slots) (port : source.port < port_count t source.slot.0) (c : Content)
      (has : HasSignal t source.slot.0 source.port c.signal) (worded : 1 ≤ c.prio.0) where
    send_to_named : (o : Option Endpoint) → PeerNamed source.slot.0 source.port source.place o → AreNamed t L (send_to t me source c o).messages
    send_to_named None k = tt
    send_to_named (Some target) k =
        let own : FitsPlace t L c.prio.0 source = record { slot = low; port = port; place = for_all k.1 } in
        let other : FitsPlace t L c.prio.0 target = record { slot = k.0.0.slot; port = k.0.0.port; place = for_all k.0.0.place } in
        ((own, other, says_worded t L c.prio.0 c.signal (Some source) target worded (k.0.1 c.signal has)), tt)

  module _ (f : Frame) (l : Links) (h : FrameNamed t f) (k : LinksNamed t L l) (x : Incarnation) (low : x.slot.0 < length t.slots) (p : ℕ) (port : p < port_count t x.slot.0)
      (c : Content) (has : HasSignal t x.slot.0 p c.signal) (worded : 1 ≤ c.prio.0) where
    pub send_named : (n : ℤ) → AreNamed t L (send t me f l x p n c).messages
    unfolding send
    send_named (pos n) =
        send_to_named (endpoint x.slot.0 x.generation.0 p n) low port c has worded
        (peer t me f l (endpoint x.slot.0 x.generation.0 p n)) (peer_named f l (endpoint x.slot.0 x.generation.0 p n) h k)
    send_named (negsuc n) = tt

    send_each_named : (ns : List ℕ) → AreNamed t L (send_each t me f l x p c ns).messages
    send_each_named [] = tt
    send_each_named (n ∷ ns) =
        each_both (IsNamed t L) (send t me f l x p (pos n) c).messages (send_each t me f l x p c ns).messages (send_named (pos n)) (send_each_named ns)

    pub broadcast_named : AreNamed t L (broadcast t me f l x p c).messages
    unfolding broadcast
    broadcast_named = send_each_named (broadcast_places t l x.slot.0 p)
