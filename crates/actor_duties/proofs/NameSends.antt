-- Whatever holds of all messages on names that are made holds of all that the layer service sends, and whatever holds of
-- a content between all end places holds of what actors send: the one walk over duties and commands on names, and over
-- sends.
use Rattle.std.proofs.Common.{◌≡◌, ℕ, ◌+◌, ◌==◌, Bool, true, false, ◌&&◌, ◌||◌, if◌then◌else◌, is_some, List, [], ◌∷◌, filter, Option, Some, None, ℤ, pos, negsuc, refl}
use Rattle.std.specs.Option.{option_map_or}
use Rattle.std.specs.List.{AllByRecursion as Each}
use Rattle.room_kinds.specs.declared.message.Msg.{Msg}
use Rattle.room_kinds.specs.declared.numbers.Incarnation.{Incarnation}
use Rattle.room_kinds.specs.declared.numbers.Endpoint.{Endpoint}
use Rattle.room_kinds.specs.declared.system.SysKind.{SysKind}
use Rattle.room_kinds.specs.declared.system.SysKind.TheVariants as kinds
use Rattle.room_kinds.specs.declared.command.NameCommand.{NameCommand}
use Rattle.room_kinds.specs.declared.command.NameCommand.TheVariants as names
use Rattle.room_wiring.specs.declared.tables.Tables.{Tables}
use Rattle.room_wiring.specs.Places.{place_count}
use Rattle.actor_duties.specs.Words.{is_endpoint, endpoint, is_spp, is_sap, protocol_of, joined_at, is_joined}
use Rattle.actor_duties.specs.State.{Frame, Links, Registration, Unnamed, Asked, Registered, Leaving, User, Provider, Service, NameTable, Done}
use Rattle.actor_duties.specs.Messages.{system, to_owner}
use Rattle.actor_duties.specs.Names.{name_reply_to, same_table, Linking, linked_users, linked_first, meet_with, meet, provide, use_service, in_service, register_spp, register_sap, links_ended, link_ended, user_ended, is_user, leave, is_provider, stands_in, withdraw, register, is_name_request, table_duty_of, table_duty_from, table_duty, both_told}
use Rattle.actor_duties.specs.Links.{point_of, same_links, name_reply, replied, links_duty_of, links_duty_from, links_duty, register_from, register_command, withdraw_from, withdraw_command, name_request, end_of, is_own_point}
use Rattle.actor_duties.specs.Peers.{peer}
use Rattle.actor_duties.specs.Commands.{Content, message, send, send_to, send_each, broadcast, broadcast_places}
use Rattle.actor_duties.proofs.Each.{each_both, each_any}

-- a message of priority 3 from a controller to itself, as frame messages are
abbrev pub to_itself : ℕ → ℕ → Endpoint → Endpoint → List ℤ → Msg
to_itself me signal source target payload = record {
  from = record { 0 = me };
  to = record { 0 = me };
  prio = record { 0 = 3 };
  stamp = record { 0 = 0 };
  source = Some source;
  target = target;
  signal = signal;
  payload = payload;
}

-- P holds of the frame messages of a controller
abbrev pub HoldsOfTold : ℕ → (Msg → Type 0) → Type 0
HoldsOfTold me P = (signal : ℕ) (source target : Endpoint) (payload : List ℤ) → P (to_itself me signal source target payload)

-- the codes with which the name table answers: none, that the name is taken, and that the point isn't registered
abbrev pub is_answer : ℕ → Bool
is_answer code = (code == 0) || ((code == 8) || (code == 9))

-- P holds of all messages on names: what a service point asks of itself, what the table answers it, and what it tells
-- both ends of a link
pub record HoldsOfNames (t : Tables) (me : ℕ) (P : Msg → Type 0) : Type 0 where
  pub told : HoldsOfTold me P
  pub register : (e : Endpoint) (name : ℕ) → P (system me 0 kinds.Register e e (pos name ∷ []))
  pub withdraw : (e : Endpoint) → P (system me 0 kinds.Withdraw e e [])
  pub answer : (e : Endpoint) (code : ℕ) → is_answer code ≡ true → P (name_reply_to t e (pos code ∷ []))
  pub bound : (source target : Endpoint) → P (to_owner t 0 kinds.Bound source target [])
  pub ended : (source target : Endpoint) → P (to_owner t 0 kinds.Ended source target [])

module _ (P : Msg → Type 0) where
  -- of two that may be done P holds of what one or the other sends
  pub each_done : {C : Type 0} (b : Bool) (x y : Done C) → Each P x.sent → Each P y.sent → Each P (if b then x else y).sent
  each_done true x y h k = h
  each_done false x y h k = k

-- ---- registrations and links

module _ (t : Tables) (me : ℕ) (P : Msg → Type 0) (told : HoldsOfTold me P) where
  replies : (l : Links) (e : Endpoint) (code : ℕ) (r : Registration) → Each P (replied me l e code r).sent
  replies l e code Asked = each_done P (code == 0) _ _ (told _ _ _ _, tt) (each_done P (code == 8) _ _ (told _ _ _ _, tt) tt)
  replies l e code Leaving = (told _ _ _ _, tt)
  replies l e code Unnamed = tt
  replies l e code Registered = tt

  links_of_kind : (l : Links) (k : SysKind) (a b : Endpoint) (payload : List ℤ) → Each P (links_duty_of t me l k a b payload).sent
  unfolding name_reply
  links_of_kind l kinds.Bound a b [] = each_done P (is_own_point t me b) _ _ tt tt
  links_of_kind l kinds.Ended a b [] = each_done P (is_own_point t me b) _ _ tt tt
  links_of_kind l kinds.NameReply a b (pos code ∷ []) =
      each_done P (is_own_point t me b && is_endpoint a b && (b.place == 0)) (name_reply me l b code) (same_links l) (replies l b code (l.registrations b.slot.0 b.port)) tt
  links_of_kind l _ a b _ = tt

  links_from : (l : Links) (k : SysKind) (o : Option Endpoint) (m : Msg) → Each P (links_duty_from t me l k o m).sent
  links_from l k None m = tt
  links_from l k (Some a) m = links_of_kind l k a m.target m.payload

  -- the duties of the kinds 14 to 16
  pub links_duty_sends : (l : Links) (live : Bool) (k : SysKind) (m : Msg) → Each P (links_duty t me l live k m).sent
  unfolding links_duty
  links_duty_sends l live k m = each_done P live _ _ (links_from l k m.source m) tt

module _ (t : Tables) (me : ℕ) (P : Msg → Type 0) (holds : HoldsOfNames t me P) where
  -- ---- commands, and the end of actors

  registers_from : (l : Links) (x : Incarnation) (p name : ℕ) (r : Registration) → Each P (register_from me l x p name r).sent
  registers_from l x p name Unnamed = (holds.register (point_of x p) name, tt)
  registers_from l x p name Asked = (holds.told _ _ _ _, tt)
  registers_from l x p name Registered = (holds.told _ _ _ _, tt)
  registers_from l x p name Leaving = (holds.told _ _ _ _, tt)

  withdraws_from : (l : Links) (x : Incarnation) (p : ℕ) (r : Registration) → Each P (withdraw_from me l x p r).sent
  withdraws_from l x p Unnamed = (holds.told _ _ _ _, tt)
  withdraws_from l x p Asked = (holds.told _ _ _ _, tt)
  withdraws_from l x p Registered = (holds.withdraw (point_of x p), tt)
  withdraws_from l x p Leaving = (holds.told _ _ _ _, tt)

  -- a command on names
  pub name_request_sends : (l : Links) (x : Incarnation) (c : NameCommand) → Each P (name_request t me l x c).sent
  unfolding register_command withdraw_command
  name_request_sends l x (names.Register p name) =
      each_done P (is_sap t x.slot.0 p && is_joined (joined_at t x.slot.0 p 0)) _ _ (holds.told _ _ _ _, tt) (registers_from l x p name (l.registrations x.slot.0 p))
  name_request_sends l x (names.Withdraw p) = withdraws_from l x p (l.registrations x.slot.0 p)

  -- the end of an actor
  pub end_of_sends : (l : Links) (x : Incarnation) → Each P (end_of t me l x).sent
  unfolding end_of
  end_of_sends l x = each_any P _ (λ p. holds.withdraw (point_of x p)) _

  -- ---- the name table

  links_first : (provider : Endpoint) (next : ℕ) (u : User) (o : Option ℕ) (rest : ℕ → Linking) → ((k : ℕ) → Each P (rest k).sent)
      → Each P (linked_first t provider next u o rest).sent
  links_first provider next u (Some k) rest h = h next
  links_first provider next u None rest h = (holds.bound _ _, (holds.bound _ _, h (next + 1)))

  links_users : (provider : Endpoint) (us : List User) (next : ℕ) → Each P (linked_users t provider us next).sent
  links_users provider [] next = tt
  links_users provider (u ∷ us) next = links_first provider next u u.linked (linked_users t provider us) (λ k. links_users provider us k)

  meets_with : (s : Service) (o : Option Provider) → Each P (meet_with t s o).sent
  meets_with s None = tt
  meets_with s (Some p) = links_users p.at s.users p.next

  meets : (s : Service) → Each P (meet t s).sent
  unfolding meet
  meets s = meets_with s s.provider

  provides : (base : ℕ) (e : Endpoint) (s : Service) → Each P (provide t base e s).sent
  unfolding provide
  provides base e s = each_done P (is_some s.provider) _ _ (holds.answer e 8 refl, tt) (holds.answer e 0 refl, meets _)

  uses : (e : Endpoint) (s : Service) → Each P (use_service t e s).sent
  unfolding use_service
  uses e s = (holds.answer e 0 refl, meets _)

  steps_in : (name protocol : ℕ) (step : Service → Done Service) → ((s : Service) → Each P (step s).sent) → (table : NameTable)
      → Each P (in_service name protocol step table).sent
  steps_in name protocol step h [] = h _
  steps_in name protocol step h (s ∷ rest) = each_done P ((s.name == name) && (s.protocol == protocol)) _ _ (h s) (steps_in name protocol step h rest)

  link_ends : (provider : Endpoint) (u : User) (o : Option ℕ) → Each P (option_map_or (λ k. both_told t kinds.Ended provider k u.at) o [])
  link_ends provider u None = tt
  link_ends provider u (Some k) = (holds.ended _ _, (holds.ended _ _, tt))

  links_end : (provider : Endpoint) (us : List User) → Each P (links_ended t provider us)
  links_end provider [] = tt
  links_end provider (u ∷ us) = each_both P (link_ended t provider u) (links_ended t provider us) (link_ends provider u u.linked) (links_end provider us)

  user_ends : (e : Endpoint) (o : Option Provider) (us : List User) → Each P (user_ended t e o us)
  user_ends e None us = tt
  user_ends e (Some p) us = links_end p.at (filter (is_user e) us)

  leaves : (e : Endpoint) (s : Service) → Each P (leave t e s).sent
  leaves e s = each_done P (is_provider e s) _ _ (links_end e s.users) (user_ends e s.provider s.users)

  withdraws : (e : Endpoint) (table : NameTable) → Each P (withdraw t e table).sent
  unfolding withdraw
  withdraws e [] = (holds.answer e 9 refl, tt)
  withdraws e (s ∷ rest) = each_done P (stands_in e s) _ _ (each_both P (leave t e s).sent _ (leaves e s) (holds.answer e 0 refl, tt)) (withdraws e rest)

  registers : (e : Endpoint) (name : ℕ) (table : NameTable) → Each P (register t e name table).sent
  unfolding register register_spp register_sap
  registers e name table =
      each_done P (is_spp t e.slot.0 e.port) _ _
      (steps_in name (protocol_of t e.slot.0 e.port) (provide t (place_count t e.slot.0 e.port) e) (λ s. provides (place_count t e.slot.0 e.port) e s) table)
      (steps_in name (protocol_of t e.slot.0 e.port) (use_service t e) (λ s. uses e s) table)

  table_of_kind : (table : NameTable) (k : SysKind) (e b : Endpoint) (payload : List ℤ) → Each P (table_duty_of t me table k e b payload).sent
  table_of_kind table kinds.Register e b (pos name ∷ []) = each_done P (is_name_request t me e b) (register t e name table) (same_table table) (registers e name table) tt
  table_of_kind table kinds.Withdraw e b [] = each_done P (is_name_request t me e b) (withdraw t e table) (same_table table) (withdraws e table) tt
  table_of_kind table _ e b _ = tt

  table_from : (table : NameTable) (k : SysKind) (o : Option Endpoint) (m : Msg) → Each P (table_duty_from t me table k o m).sent
  table_from table k None m = tt
  table_from table k (Some a) m = table_of_kind table k a m.target m.payload

  -- the duties of the kinds 12 and 13
  pub table_duty_sends : (table : NameTable) (k : SysKind) (m : Msg) → Each P (table_duty t me table k m).sent
  unfolding table_duty
  table_duty_sends table k m = table_from table k m.source m

-- ---- sends of actors

module _ (t : Tables) (me : ℕ) (P : Msg → Type 0) (c : Content) (holds : (source target : Endpoint) → P (message t me source target c)) where
  sends_to : (source : Endpoint) (o : Option Endpoint) → Each P (send_to t me source c o).messages
  sends_to source None = tt
  sends_to source (Some target) = (holds source target, tt)

  -- a send at a place
  pub send_sends : (f : Frame) (l : Links) (x : Incarnation) (p : ℕ) (k : ℤ) → Each P (send t me f l x p k c).messages
  unfolding send
  send_sends f l x p (pos k) = sends_to (endpoint x.slot.0 x.generation.0 p k) (peer t me f l (endpoint x.slot.0 x.generation.0 p k))
  send_sends f l x p (negsuc k) = tt

  sends_each : (f : Frame) (l : Links) (x : Incarnation) (p : ℕ) (ks : List ℕ) → Each P (send_each t me f l x p c ks).messages
  sends_each f l x p [] = tt
  sends_each f l x p (k ∷ ks) =
      each_both P (send t me f l x p (pos k) c).messages (send_each t me f l x p c ks).messages (send_sends f l x p (pos k)) (sends_each f l x p ks)

  -- a send at each place of a port
  pub broadcast_sends : (f : Frame) (l : Links) (x : Incarnation) (p : ℕ) → Each P (broadcast t me f l x p c).messages
  unfolding broadcast
  broadcast_sends f l x p = sends_each f l x p (broadcast_places t l x.slot.0 p)
