-- The name table stays in order.
use Rattle.std.proofs.Common.{◌≡◌, ℕ, ◌+◌, ◌≤◌, ◌==◌, Bool, true, false, not, cond, ◌&&◌, if◌then◌else◌, List, [], ◌∷◌, ◌++◌, map, filter, Option, Some, None, ℤ, pos, refl, arith}
use Rattle.room_kinds.specs.declared.message.Msg.{Msg}
use Rattle.room_kinds.specs.declared.numbers.Endpoint.{Endpoint}
use Rattle.room_kinds.specs.declared.system.SysKind.{SysKind}
use Rattle.room_kinds.specs.declared.system.SysKind.TheVariants as kinds
use Rattle.room_wiring.specs.declared.tables.Tables.{Tables}
use Rattle.room_wiring.specs.Places.{place_count}
use Rattle.actor_duties.specs.Words.{is_spp, protocol_of}
use Rattle.actor_duties.specs.State.{User, Provider, Service, NameTable, Done}
use Rattle.actor_duties.specs.Names.{name_reply_to, linked_users, meet_with, meet, provide, use_service, unmet, in_service, register_spp, register_sap, waiting, unprovide, unuse, is_user, leave, is_provider, stands_in, withdraw, register, is_name_request, same_table, table_duty_of, table_duty_from, table_duty}
use Rattle.actor_duties.specs.Places.{InPlaces, AllWait, IsOrderlyWith, IsOrderly, AreOrderly, TableStaysOrderly}

-- the table that a step gives
abbrev pub now_of : Done NameTable → NameTable
now_of r = r.now

-- users that wait are linked from the next place on
link_waiting : (t : Tables) (p : Endpoint) (us : List User) (n : ℕ) → AllWait us → InPlaces n (linked_users t p us n).next (linked_users t p us n).users
link_waiting t p [] n h = omega arith
link_waiting t p (u ∷ us) n h = rw h.0 (n, refl, omega arith, link_waiting t p us (n + 1) h.1)

-- a user that comes is linked behind all others
link_more : (t : Tables) (p : Endpoint) (w : User) → w.linked ≡ None → (us : List User) (from next : ℕ) → InPlaces from next us
    → InPlaces from (linked_users t p (us ++ w ∷ []) next).next (linked_users t p (us ++ w ∷ []) next).users
link_more t p w h [] from next k = rw h (next, refl, k, omega arith)
link_more t p w h (u ∷ us) from next k = rw k.1 (k.0, refl, k.2, link_more t p w h us (k.0 + 1) next k.3)

wait_more : (w : User) → w.linked ≡ None → (us : List User) → AllWait us → AllWait (us ++ w ∷ [])
wait_more w h [] k = (h, tt)
wait_more w h (u ∷ us) k = (k.0, wait_more w h us k.1)

places_earlier : (from earlier next : ℕ) → earlier ≤ from → (us : List User) → InPlaces from next us → InPlaces earlier next us
places_earlier from earlier next l [] h = omega arith
places_earlier from earlier next l (u ∷ us) h = let b = h.2 in (h.0, h.1, omega arith, h.3)

places_filter : (q : User → Bool) (from next : ℕ) (us : List User) → InPlaces from next us → InPlaces from next (filter q us)
places_filter q from next [] h = h
places_filter q from next (u ∷ us) h = go (q u) (places_filter q (h.0 + 1) next us h.3)
  where
    go : (b : Bool) → InPlaces (h.0 + 1) next (filter q us) → InPlaces from next (cond b (u ∷ filter q us) (filter q us))
    go true k = (h.0, h.1, h.2, k)
    go false k = let b = h.2 in places_earlier (h.0 + 1) from next (omega arith) (filter q us) k

wait_filter : (q : User → Bool) (us : List User) → AllWait us → AllWait (filter q us)
wait_filter q [] h = tt
wait_filter q (u ∷ us) h = go (q u) (wait_filter q us h.1)
  where
    go : (b : Bool) → AllWait (filter q us) → AllWait (cond b (u ∷ filter q us) (filter q us))
    go true k = (h.0, k)
    go false k = k

wait_all : (us : List User) → AllWait (map waiting us)
wait_all [] = tt
wait_all (u ∷ us) = (refl, wait_all us)

-- each step of a service keeps it in order
provide_orderly : (t : Tables) (e : Endpoint) (s : Service) → IsOrderly t s → IsOrderly t (provide t (place_count t e.slot.0 e.port) e s).now
unfolding provide meet
provide_orderly t e s h = go s.provider refl h
  where
    go : (o : Option Provider) → s.provider ≡ o → IsOrderlyWith t o s.users → IsOrderly t (provide t (place_count t e.slot.0 e.port) e s).now
    go None q k = rw q (link_waiting t e s.users (place_count t e.slot.0 e.port) k)
    go (Some p) q k = rw q k

use_orderly : (t : Tables) (e : Endpoint) (s : Service) → IsOrderly t s → IsOrderly t (use_service t e s).now
unfolding use_service meet
use_orderly t e s h = go s.provider refl h
  where
    go : (o : Option Provider) → s.provider ≡ o → IsOrderlyWith t o s.users
        → IsOrderly t (meet_with t (record s { users = s.users ++ record { at = e; linked = None } ∷ [] }) o).now
    go None q k = rw q (wait_more _ refl s.users k)
    go (Some p) q k = link_more t p.at _ refl s.users _ p.next k

leave_orderly : (t : Tables) (e : Endpoint) (s : Service) → IsOrderly t s → IsOrderly t (leave t e s).now
leave_orderly t e s h = go (is_provider e s) (unused s.provider h)
  where
    unused : (o : Option Provider) → IsOrderlyWith t o s.users → IsOrderlyWith t o (filter (λ u. not (is_user e u)) s.users)
    unused None k = wait_filter (λ u. not (is_user e u)) s.users k
    unused (Some p) k = places_filter (λ u. not (is_user e u)) (place_count t p.at.slot.0 p.at.port) p.next s.users k

    go : (b : Bool) → IsOrderlyWith t s.provider (filter (λ u. not (is_user e u)) s.users) → IsOrderly t (if b then unprovide t e s else unuse t e s).now
    go true k = wait_all s.users
    go false k = k

service_orderly : (t : Tables) (name protocol : ℕ) (step : Service → Done Service) → ((s : Service) → IsOrderly t s → IsOrderly t (step s).now)
    → (table : NameTable) → AreOrderly t table → AreOrderly t (in_service name protocol step table).now
service_orderly t name protocol step h [] k = (h (unmet name protocol) tt, tt)
service_orderly t name protocol step h (s ∷ rest) k = go ((s.name == name) && (s.protocol == protocol)) (service_orderly t name protocol step h rest k.1)
  where
    go : (b : Bool) → AreOrderly t (in_service name protocol step rest).now
        → AreOrderly t (now_of (
        if b then record { now = (step s).now ∷ rest; sent = (step s).sent }
        else record { now = s ∷ (in_service name protocol step rest).now; sent = (in_service name protocol step rest).sent }))
    go true r = (h s k.0, k.1)
    go false r = (k.0, r)

withdraw_orderly : (t : Tables) (e : Endpoint) (table : NameTable) → AreOrderly t table → AreOrderly t (withdraw t e table).now
unfolding withdraw
withdraw_orderly t e [] k = tt
withdraw_orderly t e (s ∷ rest) k = go (stands_in e s) (withdraw_orderly t e rest k.1)
  where
    go : (b : Bool) → AreOrderly t (withdraw t e rest).now
        → AreOrderly t (now_of (
        if b then record { now = (leave t e s).now ∷ rest; sent = (leave t e s).sent ++ name_reply_to t e (pos 0 ∷ []) ∷ [] }
        else record { now = s ∷ (withdraw t e rest).now; sent = (withdraw t e rest).sent }))
    go true r = (leave_orderly t e s k.0, k.1)
    go false r = (k.0, r)

register_orderly : (t : Tables) (e : Endpoint) (name : ℕ) (table : NameTable) → AreOrderly t table → AreOrderly t (register t e name table).now
unfolding register register_spp register_sap
register_orderly t e name table k = go (is_spp t e.slot.0 e.port)
  where
    provided : AreOrderly t (in_service name (protocol_of t e.slot.0 e.port) (provide t (place_count t e.slot.0 e.port) e) table).now
    provided = service_orderly t name (protocol_of t e.slot.0 e.port) (provide t (place_count t e.slot.0 e.port) e) (λ s h. provide_orderly t e s h) table k

    used : AreOrderly t (in_service name (protocol_of t e.slot.0 e.port) (use_service t e) table).now
    used = service_orderly t name (protocol_of t e.slot.0 e.port) (use_service t e) (λ s h. use_orderly t e s h) table k

    go : (b : Bool) → AreOrderly t (now_of (
        if b then in_service name (protocol_of t e.slot.0 e.port) (provide t (place_count t e.slot.0 e.port) e) table
        else in_service name (protocol_of t e.slot.0 e.port) (use_service t e) table))
    go true = provided
    go false = used

choose : (t : Tables) (b : Bool) (x y : Done NameTable) → AreOrderly t x.now → AreOrderly t y.now → AreOrderly t (if b then x else y).now
choose t true x y h k = h
choose t false x y h k = k

duty_of_orderly : (t : Tables) (me : ℕ) (table : NameTable) (kind : SysKind) (e b : Endpoint) (payload : List ℤ) → AreOrderly t table → AreOrderly t (table_duty_of t me table kind e b payload).now
duty_of_orderly t me table kinds.Register e b (pos name ∷ []) k = choose t (is_name_request t me e b) (register t e name table) (same_table table) (register_orderly t e name table k) k
duty_of_orderly t me table kinds.Withdraw e b [] k = choose t (is_name_request t me e b) (withdraw t e table) (same_table table) (withdraw_orderly t e table k) k
duty_of_orderly t me table _ e b _ k = k

duty_from_orderly : (t : Tables) (me : ℕ) (table : NameTable) (kind : SysKind) (o : Option Endpoint) (m : Msg) → AreOrderly t table → AreOrderly t (table_duty_from t me table kind o m).now
duty_from_orderly t me table kind None m k = k
duty_from_orderly t me table kind (Some e) m k = duty_of_orderly t me table kind e m.target m.payload k

pub stays_orderly : TableStaysOrderly
unfolding table_duty
stays_orderly t me table kind m k = duty_from_orderly t me table kind m.source m k
