-- Each registration takes a name table's numbers at most one further.
use Rattle.std.proofs.Common.{◌≡◌, ℕ, suc, ◌+◌, ◌≤◌, ◌==◌, Bool, true, false, not, cond, ◌&&◌, if◌then◌else◌, List, [], ◌∷◌, ◌++◌, map, filter, length, Option, Some, None, ℤ, pos, refl, ap, arith}
use Rattle.room_kinds.specs.declared.message.Msg.{Msg}
use Rattle.room_kinds.specs.declared.numbers.Endpoint.{Endpoint}
use Rattle.room_kinds.specs.declared.system.SysKind.{SysKind}
use Rattle.room_kinds.specs.declared.system.SysKind.TheVariants as kinds
use Rattle.room_wiring.specs.declared.tables.Tables.{Tables}
use Rattle.room_wiring.specs.Places.{place_count}
use Rattle.actor_duties.specs.Words.{is_spp, protocol_of}
use Rattle.actor_duties.specs.State.{User, Provider, Service, NameTable, Done}
use Rattle.actor_duties.specs.Names.{name_reply_to, linked_users, meet_with, meet, provide, use_service, unmet, in_service, register_spp, register_sap, waiting, unprovide, unuse, is_user, leave, is_provider, stands_in, withdraw, register, is_name_request, same_table, table_duty_of, table_duty_from, table_duty}
use Rattle.law_runs.specs.bounded_growth.Growth.{is_waiting, waiting_count, HasCome, IsGrown, AreGrown}

-- the table that a step gives
abbrev now_of : Done NameTable → NameTable
now_of r = r.now

-- ---- lists of users

some_wait : (us : List User) → waiting_count us ≤ length us
some_wait [] = omega arith
some_wait (u ∷ us) = go (is_waiting u) (some_wait us)
  where
    go : (b : Bool) → waiting_count us ≤ length us → length (cond b (u ∷ filter is_waiting us) (filter is_waiting us)) ≤ suc (length us)
    go true le = omega (arith, le)
    go false le = omega (arith, le)

filter_short : (q : User → Bool) (us : List User) → length (filter q us) ≤ length us
filter_short q [] = omega arith
filter_short q (u ∷ us) = go (q u) (filter_short q us)
  where
    go : (b : Bool) → length (filter q us) ≤ length us → length (cond b (u ∷ filter q us) (filter q us)) ≤ suc (length us)
    go true le = omega (arith, le)
    go false le = omega (arith, le)

fewer_wait : (q : User → Bool) (us : List User) → waiting_count (filter q us) ≤ waiting_count us
fewer_wait q [] = omega arith
fewer_wait q (u ∷ us) = go (q u) (is_waiting u) refl (fewer_wait q us)
  where
    go : (b w : Bool) → is_waiting u ≡ w → waiting_count (filter q us) ≤ waiting_count us → waiting_count (cond b (u ∷ filter q us) (filter q us)) ≤ length (cond w (u ∷ filter is_waiting us) (filter is_waiting us))
    go true true e le = rw e (omega (arith, le))
    go true false e le = rw e le
    go false true e le = omega (arith, le)
    go false false e le = le

one_more_waits : (w : User) → w.linked ≡ None → (us : List User) → waiting_count (us ++ w ∷ []) ≡ waiting_count us + 1
one_more_waits w e [] = rw e refl
one_more_waits w e (u ∷ us) = go (is_waiting u) (one_more_waits w e us)
  where
    go : (b : Bool) → waiting_count (us ++ w ∷ []) ≡ waiting_count us + 1
        → length (cond b (u ∷ filter is_waiting (us ++ w ∷ [])) (filter is_waiting (us ++ w ∷ []))) ≡ length (cond b (u ∷ filter is_waiting us) (filter is_waiting us)) + 1
    go true more = omega (arith, more)
    go false more = more

one_more : (w : User) (us : List User) → length (us ++ w ∷ []) ≡ length us + 1
one_more w [] = refl
one_more w (u ∷ us) = let more = one_more w us in omega (arith, more)

as_many_wait : (us : List User) → length (map waiting us) ≡ length us
as_many_wait [] = refl
as_many_wait (u ∷ us) = ap suc (as_many_wait us)

-- ---- links

-- a link takes one place and one user that waits
links_count : (t : Tables) (p : Endpoint) (us : List User) (next : ℕ) → (linked_users t p us next).next + waiting_count (linked_users t p us next).users ≡ next + waiting_count us
links_count t p [] next = refl
links_count t p (u ∷ us) next = go (λ k. links_count t p us k) u.linked refl
  where
    go : ((k : ℕ) → (linked_users t p us k).next + waiting_count (linked_users t p us k).users ≡ k + waiting_count us)
        → (o : Option ℕ) → u.linked ≡ o → (linked_users t p (u ∷ us) next).next + waiting_count (linked_users t p (u ∷ us) next).users ≡ next + waiting_count (u ∷ us)
    go more None e = let rest = more (next + 1) in rw e (omega (arith, rest))
    go more (Some k) e = let rest = more next in rw e rest

links_length : (t : Tables) (p : Endpoint) (us : List User) (next : ℕ) → length (linked_users t p us next).users ≡ length us
links_length t p [] next = refl
links_length t p (u ∷ us) next = go (λ k. links_length t p us k) u.linked refl
  where
    go : ((k : ℕ) → length (linked_users t p us k).users ≡ length us) → (o : Option ℕ) → u.linked ≡ o → length (linked_users t p (u ∷ us) next).users ≡ suc (length us)
    go more None e = let rest = more (next + 1) in rw e (ap suc rest)
    go more (Some k) e = let rest = more next in rw e (ap suc rest)

-- ---- services

come_further : (o : Option Provider) (us : List User) (n k : ℕ) → n ≤ k → HasCome n o us → HasCome k o us
come_further None us n k le h = tt
come_further (Some p) us n k le h = omega (arith, le, h)

service_further : (b n : ℕ) (s : Service) → IsGrown b n s → IsGrown b (n + 1) s
service_further b n s g = let few = g.0 in (omega (arith, few), come_further s.provider s.users (b + n) (b + (n + 1)) (omega arith) g.1)

provide_grown : (t : Tables) (b n base : ℕ) (e : Endpoint) (s : Service) → base ≤ b → IsGrown b n s → IsGrown b (n + 1) (provide t base e s).now
unfolding provide meet
provide_grown t b n base e s small g = go s.provider refl (service_further b n s g).1
  where
    few : length s.users ≤ n
    few = g.0

    go : (o : Option Provider) → s.provider ≡ o → HasCome (b + (n + 1)) o s.users → IsGrown b (n + 1) (provide t base e s).now
    go None q h =
        let same = links_length t e s.users base in
        let count = links_count t e s.users base in
        let wait = some_wait s.users in
        rw q (omega (arith, few, same), omega (arith, small, few, count, wait))
    go (Some p) q h = rw q (omega (arith, few), h)

use_grown : (t : Tables) (b n : ℕ) (e : Endpoint) (s : Service) → IsGrown b n s → IsGrown b (n + 1) (use_service t e s).now
unfolding use_service meet
use_grown t b n e s g = go s.provider refl g.1
  where
    few : length s.users ≤ n
    few = g.0

    more : length (s.users ++ record { at = e; linked = None } ∷ []) ≡ length s.users + 1
    more = one_more (record { at = e; linked = None }) s.users

    go : (o : Option Provider) → s.provider ≡ o → HasCome (b + n) o s.users → IsGrown b (n + 1) (meet_with t (record s { users = s.users ++ record { at = e; linked = None } ∷ [] }) o).now
    go None q h = rw q (omega (arith, few, more), tt)
    go (Some p) q h =
        let same = links_length t p.at (s.users ++ record { at = e; linked = None } ∷ []) p.next in
        let count = links_count t p.at (s.users ++ record { at = e; linked = None } ∷ []) p.next in
        let waits = one_more_waits (record { at = e; linked = None }) refl s.users in
        (omega (arith, few, more, same), omega (arith, h, count, waits))

leave_grown : (t : Tables) (b n : ℕ) (e : Endpoint) (s : Service) → IsGrown b n s → IsGrown b n (leave t e s).now
leave_grown t b n e s g = go (is_provider e s)
  where
    few : length s.users ≤ n
    few = g.0

    unused : (o : Option Provider) → HasCome (b + n) o s.users → HasCome (b + n) o (filter (λ u. not (is_user e u)) s.users)
    unused None h = tt
    unused (Some p) h = let fewer = fewer_wait (λ u. not (is_user e u)) s.users in omega (arith, h, fewer)

    go : (c : Bool) → IsGrown b n (if c then unprovide t e s else unuse t e s).now
    go true = let same = as_many_wait s.users in (omega (arith, few, same), tt)
    go false = let short = filter_short (λ u. not (is_user e u)) s.users in (omega (arith, few, short), unused s.provider g.1)

-- ---- tables

table_further : (b n : ℕ) (table : NameTable) → AreGrown b n table → AreGrown b (n + 1) table
table_further b n [] g = tt
table_further b n (s ∷ rest) g = (service_further b n s g.0, table_further b n rest g.1)

step_grown : (b n name protocol : ℕ) (step : Service → Done Service) → ((s : Service) → IsGrown b n s → IsGrown b (n + 1) (step s).now) → (table : NameTable) → AreGrown b n table → AreGrown b (n + 1) (in_service name protocol step table).now
step_grown b n name protocol step grows [] g = (grows (unmet name protocol) (omega arith, tt), tt)
step_grown b n name protocol step grows (s ∷ rest) g = go ((s.name == name) && (s.protocol == protocol)) (step_grown b n name protocol step grows rest g.1)
  where
    go : (c : Bool) → AreGrown b (n + 1) (in_service name protocol step rest).now
        → AreGrown b (n + 1) (now_of (
        if c then record { now = (step s).now ∷ rest; sent = (step s).sent }
        else record { now = s ∷ (in_service name protocol step rest).now; sent = (in_service name protocol step rest).sent }))
    go true r = (grows s g.0, table_further b n rest g.1)
    go false r = (service_further b n s g.0, r)

pub provider_grown : (t : Tables) (b n name protocol base : ℕ) (e : Endpoint) (table : NameTable) → base ≤ b → AreGrown b n table → AreGrown b (n + 1) (register_spp t name protocol base e table).now
unfolding register_spp
provider_grown t b n name protocol base e table small g = step_grown b n name protocol (provide t base e) (λ s h. provide_grown t b n base e s small h) table g

pub user_grown : (t : Tables) (b n name protocol : ℕ) (e : Endpoint) (table : NameTable) → AreGrown b n table → AreGrown b (n + 1) (register_sap t name protocol e table).now
unfolding register_sap
user_grown t b n name protocol e table g = step_grown b n name protocol (use_service t e) (λ s h. use_grown t b n e s h) table g

pub withdrawal_grown : (t : Tables) (b n : ℕ) (e : Endpoint) (table : NameTable) → AreGrown b n table → AreGrown b n (withdraw t e table).now
unfolding withdraw
withdrawal_grown t b n e [] g = tt
withdrawal_grown t b n e (s ∷ rest) g = go (stands_in e s) (withdrawal_grown t b n e rest g.1)
  where
    go : (c : Bool) → AreGrown b n (withdraw t e rest).now
        → AreGrown b n (now_of (
        if c then record { now = (leave t e s).now ∷ rest; sent = (leave t e s).sent ++ name_reply_to t e (pos 0 ∷ []) ∷ [] }
        else record { now = s ∷ (withdraw t e rest).now; sent = (withdraw t e rest).sent }))
    go true r = (leave_grown t b n e s g.0, g.1)
    go false r = (g.0, r)

choose : (b n : ℕ) (c : Bool) (x y : Done NameTable) → AreGrown b n x.now → AreGrown b n y.now → AreGrown b n (if c then x else y).now
choose b n true x y g h = g
choose b n false x y g h = h

register_grown : (t : Tables) (b n : ℕ) (e : Endpoint) (name : ℕ) (table : NameTable) → ((s p : ℕ) → place_count t s p ≤ b) → AreGrown b n table → AreGrown b (n + 1) (register t e name table).now
unfolding register
register_grown t b n e name table small g =
    choose b (n + 1) (is_spp t e.slot.0 e.port) _ _ (provider_grown t b n name (protocol_of t e.slot.0 e.port) (place_count t e.slot.0 e.port) e table (small e.slot.0 e.port) g)
    (user_grown t b n name (protocol_of t e.slot.0 e.port) e table g)

module _ (t : Tables) (me b n : ℕ) (table : NameTable) (small : (s p : ℕ) → place_count t s p ≤ b) (g : AreGrown b n table) where
  duty_of_grown : (kind : SysKind) (e x : Endpoint) (payload : List ℤ) → AreGrown b (n + 1) (table_duty_of t me table kind e x payload).now
  duty_of_grown kinds.Register e x (pos name ∷ []) = choose b (n + 1) (is_name_request t me e x) (register t e name table) (same_table table) (register_grown t b n e name table small g) (table_further b n table g)
  duty_of_grown kinds.Withdraw e x [] = choose b (n + 1) (is_name_request t me e x) (withdraw t e table) (same_table table) (table_further b n (withdraw t e table).now (withdrawal_grown t b n e table g)) (table_further b n table g)
  duty_of_grown _ e x _ = table_further b n table g

  duty_from_grown : (kind : SysKind) (o : Option Endpoint) (m : Msg) → AreGrown b (n + 1) (table_duty_from t me table kind o m).now
  duty_from_grown kind None m = table_further b n table g
  duty_from_grown kind (Some e) m = duty_of_grown kind e m.target m.payload

-- each message takes the table at most one further
pub duty_grown : (t : Tables) (me b n : ℕ) (table : NameTable) (kind : SysKind) (m : Msg) → ((s p : ℕ) → place_count t s p ≤ b) → AreGrown b n table → AreGrown b (n + 1) (table_duty t me table kind m).now
unfolding table_duty
duty_grown t me b n table kind m small g = duty_from_grown t me b n table small g kind m.source m
