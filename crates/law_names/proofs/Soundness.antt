-- How often endpoints stand in the name table, and as what, while it does its duties.
use Rattle.std.proofs.Common.{◌≡◌, ℕ, ◌+◌, ◌≤◌, ◌==◌, ◌&&◌, ◌||◌, Bool, true, false, not, cond, if◌then◌else◌, is_some, List, [], ◌∷◌, ◌++◌, map, filter, Option, Some, None, ℤ, pos, refl, ap, subst, eqb-true, arith}
use Rattle.room_kinds.specs.declared.message.Msg.{Msg}
use Rattle.room_kinds.specs.declared.numbers.Endpoint.{Endpoint}
use Rattle.room_kinds.specs.declared.system.SysKind.{SysKind}
use Rattle.room_kinds.specs.declared.system.SysKind.TheVariants as kinds
use Rattle.room_wiring.specs.declared.tables.Tables.{Tables}
use Rattle.room_wiring.specs.Places.{place_count}
use Rattle.actor_duties.specs.Words.{is_endpoint, is_sap, is_spp, protocol_of}
use Rattle.actor_duties.specs.State.{User, Provider, Service, NameTable, Done}
use Rattle.actor_duties.specs.Names.{name_reply_to, linked_users, linked_first, meet_with, meet, provide, use_service, unmet, in_service, register_spp, register_sap, waiting, unprovide, unuse, is_user, leave, is_provider, stands_in, withdraw, register, is_name_request, same_table, table_duty_of, table_duty_from, table_duty}
use Rattle.actor_duties.proofs.Orderly.{stays_orderly}
use Rattle.law_names.specs.Links.{IsUserPoint, IsProviderPoint, AreUserPoints, ArePoints, registers_by, TableStaysSound}
use Rattle.law_names.specs.Registrations.{uses, stands_as, stands}
use Rattle.law_names.proofs.Standing.{same_endpoint}

-- the table that a step gives
abbrev pub now_of : {C : Type 0} → Done C → C
now_of r = r.now

module _ (t : Tables) (e : Endpoint) where
  linked_times : (p : Endpoint) (us : List User) (n : ℕ) → uses e (linked_users t p us n).users ≡ uses e us
  linked_times p [] n = refl
  linked_times p (u ∷ us) n = go u.linked (λ k. linked_times p us k)
    where
      go : (o : Option ℕ) → ((k : ℕ) → uses e (linked_users t p us k).users ≡ uses e us)
          → uses e (linked_first t p n u o (linked_users t p us)).users ≡ uses e (u ∷ us)
      go None h = ap (λ (k : ℕ). (if is_user e u then 1 else 0) + k) (h (n + 1))
      go (Some k) h = ap (λ (k : ℕ). (if is_user e u then 1 else 0) + k) (h n)

  met_times : (s : Service) (o : Option Provider) → s.provider ≡ o → stands_as e (meet_with t s o).now ≡ stands_as e s
  met_times s None q = refl
  met_times s (Some p) q = rw q (ap (λ (k : ℕ). (if is_endpoint p.at e then 1 else 0) + k) (linked_times p.at s.users p.next))

  more_times : (us : List User) (u : User) → uses e (us ++ u ∷ []) ≡ uses e us + (if is_user e u then 1 else 0)
  more_times [] u = omega arith
  more_times (x ∷ us) u = let h = more_times us u in omega (arith, h)

  provide_times : (base : ℕ) (x : Endpoint) (s : Service) → stands_as e (provide t base x s).now ≤ stands_as e s + (if is_endpoint x e then 1 else 0)
  unfolding provide meet
  provide_times base x s = go (is_some s.provider)
    where
      entered : Service
      entered = record s { provider = Some (record { at = x; next = base }) }

      go : (b : Bool) → stands_as e (now_of (
          if b then record { now = s; sent = name_reply_to t x (pos 8 ∷ []) ∷ [] }
          else record { now = (meet_with t entered entered.provider).now; sent = name_reply_to t x (pos 0 ∷ []) ∷ (meet_with t entered entered.provider).sent }))
          ≤ stands_as e s + (if is_endpoint x e then 1 else 0)
      go true = omega arith
      go false = let h = met_times entered entered.provider refl in omega (arith, h)

  use_times : (x : Endpoint) (s : Service) → stands_as e (use_service t x s).now ≤ stands_as e s + (if is_endpoint x e then 1 else 0)
  unfolding use_service meet
  use_times x s =
      let entered : Service = record s { users = s.users ++ record { at = x; linked = None } ∷ [] } in
      let h : stands_as e (meet_with t entered entered.provider).now ≡ stands_as e entered = met_times entered entered.provider refl in
      let k = more_times s.users (record { at = x; linked = None }) in omega (arith, h, k)

  service_times : (name protocol n : ℕ) (step : Service → Done Service) → ((s : Service) → stands_as e (step s).now ≤ stands_as e s + n) → (table : NameTable)
      → stands e (in_service name protocol step table).now ≤ stands e table + n
  service_times name protocol n step h [] = let k = h (unmet name protocol) in omega (arith, k)
  service_times name protocol n step h (s ∷ rest) = go ((s.name == name) && (s.protocol == protocol)) (service_times name protocol n step h rest)
    where
      go : (b : Bool) → stands e (in_service name protocol step rest).now ≤ stands e rest + n
          → stands e (now_of (
          if b then record { now = (step s).now ∷ rest; sent = (step s).sent }
          else record { now = s ∷ (in_service name protocol step rest).now; sent = (in_service name protocol step rest).sent })) ≤ stands e (s ∷ rest) + n
      go true k = let l = h s in omega (arith, l)
      go false k = omega (arith, k)

  waiting_times : (us : List User) → uses e (map waiting us) ≡ uses e us
  waiting_times [] = refl
  waiting_times (u ∷ us) = ap (λ (k : ℕ). (if is_user e u then 1 else 0) + k) (waiting_times us)

  filter_times : (q : User → Bool) (us : List User) → uses e (filter q us) ≤ uses e us
  filter_times q [] = omega arith
  filter_times q (u ∷ us) = go (q u) (filter_times q us)
    where
      go : (b : Bool) → uses e (filter q us) ≤ uses e us → uses e (cond b (u ∷ filter q us) (filter q us)) ≤ (if is_user e u then 1 else 0) + uses e us
      go true h = omega (arith, h)
      go false h = omega (arith, h)

  leave_times : (x : Endpoint) (s : Service) → stands_as e (leave t x s).now ≤ stands_as e s
  leave_times x s = go (is_provider x s)
    where
      go : (b : Bool) → stands_as e (now_of (if b then unprovide t x s else unuse t x s)) ≤ stands_as e s
      go true = let h = waiting_times s.users in omega (arith, h)
      go false = let h = filter_times (λ u. not (is_user x u)) s.users in omega (arith, h)

  withdraw_times : (x : Endpoint) (table : NameTable) → stands e (withdraw t x table).now ≤ stands e table
  unfolding withdraw
  withdraw_times x [] = omega arith
  withdraw_times x (s ∷ rest) = go (stands_in x s) (withdraw_times x rest)
    where
      go : (b : Bool) → stands e (withdraw t x rest).now ≤ stands e rest
          → stands e (now_of (
          if b then record { now = (leave t x s).now ∷ rest; sent = (leave t x s).sent ++ name_reply_to t x (pos 0 ∷ []) ∷ [] }
          else record { now = s ∷ (withdraw t x rest).now; sent = (withdraw t x rest).sent })) ≤ stands e (s ∷ rest)
      go true k = let l = leave_times x s in omega (arith, l)
      go false k = omega (arith, k)

  register_times : (x : Endpoint) (name : ℕ) (table : NameTable) → stands e (register t x name table).now ≤ stands e table + (if is_endpoint x e then 1 else 0)
  unfolding register register_spp register_sap
  register_times x name table = go (is_spp t x.slot.0 x.port)
    where
      go : (b : Bool) → stands e (now_of (
          if b then in_service name (protocol_of t x.slot.0 x.port) (provide t (place_count t x.slot.0 x.port) x) table
          else in_service name (protocol_of t x.slot.0 x.port) (use_service t x) table)) ≤ stands e table + (if is_endpoint x e then 1 else 0)
      go true = service_times name (protocol_of t x.slot.0 x.port) (if is_endpoint x e then 1 else 0) (provide t (place_count t x.slot.0 x.port) x) (λ s. provide_times (place_count t x.slot.0 x.port) x s) table
      go false = service_times name (protocol_of t x.slot.0 x.port) (if is_endpoint x e then 1 else 0) (use_service t x) (λ s. use_times x s) table

module _ (t : Tables) where
  linked_points : (p : Endpoint) (us : List User) (n : ℕ) → AreUserPoints t us → AreUserPoints t (linked_users t p us n).users
  linked_points p [] n h = tt
  linked_points p (u ∷ us) n h = go u.linked (λ k. linked_points p us k h.1)
    where
      go : (o : Option ℕ) → ((k : ℕ) → AreUserPoints t (linked_users t p us k).users) → AreUserPoints t (linked_first t p n u o (linked_users t p us)).users
      go None k = (h.0, k (n + 1))
      go (Some i) k = (h.0, k n)

  -- a service of points
  abbrev ArePointsIn : Service → Type 0
  ArePointsIn s = IsProviderPoint t s.provider × AreUserPoints t s.users

  met_points : (s : Service) (o : Option Provider) → s.provider ≡ o → ArePointsIn s → ArePointsIn (meet_with t s o).now
  met_points s None q h = h
  met_points s (Some p) q h = (subst (IsProviderPoint t) q h.0, linked_points p.at s.users p.next h.1)

  more_points : (us : List User) (u : User) → AreUserPoints t us → IsUserPoint t u.at → AreUserPoints t (us ++ u ∷ [])
  more_points [] u h k = (k, tt)
  more_points (x ∷ us) u h k = (h.0, more_points us u h.1 k)

  provide_points : (base : ℕ) (x : Endpoint) → is_spp t x.slot.0 x.port ≡ true → x.place ≡ 0 → (s : Service) → ArePointsIn s → ArePointsIn (provide t base x s).now
  unfolding provide meet
  provide_points base x spp zero s h = go (is_some s.provider)
    where
      entered : Service
      entered = record s { provider = Some (record { at = x; next = base }) }

      go : (b : Bool) → ArePointsIn (now_of (
          if b then record { now = s; sent = name_reply_to t x (pos 8 ∷ []) ∷ [] }
          else record { now = (meet_with t entered entered.provider).now; sent = name_reply_to t x (pos 0 ∷ []) ∷ (meet_with t entered entered.provider).sent }))
      go true = h
      go false = met_points entered entered.provider refl ((spp, zero), h.1)

  use_points : (x : Endpoint) → IsUserPoint t x → (s : Service) → ArePointsIn s → ArePointsIn (use_service t x s).now
  unfolding use_service meet
  use_points x k s h =
      let entered : Service = record s { users = s.users ++ record { at = x; linked = None } ∷ [] } in
      met_points entered entered.provider refl (h.0, more_points s.users (record { at = x; linked = None }) h.1 k)

  service_points : (name protocol : ℕ) (step : Service → Done Service) → ((s : Service) → ArePointsIn s → ArePointsIn (step s).now) → (table : NameTable)
      → ArePoints t table → ArePoints t (in_service name protocol step table).now
  service_points name protocol step h [] k = (h (unmet name protocol) (tt, tt), tt)
  service_points name protocol step h (s ∷ rest) k = go ((s.name == name) && (s.protocol == protocol)) (service_points name protocol step h rest k.1)
    where
      go : (b : Bool) → ArePoints t (in_service name protocol step rest).now
          → ArePoints t (now_of (
          if b then record { now = (step s).now ∷ rest; sent = (step s).sent }
          else record { now = s ∷ (in_service name protocol step rest).now; sent = (in_service name protocol step rest).sent }))
      go true l = (h s k.0, k.1)
      go false l = (k.0, l)

  waiting_points : (us : List User) → AreUserPoints t us → AreUserPoints t (map waiting us)
  waiting_points [] h = tt
  waiting_points (u ∷ us) h = (h.0, waiting_points us h.1)

  filter_points : (q : User → Bool) (us : List User) → AreUserPoints t us → AreUserPoints t (filter q us)
  filter_points q [] h = tt
  filter_points q (u ∷ us) h = go (q u) (filter_points q us h.1)
    where
      go : (b : Bool) → AreUserPoints t (filter q us) → AreUserPoints t (cond b (u ∷ filter q us) (filter q us))
      go true k = (h.0, k)
      go false k = k

  leave_points : (x : Endpoint) (s : Service) → ArePointsIn s → ArePointsIn (leave t x s).now
  leave_points x s h = go (is_provider x s)
    where
      go : (b : Bool) → ArePointsIn (now_of (if b then unprovide t x s else unuse t x s))
      go true = (tt, waiting_points s.users h.1)
      go false = (h.0, filter_points (λ u. not (is_user x u)) s.users h.1)

  withdraw_points : (x : Endpoint) (table : NameTable) → ArePoints t table → ArePoints t (withdraw t x table).now
  unfolding withdraw
  withdraw_points x [] h = tt
  withdraw_points x (s ∷ rest) h = go (stands_in x s) (withdraw_points x rest h.1)
    where
      go : (b : Bool) → ArePoints t (withdraw t x rest).now
          → ArePoints t (now_of (
          if b then record { now = (leave t x s).now ∷ rest; sent = (leave t x s).sent ++ name_reply_to t x (pos 0 ∷ []) ∷ [] }
          else record { now = s ∷ (withdraw t x rest).now; sent = (withdraw t x rest).sent }))
      go true k = (leave_points x s h.0, h.1)
      go false k = (h.0, k)

  register_points : (x : Endpoint) (name : ℕ) (table : NameTable) → x.place ≡ 0 → (is_sap t x.slot.0 x.port || is_spp t x.slot.0 x.port) ≡ true
      → ArePoints t table → ArePoints t (register t x name table).now
  unfolding register register_spp register_sap
  register_points x name table zero point h = go (is_spp t x.slot.0 x.port) refl
    where
      sap : (a b : Bool) → (a || b) ≡ true → b ≡ false → a ≡ true
      sap true b p q = refl
      sap false true p q = absurd cc
      sap false false p q = absurd cc

      go : (b : Bool) → is_spp t x.slot.0 x.port ≡ b → ArePoints t (now_of (
          if b then in_service name (protocol_of t x.slot.0 x.port) (provide t (place_count t x.slot.0 x.port) x) table
          else in_service name (protocol_of t x.slot.0 x.port) (use_service t x) table))
      go true e =
          service_points name (protocol_of t x.slot.0 x.port) (provide t (place_count t x.slot.0 x.port) x)
          (λ s k. provide_points (place_count t x.slot.0 x.port) x e zero s k) table h
      go false e =
          service_points name (protocol_of t x.slot.0 x.port) (use_service t x)
          (λ s k. use_points x (sap (is_sap t x.slot.0 x.port) (is_spp t x.slot.0 x.port) point e, zero) s k) table h

  -- what a table is kept as
  abbrev Kept : Done NameTable → Type 0
  Kept r = ((e : Endpoint) → stands e r.now ≤ 1) × ArePoints t r.now

  request_parts : (a b c d e : Bool) → (a && b && c && (d || e)) ≡ true → (b ≡ true) × (c ≡ true) × ((d || e) ≡ true)
  request_parts true true true d e h = (refl, refl, h)
  request_parts false b c d e h = absurd cc
  request_parts true false c d e h = absurd cc
  request_parts true true false d e h = absurd cc

  register_once : (x : Endpoint) (name : ℕ) (table : NameTable) → stands x table ≡ 0 → ((e : Endpoint) → stands e table ≤ 1)
      → (e : Endpoint) → stands e (register t x name table).now ≤ 1
  register_once x name table new once e = go (is_endpoint x e) refl (register_times t e x name table)
    where
      go : (b : Bool) → is_endpoint x e ≡ b → stands e (register t x name table).now ≤ stands e table + (if b then 1 else 0)
          → stands e (register t x name table).now ≤ 1
      go true q h =
          let none : stands e table ≡ 0 = subst (λ (z : Endpoint). stands z table ≡ 0) (same_endpoint x e q) new in omega (arith, h, none)
      go false q h = let k = once e in omega (arith, h, k)

  if_kept : (b : Bool) (x y : Done NameTable) → (b ≡ true → Kept x) → Kept y → Kept (if b then x else y)
  if_kept true x y h k = h refl
  if_kept false x y h k = k

  duty_of_kept : (me : ℕ) (table : NameTable) (kind : SysKind) (e b : Endpoint) (payload : List ℤ) → ((x : Endpoint) → registers_by (Some kind) (Some e) b payload ≡ Some x → stands x table ≡ 0)
      → Kept (same_table table) → Kept (table_duty_of t me table kind e b payload)
  duty_of_kept me table kinds.Register e b (pos name ∷ []) new k =
      if_kept (is_name_request t me e b) (register t e name table) (same_table table)
      (λ h.
      let q = request_parts (me == 0) (is_endpoint e b) (e.place == 0) (is_sap t e.slot.0 e.port) (is_spp t e.slot.0 e.port) h in
      (register_once e name table (new e (rw q.0 refl)) k.0, register_points e name table (eqb-true e.place 0 q.1) q.2 k.1)) k
  duty_of_kept me table kinds.Withdraw e b [] new k =
      if_kept (is_name_request t me e b) (withdraw t e table) (same_table table)
      (λ h. ((λ x. let l = withdraw_times t x e table in let m = k.0 x in omega (arith, l, m)), withdraw_points e table k.1)) k
  duty_of_kept me table _ e b _ new k = k

  duty_from_kept : (me : ℕ) (table : NameTable) (kind : SysKind) (o : Option Endpoint) (m : Msg) → ((x : Endpoint) → registers_by (Some kind) o m.target m.payload ≡ Some x → stands x table ≡ 0) → Kept (same_table table) → Kept (table_duty_from t me table kind o m)
  duty_from_kept me table kind None m new k = k
  duty_from_kept me table kind (Some e) m new k = duty_of_kept me table kind e m.target m.payload new k

pub stays_sound : TableStaysSound
unfolding table_duty
stays_sound t me table kind m new h =
    let k = duty_from_kept t me table kind m.source m new (h.once, h.points) in
    record { orderly = stays_orderly t me table kind m h.orderly; once = k.0; points = k.1 }
