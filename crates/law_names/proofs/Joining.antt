-- Which joins the duties of the name table add and end, and what they tell of them.
use Rattle.std.proofs.Common.{◌≡◌, ℕ, ◌+◌, ◌==◌, ◌&&◌, Bool, true, false, not, cond, if◌then◌else◌, List, [], ◌∷◌, ◌++◌, filter, Option, Some, None, ℤ, pos, refl, sym, ap, ◌∙◌, subst, append-nil}
use Rattle.std.specs.Option.{option_map_or}
use Rattle.room_kinds.specs.declared.message.Msg.{Msg}
use Rattle.room_kinds.specs.declared.numbers.Endpoint.{Endpoint}
use Rattle.room_kinds.specs.declared.system.SysKind.{SysKind}
use Rattle.room_kinds.specs.declared.system.SysKind.TheVariants as kinds
use Rattle.room_wiring.specs.declared.tables.Tables.{Tables}
use Rattle.room_wiring.specs.Places.{place_count}
use Rattle.actor_duties.specs.Words.{is_endpoint, is_spp, protocol_of}
use Rattle.actor_duties.specs.State.{User, Provider, Service, NameTable, Done}
use Rattle.actor_duties.specs.Messages.{to_owner}
use Rattle.actor_duties.specs.Names.{at_place, both_told, name_reply_to, linked_users, meet_with, meet, provide, use_service, unmet, in_service, register_spp, register_sap, links_ended, unprovide, is_user, leave, stands_in, withdraw, register, is_name_request, same_table, table_duty_of, table_duty_from, table_duty}
use Rattle.actor_duties.specs.Places.{AllWait, IsOrderlyWith, IsOrderly, AreOrderly}
use Rattle.law_names.specs.Links.{Join, joins_with, joins_of, joins}
use Rattle.law_names.proofs.Standing.{same_endpoint}

-- a list is made of two others, whose elements keep their order
pub data Mixed : List Join → List Join → List Join → Type 0 where
  mix_none : Mixed [] [] []
  mix_left : (j : Join) {n r w : List Join} → Mixed n r w → Mixed (j ∷ n) r (j ∷ w)
  mix_right : (j : Join) {n r w : List Join} → Mixed n r w → Mixed n (j ∷ r) (j ∷ w)

pub all_right : (r : List Join) → Mixed [] r r
all_right [] = mix_none
all_right (j ∷ r) = mix_right j (all_right r)

pub all_left : (n : List Join) → Mixed n [] n
all_left [] = mix_none
all_left (j ∷ n) = mix_left j (all_left n)

pub mixed_append : {n r w n2 r2 w2 : List Join} → Mixed n r w → Mixed n2 r2 w2 → Mixed (n ++ n2) (r ++ r2) (w ++ w2)
mixed_append mix_none k = k
mixed_append (mix_left j h) k = mix_left j (mixed_append h k)
mixed_append (mix_right j h) k = mix_right j (mixed_append h k)

-- what is told of a join, to both of its sides
abbrev pub join_told : Tables → SysKind → Join → List Msg
join_told t kind j = to_owner t 0 kind j.user j.place [] ∷ to_owner t 0 kind j.place j.user [] ∷ []

-- the same of joins, one after another
abbrev pub all_told : Tables → SysKind → List Join → List Msg
all_told t kind [] = []
all_told t kind (j ∷ js) = join_told t kind j ++ all_told t kind js

-- a duty that adds joins and tells of them, or ends joins and tells of them
pub data TableStep (t : Tables) (before : List Join) (sent : List Msg) (after : List Join) : Type 0 where
  idle : after ≡ before → sent ≡ [] → TableStep t before sent after
  binds : (e : Endpoint) (code : List ℤ) (new : List Join) → Mixed new before after → sent ≡ name_reply_to t e code ∷ all_told t kinds.Bound new → TableStep t before sent after
  ends : (e : Endpoint) (code : List ℤ) (old : List Join) → Mixed old after before → sent ≡ all_told t kinds.Ended old ++ name_reply_to t e code ∷ [] → TableStep t before sent after

module _ (t : Tables) where
  -- users are linked
  Linked : Endpoint → List User → ℕ → Type 0
  Linked p us n = (new : List Join) × Mixed new (joins_with p us) (joins_with p (linked_users t p us n).users) × ((linked_users t p us n).sent ≡ all_told t kinds.Bound new)

  linked_mixed : (p : Endpoint) (us : List User) (n : ℕ) → Linked p us n
  unfolding Linked
  linked_mixed p [] n = ([], mix_none, refl)
  linked_mixed p (u ∷ us) n = go u.linked refl (λ k. linked_mixed p us k)
    where
      go : (o : Option ℕ) → u.linked ≡ o → ((k : ℕ) → Linked p us k) → Linked p (u ∷ us) n
      go None q h =
          let r = h (n + 1) in
          let j : Join = record { place = at_place p n; user = u.at } in rw q (j ∷ r.0, mix_left j r.1, ap (λ (z : List Msg). both_told t kinds.Bound p n u.at ++ z) r.2)
      go (Some k) q h =
          let r = h n in
          let j : Join = record { place = at_place p k; user = u.at } in rw q (r.0, mix_right j r.1, r.2)

  none_waiting : (p : Endpoint) (us : List User) → AllWait us → joins_with p us ≡ []
  none_waiting p [] h = refl
  none_waiting p (u ∷ us) h = rw h.0 (none_waiting p us h.1)

  joins_more : (p : Endpoint) (us : List User) (w : User) → w.linked ≡ None → joins_with p (us ++ w ∷ []) ≡ joins_with p us
  joins_more p [] w h = rw h refl
  joins_more p (u ∷ us) w h = ap (λ (z : List Join). option_map_or (λ k. record { place = at_place p k; user = u.at } ∷ []) u.linked [] ++ z) (joins_more p us w h)

  -- a service that binds more
  record Binds (before : List Join) (r : Done Service) : Type 0 where
    pub e : Endpoint
    pub code : List ℤ
    pub new : List Join
    pub mixed : Mixed new before (joins_of r.now.provider r.now.users)
    pub sent : r.sent ≡ name_reply_to t e code ∷ all_told t kinds.Bound new

  provide_binds : (base : ℕ) (x : Endpoint) (s : Service) → IsOrderly t s → Binds (joins_of s.provider s.users) (provide t base x s)
  unfolding provide meet Linked
  provide_binds base x s h = go s.provider refl h
    where
      go : (o : Option Provider) → s.provider ≡ o → IsOrderlyWith t o s.users → Binds (joins_of s.provider s.users) (provide t base x s)
      go None q k =
          let r = linked_mixed x s.users base in
          let m : Mixed r.0 [] (joins_with x (linked_users t x s.users base).users) =
          subst (λ (z : List Join). Mixed r.0 z (joins_with x (linked_users t x s.users base).users)) (none_waiting x s.users k) r.1 in
          rw q (record { e = x; code = pos 0 ∷ []; new = r.0; mixed = m; sent = ap (λ (z : List Msg). name_reply_to t x (pos 0 ∷ []) ∷ z) r.2 })
      go (Some p) q k = rw q (record { e = x; code = pos 8 ∷ []; new = []; mixed = all_right (joins_with p.at s.users); sent = refl })

  use_binds : (x : Endpoint) (s : Service) → Binds (joins_of s.provider s.users) (use_service t x s)
  unfolding use_service meet Linked
  use_binds x s = go s.provider refl
    where
      w : User
      w = record { at = x; linked = None }

      entered : Service
      entered = record s { users = s.users ++ w ∷ [] }

      go : (o : Option Provider) → s.provider ≡ o
          → Binds (joins_of o s.users) (record { now = (meet_with t entered o).now; sent = name_reply_to t x (pos 0 ∷ []) ∷ (meet_with t entered o).sent })
      go None q = record { e = x; code = pos 0 ∷ []; new = []; mixed = rw q mix_none; sent = refl }
      go (Some p) q =
          let r = linked_mixed p.at (s.users ++ w ∷ []) p.next in
          let m : Mixed r.0 (joins_with p.at s.users) (joins_with p.at (linked_users t p.at (s.users ++ w ∷ []) p.next).users) =
          subst (λ (z : List Join). Mixed r.0 z (joins_with p.at (linked_users t p.at (s.users ++ w ∷ []) p.next).users)) (joins_more p.at s.users w refl) r.1 in
          record { e = x; code = pos 0 ∷ []; new = r.0; mixed = m; sent = ap (λ (z : List Msg). name_reply_to t x (pos 0 ∷ []) ∷ z) r.2 }

  -- a table of which a service binds more
  record BindsIn (before : List Join) (r : Done NameTable) : Type 0 where
    pub e : Endpoint
    pub code : List ℤ
    pub new : List Join
    pub mixed : Mixed new before (joins r.now)
    pub sent : r.sent ≡ name_reply_to t e code ∷ all_told t kinds.Bound new

  service_binds : (name protocol : ℕ) (step : Service → Done Service) → ((s : Service) → IsOrderly t s → Binds (joins_of s.provider s.users) (step s)) → (table : NameTable) → AreOrderly t table
      → BindsIn (joins table) (in_service name protocol step table)
  service_binds name protocol step h [] k =
      let r = h (unmet name protocol) tt in
      record { e = r.e; code = r.code; new = r.new; mixed = subst (λ (z : List Join). Mixed r.new [] z) (sym (append-nil (joins_of (step (unmet name protocol)).now.provider (step (unmet name protocol)).now.users))) r.mixed; sent = r.sent }
  service_binds name protocol step h (s ∷ rest) k = go ((s.name == name) && (s.protocol == protocol)) (service_binds name protocol step h rest k.1)
    where
      go : (b : Bool) → BindsIn (joins rest) (in_service name protocol step rest)
          → BindsIn (joins (s ∷ rest)) (
          if b then record { now = (step s).now ∷ rest; sent = (step s).sent }
          else record { now = s ∷ (in_service name protocol step rest).now; sent = (in_service name protocol step rest).sent })
      go true l =
          let r = h s k.0 in
          let all : Mixed (r.new ++ []) (joins (s ∷ rest)) (joins ((step s).now ∷ rest)) = mixed_append r.mixed (all_right (joins rest)) in
          record { e = r.e; code = r.code; new = r.new; mixed = subst (λ (z : List Join). Mixed z (joins (s ∷ rest)) (joins ((step s).now ∷ rest))) (append-nil r.new) all; sent = r.sent }
      go false l = record { e = l.e; code = l.code; new = l.new; mixed = mixed_append (all_right (joins_of s.provider s.users)) l.mixed; sent = l.sent }

  links_told : (p : Endpoint) (us : List User) → links_ended t p us ≡ all_told t kinds.Ended (joins_with p us)
  links_told p [] = refl
  links_told p (u ∷ us) = go u.linked refl (links_told p us)
    where
      go : (o : Option ℕ) → u.linked ≡ o → links_ended t p us ≡ all_told t kinds.Ended (joins_with p us) → links_ended t p (u ∷ us) ≡ all_told t kinds.Ended (joins_with p (u ∷ us))
      go None q h = rw q h
      go (Some k) q h = rw q (ap (λ (z : List Msg). both_told t kinds.Ended p k u.at ++ z) h)

  filter_mixed : (p : Endpoint) (f : User → Bool) (us : List User) → Mixed (joins_with p (filter f us)) (joins_with p (filter (λ u. not (f u)) us)) (joins_with p us)
  filter_mixed p f [] = mix_none
  filter_mixed p f (u ∷ us) = go (f u) (filter_mixed p f us)
    where
      part : List Join
      part = option_map_or (λ k. record { place = at_place p k; user = u.at } ∷ []) u.linked []

      go : (b : Bool) → Mixed (joins_with p (filter f us)) (joins_with p (filter (λ u. not (f u)) us)) (joins_with p us)
          → Mixed (joins_with p (cond b (u ∷ filter f us) (filter f us))) (joins_with p (cond (not b) (u ∷ filter (λ u. not (f u)) us) (filter (λ u. not (f u)) us))) (joins_with p (u ∷ us))
      go true h = mixed_append (all_left part) h
      go false h = mixed_append (all_right part) h

  -- a service that ends some
  record EndsSome (before : List Join) (r : Done Service) : Type 0 where
    pub old : List Join
    pub mixed : Mixed old (joins_of r.now.provider r.now.users) before
    pub sent : r.sent ≡ all_told t kinds.Ended old

  leave_ends : (x : Endpoint) (s : Service) → EndsSome (joins_of s.provider s.users) (leave t x s)
  leave_ends x s = go s.provider refl
    where
      gone : (p : Provider) → s.provider ≡ Some p → (b : Bool) → is_endpoint p.at x ≡ b → EndsSome (joins_with p.at s.users) (
          if b then unprovide t x s
          else record { now = record s { provider = Some p; users = filter (λ u. not (is_user x u)) s.users }; sent = links_ended t p.at (filter (is_user x) s.users) })
      gone p q true e =
          record {
            old = joins_with p.at s.users;
            mixed = all_left (joins_with p.at s.users);
            sent = ap (λ (z : Endpoint). links_ended t z s.users) (sym (same_endpoint p.at x e)) ∙ links_told p.at s.users;
          }
      gone p q false e =
          record {
            old = joins_with p.at (filter (is_user x) s.users);
            mixed = filter_mixed p.at (is_user x) s.users;
            sent = links_told p.at (filter (is_user x) s.users);
          }

      go : (o : Option Provider) → s.provider ≡ o → EndsSome (joins_of s.provider s.users) (leave t x s)
      go None q = rw q (record { old = []; mixed = mix_none; sent = refl })
      go (Some p) q = rw q (gone p q (is_endpoint p.at x) refl)

  record EndsIn (before : List Join) (r : Done NameTable) : Type 0 where
    pub e : Endpoint
    pub code : List ℤ
    pub old : List Join
    pub mixed : Mixed old (joins r.now) before
    pub sent : r.sent ≡ all_told t kinds.Ended old ++ name_reply_to t e code ∷ []

  withdraw_ends : (x : Endpoint) (table : NameTable) → EndsIn (joins table) (withdraw t x table)
  unfolding withdraw
  withdraw_ends x [] = record { e = x; code = pos 9 ∷ []; old = []; mixed = mix_none; sent = refl }
  withdraw_ends x (s ∷ rest) = go (stands_in x s) (withdraw_ends x rest)
    where
      go : (b : Bool) → EndsIn (joins rest) (withdraw t x rest)
          → EndsIn (joins (s ∷ rest)) (
          if b then record { now = (leave t x s).now ∷ rest; sent = (leave t x s).sent ++ name_reply_to t x (pos 0 ∷ []) ∷ [] }
          else record { now = s ∷ (withdraw t x rest).now; sent = (withdraw t x rest).sent })
      go true l =
          let r = leave_ends x s in
          let all : Mixed (r.old ++ []) (joins ((leave t x s).now ∷ rest)) (joins (s ∷ rest)) = mixed_append r.mixed (all_right (joins rest)) in
          record {
            e = x;
            code = pos 0 ∷ [];
            old = r.old;
            mixed = subst (λ (z : List Join). Mixed z (joins ((leave t x s).now ∷ rest)) (joins (s ∷ rest))) (append-nil r.old) all;
            sent = ap (λ (z : List Msg). z ++ name_reply_to t x (pos 0 ∷ []) ∷ []) r.sent;
          }
      go false l = record { e = l.e; code = l.code; old = l.old; mixed = mixed_append (all_right (joins_of s.provider s.users)) l.mixed; sent = l.sent }

  -- each duty of the table
  abbrev pub StepsTo : NameTable → Done NameTable → Type 0
  StepsTo table r = TableStep t (joins table) r.sent (joins r.now)

  register_steps : (x : Endpoint) (name : ℕ) (table : NameTable) → AreOrderly t table → StepsTo table (register t x name table)
  unfolding register register_spp register_sap
  register_steps x name table k = go (is_spp t x.slot.0 x.port)
    where
      of : (r : Done NameTable) → BindsIn (joins table) r → StepsTo table r
      of r l = binds l.e l.code l.new l.mixed l.sent

      go : (b : Bool) → StepsTo table (
          if b then in_service name (protocol_of t x.slot.0 x.port) (provide t (place_count t x.slot.0 x.port) x) table
          else in_service name (protocol_of t x.slot.0 x.port) (use_service t x) table)
      go true = of _ (service_binds name (protocol_of t x.slot.0 x.port) (provide t (place_count t x.slot.0 x.port) x) (λ s h. provide_binds (place_count t x.slot.0 x.port) x s h) table k)
      go false = of _ (service_binds name (protocol_of t x.slot.0 x.port) (use_service t x) (λ s h. use_binds x s) table k)

  withdraw_steps : (x : Endpoint) (table : NameTable) → StepsTo table (withdraw t x table)
  withdraw_steps x table = let l = withdraw_ends x table in ends l.e l.code l.old l.mixed l.sent

  if_steps : (table : NameTable) (b : Bool) (x : Done NameTable) → StepsTo table x → StepsTo table (if b then x else same_table table)
  if_steps table true x h = h
  if_steps table false x h = idle refl refl

  duty_of_steps : (me : ℕ) (table : NameTable) (kind : SysKind) (e b : Endpoint) (payload : List ℤ) → AreOrderly t table → StepsTo table (table_duty_of t me table kind e b payload)
  duty_of_steps me table kinds.Register e b (pos name ∷ []) k = if_steps table (is_name_request t me e b) (register t e name table) (register_steps e name table k)
  duty_of_steps me table kinds.Withdraw e b [] k = if_steps table (is_name_request t me e b) (withdraw t e table) (withdraw_steps e table)
  duty_of_steps me table _ e b _ k = idle refl refl

  duty_from_steps : (me : ℕ) (table : NameTable) (kind : SysKind) (o : Option Endpoint) (m : Msg) → AreOrderly t table → StepsTo table (table_duty_from t me table kind o m)
  duty_from_steps me table kind None m k = idle refl refl
  duty_from_steps me table kind (Some e) m k = duty_of_steps me table kind e m.target m.payload k

  pub table_steps : (me : ℕ) (table : NameTable) (kind : SysKind) (m : Msg) → AreOrderly t table → StepsTo table (table_duty t me table kind m)
  unfolding table_duty
  table_steps me table kind m k = duty_from_steps me table kind m.source m k
