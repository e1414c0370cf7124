-- How often an endpoint stands in the name table after a duty of the table, and what is replied to it.
use Rattle.std.proofs.Common.{◌≡◌, ℕ, ◌+◌, ◌≤◌, ◌==◌, ◌&&◌, ◌||◌, ◌⊎◌, inl, inr, Bool, true, false, not, if◌then◌else◌, cond, is_some, List, [], ◌∷◌, ◌++◌, map, filter, flat_map, Option, Some, None, ℤ, pos, negsuc, refl, sym, ap, ◌∙◌, subst, eqb-true, eq-eqb, append-nil, append_assoc, arith}
use Rattle.std.specs.Option.{option_map_or}
use Rattle.std.specs.List.{list_any}
use Rattle.std.proofs.lemmas.Bool.{and_parts}
use Rattle.room_kinds.specs.declared.message.Msg.{Msg}
use Rattle.room_kinds.specs.declared.numbers.Endpoint.{Endpoint}
use Rattle.room_kinds.specs.declared.system.SysKind.{SysKind}
use Rattle.room_kinds.specs.declared.system.SysKind.TheVariants as kinds
use Rattle.room_wiring.specs.declared.tables.Tables.{Tables}
use Rattle.room_wiring.specs.Places.{place_count}
use Rattle.actor_duties.specs.Words.{whose, endpoint, is_incarnation, is_endpoint, is_spp, protocol_of}
use Rattle.actor_duties.specs.State.{User, Provider, Service, NameTable, Done}
use Rattle.actor_duties.specs.Messages.{coded, NameTaken}
use Rattle.actor_duties.specs.Names.{name_reply_to, both_told, Linking, linked_users, linked_first, meet_with, meet, provide, use_service, unmet, in_service, register_spp, register_sap, links_ended, link_ended, user_ended, is_user, waiting, leave, unprovide, unuse, is_provider, stands_in, withdraw, register, is_name_request, same_table, table_duty_of, table_duty_from, table_duty}
use Rattle.law_names.specs.Registrations.{is_point, is_point_port, asked_by, asked, replied, uses, stands_as, stands}
use Rattle.law_names.proofs.Naming.{is_table_kind, IsOf}
use Rattle.law_names.proofs.Rows.{TableStep}

-- two endpoints that are one
pub same_endpoint : (a b : Endpoint) → is_endpoint a b ≡ true → a ≡ b
same_endpoint a b h =
    let p = and_parts (is_incarnation (whose a) (whose b) && (a.port == b.port)) (a.place == b.place) h in
    let q = and_parts (is_incarnation (whose a) (whose b)) (a.port == b.port) p.0 in
    let r = and_parts (a.slot.0 == b.slot.0) (a.generation.0 == b.generation.0) q.0 in
    ap (λ n. endpoint n a.generation.0 a.port a.place) (eqb-true a.slot.0 b.slot.0 r.0)
    ∙ ap (λ n. endpoint b.slot.0 n a.port a.place) (eqb-true a.generation.0 b.generation.0 r.1)
    ∙ ap (λ n. endpoint b.slot.0 b.generation.0 n a.place) (eqb-true a.port b.port q.1)
    ∙ ap (λ n. endpoint b.slot.0 b.generation.0 b.port n) (eqb-true a.place b.place p.1)

pub self_endpoint : (a : Endpoint) → is_endpoint a a ≡ true
self_endpoint a = rw (eq-eqb a.slot.0 a.slot.0 refl, eq-eqb a.generation.0 a.generation.0 refl, eq-eqb a.port a.port refl, eq-eqb a.place a.place refl) refl

pub flat_append : {X Y : Type 0} (f : X → List Y) (a b : List X) → flat_map f (a ++ b) ≡ flat_map f a ++ flat_map f b
flat_append f [] b = refl
flat_append f (x ∷ a) b = ap (λ z. f x ++ z) (flat_append f a b) ∙ sym (append_assoc (f x) (flat_map f a) (flat_map f b))

-- the count of one
abbrev One : Bool → ℕ
One b = if b then 1 else 0

module _ (t : Tables) (e : Endpoint) where
  abbrev Replies : List Msg → List ℕ
  Replies ms = flat_map (replied e) ms

  -- links change neither who stands there nor what is replied
  record Counted (us : List User) (r : Linking) : Type 0 where
    pub users : uses e r.users ≡ uses e us
    pub codes : Replies r.sent ≡ []

  linked_counted : (provider : Endpoint) (us : List User) (next : ℕ) → Counted us (linked_users t provider us next)
  linked_counted provider [] next = record { users = refl; codes = refl }
  linked_counted provider (u ∷ us) next = go u.linked (λ n. linked_counted provider us n)
    where
      go : (o : Option ℕ) → ((n : ℕ) → Counted us (linked_users t provider us n)) → Counted (u ∷ us) (linked_first t provider next u o (linked_users t provider us))
      go (Some k) rest = record { users = ap (λ n. One (is_user e u) + n) (rest next).users; codes = (rest next).codes }
      go None rest = record { users = ap (λ n. One (is_user e u) + n) (rest (next + 1)).users; codes = (rest (next + 1)).codes }

  -- a service in which as many stand, and nothing is replied
  record Same (s : Service) (r : Done Service) : Type 0 where
    pub times : stands_as e r.now ≡ stands_as e s
    pub codes : Replies r.sent ≡ []

  meet_same : (s : Service) → Same s (meet t s)
  unfolding meet
  meet_same s = go s.provider refl
    where
      go : (o : Option Provider) → s.provider ≡ o → Same s (meet_with t s o)
      go None is = record { times = refl; codes = refl }
      go (Some p) is =
          let r = linked_counted p.at s.users p.next in
          record {
            times = ap (λ n. One (is_endpoint p.at e) + n) r.users
                ∙ ap (λ (o : Option Provider). One (option_map_or (λ (p : Provider). is_endpoint p.at e) o false) + uses e s.users) (sym is);
            codes = r.codes;
          }

  links_ended_codes : (p : Endpoint) (us : List User) → Replies (links_ended t p us) ≡ []
  links_ended_codes p [] = refl
  links_ended_codes p (u ∷ us) =
      flat_append (replied e) (link_ended t p u) (links_ended t p us) ∙ ap (λ (z : List ℕ). z ++ Replies (links_ended t p us)) (go u.linked) ∙ links_ended_codes p us
    where
      go : (o : Option ℕ) → Replies (option_map_or (λ k. both_told t kinds.Ended p k u.at) o []) ≡ []
      go None = refl
      go (Some k) = refl

  leave_codes : (x : Endpoint) (s : Service) → Replies (leave t x s).sent ≡ []
  leave_codes x s = go (is_provider x s)
    where
      ended_codes : (o : Option Provider) → Replies (user_ended t x o s.users) ≡ []
      ended_codes None = refl
      ended_codes (Some p) = links_ended_codes p.at (filter (is_user x) s.users)

      go : (b : Bool) → Replies (Done.sent (if b then unprovide t x s else unuse t x s)) ≡ []
      go true = links_ended_codes x s.users
      go false = ended_codes s.provider

  uses_waiting : (us : List User) → uses e (map waiting us) ≡ uses e us
  uses_waiting [] = refl
  uses_waiting (u ∷ us) = ap (λ n. One (is_user e u) + n) (uses_waiting us)

  uses_more : (us : List User) (u : User) → uses e (us ++ u ∷ []) ≡ uses e us + One (is_user e u)
  uses_more [] u = omega arith
  uses_more (v ∷ us) u = (let k = uses_more us u in omega (arith, k))

  uses_gone : (us : List User) → uses e (filter (λ u. not (is_user e u)) us) ≡ 0
  uses_gone [] = refl
  uses_gone (u ∷ us) = go (is_user e u) refl (uses_gone us)
    where
      go : (b : Bool) → is_user e u ≡ b → uses e (filter (λ u. not (is_user e u)) us) ≡ 0
          → uses e (cond (not b) (u ∷ filter (λ u. not (is_user e u)) us) (filter (λ u. not (is_user e u)) us)) ≡ 0
      go true is k = k
      go false is k = (let one : One (is_user e u) ≡ 0 = ap One is in omega (arith, one, k))

  any_uses : (us : List User) → list_any (is_user e) us ≡ true → 1 ≤ uses e us
  any_uses [] h = absurd cc
  any_uses (u ∷ us) h = go (is_user e u) h (any_uses us)
    where
      go : (b : Bool) → (b || list_any (is_user e) us) ≡ true → (list_any (is_user e) us ≡ true → 1 ≤ uses e us) → 1 ≤ One b + uses e us
      go true q k = omega arith
      go false q k = (let n = k q in omega (arith, n))

  none_uses : (us : List User) → list_any (is_user e) us ≡ false → uses e us ≡ 0
  none_uses [] h = refl
  none_uses (u ∷ us) h = go (is_user e u) h (none_uses us)
    where
      go : (b : Bool) → (b || list_any (is_user e) us) ≡ false → (list_any (is_user e) us ≡ false → uses e us ≡ 0) → One b + uses e us ≡ 0
      go true q k = absurd cc
      go false q k = (let n = k q in omega (arith, n))

  -- the endpoint itself is withdrawn
  record Left (n : ℕ) (r : Done NameTable) : Type 0 where
    pub times : stands e r.now ≡ 0
    pub code : ℕ
    pub codes : Replies r.sent ≡ code ∷ []
    pub stood : n ≡ 1 → code ≡ 0

  pub own_reply : (code : ℕ) → replied e (name_reply_to t e (pos code ∷ [])) ≡ code ∷ []
  own_reply code = go (is_endpoint e e) (self_endpoint e)
    where
      go : (b : Bool) → b ≡ true → (if b && b then code ∷ [] else []) ≡ code ∷ []
      go true h = refl
      go false h = absurd cc

  left_service : (s : Service) → stands_in e s ≡ true → stands_as e s ≤ 1 → (stands_as e (leave t e s).now ≡ 0) × (1 ≤ stands_as e s)
  left_service s there below = go (is_provider e s) refl there
    where
      go : (b : Bool) → is_provider e s ≡ b → (b || list_any (is_user e) s.users) ≡ true → (stands_as e (Done.now (if b then unprovide t e s else unuse t e s)) ≡ 0) × (1 ≤ stands_as e s)
      go true is q =
          let one : One (is_provider e s) ≡ 1 = ap One is in
          let same : uses e (map waiting s.users) ≡ uses e s.users = uses_waiting s.users in
          (omega (arith, one, same, below), omega (arith, one))
      go false is q =
          let none : One (is_provider e s) ≡ 0 = ap One is in
          let gone : uses e (filter (λ u. not (is_user e u)) s.users) ≡ 0 = uses_gone s.users in
          let some : 1 ≤ uses e s.users = any_uses s.users q in
          (omega (arith, none, gone), omega (arith, some))

  not_there : (s : Service) → stands_in e s ≡ false → stands_as e s ≡ 0
  not_there s h = go (is_provider e s) h
    where
      go : (b : Bool) → (b || list_any (is_user e) s.users) ≡ false → One b + uses e s.users ≡ 0
      go true q = absurd cc
      go false q = (let n = none_uses s.users q in omega (arith, n))

  withdraw_self : (table : NameTable) → stands e table ≤ 1 → Left (stands e table) (withdraw t e table)
  unfolding withdraw
  withdraw_self [] below = record { times = refl; code = 9; codes = ap (λ (z : List ℕ). z ++ []) (own_reply 9); stood = λ q. omega (arith, q) }
  withdraw_self (s ∷ rest) below = go (stands_in e s) refl (withdraw_self rest (omega (arith, below)))
    where
      go : (b : Bool) → stands_in e s ≡ b → Left (stands e rest) (withdraw t e rest) → Left (stands_as e s + stands e rest) (
          if b
          then (let r = leave t e s in record { now = r.now ∷ rest; sent = r.sent ++ name_reply_to t e (pos 0 ∷ []) ∷ [] })
          else (let r = withdraw t e rest in record { now = s ∷ r.now; sent = r.sent }))
      go true is k =
          let l = left_service s is (omega (arith, below)) in
          record {
            times = omega (arith, l.0, l.1, below);
            code = 0;
            codes = flat_append (replied e) (leave t e s).sent (name_reply_to t e (pos 0 ∷ []) ∷ [])
                ∙ ap (λ (z : List ℕ). z ++ Replies (name_reply_to t e (pos 0 ∷ []) ∷ [])) (leave_codes e s) ∙ ap (λ (z : List ℕ). z ++ []) (own_reply 0);
            stood = λ q. refl;
          }
      go false is k =
          let none : stands_as e s ≡ 0 = not_there s is in
          record { times = omega (arith, none, k.times); code = k.code; codes = k.codes; stood = λ q. k.stood (omega (arith, none, q)) }

  -- another one registers or is withdrawn
  module _ (x : Endpoint) where
    abbrev Told : List ℕ → List ℕ
    Told codes = if is_endpoint x e then codes else []

    reply_codes : (code : ℕ) (rest : List Msg) → Replies rest ≡ [] → Replies (name_reply_to t x (pos code ∷ []) ∷ rest) ≡ Told (code ∷ [])
    reply_codes code rest none =
        ap (λ (z : List ℕ). replied e (name_reply_to t x (pos code ∷ [])) ++ z) none ∙ append-nil (replied e (name_reply_to t x (pos code ∷ []))) ∙ go (is_endpoint x e) (is_endpoint x x) (self_endpoint x)
      where
        go : (b c : Bool) → c ≡ true → ◌≡◌ {A = List ℕ} (if b && c then code ∷ [] else []) (if b then code ∷ [] else [])
        go true true h = refl
        go false true h = refl
        go b false h = absurd cc

    -- a service, and the table, that takes the endpoint up or refuses it
    abbrev Joins : ℕ → ℕ → List ℕ → Type 0
    Joins n next codes = ((codes ≡ Told (0 ∷ [])) × (next ≡ n + One (is_endpoint x e))) ⊎ ((codes ≡ Told (8 ∷ [])) × (next ≡ n))

    abbrev JoinsService : Service → Done Service → Type 0
    JoinsService s r = Joins (stands_as e s) (stands_as e r.now) (Replies r.sent)

    abbrev JoinsTable : NameTable → Done NameTable → Type 0
    JoinsTable table r = Joins (stands e table) (stands e r.now) (Replies r.sent)

    provide_joins : (base : ℕ) (s : Service) → JoinsService s (provide t base x s)
    unfolding provide
    provide_joins base s = go (is_some s.provider) refl
      where
        none_of : (o : Option Provider) → is_some o ≡ false → o ≡ None
        none_of None h = refl
        none_of (Some p) h = absurd cc

        go : (b : Bool) → is_some s.provider ≡ b → JoinsService s (
            if b then record { now = s; sent = name_reply_to t x (coded NameTaken) ∷ [] }
            else
            let r = meet t (record s { provider = Some (record { at = x; next = base }) }) in
            record { now = r.now; sent = name_reply_to t x (pos 0 ∷ []) ∷ r.sent })
        go true is = inr (reply_codes 8 [] refl, refl)
        go false is =
            let r = meet_same (record s { provider = Some (record { at = x; next = base }) }) in
            let none : One (is_provider e s) ≡ 0 = ap (λ (o : Option Provider). One (option_map_or (λ (p : Provider). is_endpoint p.at e) o false)) (none_of s.provider is) in
            inl (reply_codes 0 (meet t (record s { provider = Some (record { at = x; next = base }) })).sent r.codes, r.times ∙ omega (arith, none))

    use_joins : (s : Service) → JoinsService s (use_service t x s)
    unfolding use_service
    use_joins s =
        let u : User = record { at = x; linked = None } in
        let r = meet_same (record s { users = s.users ++ u ∷ [] }) in
        let more = uses_more s.users u in
        inl (reply_codes 0 (meet t (record s { users = s.users ++ u ∷ [] })).sent r.codes, r.times ∙ omega (arith, more))

    in_service_joins : (name protocol : ℕ) (step : Service → Done Service) → ((s : Service) → JoinsService s (step s)) → (table : NameTable)
        → JoinsTable table (in_service name protocol step table)
    in_service_joins name protocol step does [] = go (does (unmet name protocol))
      where
        go : JoinsService (unmet name protocol) (step (unmet name protocol)) → JoinsTable [] (in_service name protocol step [])
        go (inl k) = inl (k.0, omega (arith, k.1))
        go (inr k) = inr (k.0, omega (arith, k.1))
    in_service_joins name protocol step does (s ∷ rest) =
        go ((s.name == name) && (s.protocol == protocol)) (does s) (in_service_joins name protocol step does rest)
      where
        go : (b : Bool) → JoinsService s (step s) → JoinsTable rest (in_service name protocol step rest) → JoinsTable (s ∷ rest) (
            if b
            then (let r = step s in record { now = r.now ∷ rest; sent = r.sent })
            else (let r = in_service name protocol step rest in record { now = s ∷ r.now; sent = r.sent }))
        go true (inl k) h = inl (k.0, omega (arith, k.1))
        go true (inr k) h = inr (k.0, omega (arith, k.1))
        go false k (inl h) = inl (h.0, omega (arith, h.1))
        go false k (inr h) = inr (h.0, omega (arith, h.1))

    register_joins : (name : ℕ) (table : NameTable) → JoinsTable table (register t x name table)
    unfolding register register_spp register_sap
    register_joins name table =
        go (is_spp t x.slot.0 x.port) _ _
        (in_service_joins name (protocol_of t x.slot.0 x.port) (provide t (place_count t x.slot.0 x.port) x) (provide_joins (place_count t x.slot.0 x.port)) table)
        (in_service_joins name (protocol_of t x.slot.0 x.port) (use_service t x) use_joins table)
      where
        go : (b : Bool) (y z : Done NameTable) → JoinsTable table y → JoinsTable table z → JoinsTable table (if b then y else z)
        go true y z h k = h
        go false y z h k = k

    -- where it is another endpoint, nothing changes for this one
    module _ (apart : is_endpoint x e ≡ false) where
      record Still (n : ℕ) (r : Done NameTable) : Type 0 where
        pub times : stands e r.now ≡ n
        pub codes : Replies r.sent ≡ []

      uses_kept : (us : List User) → uses e (filter (λ u. not (is_user x u)) us) ≡ uses e us
      uses_kept [] = refl
      uses_kept (u ∷ us) = go (is_user x u) refl (uses_kept us)
        where
          go : (b : Bool) → is_user x u ≡ b → uses e (filter (λ u. not (is_user x u)) us) ≡ uses e us
              → uses e (cond (not b) (u ∷ filter (λ u. not (is_user x u)) us) (filter (λ u. not (is_user x u)) us)) ≡ One (is_user e u) + uses e us
          go false is k = ap (λ n. One (is_user e u) + n) k
          go true is k =
              let other : One (is_user e u) ≡ 0 = ap (λ (z : Endpoint). One (is_endpoint z e)) (same_endpoint u.at x is) ∙ ap One apart in
              omega (arith, other, k)

      provider_apart : (s : Service) → is_provider x s ≡ true → One (is_provider e s) ≡ 0
      provider_apart s h = go s.provider h
        where
          go : (o : Option Provider) → option_map_or (λ (p : Provider). is_endpoint p.at x) o false ≡ true → One (option_map_or (λ (p : Provider). is_endpoint p.at e) o false) ≡ 0
          go None q = absurd cc
          go (Some p) q = ap (λ (z : Endpoint). One (is_endpoint z e)) (same_endpoint p.at x q) ∙ ap One apart

      leave_still : (s : Service) → stands_as e (leave t x s).now ≡ stands_as e s
      leave_still s = go (is_provider x s) refl
        where
          go : (b : Bool) → is_provider x s ≡ b → stands_as e (Done.now (if b then unprovide t x s else unuse t x s)) ≡ stands_as e s
          go true is =
              let none : One (is_provider e s) ≡ 0 = provider_apart s is in
              let same : uses e (map waiting s.users) ≡ uses e s.users = uses_waiting s.users in
              omega (arith, none, same)
          go false is = ap (λ n. One (is_provider e s) + n) (uses_kept s.users)

      other_reply : (code : ℕ) → Replies (name_reply_to t x (pos code ∷ []) ∷ []) ≡ []
      other_reply code = reply_codes code [] refl ∙ ap (λ (b : Bool). if b then code ∷ [] else []) apart

      withdraw_still : (table : NameTable) → Still (stands e table) (withdraw t x table)
      unfolding withdraw
      withdraw_still [] = record { times = refl; codes = other_reply 9 }
      withdraw_still (s ∷ rest) = go (stands_in x s) (withdraw_still rest)
        where
          go : (b : Bool) → Still (stands e rest) (withdraw t x rest) → Still (stands_as e s + stands e rest) (
              if b
              then (let r = leave t x s in record { now = r.now ∷ rest; sent = r.sent ++ name_reply_to t x (pos 0 ∷ []) ∷ [] })
              else (let r = withdraw t x rest in record { now = s ∷ r.now; sent = r.sent }))
          go true k =
              record {
                times = ap (λ n. n + stands e rest) (leave_still s);
                codes = flat_append (replied e) (leave t x s).sent (name_reply_to t x (pos 0 ∷ []) ∷ [])
                    ∙ ap (λ (z : List ℕ). z ++ Replies (name_reply_to t x (pos 0 ∷ []) ∷ [])) (leave_codes x s) ∙ other_reply 0;
              }
          go false k = record { times = ap (λ n. stands_as e s + n) k.times; codes = k.codes }

module _ (t : Tables) (e x : Endpoint) (table : NameTable) (r : Done NameTable) where
  joined_self : is_endpoint x e ≡ true → JoinsTable t e x table r → TableStep (kinds.Register ∷ []) (stands e table) (flat_map (replied e) r.sent) (stands e r.now)
  joined_self same (inl k) =
      inl (k.0 ∙ ap (λ (b : Bool). if b then 0 ∷ [] else []) same, k.1 ∙ ap (λ (b : Bool). stands e table + One b) same)
  joined_self same (inr k) = inr (k.0 ∙ ap (λ (b : Bool). if b then 8 ∷ [] else []) same, k.1)

  joined_other : is_endpoint x e ≡ false → JoinsTable t e x table r → (flat_map (replied e) r.sent ≡ []) × (stands e r.now ≡ stands e table)
  joined_other apart (inl k) =
      let none : One (is_endpoint x e) ≡ 0 = ap One apart in
      let times : stands e r.now ≡ stands e table + One (is_endpoint x e) = k.1 in
      (k.0 ∙ ap (λ (b : Bool). if b then 0 ∷ [] else []) apart, omega (arith, none, times))
  joined_other apart (inr k) = (k.0 ∙ ap (λ (b : Bool). if b then 8 ∷ [] else []) apart, k.1)

-- what the name table makes of a message, for an endpoint: as it asks, or nothing
module _ (t : Tables) (e : Endpoint) (table : NameTable) where
  -- a request that the table treats, or doesn't
  is_asked : (x target : Endpoint) → is_name_request t 0 x target ≡ (is_endpoint x target && is_point t x)
  is_asked x target = go (is_endpoint x target) (x.place == 0) (is_point_port t x.slot.0 x.port)
    where
      go : (a b c : Bool) → (((true && a) && b) && c) ≡ (a && (b && c))
      go true b c = refl
      go false b c = refl

  abbrev IsKnown : List SysKind → Type 0
  IsKnown asks = (k : SysKind) (more : List SysKind) → asks ≡ k ∷ more → is_point t e ≡ true

  abbrev Steps : List SysKind → Done NameTable → Type 0
  Steps asks r = TableStep asks (stands e table) (flat_map (replied e) r.sent) (stands e r.now)

  -- whether it asks, and the table treats it
  asking : (kind : SysKind) (x target : Endpoint) (r : Done NameTable)
      → (is_endpoint x e ≡ true → Steps (kind ∷ []) r)
      → (is_endpoint x e ≡ false → (flat_map (replied e) r.sent ≡ []) × (stands e r.now ≡ stands e table))
      → IsKnown (if is_endpoint x e && is_endpoint x target then kind ∷ [] else [])
      → Steps (if is_endpoint x e && is_endpoint x target then kind ∷ [] else []) (if is_name_request t 0 x target then r else same_table table)
  asking kind x target r self other known = go (is_name_request t 0 x target) (is_asked x target) (is_endpoint x e) refl (is_endpoint x target) refl known
    where
      go : (a : Bool) → a ≡ (is_endpoint x target && is_point t x) → (b : Bool) → is_endpoint x e ≡ b → (c : Bool) → is_endpoint x target ≡ c
          → IsKnown (if b && c then kind ∷ [] else []) → Steps (if b && c then kind ∷ [] else []) (if a then r else same_table table)
      go true is false same c fits k = other same
      go false is false same c fits k = (refl, refl)
      go false is true same false fits k = (refl, refl)
      go true is true same false fits k =
          (let q : true ≡ (false && is_point t x) = is ∙ ap (λ (z : Bool). z && is_point t x) fits in absurd cc)
      go true is true same true fits k = self same
      go false is true same true fits k =
          let point : is_point t x ≡ true = ap (is_point t) (same_endpoint x e same) ∙ k kind [] refl in
          let q : false ≡ (true && is_point t x) = is ∙ ap (λ (z : Bool). z && is_point t x) fits in
          let r : false ≡ true = q ∙ point in absurd cc

  left_self : (x : Endpoint) → is_endpoint x e ≡ true → Steps (kinds.Withdraw ∷ []) (withdraw t x table)
  left_self x same = subst (λ (z : Endpoint). Steps (kinds.Withdraw ∷ []) (withdraw t z table)) (sym (same_endpoint x e same)) here
    where
      here : Steps (kinds.Withdraw ∷ []) (withdraw t e table)
      here below = (let l = withdraw_self t e table below in (l.times, (l.code, l.codes, l.stood)))

  left_other : (x : Endpoint) → is_endpoint x e ≡ false → (flat_map (replied e) (withdraw t x table).sent ≡ []) × (stands e (withdraw t x table).now ≡ stands e table)
  left_other x apart = (let l = withdraw_still t e x apart table in (l.codes, l.times))

  steps_of : (kind : SysKind) → is_table_kind kind ≡ true → (x target : Endpoint) (payload : List ℤ) → IsKnown (asked_by e (Some kind) (Some x) target payload)
      → Steps (asked_by e (Some kind) (Some x) target payload) (table_duty_of t 0 table kind x target payload)
  steps_of kinds.Register is x target [] known = (refl, refl)
  steps_of kinds.Register is x target (pos name ∷ []) known =
      asking kinds.Register x target (register t x name table) (λ same. joined_self t e x table (register t x name table) same (register_joins t e x name table))
      (λ apart. joined_other t e x table (register t x name table) apart (register_joins t e x name table)) known
  steps_of kinds.Register is x target (negsuc name ∷ []) known = (refl, refl)
  steps_of kinds.Register is x target (pos name ∷ (k ∷ ks)) known = (refl, refl)
  steps_of kinds.Register is x target (negsuc name ∷ (k ∷ ks)) known = (refl, refl)
  steps_of kinds.Withdraw is x target [] known = asking kinds.Withdraw x target (withdraw t x table) (left_self x) (left_other x) known
  steps_of kinds.Withdraw is x target (k ∷ ks) known = (refl, refl)
  steps_of kind is x target payload known = absurd cc

  steps_from : (kind : SysKind) → is_table_kind kind ≡ true → (o : Option Endpoint) (m : Msg) → IsKnown (asked_by e (Some kind) o m.target m.payload)
      → Steps (asked_by e (Some kind) o m.target m.payload) (table_duty_from t 0 table kind o m)
  steps_from kinds.Register is None m known = (refl, refl)
  steps_from kinds.Withdraw is None m known = (refl, refl)
  steps_from kind is None m known = absurd cc
  steps_from kind is (Some x) m known = steps_of kind is x m.target m.payload known

  pub table_steps : (kind : SysKind) (m : Msg) → is_table_kind kind ≡ true → IsOf m kind → IsKnown (asked e m) → Steps (asked e m) (table_duty t 0 table kind m)
  unfolding table_duty
  table_steps kind m test is known =
      let same : asked e m ≡ asked_by e (Some kind) m.source m.target m.payload = rw (is.0, is.1) refl in
      subst (λ z. Steps z (table_duty_from t 0 table kind m.source m)) (sym same)
      (steps_from kind test m.source m (subst IsKnown same known))

-- another controller's table does nothing
module _ (t : Tables) (me : ℕ) (away : (me == 0) ≡ false) (table : NameTable) where
  away_if : (x target : Endpoint) (r : Done NameTable) → (if is_name_request t me x target then r else same_table table) ≡ same_table table
  away_if x target r = go (me == 0) away (is_endpoint x target) (x.place == 0) (is_point_port t x.slot.0 x.port)
    where
      go : (a : Bool) → a ≡ false → (b c d : Bool) → (if ((a && b) && c) && d then r else same_table table) ≡ same_table table
      go false q b c d = refl
      go true q b c d = absurd cc

  away_of : (kind : SysKind) (x target : Endpoint) (payload : List ℤ) → table_duty_of t me table kind x target payload ≡ same_table table
  away_of kinds.Register x target (pos name ∷ []) = away_if x target (register t x name table)
  away_of kinds.Withdraw x target [] = away_if x target (withdraw t x table)
  away_of _ x target _ = refl

  away_from : (kind : SysKind) (o : Option Endpoint) (m : Msg) → table_duty_from t me table kind o m ≡ same_table table
  away_from kind None m = refl
  away_from kind (Some x) m = away_of kind x m.target m.payload

  pub table_away : (kind : SysKind) (m : Msg) → table_duty t me table kind m ≡ same_table table
  unfolding table_duty
  table_away kind m = away_from kind m.source m
