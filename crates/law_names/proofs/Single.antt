-- In a sound table no place is a side of two joins.
use Rattle.std.proofs.Common.{◌≡◌, ℕ, ◌+◌, ◌≤◌, ◌<◌, ◌==◌, ◌&&◌, Bool, true, false, if◌then◌else◌, List, [], ◌∷◌, ◌++◌, Option, Some, None, refl, sym, ap, ◌∙◌, subst, arith}
use Rattle.std.specs.Option.{option_map_or}
use Rattle.room_kinds.specs.declared.numbers.Endpoint.{Endpoint}
use Rattle.room_kinds.specs.declared.structure.PortKind.{PortKind}
use Rattle.room_kinds.specs.declared.structure.PortKind.TheVariants as ports
use Rattle.room_wiring.specs.declared.tables.Tables.{Tables}
use Rattle.room_wiring.specs.declared.names.PortNames.{PortNames}
use Rattle.room_wiring.specs.Places.{place_count}
use Rattle.actor_duties.specs.Words.{is_endpoint, port_at, is_sap, is_spp, is_sap_kind, is_spp_kind}
use Rattle.actor_duties.specs.State.{User, Provider, NameTable}
use Rattle.actor_duties.specs.Names.{at_place, is_user}
use Rattle.actor_duties.specs.Places.{InPlaces, IsOrderlyWith, AreOrderly}
use Rattle.law_names.specs.Links.{Join, joins_with, joins_of, joins, times_joined, IsUserPoint, IsProviderPoint, AreUserPoints, ArePoints, IsSound, JoinsAreSingle}
use Rattle.law_names.specs.Registrations.{uses, stands}
use Rattle.law_names.proofs.Standing.{same_endpoint}

-- a service access point is no service provision point
pub sap_or_spp : (t : Tables) (s p : ℕ) → is_sap t s p ≡ true → is_spp t s p ≡ true → ⊥
unfolding is_sap is_spp
sap_or_spp t s p h k = go (port_at t s p) h k
  where
    kind : (x : PortKind) → is_sap_kind x ≡ true → is_spp_kind x ≡ true → ⊥
    kind ports.Sap q r = absurd cc
    kind ports.Spp q r = absurd cc
    kind ports.Frame q r = absurd cc
    kind ports.Relay q r = absurd cc
    kind ports.End q r = absurd cc
    kind ports.Internal q r = absurd cc

    go : (o : Option PortNames) → option_map_or (λ (x : PortNames). is_sap_kind x.kind) o false ≡ true → option_map_or (λ (x : PortNames). is_spp_kind x.kind) o false ≡ true → ⊥
    go None q r = absurd cc
    go (Some x) q r = kind x.kind q r

pub false_by : (b : Bool) → (b ≡ true → ⊥) → b ≡ false
false_by true h = absurd (h refl)
false_by false h = refl

module _ (a : Endpoint) where
  times_append : (xs ys : List Join) → times_joined a (xs ++ ys) ≡ times_joined a xs + times_joined a ys
  times_append [] ys = omega arith
  times_append (j ∷ xs) ys = let h = times_append xs ys in omega (arith, h)

  -- one join, where a place is its provider's side, its user's, or neither
  times_one : (j : Join) → times_joined a (j ∷ []) ≤ (if is_endpoint j.place a then 1 else 0) + (if is_endpoint j.user a then 1 else 0)
  times_one j = go (is_endpoint j.place a) (is_endpoint j.user a)
    where
      go : (x y : Bool) → option_map_or (λ (z : Endpoint). 1) (if x then Some j.user else if y then Some j.place else None) 0 + 0 ≤ (if x then 1 else 0) + (if y then 1 else 0)
      go true true = omega arith
      go true false = omega arith
      go false true = omega arith
      go false false = omega arith

  module _ (t : Tables) where
    -- a place of no provider is joined as a user alone
    used_times : (p : Endpoint) → ((k : ℕ) → is_endpoint (at_place p k) a ≡ false) → (us : List User) → times_joined a (joins_with p us) ≤ uses a us
    used_times p off [] = omega arith
    used_times p off (u ∷ us) = go u.linked refl (used_times p off us)
      where
        go : (o : Option ℕ) → u.linked ≡ o → times_joined a (joins_with p us) ≤ uses a us → times_joined a (joins_with p (u ∷ us)) ≤ uses a (u ∷ us)
        go None q h = rw q (omega (arith, h))
        go (Some k) q h =
            let j : Join = record { place = at_place p k; user = u.at } in
            let one : times_joined a (j ∷ []) ≤ 0 + (if is_user a u then 1 else 0) =
            subst (λ (b : Bool). times_joined a (j ∷ []) ≤ (if b then 1 else 0) + (if is_user a u then 1 else 0)) (off k) (times_one j) in
            rw q (omega (arith, h, one))

    -- a place of no user is joined once at most, and only at a place from here on
    provided_times : (p : Endpoint) (us : List User) → ((u : Endpoint) → IsUserPoint t u → is_endpoint u a ≡ false) → AreUserPoints t us → (from next : ℕ) → InPlaces from next us
        → (times_joined a (joins_with p us) ≤ 1) × (a.place < from → times_joined a (joins_with p us) ≡ 0)
    provided_times p [] off points from next h = (omega arith, (λ l. refl))
    provided_times p (u ∷ us) off points from next h =
        rw h.1 (go (is_endpoint (at_place p h.0) a) refl (provided_times p us off points.1 (h.0 + 1) next h.3))
      where
        j : Join
        j = record { place = at_place p h.0; user = u.at }

        one : (b : Bool) → is_endpoint (at_place p h.0) a ≡ b → times_joined a (j ∷ []) ≤ (if b then 1 else 0)
        one b e =
            let q : times_joined a (j ∷ []) ≤ (if is_endpoint (at_place p h.0) a then 1 else 0) + 0 =
            subst (λ (z : Bool). times_joined a (j ∷ []) ≤ (if is_endpoint (at_place p h.0) a then 1 else 0) + (if z then 1 else 0)) (off u.at points.0) (times_one j) in
            let r : times_joined a (j ∷ []) ≤ (if b then 1 else 0) + 0 = subst (λ (z : Bool). times_joined a (j ∷ []) ≤ (if z then 1 else 0) + 0) e q in
            omega (arith, r)

        go : (b : Bool) → is_endpoint (at_place p h.0) a ≡ b
            → (times_joined a (joins_with p us) ≤ 1) × (a.place < h.0 + 1 → times_joined a (joins_with p us) ≡ 0)
            → (times_joined a (j ∷ joins_with p us) ≤ 1) × (a.place < from → times_joined a (j ∷ joins_with p us) ≡ 0)
        go true e k =
            let o = one true e in
            let same : h.0 ≡ a.place = ap (λ (z : Endpoint). z.place) (same_endpoint (at_place p h.0) a e) in
            let none : times_joined a (joins_with p us) ≡ 0 = k.1 (omega (arith, same)) in
            let low = h.2 in
            (omega (arith, o, none), (λ l. absurd (omega (arith, l, same, low))))
        go false e k =
            let o = one false e in
            let most = k.0 in
            let low = h.2 in
            (omega (arith, o, most), (λ l. let z : times_joined a (joins_with p us) ≡ 0 = k.1 (omega (arith, l, low)) in omega (arith, o, z)))

    -- the point that stands in the table for a place: a provider's point for each of its places
    abbrev base : Endpoint
    base = if is_spp t a.slot.0 a.port then at_place a 0 else a

    parts : (x y z w : Bool) → (((x && y) && z && w) ≡ true → (x ≡ true) × (y ≡ true) × (z ≡ true))
    parts true true true w h = (refl, refl, refl)
    parts false y z w h = absurd cc
    parts true false z w h = absurd cc
    parts true true false w h = absurd cc

    -- a place of a provider is at the provider's point
    own_place : (p : Endpoint) (k : ℕ) → p.place ≡ 0 → is_endpoint (at_place p k) a ≡ true → is_endpoint p (at_place a 0) ≡ true
    own_place p k zero h =
        let q = parts (p.slot.0 == a.slot.0) (p.generation.0 == a.generation.0) (p.port == a.port) (k == a.place) h in
        rw (q.0, q.1, q.2, zero) refl

    service_times : (o : Option Provider) (us : List User) → IsOrderlyWith t o us → IsProviderPoint t o → AreUserPoints t us
        → times_joined a (joins_of o us) ≤ (if option_map_or (λ (p : Provider). is_endpoint p.at base) o false then 1 else 0) + uses base us
    service_times None us h q points = omega arith
    service_times (Some p) us h q points = go (is_spp t a.slot.0 a.port) refl
      where
        not_user : is_spp t a.slot.0 a.port ≡ true → (u : Endpoint) → IsUserPoint t u → is_endpoint u a ≡ false
        not_user e u k =
            false_by (is_endpoint u a) (λ r.
            sap_or_spp t u.slot.0 u.port k.0 (subst (λ (z : Endpoint). is_spp t z.slot.0 z.port ≡ true) (sym (same_endpoint u a r)) e))

        not_place : is_spp t a.slot.0 a.port ≡ false → (k : ℕ) → is_endpoint (at_place p.at k) a ≡ false
        not_place e k =
            false_by (is_endpoint (at_place p.at k) a) (λ r.
            let spp : is_spp t a.slot.0 a.port ≡ true = subst (λ (z : Endpoint). is_spp t z.slot.0 z.port ≡ true) (same_endpoint (at_place p.at k) a r) q.0 in
            let z : true ≡ false = sym spp ∙ e in absurd cc)

        nowhere : (us : List User) → is_endpoint p.at (at_place a 0) ≡ false → ((u : Endpoint) → IsUserPoint t u → is_endpoint u a ≡ false) → AreUserPoints t us
            → times_joined a (joins_with p.at us) ≡ 0
        nowhere [] e off k = refl
        nowhere (u ∷ us) e off k = at_user u us e off k u.linked refl (nowhere us e off k.1)
          where
            at_user : (u : User) (us : List User) → is_endpoint p.at (at_place a 0) ≡ false → ((u : Endpoint) → IsUserPoint t u → is_endpoint u a ≡ false) → AreUserPoints t (u ∷ us)
                → (o : Option ℕ) → u.linked ≡ o → times_joined a (joins_with p.at us) ≡ 0 → times_joined a (joins_with p.at (u ∷ us)) ≡ 0
            at_user u us e off k None r h = rw r h
            at_user u us e off k (Some n) r h =
                let place : is_endpoint (at_place p.at n) a ≡ false =
                false_by (is_endpoint (at_place p.at n) a) (λ z. let w : true ≡ false = sym (own_place p.at n q.1 z) ∙ e in absurd cc) in
                rw (r, place, off u.at k.0) (omega (arith, h))

        go : (b : Bool) → is_spp t a.slot.0 a.port ≡ b
            → times_joined a (joins_with p.at us) ≤ (if is_endpoint p.at (if b then at_place a 0 else a) then 1 else 0) + uses (if b then at_place a 0 else a) us
        go false e = let k = used_times p.at (not_place e) us in omega (arith, k)
        go true e = at_point (is_endpoint p.at (at_place a 0)) refl
          where
            at_point : (b : Bool) → is_endpoint p.at (at_place a 0) ≡ b → times_joined a (joins_with p.at us) ≤ (if b then 1 else 0) + uses (at_place a 0) us
            at_point true r =
                let k = (provided_times p.at us (not_user e) points (place_count t p.at.slot.0 p.at.port) p.next h).0 in omega (arith, k)
            at_point false r = let k = nowhere us r (not_user e) points in omega (arith, k)

    table_times : (table : NameTable) → AreOrderly t table → ArePoints t table → times_joined a (joins table) ≤ stands base table
    table_times [] h k = omega arith
    table_times (s ∷ rest) h k =
        let one = service_times s.provider s.users h.0 k.0.0 k.0.1 in
        let more = table_times rest h.1 k.1 in
        let both = times_append (joins_of s.provider s.users) (joins rest) in
        omega (arith, one, more, both)

    pub single : (table : NameTable) → IsSound t table → times_joined a (joins table) ≤ 1
    single table h =
        let k = table_times table h.orderly h.points in
        let o = h.once base in
        omega (arith, k, o)

pub joins_single : JoinsAreSingle
joins_single t table h a = single a t table h
