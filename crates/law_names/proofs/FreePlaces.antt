-- In a quiet world the name table links users that the model doesn't join to providers, behind their static places.
use Rattle.std.proofs.Common.{◌≡◌, ◌∙◌, ℕ, zero, suc, ◌+◌, ◌<◌, ◌≤◌, Bool, true, false, List, [], ◌∷◌, length, slice_index_or, Option, Some, refl, sym, ap, subst, arith}
use Rattle.std.proofs.lemmas.Option.{same_Some}
use Rattle.room_kinds.specs.declared.numbers.Endpoint.{Endpoint}
use Rattle.room_wiring.specs.declared.tables.Tables.{Tables}
use Rattle.room_wiring.specs.Places.{place_count}
use Rattle.actor_merge.specs.World.{World}
use Rattle.actor_duties.specs.Words.{owner_of, is_sap, is_spp, is_joined, joined_at}
use Rattle.actor_duties.specs.State.{Unnamed, Registered, User, Provider, Service, NameTable}
use Rattle.actor_duties.specs.Places.{InPlaces, IsOrderly, IsOrderlyWith, AreOrderly}
use Rattle.actor_world.specs.Body.{Body}
use Rattle.actor_world.specs.Agreed.{IsLinked}
use Rattle.law_agreement.specs.Mutual.{LinksFreePlaces}
use Rattle.law_names.specs.Registrations.{registration_in, AreSettled}
use Rattle.law_names.specs.Links.{IsUserPoint, IsProviderPoint, AreUserPoints, ArePoints, IsSound}
use Rattle.law_names.specs.Unjoined.{JoinedAreUnnamed}

module _ (t : Tables) where
  -- a linked user's place stands behind the static ones
  in_places : (from next : ℕ) (us : List User) (u : User) (k i : ℕ) → InPlaces from next us → i < length us → slice_index_or us i u ≡ u → u.linked ≡ Some k → from ≤ k
  in_places from next [] u k i h lt at is = absurd (omega arith)
  in_places from next (x ∷ xs) u k zero h lt at is =
      let same : h.0 ≡ k = same_Some h.0 k (sym h.1 ∙ ap (λ (z : User). z.linked) at ∙ is) in
      let behind = h.2 in
      omega (arith, same, behind)
  in_places from next (x ∷ xs) u k (suc i) h lt at is =
      let more = in_places (h.0 + 1) next xs u k i h.3 (omega arith) at is in
      let behind = h.2 in
      omega (arith, more, behind)

  orderly_at : (table : NameTable) (s : Service) (i : ℕ) → i < length table → slice_index_or table i s ≡ s → AreOrderly t table → IsOrderly t s
  orderly_at [] s i lt at h = absurd (omega arith)
  orderly_at (x ∷ xs) s zero lt at h = subst (IsOrderly t) at h.0
  orderly_at (x ∷ xs) s (suc i) lt at h = orderly_at xs s i (omega arith) at h.1

  points_at : (table : NameTable) (s : Service) (i : ℕ) → i < length table → slice_index_or table i s ≡ s → ArePoints t table
      → IsProviderPoint t s.provider × AreUserPoints t s.users
  points_at [] s i lt at h = absurd (omega arith)
  points_at (x ∷ xs) s zero lt at h = subst (λ (z : Service). IsProviderPoint t z.provider × AreUserPoints t z.users) at h.0
  points_at (x ∷ xs) s (suc i) lt at h = points_at xs s i (omega arith) at h.1

  user_at : (us : List User) (u : User) (i : ℕ) → i < length us → slice_index_or us i u ≡ u → AreUserPoints t us → IsUserPoint t u.at
  user_at [] u i lt at h = absurd (omega arith)
  user_at (x ∷ xs) u zero lt at h = subst (λ (z : User). IsUserPoint t z.at) at h.0
  user_at (x ∷ xs) u (suc i) lt at h = user_at xs u i (omega arith) at h.1

  module _ {M : Type 0} (w : World (Body M)) (sound : IsSound t (w.controllers 0).body.table) (settled : AreSettled t w)
      (unnamed : (c : ℕ) → JoinedAreUnnamed t (w.controllers c).body.links) where
    provider_free : (p u : Endpoint) (k : ℕ) → IsLinked (w.controllers 0).body.table p u k → (is_spp t p.slot.0 p.port ≡ true) × (place_count t p.slot.0 p.port ≤ k)
    provider_free p u k h =
        let s : Service = h.service in
        let there = h.stands in
        let order : IsOrderly t s = orderly_at (w.controllers 0).body.table s there.0 there.1 there.2 sound.orderly in
        let point : IsProviderPoint t s.provider × AreUserPoints t s.users = points_at (w.controllers 0).body.table s there.0 there.1 there.2 sound.points in
        let provider : IsProviderPoint t (Some (record { at = p; next = h.next })) = subst (IsProviderPoint t) h.provides point.0 in
        let places : IsOrderlyWith t (Some (record { at = p; next = h.next })) s.users = subst (λ (o : Option Provider). IsOrderlyWith t o s.users) h.provides order in
        (provider.0, in_places (place_count t p.slot.0 p.port) h.next s.users (record { at = u; linked = Some k }) k h.uses.0 places h.uses.1 h.uses.2 refl)

    user_free : (p u : Endpoint) (k : ℕ) → IsLinked (w.controllers 0).body.table p u k → (is_sap t u.slot.0 u.port ≡ true) × (is_joined (joined_at t u.slot.0 u.port u.place) ≡ false)
    user_free p u k h =
        let s : Service = h.service in
        let there = h.stands in
        let one : User = record { at = u; linked = Some k } in
        let points : IsProviderPoint t s.provider × AreUserPoints t s.users = points_at (w.controllers 0).body.table s there.0 there.1 there.2 sound.points in
        let point : IsUserPoint t u = user_at s.users one h.uses.0 h.uses.1 h.uses.2 points.1 in
        let registered : registration_in t w u ≡ Registered = (settled.users s one there h.uses).1 in
        (point.0, go point.0 point.1 registered (is_joined (joined_at t u.slot.0 u.port u.place)) refl)
      where
        go : is_sap t u.slot.0 u.port ≡ true → u.place ≡ 0 → registration_in t w u ≡ Registered → (b : Bool) → is_joined (joined_at t u.slot.0 u.port u.place) ≡ b → b ≡ false
        go sap first registered false e = refl
        go sap first registered true e =
            let none : registration_in t w u ≡ Unnamed = unnamed (owner_of t u.slot.0) u.slot.0 u.port sap (ap (λ k. is_joined (joined_at t u.slot.0 u.port k)) (sym first) ∙ e) in
            let never : Unnamed ≡ Registered = sym none ∙ registered in
            absurd cc

    pub links_free : LinksFreePlaces t (w.controllers 0).body.table
    links_free = record { providers = provider_free; users = user_free }
