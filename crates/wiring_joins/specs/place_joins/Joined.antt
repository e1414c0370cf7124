-- Joined places, and what partners say of them.
use Rattle.std.specs.Prelude.{◌≡◌, ◌≢◌, ℕ, ◌+◌, ◌*◌, false, List, Some, slice_get, slice_index}
use Rattle.room_wiring.specs.declared.slot.Partner.{Partner}
use Rattle.room_wiring.specs.declared.slot.Partner.TheVariants.{Nobody}
use Rattle.number_graphs.specs.declared.face_chains.FacePair.{FacePair}
use Rattle.number_graphs.specs.face_chains.Chains.{IsPaired, Leads}
use Rattle.wiring_places.specs.declared.place_rules.place.Place.{Place}
use Rattle.wiring_places.specs.place_rules.Partners.{is_relay_role, across_places, partner_of_role}

-- a list of pairs leads from one place's outer face to the other's, changing faces at each relay place
abbrev pub IsJoined : List Place → List FacePair → ℕ → ℕ → Type 0
IsJoined places pairs i j = Leads (across_places places) pairs (2 * i) (2 * j)

-- only places that pass messages on have inner faces that are paired
abbrev pub PairsInnerFacesOfRelays : List Place → List FacePair → Type 0
PairsInnerFacesOfRelays places pairs = (f j : ℕ) → IsPaired pairs f (2 * j + 1) → slice_index (across_places places) (2 * j + 1) ≢ 2 * j + 1

-- The partner of each place that doesn't pass messages on is the one such place that it is joined to, or nobody.
pub record ShowsJoins (places : List Place) (pairs : List FacePair) (partners : List Partner) : Type 0 where
  pub joined : (i j : ℕ) (x y : Place) → slice_get places i ≡ Some x → slice_get places j ≡ Some y → is_relay_role x.role ≡ false → is_relay_role y.role ≡ false → IsJoined places pairs i j → slice_get partners i ≡ Some (partner_of_role y.role y)
  pub found : (i : ℕ) (x : Place) → slice_get places i ≡ Some x → is_relay_role x.role ≡ false → slice_get partners i ≢ Some Nobody
      → (j : ℕ) × (y : Place) × (slice_get places j ≡ Some y) × (is_relay_role y.role ≡ false) × IsJoined places pairs i j × (slice_get partners i ≡ Some (partner_of_role y.role y))
