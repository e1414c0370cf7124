-- Links in order of place, and where among them the link of a place stands.
use Rattle.std.specs.Prelude.{◌≡◌, ℕ, ◌+◌, ◌<◌, ◌≤◌, ◌^◌, not, nat_le, Option, option_map, List, [], ◌∷◌, length, map, filter, find, slice_index_or}
use Rattle.room_kinds.specs.declared.numbers.Endpoint.{Endpoint}
use Rattle.actor_duties.specs.State.{Link}
use Rattle.actor_duties.specs.Words.{endpoint}
use Rattle.actor_duties.specs.Links.{is_link}

-- the places of these links rise, from a number on, and have at most 32 bits
abbrev pub AreRisingFrom : ℕ → List Link → Type 0
AreRisingFrom from [] = Unit {0}
AreRisingFrom from (x ∷ rest) = (from ≤ x.place) × (x.place < 2 ^ 32) × AreRisingFrom (x.place + 1) rest

-- the places of these links rise, so that no place has two links, and have at most 32 bits
abbrev pub AreRising : List Link → Type 0
AreRising links = AreRisingFrom 0 links

-- the places of links
abbrev pub places_of : List Link → List ℕ
places_of links = map (λ (x : Link). x.place) links

-- the first link whose place is at or above one; in order of place, the one of the least such place
abbrev pub first_from : ℕ → List Link → Option Link
first_from place links = find (λ (x : Link). nat_le place x.place) links

-- its place
abbrev pub next_linked : ℕ → List Link → Option ℕ
next_linked place links = option_map (λ (x : Link). x.place) (first_from place links)

-- links but the one of a place to a peer, if it is there
abbrev pub without_link : Endpoint → ℕ → List Link → List Link
without_link peer place links = filter (λ x. not (is_link peer place x)) links

-- a link that isn't there
abbrev pub no_link : Link
no_link = record { place = 0; peer = endpoint 0 0 0 0 }

-- the place of the link that stands at an index
abbrev pub place_of : List Link → ℕ → ℕ
place_of links i = let x = slice_index_or links i no_link in x.place

-- the link of a place stands at an index
pub record IsAt (links : List Link) (place i : ℕ) : Type 0 where
  pub within : i < length links
  pub is : place_of links i ≡ place

-- no link has a place, and its link would stand at an index: lower places before it, higher ones behind
pub record IsGapFor (links : List Link) (place i : ℕ) : Type 0 where
  pub within : i ≤ length links
  pub lower : (j : ℕ) → j < i → place_of links j < place
  pub higher : (j : ℕ) → i ≤ j → j < length links → place < place_of links j
