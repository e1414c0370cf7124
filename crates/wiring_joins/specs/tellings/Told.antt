-- Answers on who is told.
use Rattle.std.specs.Prelude.{◌≡◌, ℕ, ◌<◌, Bool, false, List, [], length, slice_index_or, All}
use Rattle.room_wiring.specs.declared.slot.Slot.{Slot}
use Rattle.room_wiring.specs.declared.slot.Partner.{Partner}
use Rattle.wiring_places.specs.declared.place_rules.place.Place.{Place}
use Rattle.wiring_places.specs.place_rules.Partners.{is_told}

-- For each slot and each of so many controllers there is an answer, and it says whether the slot's owner tells the controller of the actors in the slot.
pub record SaysWhoIsTold (slots : List Slot) (places : List Place) (partners : List Partner) (controllers : ℕ) (told : List (List Bool)) : Type 0 where
  pub answered : length told ≡ length slots
  pub rows : All (λ (row : List Bool). length row ≡ controllers) told
  pub answers : (s d : ℕ) → s < length slots → d < controllers → slice_index_or (slice_index_or told s []) d false ≡ is_told slots places partners s d
