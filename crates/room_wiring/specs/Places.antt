-- What the tables of a wiring say of the ports of a slot and of their places.
use Rattle.std.specs.Prelude.{ℕ, ◌+◌, Bool, false, [], length, slice_index, slice_index_or}
use Rattle.std.specs.Option.{option_map_or}
use Rattle.room_wiring.specs.declared.tables.Tables.{Tables}
use Rattle.room_wiring.specs.declared.tables.PlaceSpan.{PlaceSpan}
use Rattle.room_wiring.specs.declared.slot.Partner.{Partner}
use Rattle.room_wiring.specs.declared.slot.Partner.TheVariants.{Nobody}
use Rattle.room_wiring.specs.declared.names.ClassNames.{ClassNames}
use Rattle.room_wiring.specs.Slots.{class_of}

-- how many ports a slot has: those of its class, `frame` among them
unfoldable pub port_count : Tables → ℕ → ℕ
port_count t s = option_map_or (λ (c : ClassNames). length c.ports) (class_of t s) 0

-- no places
abbrev pub no_places : PlaceSpan
no_places = record { first = 0; count = 0 }

-- where the places of a port of a slot stand in the table of partners
unfoldable pub span_at : Tables → ℕ → ℕ → PlaceSpan
span_at t s p = slice_index_or t.ports (slice_index t.first_ports s + p) no_places

-- how many places a port of a slot has
unfoldable pub place_count : Tables → ℕ → ℕ → ℕ
place_count t s p = (span_at t s p).count

-- what a place of a port of a slot is joined to
unfoldable pub partner_at : Tables → ℕ → ℕ → ℕ → Partner
partner_at t s p k = slice_index_or t.partners ((span_at t s p).first + k) Nobody

-- whether a slot's owner tells a controller of the actors in the slot
unfoldable pub is_told : Tables → ℕ → ℕ → Bool
is_told t s d = slice_index_or (slice_index_or t.told s []) d false
