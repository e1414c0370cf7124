-- Names, digits and paths in a line.
use Rattle.std.specs.Prelude.{ℕ, List, Bool, true, ◌&&◌, ◌==◌}
use Rattle.std.specs.List.{list_all, slice_split}
use Rattle.std.specs.Option.{option_map_or}
use Rattle.room_wiring.specs.WellNamed.{is_ident}
use Rattle.text_reading.specs.Cuts.{cut_at}
use Rattle.text_reading.specs.Numerals.{are_digits}

-- a name, or a name with an index: `name:12`
unfoldable pub is_segment : List ℕ → Bool
is_segment text = is_ident (cut_at 58 text).0 && option_map_or are_digits (cut_at 58 text).1 true

-- segments joined by `/`
unfoldable pub is_path : List ℕ → Bool
is_path text = list_all is_segment (slice_split (λ b. b == 47) text)
