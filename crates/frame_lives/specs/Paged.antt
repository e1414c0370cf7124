-- Rows of slots in pages.
use Rattle.std.specs.Prelude.{ℕ, List, false, map}
use Rattle.std.specs.List.{range_with_len}
use Rattle.frame_lives.specs.declared.row.Row.{Row}
use Rattle.frame_lives.specs.Shown.{no_row}
use Rattle.frame_lives.specs.Items.{item_in}

-- a row after its actor has ended
abbrev pub without_life : Row → Row
without_life r = record r { lives = false }

-- the row at a place of pages
abbrev pub row_in : List (List Row) → ℕ → Row
row_in = item_in no_row

-- the rows of so many slots
abbrev pub rows_in : ℕ → List (List Row) → List Row
rows_in count pages = map (row_in pages) (range_with_len 0 count)
