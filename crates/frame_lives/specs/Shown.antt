-- What the rows of a table of slots say.
use Rattle.std.specs.Prelude.{ℕ, List, false, length, slice_index_or}
use Rattle.actor_duties.specs.Words.{updated}
use Rattle.actor_duties.specs.State.{Lives}
use Rattle.frame_lives.specs.declared.row.Row.{Row}
use Rattle.frame_lives.specs.Known.{Known}

-- the row of a slot in which nothing ever stood
abbrev pub no_row : Row
no_row = record { generation = 0; lives = false; told = 0 }

abbrev pub row_of : List Row → ℕ → Row
row_of rows s = slice_index_or rows s no_row

-- what rows say
unfoldable pub shown : List Row → Known
shown rows = record {
  slots = length rows;
  lives = record { generation = λ s. (row_of rows s).generation; lives = λ s. (row_of rows s).lives };
  told = λ s. (row_of rows s).told;
}

-- the same with other lives
abbrev pub with_lives : Known → Lives → Known
with_lives k l = record k { lives = l }

-- the same with another directory
abbrev pub with_told : Known → (ℕ → ℕ) → Known
with_told k told = record k { told = told }

-- the same with another row for a slot
abbrev pub with_row : ℕ → Row → Known → Known
with_row s r k = record {
  slots = k.slots;
  lives = record { generation = updated k.lives.generation s r.generation; lives = updated k.lives.lives s r.lives };
  told = updated k.told s r.told;
}
