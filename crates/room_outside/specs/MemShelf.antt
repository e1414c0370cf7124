-- A shelf in memory.
use Rattle.std.specs.Prelude.{ℕ, ◌-◌, List, [], length, min, Option, None, Some, is_some, if◌then◌else◌, slice_index, slice_set, unwrap_or}
use Rattle.room_outside.specs.Calls.{Calls, after_call, next_fails}
use Rattle.room_outside.specs.Faults.{one_more}
use Rattle.room_outside.specs.Files.{text_under, place_of}
use Rattle.room_outside.specs.Shown.{Shown}

-- the files, a count of faults for each and a last one for all other names, and the calls
pub record ShelfState : Type 0 where
  pub files : List (List ℕ × List ℕ)
  pub counts : List ℕ
  pub calls : Calls

-- the count of a name
abbrev pub count_of : ShelfState → List ℕ → ℕ
count_of s name = slice_index s.counts (place_of s.files name)

-- every text is told
abbrev pub shown_by : ShelfState → Shown
shown_by s = record { text = text_under s.files; faults = count_of s }

-- the text that the next call reads from, if it doesn't fail
abbrev pub readable : ShelfState → List ℕ → Option (List ℕ)
readable s name = if next_fails s.calls then None else text_under s.files name

-- the shelf with one more fault of a name
abbrev pub raised : ShelfState → List ℕ → ShelfState
raised s name = record s { counts = slice_set s.counts (place_of s.files name) (one_more (count_of s name)) }

-- the shelf after a read
abbrev pub after_read : ShelfState → List ℕ → ShelfState
after_read s name =
    let after : ShelfState = record s { calls = after_call s.calls } in
    if is_some (readable s name) then after else raised after name

-- how many bytes from an offset on fit in a buffer
abbrev pub that_fit : List ℕ → ℕ → List ℕ → ℕ
that_fit text from buffer = min (length buffer) (length text - from)

-- files without faults: a name without a file has the empty text
abbrev pub sure_text : List (List ℕ × List ℕ) → List ℕ → List ℕ
sure_text files name = unwrap_or (text_under files name) []

abbrev pub shown_surely : List (List ℕ × List ℕ) → Shown
shown_surely files = record { text = λ name. Some (sure_text files name); faults = λ _. 0 }
