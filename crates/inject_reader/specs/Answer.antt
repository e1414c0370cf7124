-- What a text of injections asks for.
use Rattle.std.specs.Prelude.{ℕ, ◌+◌, List, [], ◌∷◌, ◌++◌, Bool, true, ◌==◌, nat_lt, if◌then◌else◌, Result, Ok, Err, length}
use Rattle.std.specs.Str.Lines.{lines}
use Rattle.room_wiring.specs.declared.tables.Tables.{Tables}
use Rattle.inject_reader.specs.declared.inject_lines.accepted.Advances.{Advances}
use Rattle.inject_reader.specs.declared.inject_lines.accepted.What.{What}
use Rattle.inject_reader.specs.declared.inject_lines.accepted.Line.{Line}
use Rattle.inject_reader.specs.Meaning.{Fault, ◌>>=◌, line_meant}

-- an empty line, or one that begins with `#`
abbrev pub is_passed_over : List ℕ → Bool
is_passed_over [] = true
is_passed_over (b ∷ bs) = b == 35

-- an accepted line under its number
abbrev pub numbered : ℕ → What → List Line
numbered n what = record { number = n; what = what } ∷ []

-- what the line of this number gives: nothing where it is passed over
unfoldable pub entry_at : Advances → Tables → ℕ → List ℕ → Result (List Line) Fault
entry_at advances t n text = if is_passed_over text then Ok [] else (line_meant advances t n text >>= λ what. Ok (numbered n what))

-- some lines and then others, or the first fault
abbrev pub joined : Result (List Line) Fault → Result (List Line) Fault → Result (List Line) Fault
joined xs ys = xs >>= λ front. ys >>= λ back. Ok (front ++ back)

-- what the lines from this number on give
abbrev pub entries_from : Advances → Tables → ℕ → List (List ℕ) → Result (List Line) Fault
entries_from advances t n [] = Ok []
entries_from advances t n (text ∷ more) = joined (entry_at advances t n text) (entries_from advances t (n + 1) more)

-- the accepted lines in order; code 6 at line 10,001 where there are more than 10,000 lines, and else the code of the first faulty line
unfoldable pub answer : Advances → Tables → List ℕ → Result (List Line) Fault
answer advances t bytes = if nat_lt 10000 (length (lines bytes)) then Err (10001, 6) else entries_from advances t 1 (lines bytes)
