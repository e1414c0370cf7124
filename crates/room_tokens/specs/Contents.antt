-- What the texts of STRINGs and BLOCKs contain.
use Rattle.std.specs.Prelude.{ℕ, ◌-◌, List, [], ◌∷◌, ◌++◌, length, take, drop, min, Option, Some, None, option_to_list, Bool, true, false, ◌==◌, if◌then◌else◌}

-- what stands between so many bytes at the front and at the end
abbrev pub inside : ℕ → List ℕ → List ℕ
inside k text = take (length (drop (min k (length text)) text) - k) (drop (min k (length text)) text)

-- What a byte of a STRING stands for: nothing where it is a backslash that takes the next one. A line feed is written `\n`.
abbrev pub written : Bool → ℕ → Option ℕ
written true b = Some (if b == 110 then 10 else b)
written false b = if b == 92 then None else Some b

-- whether a byte takes the next one
abbrev pub takes : Bool → ℕ → Bool
takes true b = false
takes false b = b == 92

-- what bytes of a STRING stand for, where the byte before them takes the first, or not
unfoldable pub unescaped : Bool → List ℕ → List ℕ
unescaped taken [] = []
unescaped taken (b ∷ bs) = option_to_list (written taken b) ++ unescaped (takes taken b) bs

-- the contents of a STRING, between its quotes
unfoldable pub string_contents : List ℕ → List ℕ
string_contents text = unescaped false (inside 1 text)

-- the contents of a BLOCK, between three single quotes and three
unfoldable pub block_contents : List ℕ → List ℕ
block_contents text = inside 3 text
