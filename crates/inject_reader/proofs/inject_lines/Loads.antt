-- How far numbers have been read.
use Rattle.std.proofs.Common.{List, ◌++◌, Option, ℤ}
use Rattle.std.specs.Prelude.{option_map}
use Rattle.inject_reader.specs.inject_lines.Forms.{LoadForm, loaded}

-- with these numbers in front
abbrev pub with_numbers : List ℤ → Option LoadForm → Option LoadForm
with_numbers zs o = option_map (λ (l : LoadForm). loaded (zs ++ l.numbers) l.prio) o
