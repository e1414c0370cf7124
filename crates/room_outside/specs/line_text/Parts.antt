-- The parts of which lines are written.
use Rattle.std.specs.Prelude.{ℕ, List, map, decimal}
use Rattle.std.specs.Fmt.{signed_decimal}
use Rattle.room_outside.specs.declared.line_text.part.Part.{Part}
use Rattle.room_outside.specs.declared.line_text.part.Part.TheVariants as parts
use Rattle.room_outside.specs.line_text.Lines.{numbers_text}

-- what a part writes
abbrev pub part_text : Part → List ℕ
part_text (parts.Text bytes) = bytes.now
part_text (parts.Number n) = decimal n
part_text (parts.Signed n) = signed_decimal n
part_text (parts.Numbers numbers) = numbers_text numbers.now

-- what some parts write, one by one
abbrev pub part_texts : List Part → List (List ℕ)
part_texts ps = map part_text ps
