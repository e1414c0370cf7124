use Rattle.std.proofs.Common.{◌≡◌, length}
use Rattle.inject_reader.specs.inject_lines.Forms.{load_in}
use Rattle.inject_reader.proofs.inject_lines.Loads.{with_numbers}
use Rattle.inject_reader.proofs.inject_lines.forms.read_load.Given as goal

abbrev pub invariant-loop-word : goal.invariant-loop-word
invariant-loop-word l = with_numbers l.numbers.items (load_in l.words) ≡ load_in l.initial.words

abbrev pub decreases-loop-word : goal.decreases-loop-word
decreases-loop-word l = length l.words
