use Rattle.std.proofs.Common.{◌≡◌, length}
use Rattle.journal_reader.specs.journal_lines.Drafts.{nothing_read}
use Rattle.journal_reader.specs.journal_lines.Reading.{reading}
use Rattle.journal_reader.proofs.journal_lines.lines.read_lines.Given as goal

abbrev pub invariant-loop-rest : goal.invariant-loop-rest
invariant-loop-rest l = reading l.names l.draft l.rest ≡ reading l.names nothing_read l.bytes

abbrev pub decreases-loop-rest : goal.decreases-loop-rest
decreases-loop-rest l = length l.rest
