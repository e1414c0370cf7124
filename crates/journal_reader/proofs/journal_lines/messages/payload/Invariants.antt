use Rattle.std.proofs.Common.{length}
use Rattle.journal_reader.proofs.journal_lines.NumberSteps.{IsReading}
use Rattle.journal_reader.proofs.journal_lines.messages.payload.Given as goal

abbrev pub invariant-loop-payload : goal.invariant-loop-payload
invariant-loop-payload l = IsReading l.payload l.rest l.bytes

abbrev pub decreases-loop-payload : goal.decreases-loop-payload
decreases-loop-payload l = length l.rest
