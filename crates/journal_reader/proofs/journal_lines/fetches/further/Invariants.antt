use Rattle.std.proofs.Common.{◌≡◌, length}
use Rattle.journal_reader.specs.journal_lines.Fetches.{further}
use Rattle.journal_reader.proofs.journal_lines.fetches.further.Given as goal

abbrev pub invariant-loop-rest : goal.invariant-loop-rest
invariant-loop-rest l = further (length l.rest) l.names l.draft l.before l.rest ≡ further (length l.fn.rest) l.names l.initial.draft l.fn.first l.fn.rest

abbrev pub decreases-loop-rest : goal.decreases-loop-rest
decreases-loop-rest l = length l.rest
