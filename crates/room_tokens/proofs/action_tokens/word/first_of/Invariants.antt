use Rattle.std.proofs.Common.{◌≡◌, length}
use Rattle.room_tokens.specs.action_tokens.Words.{first_of}
use Rattle.room_tokens.proofs.action_tokens.word.first_of.Given as goal

abbrev pub invariant-loop-rest : goal.invariant-loop-rest
invariant-loop-rest l = first_of l.rest l.text ≡ first_of l.words l.text

abbrev pub decreases-loop-rest : goal.decreases-loop-rest
decreases-loop-rest l = length l.rest
