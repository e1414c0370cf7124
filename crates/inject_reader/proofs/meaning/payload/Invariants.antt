use Rattle.std.proofs.Common.{◌≡◌, length, take}
use Rattle.inject_reader.specs.Meaning.{reduced_all}
use Rattle.inject_reader.proofs.meaning.payload.Given as goal

-- the first numbers, reduced
abbrev pub invariant-loop-kind : goal.invariant-loop-kind
invariant-loop-kind l = l.payload ≡ take (length l.yielded) (reduced_all l.types l.numbers)
