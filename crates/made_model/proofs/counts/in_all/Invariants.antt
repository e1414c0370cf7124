use Rattle.std.proofs.Common.{◌≡◌, ◌*◌, ◌^◌, ◌≤◌, take}
use Rattle.made_model.specs.Counts.{in_all}
use Rattle.made_model.proofs.counts.in_all.Given as goal

abbrev pub invariant-loop-journal : goal.invariant-loop-journal
invariant-loop-journal l = (l.total ≡ in_all l.what (take l.journal-index l.journals)) × (l.total ≤ l.journal-index * 2 ^ 63)
