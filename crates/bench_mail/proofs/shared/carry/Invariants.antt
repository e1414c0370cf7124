use Rattle.std.proofs.Common.{◌≡◌}
use Rattle.mail_seg.specs.Ends.{log_of}
use Rattle.bench_mail.proofs.shared.carry.Given as goal

abbrev pub invariant-loop-number : goal.invariant-loop-number
invariant-loop-number g l = record { party : (log_of l.end).party ≡ 0; parties : (log_of l.end).parties ≡ 2 }
