use Rattle.std.proofs.Common.{◌≡◌}
use Rattle.mail_seg.specs.Ends.{log_of}
use Rattle.bench_mail.proofs.shared.receive.Given as goal

abbrev pub invariant-loop-look : goal.invariant-loop-look
invariant-loop-look g l = record { party : (log_of l.end).party ≡ 1; parties : (log_of l.end).parties ≡ 3 }
