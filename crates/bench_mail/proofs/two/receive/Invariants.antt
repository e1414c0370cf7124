use Rattle.std.proofs.Common.{◌≡◌}
use Rattle.mail_core.specs.Tied.{IsTied}
use Rattle.bench_mail.proofs.two.receive.Given as goal

abbrev pub invariant-loop-look : goal.invariant-loop-look
invariant-loop-look g l =
    let log = g.M.Mail.log in
    record {
      party : (log l.end).party ≡ (log l.fn.end).party;
      parties : (log l.end).parties ≡ (log l.fn.end).parties;
      now : IsTied g.M.Mail.tied (log l.end).party tt l.end;
    }
