use Rattle.std.proofs.Common.{◌≡◌}
use Rattle.mail_core.specs.Tied.{IsTied}
use Rattle.bench_mail.proofs.alone.carry.Given as goal

abbrev pub invariant-loop-number : goal.invariant-loop-number
invariant-loop-number g l =
    let log = g.M.Mail.log in
    record {
      party : (log l.end).party ≡ l.party;
      parties : (log l.end).parties ≡ (log l.fn.end).parties;
      now : IsTied g.M.Mail.tied (log l.end).party l.office l.end;
    }
