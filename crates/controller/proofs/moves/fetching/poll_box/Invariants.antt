use Rattle.std.proofs.Common.{◌≡◌}
use Rattle.mail_core.specs.Tied.{IsTied, StaysTied}
use Rattle.controller.proofs.Polling.{Fetching}
use Rattle.controller.proofs.moves.fetching.poll_box.Given as goal

abbrev pub invariant-loop-look : goal.invariant-loop-look
invariant-loop-look g l =
    let log = g.M.Mail.log in
    record {
      fetching : Fetching g.M.Mail.in_box l.b l._look l.fn.controller.mail l.controller.mail (log l.fn.end) (log l.end);
      others : l.controller ≡ record l.fn.controller { mail = l.controller.mail };
      party : (log l.end).party ≡ (log l.fn.end).party;
      parties : (log l.end).parties ≡ (log l.fn.end).parties;
      now : IsTied g.M.Mail.tied (log l.end).party l.office l.end;
      tied : StaysTied g.M.Mail.tied (log l.fn.end).party l.fn.office l.office l.fn.end l.end;
    }
