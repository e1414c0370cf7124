use Rattle.std.proofs.Common.{◌≡◌, ◌-◌, length}
use Rattle.mail_core.specs.Tied.{IsTied, StaysTied}
use Rattle.controller_mail.specs.Within.{WaitsWithin}
use Rattle.controller_mail.specs.controller_moves.Moves.{PostsFrom}
use Rattle.controller.proofs.moves.posting.post_outbox.Given as goal

abbrev pub invariant-loop-controller : goal.invariant-loop-controller
invariant-loop-controller g l =
    let log = g.M.Mail.log in
    record {
      waits : WaitsWithin ((log l.fn.end).parties - 1) l.controller.mail;
      so_far : PostsFrom l.fn.controller.me.0 ((log l.fn.end).parties - 1) l.fn.controller.mail l.controller.mail (log l.fn.end) (log l.end);
      me : l.controller.me ≡ l.fn.controller.me;
      others : l.controller ≡ record l.fn.controller { mail = l.controller.mail };
      party : (log l.end).party ≡ (log l.fn.end).party;
      parties : (log l.end).parties ≡ (log l.fn.end).parties;
      now : IsTied g.M.Mail.tied (log l.end).party l.office l.end;
      tied : StaysTied g.M.Mail.tied (log l.fn.end).party l.fn.office l.office l.fn.end l.end;
    }

abbrev pub decreases-loop-controller : goal.decreases-loop-controller
decreases-loop-controller g l = length l.controller.mail.outbox
