use Rattle.mail_core.specs.Tied.{StaysTied}
use Rattle.model_run.specs.part_posts.Posting.{PostsUpTo}
use Rattle.model_run.proofs.part_posts.posting.post_part.Given as goal

abbrev pub invariant-loop-at : goal.invariant-loop-at
invariant-loop-at g l = record {
  posts : PostsUpTo l.plant l.part l.at l.fn.environment l.environment (g.M.Mail.log l.fn.end) (g.M.Mail.log l.end);
  tied : StaysTied g.M.Mail.tied (g.M.Mail.log l.fn.end).party l.fn.office l.office l.fn.end l.end;
}
