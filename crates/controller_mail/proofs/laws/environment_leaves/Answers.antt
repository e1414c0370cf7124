use Rattle.controller_mail.proofs.Replaying.{environment_leaves, post_taken_back}
use Rattle.controller_mail.proofs.laws.environment_leaves.Goals as goal

pub returns-clause-post : goal.returns-clause-post
returns-clause-post g c = environment_leaves

pub returns-clause-back : goal.returns-clause-back
returns-clause-back g c = post_taken_back
