use Rattle.controller_mail.proofs.Replaying.{start_leaves, fetch_leaves, turn_leaves, post_leaves}
use Rattle.controller_mail.proofs.laws.mail_leaves.Goals as goal

pub returns-clause-start : goal.returns-clause-start
returns-clause-start g c = start_leaves

pub returns-clause-fetch : goal.returns-clause-fetch
returns-clause-fetch g c = fetch_leaves

pub returns-clause-turn : goal.returns-clause-turn
returns-clause-turn g c = turn_leaves

pub returns-clause-post : goal.returns-clause-post
returns-clause-post g c = post_leaves
