use Rattle.std.proofs.Common.{◌∙◌}
use Rattle.mail_seg.specs.Sides.{view}
use Rattle.mail_seg.proofs.RuleLemmas.{pushes}
use Rattle.mail_seg.proofs.SideLemmas.{one_post}
use Rattle.mail_seg.proofs.shared_box.BoxPass.post.Goals as goal

pub push_as-requires-clause-rule : goal.push_as-requires-clause-rule
push_as-requires-clause-rule g c =
    let v = view c.args.self.now in
    let one = one_post c.args.self.now.to c.args.self.now.prio c.args.m.from.0 v.posts c.requires.party in
    λ n. pushes n c.args.self.now.pass.id v one.0 c.new.result one.1 (c.new.ensures.from ∙ one.2)
