use Rattle.mail_seg.specs.Sides.{view, queue_of}
use Rattle.mail_seg.proofs.RuleLemmas.{pops, learns}
use Rattle.mail_seg.proofs.SideLemmas.{none_found}
use Rattle.mail_seg.proofs.shared_box.BoxPass.take.Goals as goal

pub pop_as-requires-clause-rule : goal.pop_as-requires-clause-rule
pop_as-requires-clause-rule g c = (pops c.args.self.now.pass.id (view c.args.self.now) c.requires, learns c.args.self.now.pass.id (view c.args.self.now))

pub returns-in-None : goal.returns-in-None
returns-in-None g c =
    let b = c.args.self.now in
    record { took = none_found b.to b.prio (queue_of b) (view b) c.pop_as.new.pass.me.view.client c.requires c.in-None.ensures.rule.0 c.in-None.ensures.rule.1 }
