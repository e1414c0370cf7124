use Rattle.model_run.proofs.part_posts.injected.message_from_outside.Goals as goal

pub returns-clause-to : goal.returns-clause-to
returns-clause-to c = c.slot.ensures.consistent.owners_known c.args.target.slot.0 c.slot.result.now c.slot.ensures.slot
