use Rattle.std.proofs.Common.{◌∙◌}
use Rattle.wiring_places.proofs.binding_stretches.Steps.{stretches_more, taken_more, taken_within, stretches_end, taken_end}
use Rattle.wiring_places.proofs.binding_stretches.class.stretches_of.Goals as goal

pub take_both-requires : goal.take_both-requires
take_both-requires c = λ side. taken_within _ _ _ _ _ _ _ _ _ c.loop-binding-test.true c.stretch-next.ensures c.loop-binding.invariant.taken c.requires side

pub loop-binding-preserved : goal.loop-binding-preserved
loop-binding-preserved c = record {
  stretches = stretches_more _ _ _ _ _ _ _ _ _ _ c.loop-binding-test.true c.stretch-next.ensures c.in_ok-take_both.ensures c.in_ok-push.ensures.items ∙ c.loop-binding.invariant.stretches;
  taken = taken_more _ _ _ _ _ _ _ _ c.loop-binding-test.true c.stretch-next.ensures c.in_ok-take_both.ensures ∙ c.loop-binding.invariant.taken;
}

pub returns-clause-stretches : goal.returns-clause-stretches
returns-clause-stretches c = stretches_end _ _ _ _ _ _ c.loop-binding-test.false ∙ c.loop-binding.invariant.stretches

pub returns-clause-taken : goal.returns-clause-taken
returns-clause-taken c = taken_end _ _ _ _ _ c.loop-binding-test.false ∙ c.loop-binding.invariant.taken
