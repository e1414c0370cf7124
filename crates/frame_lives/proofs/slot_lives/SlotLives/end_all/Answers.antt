use Rattle.std.proofs.Common.{ap, ◌∙◌}
use Rattle.frame_lives.specs.Known.{Known}
use Rattle.frame_lives.specs.Shown.{shown}
use Rattle.frame_lives.proofs.Gone.{without_next}
use Rattle.frame_lives.proofs.slot_lives.SlotLives.end_all.Goals as goal

pub loop-actor-preserved : goal.loop-actor-preserved
loop-actor-preserved c = record {
  slots = ap (λ (k : Known). k.slots) c.end.ensures ∙ c.loop-actor.invariant.slots;
  so_far =
      without_next (shown c.args.self.now) (shown c.loop-actor.self) (shown c.end.new.self) c.args.ended.now c.loop-actor.actor-index _
      c.loop-actor-test.true c.end.ensures c.loop-actor.invariant.so_far;
}
