use Rattle.std.proofs.Common.{refl}
use Rattle.room_verify.specs.Heads.{left_of_party}
use Rattle.room_verify.proofs.HeadLaw.{next_first}
use Rattle.room_verify.proofs.heads.next_head.Goals as goal

pub loop-party-preserved : goal.loop-party-preserved
loop-party-preserved c = record {
  first =
      next_first (left_of_party c.args.j.now c.args.passed.now) c.loop-party.party c.loop-party.next c.head_of.result c.earlier-next.result c.loop-party.invariant.first c.head_of.ensures
      c.earlier-next.ensures;
  end = refl;
}
