use Rattle.std.proofs.Common.{◌<◌, length, refl, arith, rules}
use Rattle.std.proofs.lemmas.Option.{slice_get_read}
use Rattle.controller.proofs.Standing.{one_caught_up}
use Rattle.controller.proofs.environment.Environment.catch_up.Goals as goal

pub loop-c-init : goal.loop-c-init
loop-c-init c = record { clock = λ plant. search rules; end = omega arith }

pub loop-c-preserved : goal.loop-c-preserved
loop-c-preserved c =
    let inside : c.loop-c.c < length c.args.all.now = omega arith in
    record {
      clock = λ plant.
          one_caught_up plant c.args.all.now c.loop-c.c c.index-all-c.result c.args.self.now c.loop-c.self-inside.mail c.catch_up.new.self c.clock.result
          (slice_get_read c.args.all.now (length c.args.all.now) c.loop-c.c c.index-all-c.result refl inside c.index-all-c.is)
          c.clock.ensures (c.loop-c.invariant.clock plant) c.catch_up.ensures;
      end = c.loop-c.invariant.end;
    }
