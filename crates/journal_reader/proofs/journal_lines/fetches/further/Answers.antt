use Rattle.std.proofs.Common.{◌<◌, length, ap, arith}
use Rattle.std.proofs.lemmas.Bool.Decides.{nat_tests}
use Rattle.journal_reader.proofs.journal_lines.NumberSteps.{past_shorter}
use Rattle.journal_reader.proofs.journal_lines.FetchSteps.{further_goes_on}
use Rattle.journal_reader.proofs.journal_lines.fetches.further.Goals as goal

pub loop-rest-smaller : goal.loop-rest-smaller
loop-rest-smaller c =
    let some : 0 < length c.loop-rest.rest = grind (arith, nat_tests) in
    omega (arith, ap length c.take_until.ensures.rest, past_shorter 32 c.loop-rest.rest some)

pub loop-rest-preserved : goal.loop-rest-preserved
loop-rest-preserved c =
    let some : 0 < length c.loop-rest.rest = grind (arith, nat_tests) in
    further_goes_on _ _ _ _ _ _ _ _ _ _ c.loop-rest.invariant some c.take_until.ensures.taken c.take_until.ensures.rest c.outline-msg.ensures
    c.fetched_after-before.ensures c.in_ok-enter.ensures
