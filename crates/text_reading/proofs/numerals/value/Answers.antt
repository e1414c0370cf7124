use Rattle.std.proofs.Common.{arith}
use Rattle.text_reading.specs.declared.numerals.TheConstants.{MOST}
use Rattle.text_reading.proofs.Values.{value_goes_on}
use Rattle.text_reading.proofs.numerals.value.Goals as goal

pub loop-digit-preserved : goal.loop-digit-preserved
loop-digit-preserved c = record {
  meant = value_goes_on MOST c.loop-digit.value c.next_value-value.result c.loop-digit.digit-index _ c.args.digits.now c.loop-digit-test.true c.loop-digit.invariant.meant c.next_value-value.ensures;
  small = omega arith;
}
