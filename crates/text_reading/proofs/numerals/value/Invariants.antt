use Rattle.std.proofs.Common.{◌≡◌, ◌≤◌, min, drop}
use Rattle.text_reading.specs.declared.numerals.TheConstants.{MOST}
use Rattle.text_reading.specs.Numerals.{value_from}
use Rattle.text_reading.proofs.numerals.value.Given as goal

abbrev pub invariant-loop-digit : goal.invariant-loop-digit
invariant-loop-digit l = record {
  meant : min (value_from l.value (drop l.digit-index l.digits)) MOST ≡ min (value_from 0 l.digits) MOST;
  small : l.value ≤ MOST;
}
