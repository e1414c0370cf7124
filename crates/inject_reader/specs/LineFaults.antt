-- The codes of faulty lines.
use Rattle.std.specs.Prelude.{ℕ}
use Rattle.inject_reader.specs.declared.line_fault.LineFault.{LineFault}
use Rattle.inject_reader.specs.declared.line_fault.LineFault.TheVariants as faults

-- the code by which a fault of a line is told
abbrev pub code_of : LineFault → ℕ
code_of faults.NoForm = 1
code_of faults.NoSlot = 2
code_of faults.NoEnd = 3
code_of faults.NoSignal = 4
code_of faults.OtherNumbers = 5
code_of faults.TooManyLines = 6
code_of faults.NoTime = 7
