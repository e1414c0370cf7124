-- What a reader answers, beside what its definition gives.
use Rattle.std.specs.Prelude.{◌≡◌, List, Result, Ok, Err}
use Rattle.inject_reader.specs.declared.inject_lines.accepted.Line.{Line}
use Rattle.inject_reader.specs.declared.fault.InjectFault.{InjectFault}
use Rattle.inject_reader.specs.declared.fault.InjectFault.TheVariants as faults
use Rattle.inject_reader.specs.LineFaults.{code_of}
use Rattle.inject_reader.specs.Meaning.{Fault}
use Rattle.inject_reader.specs.Answer.{joined}

-- the fault that the definition gives, or want of memory
abbrev pub Fails : {Y : Type 0} → InjectFault → Result Y Fault → Type 0
Fails faults.Memory read = Unit {0}
Fails (faults.Code line fault) read = read ≡ Err (line, code_of fault)

-- what the definition gives, seen by view, unless memory ran out
abbrev pub Gives : {X Y : Type 0} → (X → Y) → Result X InjectFault → Result Y Fault → Type 0
Gives view (Ok x) read = read ≡ Ok (view x)
Gives view (Err e) read = Fails e read

-- what the definition gives was put behind the lines, unless memory ran out
abbrev pub Adds : Result Unit InjectFault → List Line → List Line → Result (List Line) Fault → Type 0
Adds (Ok done) old new read = joined (Ok old) read ≡ Ok new
Adds (Err e) old new read = Fails e read
