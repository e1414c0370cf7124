-- What a check answers.
use Rattle.std.specs.Prelude.{ℕ, List, ◌++◌, ◌≡◌, Option, Some, None, Result, Ok, Err}
use Rattle.action_program.specs.declared.fault.ActionFault.{ActionFault}
use Rattle.action_program.specs.declared.fault.ActionFault.TheVariants as faults

-- A refusal tells the first fault, or that memory ran out.
abbrev pub Tells : ActionFault → Option ActionFault → Type 0
Tells faults.Memory fault = Unit {0}
Tells faults.Syntax fault = fault ≡ Some faults.Syntax
Tells faults.UnknownName fault = fault ≡ Some faults.UnknownName
Tells faults.WrongPort fault = fault ≡ Some faults.WrongPort
Tells faults.WrongArgs fault = fault ≡ Some faults.WrongArgs
Tells faults.NestTooDeep fault = fault ≡ Some faults.NestTooDeep

-- A result is what is wanted, where there is no fault; else it tells the first fault, or that memory ran out.
abbrev pub Answers : {X Y : Type 0} → (X → Y) → Result X ActionFault → Option ActionFault → Y → Type 0
Answers view (Ok x) fault wanted = (fault ≡ None) × (view x ≡ wanted)
Answers view (Err e) fault wanted = Tells e fault

-- Nothing but new names at the end.
abbrev pub Grows : List (List ℕ) → List (List ℕ) → Type 0
Grows old new = (more : List (List ℕ)) × (new ≡ old ++ more)
