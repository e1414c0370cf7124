-- How contracts see references to systems.
use Rattle.std.specs.Prelude.{List, map}
use Rattle.std.specs.Borrow.{Bor}
use Rattle.room_ast.specs.declared.system.System.{System}

-- The systems to which references point.
abbrev pub systems_in : List (Bor System) → List System
systems_in refs = map (λ (r : Bor System). r.now) refs
