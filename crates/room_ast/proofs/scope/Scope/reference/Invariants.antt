use Rattle.std.proofs.Common.{◌≡◌, drop}
use Rattle.room_ast.specs.Found.{found_at, same_name, found_reference}
use Rattle.room_ast.proofs.scope.Scope.reference.Given as goal

-- what was passed isn't it
abbrev pub invariant-loop-i : goal.invariant-loop-i
invariant-loop-i l = found_at (λ x. same_name x.name l.name) l.i (drop l.i l.self.references.items) ≡ found_reference l.self l.name
