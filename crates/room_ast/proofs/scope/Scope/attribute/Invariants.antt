use Rattle.std.proofs.Common.{◌≡◌, drop}
use Rattle.room_ast.specs.Found.{found_at, same_path, found_attribute}
use Rattle.room_ast.proofs.scope.Scope.attribute.Given as goal

-- what was passed isn't it
abbrev pub invariant-loop-i : goal.invariant-loop-i
invariant-loop-i l = found_at (λ x. same_path x.path.items l.path) l.i (drop l.i l.self.attributes.items) ≡ found_attribute l.self l.path
