-- Names found in a scope.
use Rattle.std.specs.Prelude.{ℕ, ◌+◌, Bool, List, [], ◌∷◌, length, Option, Some, None, nat_eq, if◌then◌else◌}
use lib.Pointwise.{pointwise}
use Rattle.room_ast.specs.declared.scope.Scope.{Scope}
use Rattle.room_ast.specs.declared.scope.ScopeAttribute.{ScopeAttribute}
use Rattle.room_ast.specs.declared.scope.ScopePort.{ScopePort}
use Rattle.room_ast.specs.declared.scope.ScopeReference.{ScopeReference}
use Rattle.room_ast.specs.declared.scope.ScopeSignal.{ScopeSignal}

-- Whether two names have the same bytes.
abbrev pub same_name : List ℕ → List ℕ → Bool
same_name a b = pointwise nat_eq a b

-- Whether two dotted names have the same parts.
abbrev pub same_path : List (List ℕ) → List (List ℕ) → Bool
same_path a b = pointwise same_name a b

-- The first item that passes, and its number, where the list is numbered from k.
abbrev pub found_at : {A : Type 0} → (A → Bool) → ℕ → List A → Option (ℕ × A)
found_at passes k [] = None
found_at passes k (x ∷ xs) = if passes x then Some (k, x) else found_at passes (k + 1) xs

-- The number of the class that a dotted name names.
abbrev pub found_attribute : Scope → List (List ℕ) → Option (ℕ × ScopeAttribute)
found_attribute scope path = found_at (λ a. same_path a.path.items path) 0 scope.attributes.items

-- The port of a name.
abbrev pub found_port : Scope → List ℕ → Option (ℕ × ScopePort)
found_port scope name = found_at (λ p. same_name p.name name) 0 scope.ports.items

-- The reference of a name.
abbrev pub found_reference : Scope → List ℕ → Option (ℕ × ScopeReference)
found_reference scope name = found_at (λ r. same_name r.name name) 0 scope.references.items

-- The signal of a name, among signals that are numbered from k.
abbrev pub found_signal : ℕ → List ScopeSignal → List ℕ → Option (ℕ × ScopeSignal)
found_signal k signals name = found_at (λ s. same_name s.name name) k signals

-- The message of a name that goes out at a port.
abbrev pub found_sent : ScopePort → List ℕ → Option (ℕ × ScopeSignal)
found_sent p name = if p.conjugated then found_signal 0 p.incoming name else found_signal (length p.incoming) p.outgoing name

-- The message of a name that comes in at a port.
abbrev pub found_received : ScopePort → List ℕ → Option (ℕ × ScopeSignal)
found_received p name = if p.conjugated then found_signal (length p.incoming) p.outgoing name else found_signal 0 p.incoming name
