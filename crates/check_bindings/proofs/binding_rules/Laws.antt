-- What the names in bindings and layer connections find stands under them.
use Rattle.std.proofs.Common.{◌≡◌, ℕ, suc, ◌+◌, ◌<◌, Bool, true, false, cond, not, nat_lt, List, [], ◌∷◌, length, Option, Some, None, refl, sym, ap, arith}
use Rattle.std.specs.Prelude.{slice_get, position, option_and_then}
use Rattle.std.specs.List.{position_or_len}
use Rattle.std.proofs.lemmas.Bool.Decides.{nat_tests}
use lib.Pointwise.{bytes_decides}
use Rattle.name_tables.specs.name_numbers.Names.{same}
use Rattle.room_ast.specs.declared.model_parts.entries.PortEntry.{PortEntry}
use Rattle.room_ast.specs.declared.model_parts.entries.ReferenceEntry.{ReferenceEntry}
use Rattle.check_tables.specs.declared.class_tables.container.Container.{Container}
use Rattle.check_bindings.specs.binding_rules.Parts.{port_named, reference_named}

at_first : (name : List ℕ) (xs : List (List ℕ)) → position_or_len (same name) xs < length xs → slice_get xs (position_or_len (same name) xs) ≡ Some name
at_first name [] lt = absurd (omega arith)
at_first name (x ∷ xs) lt = go (same name x) refl lt (λ h. at_first name xs h)
  where
    go : (b : Bool) → same name x ≡ b → cond (not b) (1 + position_or_len (same name) xs) 0 < suc (length xs) → (position_or_len (same name) xs < length xs → slice_get xs (position_or_len (same name) xs) ≡ Some name) → slice_get (x ∷ xs) (cond (not b) (1 + position_or_len (same name) xs) 0) ≡ Some name
    go true e h rest = ap Some (sym ((bytes_decides name x).0 e))
    go false e h rest = let n : 1 + position_or_len (same name) xs ≡ suc (position_or_len (same name) xs) = omega arith in rw n (rest (omega arith))

-- the name stands at the place that is found
pub at_position : (name : List ℕ) (xs : List (List ℕ)) (n : ℕ) → position (same name) xs ≡ Some n → slice_get xs n ≡ Some name
at_position name xs n e = go (nat_lt (position_or_len (same name) xs) (length xs)) refl e
  where
    go : (b : Bool) → nat_lt (position_or_len (same name) xs) (length xs) ≡ b → cond b (Some (position_or_len (same name) xs)) None ≡ Some n → slice_get xs n ≡ Some name
    go true t h = let is : position_or_len (same name) xs ≡ n = cc in rw (← is) (at_first name xs (grind (arith, nat_tests)))
    go false t h = absurd cc

found : {X : Type 0} (xs : List X) (o : Option ℕ) (x : X) → option_and_then (slice_get xs) o ≡ Some x → (n : ℕ) × (o ≡ Some n) × (slice_get xs n ≡ Some x)
found xs None x h = absurd cc
found xs (Some n) x h = (n, refl, h)

-- A port that is found by its name has the number under which the name stands.
pub port_has_name : (c : Container) (name : List ℕ) (p : PortEntry) → port_named c name ≡ Some p → (n : ℕ) × (slice_get c.port_names n ≡ Some name) × (slice_get c.ports n ≡ Some p)
port_has_name c name p h = let w = found c.ports (position (same name) c.port_names) p h in (w.0, at_position name c.port_names w.0 w.1, w.2)

-- A reference that is found by its name has the number under which the name stands.
pub reference_has_name : (c : Container) (name : List ℕ) (r : ReferenceEntry) → reference_named c name ≡ Some r → (n : ℕ) × (slice_get c.reference_names n ≡ Some name) × (slice_get c.references n ≡ Some r)
reference_has_name c name r h = let w = found c.references (position (same name) c.reference_names) r h in (w.0, at_position name c.reference_names w.0 w.1, w.2)
