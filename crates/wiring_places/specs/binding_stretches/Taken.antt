-- What a table says is taken of each side.
use Rattle.std.specs.Prelude.{ℕ, nat_eq, unwrap_or}
use Rattle.std.specs.HashMap.{get}
use Rattle.wiring_places.specs.declared.binding_stretches.taken.Taken.{Taken}

-- how many places of a side, by its number, are taken
unfoldable pub taken_in : Taken → ℕ → ℕ
taken_in t side = unwrap_or (get nat_eq t.counts side) 0
