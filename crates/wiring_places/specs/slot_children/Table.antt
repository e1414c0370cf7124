-- The slots by container and reference.
use Rattle.std.specs.Prelude.{◌≡◌, ℕ, ◌+◌, ◌*◌, ◌^◌, ◌<◌, nat_eq, List, [], Option, Some, None}
use Rattle.std.specs.Global.{Vec}
use Rattle.std.specs.HashMap.{get}
use Rattle.room_wiring.specs.declared.slot.Slot.{Slot}
use Rattle.wiring_places.specs.place_rules.Parts.{children}
use Rattle.wiring_places.specs.declared.slot_children.Children.{Children}

-- the key of a reference of a container; references have numbers below 65,536
abbrev pub row_key : ℕ → ℕ → ℕ
row_key c r = c * 65536 + r

abbrev pub row_items : Option (Vec ℕ) → List ℕ
row_items None = []
row_items (Some v) = v.items

-- the row of a key
unfoldable pub row_at : Children → ℕ → List ℕ
row_at t key = row_items (get nat_eq t.rows key)

-- the slots of a reference of a container
abbrev pub children_in : Children → ℕ → ℕ → List ℕ
children_in t c r = row_at t (row_key c r)

-- The table shows the children of each reference of each container of these slots.
pub record IsTableOf (t : Children) (slots : List Slot) : Type 0 where
  pub each : (c r : ℕ) → r < 2 ^ 16 → children_in t c r ≡ children slots c r
