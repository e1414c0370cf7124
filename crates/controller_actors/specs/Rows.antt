-- The rows of a controller's table: one for each slot that it owns, in the order of the slots.
use Rattle.std.specs.Prelude.{◌≡◌, ℕ, true, List, map}
use Rattle.std.specs.Coded.{Coded-set, coded_list, coded_ℕ}
use Rattle.std.specs.List.{count_by, range_with_len}
use Rattle.room_wiring.specs.declared.tables.Tables.{Tables as Wiring}
use Rattle.actor_duties.specs.Words.{is_own, owner_of, slots_of}

-- how many of the slots below a number a controller owns
unfoldable pub own_below : Wiring → ℕ → ℕ → ℕ
own_below t me n = count_by (is_own t me) (range_with_len 0 n)

-- for each slot its row in its owner's table: how many of the slots below it have the same owner
abbrev pub slot_rows : Wiring → List ℕ
slot_rows t = map (λ s. own_below t (owner_of t s) s) (slots_of t)

-- these are the rows of the slots of a wiring
abbrev pub AreRows : Wiring → List ℕ → Type 0
AreRows t rows = rows ≡ slot_rows t

-- a number is the row of a slot in its owner's table
abbrev pub IsRowOf : Wiring → ℕ → ℕ → Type 0
IsRowOf t s row = (me : ℕ) → is_own t me s ≡ true → row ≡ own_below t me s

-- a plant carries that it has the rows of its slots, so this has one proof at most
pub AreRows-prop : (t : Wiring) (rows : List ℕ) → IsProp (AreRows t rows)
AreRows-prop t rows = Coded-set (coded_list coded_ℕ) rows (slot_rows t)
