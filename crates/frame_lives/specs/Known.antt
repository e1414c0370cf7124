-- What a controller knows of the actors in slots: which of its own live, and what the owners of other
-- slots told of theirs.
use Rattle.std.specs.Prelude.{ℕ, ◌==◌, Option, Some, None, if◌then◌else◌}
use Rattle.room_kinds.specs.declared.numbers.Generation.{Generation}
use Rattle.room_wiring.specs.declared.tables.Tables.{Tables}
use Rattle.actor_duties.specs.Words.{is_own}
use Rattle.actor_duties.specs.State.{Lives}
use Rattle.actor_duties.specs.Lives.{standing}

-- for so many slots: the lives of the controller's own, and the generations told, 0 for none
pub record Known : Type 0 where
  pub slots : ℕ
  pub lives : Lives
  pub told : ℕ → ℕ

-- the generation that lives in a slot
abbrev pub live_in : Lives → ℕ → Option Generation
live_in l s = if l.lives s then Some (record { 0 = l.generation s }) else None

-- the generation that is known in a slot, 0 for none: what lives there if it is the controller's own,
-- else what was told
unfoldable pub known_in : Tables → ℕ → Known → ℕ → ℕ
known_in t me k s = if is_own t me s then standing k.lives s else k.told s

-- a generation, if it isn't 0
abbrev pub some_generation : ℕ → Option Generation
some_generation n = if n == 0 then None else Some (record { 0 = n })
