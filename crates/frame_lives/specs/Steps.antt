-- Steps of lives, slot by slot.
use Rattle.std.specs.Prelude.{ℕ, ◌+◌, ◌==◌, ◌&&◌, Bool, true, false, not, List}
use Rattle.std.specs.List.{list_any}
use Rattle.std.specs.Option.{option_map_or}
use Rattle.room_kinds.specs.declared.numbers.Incarnation.{Incarnation}
use Rattle.room_wiring.specs.declared.tables.Tables.{Tables}
use Rattle.actor_duties.specs.Words.{updated, container_of}
use Rattle.actor_duties.specs.State.{Lives}
use Rattle.actor_duties.specs.Lives.{ends_by}

-- an actor is made in a slot, with the next generation
abbrev pub raised : ℕ → Lives → Lives
raised s l = record { generation = updated l.generation s (l.generation s + 1); lives = updated l.lives s true }

-- the actor of a slot has ended
abbrev pub ended : ℕ → Lives → Lives
ended s l = record { generation = l.generation; lives = updated l.lives s false }

-- whether a slot ends with its container
abbrev pub ends_with : Tables → ℕ → Lives → ℕ → Bool
ends_with t me l s = option_map_or (ends_by t me l s) (container_of t s) false

-- whether one of these actors is in a slot
abbrev pub is_among : List Incarnation → ℕ → Bool
is_among xs s = list_any (λ (x : Incarnation). s == x.slot.0) xs

-- lives without these actors
abbrev pub lives_without : List Incarnation → Lives → Lives
lives_without xs l = record { generation = l.generation; lives = λ s. not (is_among xs s) && l.lives s }
