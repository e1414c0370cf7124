use Rattle.std.proofs.Common.{◌≡◌, ◌<◌, ℕ, length, get_or, map}
use Rattle.std.specs.List.{range_with_len}
use Rattle.actor_duties.specs.Words.{owner_of}
use Rattle.controller_actors.specs.Rows.{own_below}
use Rattle.controller_actors.proofs.slot_rows.SlotRows.of.Given as goal

-- those below have their rows, and for each controller its own ones are counted
abbrev pub invariant-loop-number : goal.invariant-loop-number
invariant-loop-number l = record {
  rows : l.rows.items ≡ map (λ s. own_below l.wiring (owner_of l.wiring s) s) (range_with_len 0 l.number);
  controllers : length l.counts.items ≡ length l.wiring.controllers;
  counts : (k : ℕ) → k < length l.wiring.controllers → get_or l.counts.items k 0 ≡ own_below l.wiring k l.number;
}
