use Rattle.std.proofs.Common.{◌≡◌, ℕ, ◌<◌, false}
use Rattle.std.specs.List.{list_any}
use Rattle.actor_duties.specs.Words.{places_of}
use Rattle.actor_duties.specs.Imports.{is_taken_at}
use Rattle.frame_service.proofs.frame_imports.ports.is_port_taken.Given as goal

abbrev pub invariant-loop-number : goal.invariant-loop-number
invariant-loop-number l =
    (k : ℕ) → k < l.number → list_any (is_taken_at l.fn.wiring l.fn.plugs l.fn.import l.fn.home k) (places_of l.fn.wiring l.fn.import.slot.0 k) ≡ false
