use Rattle.std.proofs.Common.{◌≡◌, ℕ, ◌<◌, false}
use Rattle.actor_duties.specs.Imports.{is_taken_at}
use Rattle.frame_service.proofs.frame_imports.ports.is_any_place_taken.Given as goal

abbrev pub invariant-loop-place : goal.invariant-loop-place
invariant-loop-place l = (k : ℕ) → k < l.place → is_taken_at l.fn.wiring l.fn.plugs l.fn.import l.fn.home l.fn.port k ≡ false
