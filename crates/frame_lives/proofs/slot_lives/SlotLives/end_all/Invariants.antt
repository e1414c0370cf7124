use Rattle.std.proofs.Common.{◌≡◌, drop}
use Rattle.frame_lives.specs.Known.{Known}
use Rattle.frame_lives.specs.Shown.{shown, with_lives}
use Rattle.frame_lives.specs.Steps.{lives_without}
use Rattle.frame_lives.proofs.slot_lives.SlotLives.end_all.Given as goal

abbrev pub invariant-loop-actor : goal.invariant-loop-actor
invariant-loop-actor l = record {
  slots : (shown l.self).slots ≡ (shown l.initial.self).slots;
  so_far : ◌≡◌ {A = Known}
      (with_lives (shown l.initial.self) (lives_without l.ended (shown l.initial.self).lives))
      (with_lives (shown l.self) (lives_without (drop l.actor-index l.ended) (shown l.self).lives));
}
