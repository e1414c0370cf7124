use Rattle.std.proofs.Common.{◌≡◌, take}
use Rattle.room_verify.specs.Showing.{body_at}
use Rattle.room_verify.proofs.view.Look.deferred.Given as goal

abbrev pub invariant-loop-i : goal.invariant-loop-i
invariant-loop-i l = l.kept.items ≡ take l.i ((body_at l.self).deferred l.slot.0)
