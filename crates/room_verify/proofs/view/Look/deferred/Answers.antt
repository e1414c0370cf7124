use Rattle.std.proofs.Common.{◌≡◌, ◌∙◌, ◌++◌, ◌∷◌, [], List, Some, slice_get, sym, ap}
use Rattle.room_kinds.specs.declared.message.Msg.{Msg}
use Rattle.room_verify.specs.Showing.{body_at}
use Rattle.room_verify.proofs.ViewLaw.{take_next}
use Rattle.room_verify.proofs.view.Look.deferred.Goals as goal

pub loop-i-preserved : goal.loop-i-preserved
loop-i-preserved c =
    let kept = (body_at c.args.self.now).deferred c.args.slot.0 in
    let there : slice_get kept c.loop-i.i ≡ Some c.in-Some.msg.now = sym (rw c.in-Some.is at c.deferred_at.ensures) in
    c.in_ok-push-in-Some.ensures.items ∙ ap (λ (z : Msg). c.loop-i.kept.items ++ z ∷ []) c.in_ok-copy-in-Some.ensures
    ∙ ap (λ (z : List Msg). z ++ c.in-Some.msg.now ∷ []) c.loop-i.invariant
    ∙ take_next kept c.loop-i.i c.in-Some.msg.now there
