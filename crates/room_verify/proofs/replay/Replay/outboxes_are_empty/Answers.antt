use Rattle.std.proofs.Common.{List, not, ap, ◌∙◌}
use Rattle.std.specs.List.{list_any}
use Rattle.controller.specs.declared.controller_state.ControllerState.{ControllerState}
use Rattle.room_verify.specs.States.{has_posts}
use Rattle.room_verify.proofs.EndedLaw.{none_to_post}
use Rattle.room_verify.proofs.replay.Replay.outboxes_are_empty.Goals as goal

pub returns : goal.returns
returns c = λ plant stands.
    none_to_post plant c.args.self.now stands (not c.some_have_posts.result)
    (ap not (c.some_have_posts.ensures ∙ ap (λ (z : List ControllerState). list_any has_posts z) c.as_slice.ensures.value))
