use Rattle.std.proofs.Common.{List, [], ◌∷◌, pos, ℕ, Some, sym, ap, ◌∙◌}
use Rattle.room_kinds.specs.declared.numbers.Incarnation.{Incarnation}
use Rattle.room_kinds.specs.declared.numbers.Endpoint.{Endpoint}
use Rattle.room_kinds.specs.declared.system.SysKind.TheVariants as kinds
use Rattle.actor_duties.specs.Words.{frame_at, frame_of}
use Rattle.actor_duties.specs.Messages.{reply}
use Rattle.actor_duties.specs.Frame.{frame_duty_of, destroy, is_request}
use Rattle.frame_service.specs.State.{frame_in}
use Rattle.frame_service.specs.Done.{ended_left}
use Rattle.frame_service.proofs.FormLemmas.{asked_there, plain_fit}
use Rattle.frame_service.proofs.frame_endings.EndSet.{refused_done, destroy_is_done}
use Rattle.frame_service.proofs.state.FrameState.hear_destroy.Goals as goal

pub end_set-requires : goal.end_set-requires
end_set-requires c = record {
  fits = c.requires.fits;
  there = asked_there c.args.wiring.now c.args.self.now.me.0 c.args.m.now.payload kinds.Destroy c.args.from c.args.slot c.requires.form;
}

pub returns-then-not-may_end : goal.returns-then-not-may_end
returns-then-not-may_end c =
    let t = c.args.wiring.now in
    let s = c.args.self.now in
    let me = s.me.0 in
    let m = c.args.m.now in
    let from = c.args.from in
    let slot = c.args.slot in
    refused_done t s m slot.slot.0 from c.in_ok-refused.refused (frame_duty_of t me (frame_in s) m kinds.Destroy from slot) c.args.out.now c.left.result
    c.requires.fits (sym c.may_end.ensures ∙ c.if-not-may_end.true)
    (c.in_ok-refused.ensures ∙ ap (λ (e : Endpoint). reply me m kinds.DestroyDone e from (pos c.number-code.result ∷ [])) c.frame_at-nobody.ensures
    ∙ ap (λ (n : ℕ). reply me m kinds.DestroyDone (frame_at slot.slot.0 0) from (pos n ∷ [])) c.number-code.ensures)
    (c.left.ensures ∙ ap (λ (xs : List Incarnation). ended_left xs (Some c.in_ok-refused.refused)) c.new.ensures)
    (plain_fit (frame_in s) (is_request t me from slot) m.payload (destroy t me (frame_in s) m slot.slot.0 from) c.requires.form)

pub returns : goal.returns
returns c =
    let t = c.args.wiring.now in
    let s = c.args.self.now in
    let me = s.me.0 in
    let m = c.args.m.now in
    let from = c.args.from in
    let slot = c.args.slot in
    destroy_is_done t s c.end_set.new.self m slot.slot.0 from c.in_ok-last.last (frame_duty_of t me (frame_in s) m kinds.Destroy from slot) c.args.out.now c.end_set.new.out
    c.in_ok-ended.ended c.left-2.result c.in_ok-ended.ensures (sym c.may_end.ensures ∙ c.if-not-may_end.false)
    (c.in_ok-last.ensures ∙ ap (λ (e : Endpoint). reply me m kinds.DestroyDone e from (pos 0 ∷ [])) (c.frame_of-gone.ensures ∙ ap frame_of c.last_of.ensures))
    c.left-2.ensures
    (plain_fit (frame_in s) (is_request t me from slot) m.payload (destroy t me (frame_in s) m slot.slot.0 from) c.requires.form)
