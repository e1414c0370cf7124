use Rattle.room_kinds.specs.declared.system.SysKind.TheVariants as kinds
use Rattle.actor_duties.specs.Frame.{frame_duty_of, part_end, is_part_told}
use Rattle.frame_service.specs.State.{frame_in}
use Rattle.frame_service.proofs.FormLemmas.{part_there, plain_fit}
use Rattle.frame_service.proofs.frame_endings.EndSet.{part_end_is_done}
use Rattle.frame_service.proofs.state.FrameState.hear_part_end.Goals as goal

pub end_set-requires : goal.end_set-requires
end_set-requires c = record {
  fits = c.requires.fits;
  there = part_there c.args.wiring.now c.args.self.now.me.0 c.args.m.now.payload c.args.actor c.args.again c.requires.form;
}

pub returns : goal.returns
returns c =
    let t = c.args.wiring.now in
    let s = c.args.self.now in
    let me = s.me.0 in
    let m = c.args.m.now in
    let actor = c.args.actor in
    let again = c.args.again in
    part_end_is_done t s c.end_set.new.self actor.slot.0 (frame_duty_of t me (frame_in s) m kinds.PartEnd actor again) c.args.out.now c.end_set.new.out
    c.in_ok-ended.ended c.left.result c.in_ok-ended.ensures c.left.ensures
    (plain_fit (frame_in s) (is_part_told t me actor again) m.payload (part_end t me (frame_in s) actor.slot.0) c.requires.form)
