use Rattle.std.proofs.Common.{◌<◌, length, arith}
use Rattle.frame_service.proofs.frame_start.Started.{container_before}
use Rattle.frame_service.proofs.frame_start.lives_from_start.Goals as goal

pub bounds-starts-from : goal.bounds-starts-from
bounds-starts-from c =
    let before : c.in-Some.container.0 < length c.args.starts.now =
    container_before c.args.wiring.now c.args.slot.0 c.in-Some.container.0 c.args.starts.now c.requires.order c.in-Some.ensures c.requires.before in
    omega arith
