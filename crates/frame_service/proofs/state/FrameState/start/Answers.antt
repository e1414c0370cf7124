use Rattle.frame_service.proofs.StateLemmas.{start_fits, start_frame}
use Rattle.frame_service.proofs.state.FrameState.start.Goals as goal

pub returns-clause-fits : goal.returns-clause-fits
returns-clause-fits c =
    start_fits c.args.wiring.now _ c.requires.order c.requires.me c.requires.runs c.in_ok-lives.ensures

pub returns-clause-frame : goal.returns-clause-frame
returns-clause-frame c =
    start_frame c.args.wiring.now _ c.args.me.0 c.in_ok-lives.ensures c.new-imports.ensures
