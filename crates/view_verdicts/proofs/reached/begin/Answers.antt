use Rattle.view_verdicts.proofs.reached.begin.Goals as goal

pub returns : goal.returns
returns c = c.in_ok-begun.ensures.replays c.args.lines.now
