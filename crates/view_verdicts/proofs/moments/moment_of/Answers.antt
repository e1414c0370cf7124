use Rattle.view_verdicts.proofs.moments.moment_of.Goals as goal

pub view-requires : goal.view-requires
view-requires c = c.requires.replays.stands
