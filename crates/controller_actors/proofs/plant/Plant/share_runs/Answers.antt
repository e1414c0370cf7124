use Rattle.std.proofs.Common.{subst, sym}
use Rattle.service_messages.specs.slot_runs.Runs.{AreRunEnds}
use Rattle.controller_actors.proofs.plant.Plant.share_runs.Goals as goal

pub returns : goal.returns
returns c = subst (AreRunEnds c.args.self.now.wiring) (sym c.in_ok-runs.ensures) c.args.self.now.in_runs
