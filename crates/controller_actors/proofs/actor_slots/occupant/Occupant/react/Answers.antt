use Rattle.std.specs.Option.{option_copied}
use Rattle.controller_actors.proofs.actor_slots.Occupying.{chartless_reacts}
use Rattle.controller_actors.proofs.actor_slots.occupant.Occupant.react.Goals as goal

pub returns-in-Chartless : goal.returns-in-Chartless
returns-in-Chartless c = rw (c.in-Chartless.is, c.passed_over.ensures) (chartless_reacts c.args.m.now (option_copied c.args.tables))
