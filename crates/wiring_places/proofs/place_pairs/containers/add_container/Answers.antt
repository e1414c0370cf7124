use Rattle.std.proofs.Common.{ap}
use Rattle.std.specs.Option.{option_copied}
use Rattle.wiring_places.proofs.place_pairs.ClassSteps.{no_class_pairs}
use Rattle.wiring_places.proofs.place_pairs.containers.add_container.Goals as goal

pub returns-in-None : goal.returns-in-None
returns-in-None c = λ slots known. no_class_pairs slots c.args.first_ports.now c.args.spans.now (option_copied c.args.class) c.args.number c.args.stretches.now c.args.pairs.now.items (ap option_copied c.in-None.is)
