use Rattle.std.proofs.Common.{◌∙◌, sym, ap}
use Rattle.wiring_places.specs.place_rules.Pairs.{side_face}
use Rattle.wiring_places.proofs.place_pairs.faces.side_face.Goals as goal

pub returns-in-Own : goal.returns-in-Own
returns-in-Own c = λ slots known. c.own_side_face.ensures slots ∙ ap (λ side. side_face slots c.args.first_ports.now c.args.spans.now c.args.class.now c.args.container side c.args.n) (sym c.in-Own.is)
