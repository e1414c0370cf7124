use Rattle.std.proofs.Common.{refl}
use Rattle.wiring_places.proofs.place_pairs.BindingSteps.{pair_is}
use Rattle.wiring_places.proofs.place_pairs.bindings.pair_at.Goals as goal

pub side_face-left-requires : goal.side_face-left-requires
side_face-left-requires c = (c.requires.faces.0, c.requires.faces.1, c.requires.faces.2.0)

pub side_face-right-requires : goal.side_face-right-requires
side_face-right-requires c = (c.requires.faces.0, c.requires.faces.1, c.requires.faces.2.1)

pub returns : goal.returns
returns c = λ slots known.
    pair_is slots c.args.container.now.first_ports.now c.args.container.now.spans.now c.args.container.now.class.now c.args.container.now.number c.args.binding c.args.stretch c.args.k _ _ _ _ refl refl (c.side_face-left.ensures slots known) (c.side_face-right.ensures slots known)
