use Rattle.std.proofs.Common.{◌^◌}
use Rattle.wiring_places.proofs.place_pairs.BindingSteps.{below_first, below_rest}
use Rattle.wiring_joins.proofs.joined_places.joining.all_pairs.Goals as goal

pub container_pairs-requires-clause-faces : goal.container_pairs-requires-clause-faces
container_pairs-requires-clause-faces c = below_first (2 ^ 32) _ _ c.requires.faces

pub layer_pairs-requires : goal.layer_pairs-requires
layer_pairs-requires c = below_rest (2 ^ 32) _ _ c.requires.faces
