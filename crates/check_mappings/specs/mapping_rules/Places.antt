-- A place as the code keeps it.
use Rattle.std.specs.Prelude.{option_map}
use Rattle.check_mappings.specs.mapping_rules.Walks.{Place}
use Rattle.check_mappings.specs.declared.mapping_rules.walk.Place.{Place as CodePlace}

abbrev pub place_view : CodePlace → Place
place_view p = record { container = option_map (λ c. c.now) p.container; below_optional = p.below_optional; kind = p.kind }
