use Rattle.std.proofs.Common.{◌≡◌, map, drop}
use Rattle.room_ast.specs.MappingTree.{mapping_view, mappings_of}
use Rattle.check_mappings.specs.mapping_rules.Places.{place_view}
use Rattle.check_mappings.specs.mapping_rules.Rules.{all_known}
use Rattle.check_mappings.proofs.mapping_rules.known.+known.Given as goal

-- what is left tells of all
abbrev pub invariant-all_known-loop-mapping : goal.invariant-all_known-loop-mapping
invariant-all_known-loop-mapping l =
    all_known l.classes l.threads (place_view l.place) (mappings_of (map mapping_view (drop l.mapping-index l.mappings.items)))
    ≡ all_known l.classes l.threads (place_view l.place) (mappings_of (map mapping_view l.mappings.items))
