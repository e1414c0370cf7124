use Rattle.std.proofs.Common.{◌≡◌, ◌-◌, length, drop, map}
use Rattle.room_ast.specs.MappingTree.{mapping_view, mappings_of}
use Rattle.room_ast.specs.Tokens.{mappings_tokens}
use Rattle.room_inherit.proofs.counting.systems.+mappings.Given as goal

-- what is left once the rest is taken away
abbrev pub invariant-less_mappings-loop-mapping : goal.invariant-less_mappings-loop-mapping
invariant-less_mappings-loop-mapping l = l.left - length (mappings_tokens (mappings_of (map mapping_view (drop l.mapping-index l.mappings.items)))) ≡ l.fn.left - length (mappings_tokens (mappings_of (map mapping_view l.mappings.items)))
