use Rattle.std.proofs.Common.{◌≡◌, List, ◌++◌, map, drop}
use Rattle.std.specs.Prelude.{option_map}
use Rattle.room_ast.specs.MappingTree.{Mappings, mapping_view, mappings_of}
use Rattle.wiring_slots.specs.declared.slot_tree.names.MappingPlan.{MappingPlan}
use Rattle.wiring_slots.specs.slot_names.Ways.{all_mappings}
use Rattle.wiring_slots.specs.slot_names.Behind.{LastBegins}
use Rattle.wiring_slots.proofs.slot_names.ways.+mappings.Given as goal

-- what was added, and what is left to add; the path is as it was, and the last one's begins with it
abbrev pub invariant-add_all-loop-mapping : goal.invariant-add_all-loop-mapping
invariant-add_all-loop-mapping l =
    let added : Mappings → List MappingPlan = all_mappings l.actors l.threads (record { steps = l.fn.path.items; place = option_map (λ c. c.now) l.place }) in
    record {
      so_far : l.plans ++ added (mappings_of (map mapping_view (drop l.mapping-index l.mappings.items))) ≡ l.fn.plans ++ added (mappings_of (map mapping_view l.mappings.items));
      there : LastBegins l.fn.path.items l.plans;
      same : l.path.items ≡ l.fn.path.items;
    }
