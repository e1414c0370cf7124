-- The tables' parts are those of the model.
use Rattle.std.proofs.Common.{◌≡◌, Bool, not, List, map, ap, ◌∙◌}
use Rattle.room_ast.specs.Trees.{ModelTree}
use Rattle.room_ast.specs.declared.model_parts.entries.TypeEntry.{TypeEntry}
use Rattle.check_tables.specs.class_tables.Containers.{class_names, tables_with, tables_of}
use Rattle.check_tables.specs.declared.class_tables.container.Container.{Container}
use Rattle.check_tables.specs.declared.class_tables.tables.Tables.{Tables}
use Rattle.number_graphs.specs.class_containment.Containment.{contains_itself}
use Rattle.check_tables.specs.containment_rules.Circles as rules

pub data_finite : (m : ModelTree) (t : Tables) (types : List (List TypeEntry)) (b : Bool) → t ≡ tables_of m → types ≡ t.data_types → b ≡ contains_itself (map rules.classes_of_types types) → not b ≡ rules.data_is_finite m
unfolding rules.data_is_finite class_names tables_with
data_finite m t types b e f g = ap not (g ∙ ap (λ xs. contains_itself (map rules.classes_of_types xs)) (f ∙ ap (λ (x : Tables). x.data_types) e))

pub actors_finite : (m : ModelTree) (t : Tables) (cs : List Container) (b : Bool) → t ≡ tables_of m → cs ≡ t.actors → b ≡ contains_itself (map rules.classes_of_container cs) → not b ≡ rules.actors_are_finite m
unfolding rules.actors_are_finite class_names tables_with
actors_finite m t cs b e f g = ap not (g ∙ ap (λ xs. contains_itself (map rules.classes_of_container xs)) (f ∙ ap (λ (x : Tables). x.actors) e))
