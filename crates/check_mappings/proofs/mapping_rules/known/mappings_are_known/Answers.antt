use Rattle.std.proofs.Common.{◌≡◌, ℕ, List, map}
use Rattle.room_ast.specs.Trees.{class_view, model_view}
use Rattle.check_tables.specs.class_tables.Containers.{subsystem_containers}
use Rattle.check_mappings.specs.mapping_rules.Rules.{wired_in}
use Rattle.check_mappings.specs.mapping_rules.Wireds.{wired_view}
use Rattle.check_mappings.proofs.mapping_rules.Tops.{known_top}
use Rattle.check_mappings.proofs.mapping_rules.known.mappings_are_known.Goals as goal

pub returns : goal.returns
returns c =
    let pairs : (actors : List (List ℕ)) → c.args.tables.now.subsystems ≡ subsystem_containers actors (map class_view c.args.model.now.classes) → map wired_view c.in_ok-wired.wired.items ≡ wired_in actors (map class_view c.args.model.now.classes) =
    rw (← c.as_slice.ensures, ← c.as_slice-2.ensures) c.in_ok-wired.ensures in
    known_top (model_view c.args.model.now) c.args.tables.now c.requires c.in_ok-wired.wired.items pairs c.in_ok-known.known (rw (← c.as_slice-3.ensures, ← c.deref.ensures.value) c.in_ok-known.ensures)
