-- The references of subsystem classes.
use Rattle.std.specs.Prelude.{Bool, true, false, ◌&&◌}
use Rattle.std.specs.List.{list_all}
use Rattle.name_tables.specs.distinct_names.Distinct.{is_distinct}
use Rattle.room_kinds.specs.declared.structure.ReferenceKind.{ReferenceKind}
use Rattle.room_kinds.specs.declared.structure.ReferenceKind.TheVariants as kinds
use Rattle.room_ast.specs.declared.model_parts.entries.ReferenceEntry.{ReferenceEntry}
use Rattle.check_tables.specs.declared.class_tables.container.Container.{Container}
use Rattle.check_tables.specs.declared.class_tables.tables.Tables.{Tables}

abbrev pub is_fixed : ReferenceKind → Bool
is_fixed kinds.Fixed = true
is_fixed kinds.Optional = false
is_fixed kinds.Imported = false

-- The references of a class have distinct names and are fixed.
abbrev pub has_plain_references : Container → Bool
has_plain_references c = is_distinct c.reference_names && list_all (λ (r : ReferenceEntry). is_fixed r.kind) c.references

-- The references of each SubSystemClass have distinct names and are fixed.
unfoldable pub subsystem_references_are_plain : Tables → Bool
subsystem_references_are_plain t = list_all has_plain_references t.subsystems
