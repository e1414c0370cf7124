-- Ports with `[*]`, which have as many places as their bindings give them.
use Rattle.std.specs.Prelude.{Bool, true, false, not, ◌||◌, Option, Some, None}
use Rattle.std.specs.List.{list_all}
use Rattle.room_kinds.specs.Structure.{is_end}
use Rattle.room_ast.specs.declared.actor.Places.{Places}
use Rattle.room_ast.specs.declared.actor.Places.TheVariants as places
use Rattle.room_ast.specs.declared.model_parts.entries.PortEntry.{PortEntry}
use Rattle.check_tables.specs.declared.class_tables.container.Container.{Container}
use Rattle.check_tables.specs.declared.class_tables.tables.Tables.{Tables}

-- Whether a port has `[*]`.
abbrev pub is_any : Option Places → Bool
is_any None = false
is_any (Some places.Any) = true
is_any (Some (places.Number n)) = false

-- A port that has `[*]` is an end port.
abbrev pub any_only_at_end : PortEntry → Bool
any_only_at_end p = not (is_any p.places) || is_end p.kind

-- `[*]` stands only at end ports.
unfoldable pub any_places_at_end_ports : Tables → Bool
any_places_at_end_ports t = list_all (λ (c : Container). list_all any_only_at_end c.ports) t.actors
