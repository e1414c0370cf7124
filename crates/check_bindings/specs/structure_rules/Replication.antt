-- Replication numbers: how many places a port has, and for how many actors a reference stands.
use Rattle.std.specs.Prelude.{ℕ, Bool, true, ◌&&◌, nat_le, Option, Some, None}
use Rattle.std.specs.List.{list_all}
use Rattle.room_ast.specs.declared.actor.Places.{Places}
use Rattle.room_ast.specs.declared.actor.Places.TheVariants as places
use Rattle.room_ast.specs.declared.model_parts.entries.PortEntry.{PortEntry}
use Rattle.room_ast.specs.declared.model_parts.entries.ReferenceEntry.{ReferenceEntry}
use Rattle.check_tables.specs.declared.class_tables.container.Container.{Container}
use Rattle.check_tables.specs.declared.class_tables.tables.Tables.{Tables}

-- A replication number is 1 to 256.
abbrev pub is_in_range : ℕ → Bool
is_in_range n = nat_le 1 n && nat_le n 256

-- Whether what stands in a port's brackets is in range, if it has brackets. `*` is no number.
abbrev pub places_in_range : Option Places → Bool
places_in_range None = true
places_in_range (Some places.Any) = true
places_in_range (Some (places.Number n)) = is_in_range n

-- Whether the number in a reference's brackets is in range, if it has brackets.
abbrev pub count_in_range : Option ℕ → Bool
count_in_range None = true
count_in_range (Some n) = is_in_range n

-- Whether the replication numbers of a class's ports and references are in range.
abbrev pub class_in_range : Container → Bool
class_in_range c = list_all (λ (p : PortEntry). places_in_range p.places) c.ports && list_all (λ (r : ReferenceEntry). count_in_range r.count) c.references

-- Each replication number is 1 to 256: in the brackets of each port and of each reference.
unfoldable pub replicates_in_range : Tables → Bool
replicates_in_range t = list_all class_in_range t.actors && list_all class_in_range t.subsystems
