-- What a class can name, by tables of the data classes and the protocol classes.
use Rattle.std.specs.Prelude.{ℕ, ◌+◌, Bool, ◌&&◌, List, map, length, nat_le, nat_lt}
use Rattle.std.specs.Borrow.{Bor}
use Rattle.std.specs.List.{filter_map, list_all, zip}
use Rattle.room_kinds.specs.declared.number_type.NumberType.{NumberType}
use Rattle.room_ast.specs.Trees.{ActorTree, actor_view}
use Rattle.room_ast.specs.declared.actor.ActorClass.{ActorClass}
use Rattle.room_ast.specs.model_parts.Attributes.{ClassNumber}
use Rattle.room_ast.specs.model_parts.Ports.{structure_of}
use Rattle.room_ast.specs.model_parts.References.{references_of}
use Rattle.check_tables.specs.declared.class_tables.container.Container.{Container}
use Rattle.check_scopes.specs.declared.class_scopes.signals.Signals.{Signals}
use Rattle.check_scopes.specs.declared.class_scopes.signals.SignalTable.{SignalTable}
use Rattle.check_scopes.specs.declared.class_scopes.tables.ScopeTables.{ScopeTables}
use Rattle.check_scopes.specs.class_scopes.Fields.{FieldView, field_view, kept_attribute, numbers_of_fields}
use Rattle.check_scopes.specs.class_scopes.Scopes.{ports_in, reference_of}
use Rattle.check_scopes.specs.class_scopes.Signals.{map_table}
use Rattle.check_scopes.specs.class_scopes.Views.{SignalView, ScopeView, signal_view}

-- The types of the numbers of the data classes and their fields that stand for numbers, by number, and the messages that ports have.
pub record TablesView : Type 0 where
  pub kinds : List (List NumberType)
  pub fields : List (List FieldView)
  pub signals : SignalTable SignalView

abbrev pub tables_view : ScopeTables → TablesView
tables_view t = record { kinds = t.kinds.items; fields = map (map field_view) t.fields.items; signals = map_table signal_view t.signals }

-- The numbers of a class's attributes. The first argument is the names of the data classes.
abbrev pub numbers_by : List (List ℕ) → TablesView → ActorTree → List ClassNumber
numbers_by names t a = numbers_of_fields t.fields (filter_map (kept_attribute names t.kinds) (structure_of a))

-- What a class can name whose ports and references are these.
abbrev pub scope_by : List (List ℕ) → TablesView → ActorTree → Container → ScopeView
scope_by names t a c = record { attributes = numbers_by names t a; ports = ports_in t.signals c.port_names c.ports; references = map reference_of (references_of a) }

abbrev pub scopes_by : List (List ℕ) → TablesView → List ActorTree → List Container → List ScopeView
scopes_by names t classes containers = map (λ (x : ActorTree × Container). scope_by names t x.0 x.1) (zip classes containers)

-- The classes to which references point.
abbrev pub actor_views : List (Bor ActorClass) → List ActorTree
actor_views refs = map (λ (r : Bor ActorClass). actor_view r.now) refs

abbrev pub numbers_few : List (List ℕ) → TablesView → ActorTree → Bool
numbers_few names t a = nat_le (length (numbers_by names t a)) 4096

abbrev pub entries_few : Container → Bool
entries_few c = nat_le (length c.ports) 60001

-- Two bytes number the messages of a port.
abbrev pub signals_few : {S : Type 0} → Signals S → Bool
signals_few s = nat_lt (length s.incoming + length s.outgoing) 65536

abbrev pub table_is_few : {S : Type 0} → SignalTable S → Bool
table_is_few t = signals_few t.frame && signals_few t.none && list_all signals_few t.protocols
