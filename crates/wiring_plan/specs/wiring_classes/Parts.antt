-- The ports, references and attributes of a class with their names.
use Rattle.std.specs.Prelude.{ℕ, List, [], ◌∷◌, option_map, option_and_then, slice_get}
use Rattle.room_wiring.specs.declared.names.SignalNames.{SignalNames}
use Rattle.room_wiring.specs.declared.names.PortNames.{PortNames}
use Rattle.room_wiring.specs.declared.names.RefNames.{RefNames}
use Rattle.room_ast.specs.declared.model_parts.entries.PortEntry.{PortEntry}
use Rattle.room_ast.specs.declared.model_parts.entries.ReferenceEntry.{ReferenceEntry}
use Rattle.check_scopes.specs.declared.class_scopes.signals.Signals.{Signals}
use Rattle.check_scopes.specs.declared.class_scopes.signals.SignalTable.{SignalTable}
use Rattle.check_scopes.specs.class_scopes.Signals.{signals_at}
use Rattle.check_scopes.specs.class_scopes.Views.{SignalView}
use Rattle.wiring_plan.specs.structure_plan.Parts.{short, reference_plan}
use Rattle.wiring_plan.specs.declared.structure_plan.plan.ReferencePlan.{ReferencePlan}
use Rattle.wiring_plan.specs.wiring_classes.Labels.{label_of}

-- A message, its name as a label.
abbrev pub labelled : SignalView → SignalNames
labelled s = record { name = label_of s.name; numbers = s.numbers }

-- A port of a name, with these messages. The first argument is the names of the protocol classes.
abbrev pub port_with : List (List ℕ) → List ℕ → PortEntry → Signals SignalNames → PortNames
port_with names name p s = record {
  name = label_of name;
  kind = p.kind;
  conjugated = p.conjugated;
  protocol = option_and_then short p.protocol;
  protocol_name = option_map label_of (option_and_then (slice_get names) p.protocol);
  incoming = s.incoming;
  outgoing = s.outgoing;
}

-- The same, where these are the messages that ports have.
abbrev pub port_names_of : List (List ℕ) → SignalTable SignalNames → List ℕ → PortEntry → PortNames
port_names_of names table name p = port_with names name p (signals_at table p)

abbrev pub reference_with : List ℕ → ReferencePlan → RefNames
reference_with name r = record { name = label_of name; kind = r.kind; class = r.class; count = r.count }

abbrev pub reference_names_of : List ℕ → ReferenceEntry → RefNames
reference_names_of name r = reference_with name (reference_plan r)

-- What names and the entries with the same numbers make.
abbrev pub named : {X Y : Type 0} → (List ℕ → X → Y) → List (List ℕ) → List X → List Y
named make [] entries = []
named make (n ∷ ns) [] = []
named make (n ∷ ns) (x ∷ xs) = make n x ∷ named make ns xs
