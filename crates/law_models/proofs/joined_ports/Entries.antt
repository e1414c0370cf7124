-- The ports of a class: as the rules see them, by the plan, and by their names.
use Rattle.std.proofs.Common.{◌≡◌, ◌∙◌, ℕ, zero, suc, false, cond, List, [], ◌∷◌, ◌++◌, map, Option, Some, option_and_then, unwrap_or, slice_get, slice_index_or, refl, sym, ap}
use Rattle.std.proofs.lemmas.Option.{same_Some, slice_get-map}
use Rattle.room_ast.specs.Trees.{ModelTree, ActorTree}
use Rattle.room_ast.specs.declared.model_parts.entries.PortEntry.{PortEntry}
use Rattle.room_ast.specs.model_parts.Classes.{actors, actor_names, protocol_names}
use Rattle.room_ast.specs.model_parts.Ports.{structure_of}
use Rattle.room_wiring.specs.declared.names.ClassNames.{ClassNames}
use Rattle.room_wiring.specs.declared.names.PortNames.{PortNames}
use Rattle.room_wiring.specs.declared.names.SignalNames.{SignalNames}
use Rattle.room_wiring.specs.WellNamed.{signals_of}
use Rattle.check_scopes.specs.class_scopes.Signals.{is_frame, signals_at}
use Rattle.check_scopes.specs.declared.class_scopes.signals.Signals.{Signals}
use Rattle.check_tables.specs.class_tables.Containers.{actor_container, actor_containers, class_names as table_names, tables_with, tables_of}
use Rattle.check_tables.specs.declared.class_tables.container.Container.{Container}
use Rattle.wiring_plan.specs.structure_plan.Parts.{port_plan}
use Rattle.wiring_plan.specs.structure_plan.Plans.{actor_plan, plan_of}
use Rattle.wiring_plan.specs.wiring_classes.Parts.{named, port_names_of}
use Rattle.wiring_plan.specs.wiring_classes.Classes.{labelled_signals, ports_in, class_names, classes_of}
use Rattle.wiring_plan.specs.declared.structure_plan.plan.ClassPlan.{ClassPlan}
use Rattle.wiring_plan.specs.declared.structure_plan.plan.PortPlan.{PortPlan}
use Rattle.wiring_places.specs.place_rules.Parts.{class_plan, no_class}
use Rattle.binding_expand.proofs.plan_laws.Services.{mapped_some}

-- a port of a class that may be known
abbrev pub port_in : Option Container → ℕ → Option PortEntry
port_in o p = option_and_then (λ (c : Container). slice_get c.ports p) o

-- a port of the class of a number
abbrev pub entry_at : ModelTree → ℕ → ℕ → Option PortEntry
entry_at m n p = port_in (slice_get (tables_of m).actors n) p

-- what an actor class knows of its parts
abbrev pub known_of : ModelTree → ActorTree → Container
known_of m a = actor_container (protocol_names m) (actor_names m) a

pub tables_are : (m : ModelTree) → (tables_of m).actors ≡ map (known_of m) (actors m)
unfolding tables_with table_names actor_containers
tables_are m = refl

-- ---- by the plan

abbrev pub planned : ModelTree → ActorTree → ClassPlan
planned m a = actor_plan (tables_of m).actors (known_of m a) (structure_of a)

planned_from : (m : ModelTree) (xs : List ActorTree) (n p : ℕ) (port : PortPlan) → slice_get (slice_index_or (map (planned m) xs) n no_class).ports p ≡ Some port
    → (e : PortEntry) × (port_in (slice_get (map (known_of m) xs) n) p ≡ Some e) × (port_plan e ≡ port)
planned_from m [] n p port e = absurd cc
planned_from m (a ∷ xs) zero p port e = mapped_some port_plan (slice_get (known_of m a).ports p) port (sym (slice_get-map port_plan (known_of m a).ports p) ∙ e)
planned_from m (a ∷ xs) (suc n) p port e = planned_from m xs n p port e

-- a port of the plan of a class is one of the class
pub planned_entry : (m : ModelTree) (n p : ℕ) (port : PortPlan) → slice_get (class_plan (plan_of m) n).ports p ≡ Some port → (e : PortEntry) × (entry_at m n p ≡ Some e) × (port_plan e ≡ port)
unfolding plan_of
planned_entry m n p port e =
    let found = planned_from m (actors m) n p port e in (found.0, ap (λ cs. port_in (slice_get cs n) p) (tables_are m) ∙ found.1, found.2)

-- ---- by names

named_back : (make : List ℕ → PortEntry → PortNames) (ns : List (List ℕ)) (es : List PortEntry) (p : ℕ) (x : PortNames) → slice_get (named make ns es) p ≡ Some x
    → (name : List ℕ) × (e : PortEntry) × (slice_get es p ≡ Some e) × (make name e ≡ x)
named_back make [] es p x h = absurd cc
named_back make (n ∷ ns) [] p x h = absurd cc
named_back make (n ∷ ns) (e ∷ es) zero x h = (n, e, refl, same_Some (make n e) x h)
named_back make (n ∷ ns) (e ∷ es) (suc p) x h = named_back make ns es p x h

-- a port with the names that the wiring has of it
abbrev pub named_port : ModelTree → List ℕ → PortEntry → PortNames
named_port m = port_names_of (protocol_names m) (labelled_signals m)

abbrev pub names_at : List ClassNames → ℕ → ℕ → Option PortNames
names_at cs n p = option_and_then (λ (c : ClassNames). slice_get c.ports p) (slice_get cs n)

names_from : (m : ModelTree) (xs : List ActorTree) (n p : ℕ) (x : PortNames) → names_at (map (class_names m) xs) n p ≡ Some x
    → (name : List ℕ) × (e : PortEntry) × (port_in (slice_get (map (known_of m) xs) n) p ≡ Some e) × (named_port m name e ≡ x)
unfolding class_names ports_in
names_from m [] n p x h = absurd cc
names_from m (a ∷ xs) zero p x h = named_back (named_port m) (known_of m a).port_names (known_of m a).ports p x h
names_from m (a ∷ xs) (suc n) p x h = names_from m xs n p x h

-- a port by its names is one of the class
pub names_entry : (m : ModelTree) (n p : ℕ) (x : PortNames) → names_at (classes_of m) n p ≡ Some x
    → (name : List ℕ) × (e : PortEntry) × (entry_at m n p ≡ Some e) × (named_port m name e ≡ x)
unfolding classes_of
names_entry m n p x h =
    let found = names_from m (actors m) n p x h in (found.0, found.1, ap (λ cs. port_in (slice_get cs n) p) (tables_are m) ∙ found.2, found.3)

-- ports of one protocol, neither of which is `frame`, have the same messages
module _ (m : ModelTree) where
  abbrev by_protocol : Option ℕ → Signals SignalNames
  by_protocol p = unwrap_or (option_and_then (slice_get (labelled_signals m).protocols) p) (labelled_signals m).none

  signals_by : (e : PortEntry) (p : Option ℕ) → e.protocol ≡ p → is_frame e.kind ≡ false → signals_at (labelled_signals m) e ≡ by_protocol p
  signals_by e p is plain = ap (λ b. cond b (labelled_signals m).frame (by_protocol e.protocol)) plain ∙ ap by_protocol is

  pub same_signals : (a b : List ℕ) (e k : PortEntry) (p : Option ℕ) → e.protocol ≡ p → k.protocol ≡ p → is_frame e.kind ≡ false → is_frame k.kind ≡ false → signals_of (named_port m a e) ≡ signals_of (named_port m b k)
  same_signals a b e k p is also plain other =
      ap (λ (s : Signals SignalNames). s.incoming ++ s.outgoing) (signals_by e p is plain ∙ sym (signals_by k p also other))
