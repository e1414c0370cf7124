-- The scopes of classes by tables are those of the model.
use Rattle.std.proofs.Common.{◌≡◌, ℕ, suc, ◌+◌, ◌-◌, ◌<◌, ◌≤◌, ◌^◌, Bor, take, drop, get_or, Bool, true, false, List, [], ◌∷◌, ◌++◌, length, map, Option, Some, None, Result, Ok, Err, IfOk, refl, sym, ap, ◌∙◌, subst, arith, append_assoc}
use Rattle.std.specs.Prelude.{nat_le, nat_lt, ◌&&◌}
use Rattle.std.specs.Global.{Vec}
use Rattle.std.specs.List.{list_all, filter_map, zip}
use Rattle.room_kinds.specs.declared.number_type.NumberType.{NumberType}
use Rattle.room_ast.specs.model_parts.Types.{data_types, incoming_of, outgoing_of}
use Rattle.room_ast.specs.declared.protocol.ProtocolClass.{ProtocolClass}
use Rattle.room_ast.specs.declared.model_parts.entries.TypeEntry.{TypeEntry}
use Rattle.number_graphs.specs.class_containment.Containment.{contains_itself}
use Rattle.check_tables.specs.containment_rules.Circles.{classes_of_types}
use Rattle.check_scopes.specs.number_kinds.Kinds.{AreKinds, HasKinds}
use Rattle.check_scopes.specs.declared.class_scopes.tables.ScopeTables.{ScopeTables}
use Rattle.check_scopes.specs.declared.class_scopes.signals.SignalTable.{SignalTable}
use Rattle.check_scopes.specs.class_scopes.Signals.{signals_at, frame_signals, map_table}
use Rattle.check_scopes.specs.class_scopes.ByKinds.{signal_by, signals_by, table_by}
use Rattle.std.specs.Option.{option_map_or}
use Rattle.std.proofs.lemmas.Bool.Decides.{nat_tests}
use Rattle.std.proofs.lemmas.List.{length-map, length-append, map-append, append-nil, take_all}
use Rattle.room_ast.specs.Trees.{ModelTree, ActorTree, actor_view, ClassTree, ASystem, ASubsystem, AnActor, AProtocol, AData}
use Rattle.room_ast.specs.declared.actor.ActorClass.{ActorClass}
use Rattle.room_ast.specs.declared.actor.ActorRef.{ActorRef}
use Rattle.room_ast.specs.declared.actor.StructureItem.{StructureItem}
use Rattle.room_ast.specs.declared.actor.StructureItem.TheVariants as structures
use Rattle.room_ast.specs.declared.scope.Scope.{Scope}
use Rattle.room_ast.specs.declared.scope.ScopeAttribute.{ScopeAttribute}
use Rattle.room_ast.specs.declared.scope.ScopePort.{ScopePort}
use Rattle.room_ast.specs.declared.scope.ScopeReference.{ScopeReference}
use Rattle.room_ast.specs.model_parts.Attributes.{ClassNumber, attributes_of, class_numbers}
use Rattle.room_ast.specs.model_parts.Classes.{as_actor, as_data, as_protocol, actors, data_names, data_classes, protocol_names, actor_names, protocols}
use Rattle.room_ast.specs.model_parts.Ports.{interface_of, structure_of, interface_entry, structure_entry, structure_name, external_name, ports_in as entries_in, ports_of, port_names}
use Rattle.room_ast.specs.model_parts.References.{references_of}
use Rattle.room_ast.specs.declared.model_parts.entries.PortEntry.{PortEntry}
use Rattle.check_classes.specs.class_rules.Types.{attribute_fits, has_fitting_values}
use Rattle.check_tables.specs.class_tables.Containers.{actor_container, actor_containers, class_names, tables_with, tables_of}
use Rattle.check_tables.specs.declared.class_tables.container.Container.{Container}
use Rattle.check_tables.specs.declared.class_tables.tables.Tables.{Tables}
use Rattle.check_mappings.specs.count_rules.Counts.{classes_are_few, messages_are_few, ports_are_few, references_are_few, states_are_few, numbers_are_few, parts_are_few, has_few_parts}
use Rattle.check_scopes.specs.class_scopes.Making.{TablesView, tables_view, numbers_by, scope_by, scopes_by, actor_views, numbers_few, entries_few, signals_few, table_is_few}
use Rattle.check_scopes.specs.class_scopes.Scopes.{port_with, ports_in, reference_of, scope_of}
use Rattle.check_scopes.specs.class_scopes.Tables.{AreTables}
use Rattle.check_scopes.specs.class_scopes.Views.{SignalView, ScopeView, attribute_view, port_view, reference_view, scope_view, signal_view}
use Rattle.check_scopes.specs.class_scopes.Fields.{FieldView, field_view, fields_kept, kept_attribute, numbers_of_fields}
use Rattle.check_scopes.proofs.class_scopes.ClassLaws.{actors_fit, class_numbers_are, picked_all}
use Rattle.check_scopes.proofs.class_scopes.SignalLaws.{table_is}
use Rattle.check_mappings.proofs.count_rules.NumberLaws.{names_of_tables, types_of_tables}
use Rattle.check_scopes.proofs.class_scopes.PortLaws.{no_zip}

-- ---- how many parts a scope has

small : (n : ℕ) → nat_le n 4096 ≡ true → n < 2 ^ 32
small n e = grind (arith, nat_tests)

small_entries : (n : ℕ) → nat_le n 60001 ≡ true → n < 2 ^ 16
small_entries n e = grind (arith, nat_tests)

small_parts : (n : ℕ) → nat_le n 60000 ≡ true → n < 2 ^ 16
small_parts n e = grind (arith, nat_tests)

pub few_attributes : (xs : List ScopeAttribute) (ns : List ClassNumber) → map attribute_view xs ≡ ns → nat_le (length ns) 4096 ≡ true → length xs < 2 ^ 32
few_attributes xs ns e few =
    let a : length xs ≡ length ns = sym (length-map xs attribute_view) ∙ ap length e in
    let b = small (length ns) few in
    omega (arith, a, b)

zip_short : {X Y : Type 0} (xs : List X) (ys : List Y) → length (zip xs ys) ≤ length ys
zip_short [] ys = omega arith
zip_short (x ∷ xs) [] = omega arith
zip_short (x ∷ xs) (y ∷ ys) = let rest = zip_short xs ys in omega (arith, rest)

pub few_ports : (xs : List ScopePort) (table : SignalTable SignalView) (names : List (List ℕ)) (entries : List PortEntry) → map port_view xs ≡ ports_in table names entries → nat_le (length entries) 60001 ≡ true → length xs < 2 ^ 16
few_ports xs table names entries e few =
    let a : length xs ≡ length (zip names entries) = sym (length-map xs port_view) ∙ ap length e ∙ length-map (zip names entries) (λ (x : List ℕ × PortEntry). port_with x.0 x.1 (signals_at table x.1)) in
    let b = small_entries (length entries) few in
    let c = zip_short names entries in
    omega (arith, a, b, c)

pub few_references : (xs : List ScopeReference) (rs : List ActorRef) → map reference_view xs ≡ map reference_of rs → nat_le (length rs) 60000 ≡ true → length xs < 2 ^ 16
few_references xs rs e few =
    let a : length xs ≡ length rs = sym (length-map xs reference_view) ∙ ap length e ∙ length-map rs reference_of in
    let b = small_parts (length rs) few in
    omega (arith, a, b)

-- ---- the loop over classes

pub both_true : (a b : Bool) → (a && b) ≡ true → (a ≡ true) × (b ≡ true)
both_true true b e = (refl, e)
both_true false b e = absurd cc

pub no_containers : (names : List (List ℕ)) (t : TablesView) (classes : List ActorTree) (containers : List Container) → length containers < 1 → scopes_by names t classes containers ≡ []
no_containers names t classes containers lt = ap (map (λ (x : ActorTree × Container). scope_by names t x.0 x.1)) (no_zip classes containers lt)

scopes_first : (names : List (List ℕ)) (t : TablesView) (rs : List (Bor ActorClass)) (cs : List Container) (d : Bor ActorClass) (dc : Container) → 1 ≤ length rs → 1 ≤ length cs
    → scopes_by names t (actor_views rs) cs ≡ scope_by names t (actor_view (get_or rs 0 d).now) (get_or cs 0 dc) ∷ scopes_by names t (actor_views (take (length rs - 1) (drop 1 rs))) (take (length cs - 1) (drop 1 cs))
scopes_first names t [] cs d dc some more = absurd (omega arith)
scopes_first names t (r ∷ rs) [] d dc some more = absurd (omega arith)
scopes_first names t (r ∷ rs) (c ∷ cs) d dc some more =
    ap (λ xs. scope_by names t (actor_view r.now) c ∷ scopes_by names t (actor_views xs) cs) (sym (take_all (suc (length rs) - 1) rs (omega arith)))
    ∙ ap (λ xs. scope_by names t (actor_view r.now) c ∷ scopes_by names t (actor_views (take (suc (length rs) - 1) rs)) xs) (sym (take_all (suc (length cs) - 1) cs (omega arith)))

-- one more scope
pub more_scopes : (names : List (List ℕ)) (t : TablesView) (rs : List (Bor ActorClass)) (cs : List Container) (d : Bor ActorClass) (dc : Container) (scopes new : List Scope) (scope : Scope) (all : List ScopeView) → 1 ≤ length rs → 1 ≤ length cs
    → map scope_view scopes ++ scopes_by names t (actor_views rs) cs ≡ all → scope_view scope ≡ scope_by names t (actor_view (get_or rs 0 d).now) (get_or cs 0 dc) → new ≡ scopes ++ scope ∷ []
    → map scope_view new ++ scopes_by names t (actor_views (take (length rs - 1) (drop 1 rs))) (take (length cs - 1) (drop 1 cs)) ≡ all
more_scopes names t rs cs d dc scopes new scope all some more so_far is e =
    let rest : List ScopeView = scopes_by names t (actor_views (take (length rs - 1) (drop 1 rs))) (take (length cs - 1) (drop 1 cs)) in
    ap (λ ps. map scope_view ps ++ rest) e ∙ ap (λ ps. ps ++ rest) (map-append scope_view scopes (scope ∷ [])) ∙ append_assoc (map scope_view scopes) (scope_view scope ∷ []) rest
    ∙ ap (λ p. map scope_view scopes ++ (p ∷ rest)) is ∙ ap (λ ps. map scope_view scopes ++ ps) (sym (scopes_first names t rs cs d dc some more)) ∙ so_far

-- without classes there are no more scopes
pub all_made : (names : List (List ℕ)) (t : TablesView) (rs : List (Bor ActorClass)) (cs : List Container) (scopes : List Scope) (all : List ScopeView) → length rs < 1 → map scope_view scopes ++ scopes_by names t (actor_views rs) cs ≡ all → map scope_view scopes ≡ all
all_made names t [] cs scopes all none so_far = sym (append-nil (map scope_view scopes)) ∙ so_far
all_made names t (r ∷ rs) cs scopes all none so_far = absurd (omega arith)

-- the first of items that all pass, and the others
pub first_passes : {X Y : Type 0} (p : Y → Bool) (v : X → Y) (xs : List X) (d : X) → 1 ≤ length xs → list_all p (map v xs) ≡ true → p (v (get_or xs 0 d)) ≡ true
first_passes p v [] d some e = absurd (omega arith)
first_passes p v (x ∷ xs) d some e = (both_true (p (v x)) (list_all p (map v xs)) e).0

pub others_pass : {X Y : Type 0} (p : Y → Bool) (v : X → Y) (xs : List X) → 1 ≤ length xs → list_all p (map v xs) ≡ true → list_all p (map v (take (length xs - 1) (drop 1 xs))) ≡ true
others_pass p v [] some e = absurd (omega arith)
others_pass p v (x ∷ xs) some e = ap (λ ys. list_all p (map v ys)) (take_all (suc (length xs) - 1) xs (omega arith)) ∙ (both_true (p (v x)) (list_all p (map v xs)) e).1

pub first_is_few : (cs : List Container) (d : Container) → 1 ≤ length cs → list_all entries_few cs ≡ true → entries_few (get_or cs 0 d) ≡ true
first_is_few [] d some e = absurd (omega arith)
first_is_few (c ∷ cs) d some e = (both_true (entries_few c) (list_all entries_few cs) e).0

pub others_are_few : (cs : List Container) → 1 ≤ length cs → list_all entries_few cs ≡ true → list_all entries_few (take (length cs - 1) (drop 1 cs)) ≡ true
others_are_few [] some e = absurd (omega arith)
others_are_few (c ∷ cs) some e = ap (list_all entries_few) (take_all (suc (length cs) - 1) cs (omega arith)) ∙ (both_true (entries_few c) (list_all entries_few cs) e).1

-- ---- one class

numbers_are : (m : ModelTree) (a : ActorTree) (t : TablesView) → AreTables m t → has_fitting_values m ≡ true → list_all attribute_fits (attributes_of a) ≡ true → numbers_by (data_names m) t a ≡ class_numbers m a
numbers_are m a t are fitting fits =
    ap (λ (fs : List (List FieldView)). numbers_of_fields fs (filter_map (kept_attribute (data_names m) t.kinds) (structure_of a))) are.fields ∙ class_numbers_are m a t.kinds are.kinds fitting fits

scope_is : (m : ModelTree) (a : ActorTree) (t : TablesView) → AreTables m t → has_fitting_values m ≡ true → list_all attribute_fits (attributes_of a) ≡ true → scope_by (data_names m) t a (actor_container (protocol_names m) (actor_names m) a) ≡ scope_of m a
unfolding scope_of
scope_is m a t are fitting fits =
    ap (λ (ns : List ClassNumber). record { attributes = ns; ports = ports_in t.signals (port_names a) (ports_of (protocol_names m) a); references = map reference_of (references_of a) }) (numbers_are m a t are fitting fits)
    ∙ ap (λ (ss : SignalTable SignalView). record { attributes = class_numbers m a; ports = ports_in ss (port_names a) (ports_of (protocol_names m) a); references = map reference_of (references_of a) }) (are.signals ∙ table_is m t.kinds are.kinds)

-- ---- all classes

all_scopes : (m : ModelTree) (t : TablesView) → AreTables m t → has_fitting_values m ≡ true → (xs : List ActorTree) → list_all (λ (a : ActorTree). list_all attribute_fits (attributes_of a)) xs ≡ true
    → scopes_by (data_names m) t xs (map (actor_container (protocol_names m) (actor_names m)) xs) ≡ map (scope_of m) xs
all_scopes m t are fitting [] fits = refl
all_scopes m t are fitting (a ∷ xs) fits =
    let both = both_true (list_all attribute_fits (attributes_of a)) (list_all (λ (b : ActorTree). list_all attribute_fits (attributes_of b)) xs) fits in
    ap (λ s. s ∷ scopes_by (data_names m) t xs (map (actor_container (protocol_names m) (actor_names m)) xs)) (scope_is m a t are fitting both.0) ∙ ap (λ ss. scope_of m a ∷ ss) (all_scopes m t are fitting xs both.1)

actors_of_tables : (m : ModelTree) (t : Tables) → t ≡ tables_of m → t.actors ≡ map (actor_container (protocol_names m) (actor_names m)) (actors m)
unfolding class_names tables_with actor_containers
actors_of_tables m t e = ap (λ (x : Tables). x.actors) e

pub scopes_are : (m : ModelTree) (tables : Tables) (t : TablesView) (classes : List ActorTree) (containers : List Container) (names : List (List ℕ)) (scopes : List ScopeView) → tables ≡ tables_of m → AreTables m t → has_fitting_values m ≡ true → classes ≡ actors m → containers ≡ tables.actors → names ≡ tables.names.data_classes
    → scopes ≡ scopes_by names t classes containers → scopes ≡ map (scope_of m) (actors m)
scopes_are m tables t classes containers names scopes made are fitting same from named is =
    is ∙ ap (λ ns. scopes_by ns t classes containers) (named ∙ names_of_tables m tables made) ∙ ap (λ cs. scopes_by (data_names m) t cs containers) same
    ∙ ap (scopes_by (data_names m) t (actors m)) (from ∙ actors_of_tables m tables made) ∙ all_scopes m t are fitting (actors m) (actors_fit m fitting)

-- ---- what the rule on the number of parts gives

left_true : (a b : Bool) → (a && b) ≡ true → a ≡ true
left_true a b e = (both_true a b e).0

right_true : (a b : Bool) → (a && b) ≡ true → b ≡ true
right_true a b e = (both_true a b e).1

parts_few : (m : ModelTree) → has_few_parts m ≡ true → list_all parts_are_few m.classes ≡ true
unfolding has_few_parts
parts_few m e = right_true (classes_are_few m.classes) (list_all parts_are_few m.classes) (left_true (classes_are_few m.classes && list_all parts_are_few m.classes) (list_all (numbers_are_few m) (actors m)) e)

numbers_few_in : (m : ModelTree) → has_few_parts m ≡ true → list_all (numbers_are_few m) (actors m) ≡ true
unfolding has_few_parts
numbers_few_in m e = right_true (classes_are_few m.classes && list_all parts_are_few m.classes) (list_all (numbers_are_few m) (actors m)) e

each_true : {X : Type 0} (p q : X → Bool) → ((x : X) → p x ≡ true → q x ≡ true) → (xs : List X) → list_all p xs ≡ true → list_all q xs ≡ true
each_true p q give [] e = refl
each_true p q give (x ∷ xs) e =
    let both = both_true (p x) (list_all p xs) e in
    ap (λ b. b && list_all q xs) (give x both.0) ∙ each_true p q give xs both.1

each_mapped : {X Y : Type 0} (p : X → Bool) (q : Y → Bool) (f : X → Y) → ((x : X) → p x ≡ true → q (f x) ≡ true) → (xs : List X) → list_all p xs ≡ true → list_all q (map f xs) ≡ true
each_mapped p q f give [] e = refl
each_mapped p q f give (x ∷ xs) e =
    let both = both_true (p x) (list_all p xs) e in
    ap (λ b. b && list_all q (map f xs)) (give x both.0) ∙ each_mapped p q f give xs both.1

one_protocol : (c : ClassTree) → parts_are_few c ≡ true → option_map_or messages_are_few (as_protocol c) true ≡ true
one_protocol (ASystem s) e = refl
one_protocol (ASubsystem s) e = refl
one_protocol (AnActor a) e = refl
one_protocol (AProtocol p) e = e
one_protocol (AData d) e = refl

few_messages : (a b c d : ℕ) → a ≡ c → b ≡ d → nat_le (c + d) 60000 ≡ true → nat_lt (a + b) 65536 ≡ true
few_messages a b c d e f few = grind (arith, nat_tests)

protocol_few : (names : List (List ℕ)) (kinds : List (List NumberType)) (c : ProtocolClass) → messages_are_few c ≡ true → signals_few (signals_by names kinds c) ≡ true
protocol_few names kinds c few =
    few_messages (length (map (signal_by names kinds) (incoming_of c))) (length (map (signal_by names kinds) (outgoing_of c))) (length (incoming_of c)) (length (outgoing_of c)) (length-map (incoming_of c) (signal_by names kinds)) (length-map (outgoing_of c) (signal_by names kinds)) few

few_by : (names : List (List ℕ)) (kinds : List (List NumberType)) (cs : List ProtocolClass) → list_all messages_are_few cs ≡ true → table_is_few (table_by names kinds cs) ≡ true
unfolding frame_signals
few_by names kinds cs few = each_mapped messages_are_few signals_few (signals_by names kinds) (protocol_few names kinds) cs few

-- two bytes number the messages of a port of a model with few parts
pub messages_few : (m : ModelTree) (t : TablesView) → AreTables m t → has_few_parts m ≡ true → table_is_few t.signals ≡ true
messages_few m t are e =
    ap table_is_few are.signals ∙ few_by (data_names m) t.kinds (protocols m) (picked_all parts_are_few messages_are_few as_protocol one_protocol m.classes (parts_few m e))

one_actor : (c : ClassTree) → parts_are_few c ≡ true → option_map_or (λ (a : ActorTree). ports_are_few a && references_are_few a) (as_actor c) true ≡ true
one_actor (ASystem s) e = refl
one_actor (ASubsystem s) e = refl
one_actor (AnActor a) e = left_true (ports_are_few a && references_are_few a) (states_are_few a) e
one_actor (AProtocol p) e = refl
one_actor (AData d) e = refl

actors_few : (m : ModelTree) → has_few_parts m ≡ true → list_all (λ (a : ActorTree). ports_are_few a && references_are_few a) (actors m) ≡ true
actors_few m e = picked_all parts_are_few (λ (a : ActorTree). ports_are_few a && references_are_few a) as_actor one_actor m.classes (parts_few m e)

pub references_few : (m : ModelTree) (classes : List ActorTree) → classes ≡ actors m → has_few_parts m ≡ true → list_all references_are_few classes ≡ true
references_few m classes same e =
    ap (list_all references_are_few) same ∙ each_true (λ (a : ActorTree). ports_are_few a && references_are_few a) references_are_few (λ a f. right_true (ports_are_few a) (references_are_few a) f) (actors m) (actors_few m e)

-- as many ports of the structure as names
same_ports : (protocols : List (List ℕ)) (items : List StructureItem) → length (filter_map (structure_entry protocols) items) ≡ length (filter_map structure_name items)
same_ports protocols [] = refl
same_ports protocols (structures.Usercode u ∷ is) = same_ports protocols is
same_ports protocols (structures.External x ∷ is) = same_ports protocols is
same_ports protocols (structures.Port p ∷ is) = ap suc (same_ports protocols is)
same_ports protocols (structures.Access s ∷ is) = ap suc (same_ports protocols is)
same_ports protocols (structures.Implementation i ∷ is) = same_ports protocols is
same_ports protocols (structures.Attribute a ∷ is) = same_ports protocols is
same_ports protocols (structures.Reference r ∷ is) = same_ports protocols is
same_ports protocols (structures.Binding b ∷ is) = same_ports protocols is
same_ports protocols (structures.Layer l ∷ is) = same_ports protocols is

with_frame : (n k : ℕ) → n ≡ suc k → nat_le k 60000 ≡ true → nat_le n 60001 ≡ true
with_frame n k e few = grind (arith, nat_tests)

entries_of : (protocols names : List (List ℕ)) (a : ActorTree) → ports_are_few a ≡ true → entries_few (actor_container protocols names a) ≡ true
unfolding entries_in
entries_of protocols names a few =
    let e : length (entries_in protocols (interface_of a) (structure_of a)) ≡ suc (length (interface_of a) + length (filter_map structure_name (structure_of a))) =
    ap suc (length-append (map (interface_entry protocols (filter_map external_name (structure_of a))) (interface_of a)) (filter_map (structure_entry protocols) (structure_of a))
    ∙ ap (λ n. n + length (filter_map (structure_entry protocols) (structure_of a))) (length-map (interface_of a) (interface_entry protocols (filter_map external_name (structure_of a))))
    ∙ ap (λ n. length (interface_of a) + n) (same_ports protocols (structure_of a))) in
    with_frame (length (entries_in protocols (interface_of a) (structure_of a))) (length (interface_of a) + length (filter_map structure_name (structure_of a))) e few

pub ports_few : (m : ModelTree) (t : Tables) (containers : List Container) → t ≡ tables_of m → containers ≡ t.actors → has_few_parts m ≡ true → list_all entries_few containers ≡ true
ports_few m t containers made from e =
    ap (list_all entries_few) (from ∙ actors_of_tables m t made)
    ∙ each_mapped (λ (a : ActorTree). ports_are_few a && references_are_few a) entries_few (actor_container (protocol_names m) (actor_names m)) (λ a f. entries_of (protocol_names m) (actor_names m) a (left_true (ports_are_few a) (references_are_few a) f)) (actors m)
    (actors_few m e)

few_each : (m : ModelTree) (t : TablesView) → AreTables m t → has_fitting_values m ≡ true → (xs : List ActorTree) → list_all (λ (a : ActorTree). list_all attribute_fits (attributes_of a)) xs ≡ true → list_all (numbers_are_few m) xs ≡ true → list_all (numbers_few (data_names m) t) xs ≡ true
few_each m t are fitting [] fits few = refl
few_each m t are fitting (a ∷ xs) fits few =
    let fit = both_true (list_all attribute_fits (attributes_of a)) (list_all (λ (b : ActorTree). list_all attribute_fits (attributes_of b)) xs) fits in
    let small = both_true (numbers_are_few m a) (list_all (numbers_are_few m) xs) few in
    ap (λ b. b && list_all (numbers_few (data_names m) t) xs) (ap (λ (ns : List ClassNumber). nat_le (length ns) 4096) (numbers_are m a t are fitting fit.0) ∙ small.0) ∙ few_each m t are fitting xs fit.1 small.1

pub all_numbers_few : (m : ModelTree) (tables : Tables) (t : TablesView) (classes : List ActorTree) (names : List (List ℕ)) → tables ≡ tables_of m → names ≡ tables.names.data_classes → AreTables m t → has_fitting_values m ≡ true → has_few_parts m ≡ true → classes ≡ actors m → list_all (numbers_few names t) classes ≡ true
all_numbers_few m tables t classes names made named are fitting few same =
    ap (λ ns. list_all (numbers_few ns t) classes) (named ∙ names_of_tables m tables made) ∙ ap (list_all (numbers_few (data_names m) t)) same ∙ few_each m t are fitting (actors m) (actors_fit m fitting) (numbers_few_in m few)

-- ---- the tables that are made

pub kinds_for : (m : ModelTree) (t : Tables) (classes : List (List TypeEntry)) (o : Option (Vec (List NumberType))) (kinds : Vec (List NumberType)) → t ≡ tables_of m → classes ≡ t.data_types → HasKinds classes o → o ≡ Some kinds → AreKinds (data_types m) kinds.items
kinds_for m t classes o kinds made from has is =
    let P : Option (Vec (List NumberType)) → Type 0 = λ x. HasKinds classes x in
    let Q : List (List TypeEntry) → Type 0 = λ cs. AreKinds cs kinds.items in
    subst Q (from ∙ types_of_tables m t made) (subst P is has)

pub no_kinds_of : (classes : List (List TypeEntry)) (o : Option (Vec (List NumberType))) → HasKinds classes o → o ≡ None → contains_itself (map classes_of_types classes) ≡ true
no_kinds_of classes o has is = let P : Option (Vec (List NumberType)) → Type 0 = λ x. HasKinds classes x in subst P is has

pub made_tables : {E : Type 0} (m : ModelTree) (names : List (List ℕ)) (kinds : List (List NumberType)) (classes : List ClassTree) (r : Result ScopeTables E) → AreKinds (data_types m) kinds → names ≡ data_names m → classes ≡ m.classes
    → IfOk r (λ t. t.kinds.items ≡ kinds) → IfOk r (λ t. map (map field_view) t.fields.items ≡ map (fields_kept names kinds) (filter_map as_data classes)) → IfOk r (λ t. map_table signal_view t.signals ≡ table_by names kinds (filter_map as_protocol classes))
    → IfOk r (λ t. AreTables m (tables_view t))
made_tables m names kinds classes (Ok t) are named same a b c =
    let P : List (List NumberType) → Type 0 = λ ks. AreKinds (data_types m) ks in
    record {
      kinds = subst P (sym a) are;
      fields = b ∙ ap (λ ns. map (fields_kept ns kinds) (filter_map as_data classes)) named ∙ ap (λ cs. map (fields_kept (data_names m) kinds) (filter_map as_data cs)) same
          ∙ ap (λ ks. map (fields_kept (data_names m) ks) (data_classes m)) (sym a);
      signals = c ∙ ap (λ ns. table_by ns kinds (filter_map as_protocol classes)) named ∙ ap (λ cs. table_by (data_names m) kinds (filter_map as_protocol cs)) same
          ∙ ap (λ ks. table_by (data_names m) ks (protocols m)) (sym a);
    }
made_tables m names kinds classes (Err e) are named same a b c = tt

pub made_scopes : {E : Type 0} (r : Result (Vec Scope) E) (all wanted : List ScopeView) → all ≡ wanted → IfOk r (λ v. map scope_view v.items ≡ all) → IfOk r (λ v. map scope_view v.items ≡ wanted)
made_scopes (Ok v) all wanted e is = is ∙ e
made_scopes (Err x) all wanted e is = tt
