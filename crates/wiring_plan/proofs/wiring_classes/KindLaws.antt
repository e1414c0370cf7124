-- The names by the tables are those of the model.
use Rattle.std.proofs.Common.{◌≡◌, ◌∙◌, true, false, not, List, [], ◌∷◌, length, map, Option, Some, None, refl, sym, ap, subst}
use Rattle.std.specs.Global.{Vec}
use Rattle.std.proofs.lemmas.List.{length-map}
use Rattle.room_kinds.specs.declared.number_type.NumberType.{NumberType}
use Rattle.room_ast.specs.Trees.{ModelTree, ActorTree}
use Rattle.room_ast.specs.declared.protocol.Attribute.{Attribute}
use Rattle.room_wiring.specs.declared.names.SignalNames.{SignalNames}
use Rattle.room_wiring.specs.declared.names.AttrNames.{AttrNames}
use Rattle.room_wiring.specs.declared.names.ClassNames.{ClassNames}
use Rattle.room_ast.specs.declared.model_parts.entries.TypeEntry.{TypeEntry}
use Rattle.room_ast.specs.model_parts.Attributes.{attributes_of}
use Rattle.room_ast.specs.model_parts.Classes.{actors, protocols, data_classes, as_actor, actor_names, protocol_names, data_names}
use Rattle.room_ast.specs.model_parts.Types.{type_entry, numbers_within, numbers_of, data_types, data_types_in, field_types}
use Rattle.number_graphs.specs.class_containment.Containment.{contains_itself}
use Rattle.check_tables.specs.containment_rules.Circles.{classes_of_types, data_is_finite}
use Rattle.check_tables.specs.class_tables.Containers.{tables_of, tables_with, class_names as table_names, actor_containers, actor_container}
use Rattle.check_tables.specs.declared.class_tables.tables.Tables.{Tables}
use Rattle.check_scopes.specs.number_kinds.Kinds.{kinds_by, AreKinds, HasKinds}
use Rattle.wiring_plan.proofs.structure_plan.Walks.{made_all}
use Rattle.wiring_plan.specs.structure_plan.Parts.{count32}
use Rattle.wiring_plan.specs.wiring_classes.Labels.{label_of}
use Rattle.wiring_plan.specs.wiring_classes.States.{state_labels}
use Rattle.check_scopes.specs.declared.class_scopes.signals.SignalTable.{SignalTable}
use Rattle.check_scopes.specs.class_scopes.ByKinds.{table_by}
use Rattle.check_scopes.specs.class_scopes.Signals.{map_table}
use Rattle.check_scopes.specs.class_scopes.Views.{SignalView}
use Rattle.check_scopes.proofs.class_scopes.SignalLaws.{table_is}
use Rattle.check_scopes.proofs.number_kinds.KindLaws.{kinds_give}
use Rattle.wiring_plan.specs.wiring_classes.ByKinds.{attribute_by}
use Rattle.wiring_plan.specs.wiring_classes.Classes.{labelled_signals, attribute_names, attributes_in, ports_in, references_in, class_names, classes_of}
use Rattle.wiring_plan.specs.wiring_classes.Parts.{labelled, named, port_names_of, reference_names_of}
use Rattle.wiring_plan.specs.wiring_classes.Walked.{class_by, named_in}

-- functions that agree at each item make the same list
map_same : {X Y : Type 0} (f g : X → Y) → ((x : X) → f x ≡ g x) → (xs : List X) → map f xs ≡ map g xs
map_same f g e [] = refl
map_same {X} {Y} f g e (x ∷ xs) = ap (λ (y : Y). y ∷ map f xs) (e x) ∙ ap (λ (ys : List Y). g x ∷ ys) (map_same f g e xs)

module _ (m : ModelTree) (table : List (List NumberType)) (are : AreKinds (data_types m) table) where
  numbers_are : (t : TypeEntry) → kinds_by table t ≡ numbers_of m t
  unfolding data_types_in
  numbers_are t = kinds_give (data_types m) table are t ∙ ap (λ k. numbers_within k (data_types m) t) (length-map (data_classes m) (field_types (data_names m)))

  signals_are : map_table labelled (table_by (data_names m) table (protocols m)) ≡ labelled_signals m
  unfolding labelled_signals
  signals_are = ap (λ (t : SignalTable SignalView). map_table labelled t) (table_is m table are)

  attribute_are : (a : Attribute) → attribute_by (data_names m) table a ≡ attribute_names m a
  attribute_are a = ap (λ (ns : List NumberType). let n : AttrNames = record { name = label_of a.name; numbers = count32 (length ns) } in n) (numbers_are (type_entry (data_names m) a.type_name))

  class_are : (a : ActorTree) → class_by (tables_of m).names (map_table labelled (table_by (data_names m) table (protocols m))) table (actor_container (protocol_names m) (actor_names m) a) a ≡ class_names m a
  unfolding class_names ports_in references_in attributes_in tables_with table_names
  class_are a =
      let c = actor_container (protocol_names m) (actor_names m) a in
      let make : SignalTable SignalNames → List AttrNames → ClassNames = λ ss attributes. record {
        name = label_of a.name;
        ports = named (port_names_of (protocol_names m) ss) c.port_names c.ports;
        references = named reference_names_of c.reference_names c.references;
        states = state_labels a;
        attributes = attributes;
      } in
      ap (λ (ss : SignalTable SignalNames). make ss (map (attribute_by (data_names m) table) (attributes_of a))) signals_are
      ∙ ap (λ (attributes : List AttrNames). make (labelled_signals m) attributes) (map_same (attribute_by (data_names m) table) (attribute_names m) attribute_are (attributes_of a))

  names_are : named_in (tables_of m) table m.classes ≡ classes_of m
  unfolding classes_of tables_with table_names actor_containers
  names_are =
      made_all as_actor (class_by (tables_of m).names (map_table labelled (table_by (data_names m) table (protocols m))) table) (actor_container (protocol_names m) (actor_names m)) m.classes
      ∙ map_same (λ (a : ActorTree). class_by (tables_of m).names (map_table labelled (table_by (data_names m) table (protocols m))) table (actor_container (protocol_names m) (actor_names m) a) a) (class_names m) class_are (actors m)

types_of : (m : ModelTree) (t : Tables) → t ≡ tables_of m → t.data_types ≡ data_types m
unfolding table_names tables_with
types_of m t e = ap (λ (x : Tables). x.data_types) e

-- with the types of the numbers of the data classes the names are those of the model
pub some_names : (m : ModelTree) (t : Tables) (classes : List (List TypeEntry)) (found : Option (Vec (List NumberType))) (table : Vec (List NumberType)) → t ≡ tables_of m → classes ≡ t.data_types → HasKinds classes found → found ≡ Some table
    → named_in t table.items m.classes ≡ classes_of m
some_names m t classes found table e f h is =
    let are = subst (λ cs. AreKinds cs table.items) (f ∙ types_of m t e) (subst (λ o. HasKinds classes o) is h) in
    ap (λ (t' : Tables). named_in t' table.items m.classes) e ∙ names_are m table.items are

-- there are such types where no data class contains itself
pub no_names : (m : ModelTree) (t : Tables) (classes : List (List TypeEntry)) (found : Option (Vec (List NumberType))) → t ≡ tables_of m → classes ≡ t.data_types → HasKinds classes found → found ≡ None → data_is_finite m ≡ true → ⊥
unfolding data_is_finite
no_names m t classes found e f h is finite =
    let circle = subst (λ o. HasKinds classes o) is h in
    let g : contains_itself (map classes_of_types (data_types m)) ≡ true = ap (λ cs. contains_itself (map classes_of_types cs)) (sym (f ∙ types_of m t e)) ∙ circle in
    let wrong : false ≡ true = ap not (sym g) ∙ finite in
    cc
