-- The messages of protocol classes by the types of the numbers of the data classes are those of the model.
use Rattle.std.proofs.Common.{◌≡◌, ℕ, List, [], ◌∷◌, length, map, Option, Some, None, refl, ap, ◌∙◌}
use Rattle.std.specs.Option.{option_map_or}
use Rattle.std.proofs.lemmas.List.{length-map}
use Rattle.room_kinds.specs.declared.number_type.NumberType.{NumberType}
use Rattle.room_ast.specs.Trees.{ModelTree}
use Rattle.room_ast.specs.declared.protocol.Message.{Message}
use Rattle.room_ast.specs.declared.protocol.ProtocolClass.{ProtocolClass}
use Rattle.room_ast.specs.model_parts.Classes.{data_names, data_classes, protocols}
use Rattle.room_ast.specs.model_parts.Types.{type_entry, carried_type, incoming_of, outgoing_of, field_types, data_types_in, data_types, numbers_within}
use Rattle.check_scopes.specs.number_kinds.Kinds.{kinds_by, AreKinds}
use Rattle.check_scopes.proofs.number_kinds.KindLaws.{kinds_give}
use Rattle.check_scopes.specs.declared.class_scopes.signals.Signals.{Signals}
use Rattle.check_scopes.specs.declared.class_scopes.signals.SignalTable.{SignalTable}
use Rattle.check_scopes.specs.class_scopes.Signals.{signal_of, protocol_signals, frame_only, no_signals, model_signals}
use Rattle.check_scopes.specs.class_scopes.ByKinds.{signal_by, signals_by, table_by}
use Rattle.check_scopes.specs.class_scopes.Views.{SignalView}

parameter_is : (m : ModelTree) (kinds : List (List NumberType)) → AreKinds (data_types m) kinds → (o : Option (List ℕ))
    → option_map_or (λ (n : List ℕ). kinds_by kinds (type_entry (data_names m) n)) o [] ≡ option_map_or (λ (n : List ℕ). numbers_within (length (data_classes m)) (data_types m) (type_entry (data_names m) n)) o []
unfolding data_types_in
parameter_is m kinds are None = refl
parameter_is m kinds are (Some n) = kinds_give (data_types m) kinds are (type_entry (data_names m) n) ∙ ap (λ k. numbers_within k (data_types m) (type_entry (data_names m) n)) (length-map (data_classes m) (field_types (data_names m)))

messages_are : (m : ModelTree) (kinds : List (List NumberType)) → AreKinds (data_types m) kinds → (xs : List Message) → map (signal_by (data_names m) kinds) xs ≡ map (signal_of m) xs
messages_are m kinds are [] = refl
messages_are m kinds are (x ∷ xs) =
    let here : signal_by (data_names m) kinds x ≡ signal_of m x = ap (λ (ns : List NumberType). record { name = x.name; numbers = ns }) (parameter_is m kinds are (carried_type x.parameter)) in
    ap (λ s. s ∷ map (signal_by (data_names m) kinds) xs) here ∙ ap (λ ss. signal_of m x ∷ ss) (messages_are m kinds are xs)

signals_are : (m : ModelTree) (kinds : List (List NumberType)) → AreKinds (data_types m) kinds → (cs : List ProtocolClass) → map (signals_by (data_names m) kinds) cs ≡ map (protocol_signals m) cs
signals_are m kinds are [] = refl
signals_are m kinds are (c ∷ cs) =
    let made : List SignalView → List SignalView → Signals SignalView = λ xs ys. record { incoming = xs; outgoing = ys } in
    ap (λ xs. made xs (map (signal_by (data_names m) kinds) (outgoing_of c)) ∷ map (signals_by (data_names m) kinds) cs) (messages_are m kinds are (incoming_of c))
    ∙ ap (λ ys. made (map (signal_of m) (incoming_of c)) ys ∷ map (signals_by (data_names m) kinds) cs) (messages_are m kinds are (outgoing_of c))
    ∙ ap (λ ss. protocol_signals m c ∷ ss) (signals_are m kinds are cs)

pub table_is : (m : ModelTree) (kinds : List (List NumberType)) → AreKinds (data_types m) kinds → table_by (data_names m) kinds (protocols m) ≡ model_signals m
table_is m kinds are =
    let made : List (Signals SignalView) → SignalTable SignalView = λ ss. record { frame = frame_only; none = no_signals; protocols = ss } in
    ap made (signals_are m kinds are (protocols m))
