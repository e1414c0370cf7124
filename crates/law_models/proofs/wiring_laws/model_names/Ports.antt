-- Ports have different names.
use Rattle.std.proofs.Common.{◌≡◌, ◌∙◌, ℕ, Bool, true, false, not, List, [], ◌∷◌, ◌++◌, map, refl, sym, ap, subst}
use Rattle.std.specs.Prelude.{All, ◌||◌}
use Rattle.std.specs.List.{list_any, filter_map, IsDistinct, AllByRecursion}
use Rattle.std.proofs.lemmas.Bool.{and_parts, not-true}
use Rattle.std.proofs.lemmas.List.Elements.{All-nil, All-cons, All-head, All-tail}
use lib.Pointwise.{bytes_decides}
use Rattle.room_ast.specs.declared.actor.InterfaceItem.{InterfaceItem}
use Rattle.room_ast.specs.declared.actor.StructureItem.{StructureItem}
use Rattle.room_ast.specs.declared.actor.StructureItem.TheVariants as structures
use Rattle.room_wiring.specs.WellNamed.{IsIdent, IsWellNamedPort}
use Rattle.room_wiring.specs.declared.names.PortNames.{PortNames}
use Rattle.room_wiring.specs.declared.names.SignalNames.{SignalNames}
use Rattle.name_tables.specs.name_numbers.Names.{same, is_among, AreDistinct}
use Rattle.name_tables.specs.reserved_names.Words.{part_words}
use Rattle.name_tables.specs.distinct_names.Distinct.{is_distinct}
use Rattle.name_tables.proofs.distinct_names.Laws.{fact_of}
use Rattle.check_classes.specs.class_rules.Names.{declared_name, part_names, are_part_names}
use Rattle.room_ast.specs.model_parts.Ports.{interface_name, structure_name, frame_name, names_in}
use Rattle.room_ast.specs.declared.model_parts.entries.PortEntry.{PortEntry}
use Rattle.wiring_plan.specs.wiring_classes.Labels.{label_of}
use Rattle.check_scopes.specs.declared.class_scopes.signals.SignalTable.{SignalTable}
use Rattle.check_scopes.specs.class_scopes.Signals.{signals_at}
use Rattle.wiring_plan.specs.wiring_classes.Parts.{named, port_names_of}
use Rattle.law_models.proofs.wiring_laws.model_paths.Names.{label_is}
use Rattle.law_models.proofs.wiring_laws.model_names.Lists.{differ_of, idents_of}
use Rattle.law_models.proofs.wiring_laws.model_names.Signals.{AreNamed}

-- ---- ports put together

module _ (names : List (List ℕ)) (table : SignalTable SignalNames) (good : (p : PortEntry) → AreNamed (signals_at table p)) where
  one_port : (n : List ℕ) (p : PortEntry) → IsIdent n → IsWellNamedPort (port_names_of names table n p)
  one_port n p ident = record {
    name = subst IsIdent (sym (label_is n ident)) ident;
    signals = idents_of (λ (x : SignalNames). x.name) ((signals_at table p).incoming ++ (signals_at table p).outgoing) (good p).idents;
    signals_differ = differ_of (λ (x : SignalNames). x.name) ((signals_at table p).incoming ++ (signals_at table p).outgoing) (good p).distinct;
  }

  pub ports_named : (ns : List (List ℕ)) (ps : List PortEntry) → All IsIdent ns → All IsWellNamedPort (named (port_names_of names table) ns ps)
  ports_named [] ps h = All-nil IsWellNamedPort
  ports_named (n ∷ ns) [] h = All-nil IsWellNamedPort
  ports_named (n ∷ ns) (p ∷ ps) h =
      All-cons IsWellNamedPort (port_names_of names table n p) (named (port_names_of names table) ns ps) (one_port n p (All-head IsIdent n ns h)) (ports_named ns ps (All-tail IsIdent n ns h))

  names_of_ports : List (List ℕ) → List PortEntry → List (List ℕ)
  names_of_ports ns ps = map (λ (x : PortNames). x.name) (named (port_names_of names table) ns ps)

  ports_all : (P : List ℕ → Type 0) (ns : List (List ℕ)) (ps : List PortEntry) → All IsIdent ns → AllByRecursion P ns → AllByRecursion P (names_of_ports ns ps)
  unfolding names_of_ports
  ports_all P [] ps h k = tt
  ports_all P (n ∷ ns) [] h k = tt
  ports_all P (n ∷ ns) (p ∷ ps) h k = (subst P (sym (label_is n (All-head IsIdent n ns h))) k.0, ports_all P ns ps (All-tail IsIdent n ns h) k.1)

  ports_distinct : (ns : List (List ℕ)) (ps : List PortEntry) → All IsIdent ns → AreDistinct ns → AreDistinct (names_of_ports ns ps)
  unfolding names_of_ports IsDistinct
  ports_distinct [] ps h k = tt
  ports_distinct (n ∷ ns) [] h k = tt
  ports_distinct (n ∷ ns) (p ∷ ps) h k =
      let rest = All-tail IsIdent n ns h in
      let is = label_is n (All-head IsIdent n ns h) in
      (ports_all (λ y. same (label_of n) y ≡ false) ns ps rest (subst (λ x. AllByRecursion (λ y. same x y ≡ false) ns) (sym is) k.0), ports_distinct ns ps rest k.1)

  pub named_distinct : (ns : List (List ℕ)) (ps : List PortEntry) → All IsIdent ns → AreDistinct ns → AreDistinct (map (λ (x : PortNames). x.name) (named (port_names_of names table) ns ps))
  unfolding names_of_ports
  named_distinct ns ps h k = ports_distinct ns ps h k

-- ---- the names of ports

structure_all : (P : List ℕ → Type 0) (is : List StructureItem) → AllByRecursion P (filter_map declared_name is) → AllByRecursion P (filter_map structure_name is)
structure_all P [] h = tt
structure_all P (structures.Usercode u ∷ is) h = structure_all P is h
structure_all P (structures.External e ∷ is) h = structure_all P is h
structure_all P (structures.Port p ∷ is) h = (h.0, structure_all P is h.1)
structure_all P (structures.Access s ∷ is) h = (h.0, structure_all P is h.1)
structure_all P (structures.Implementation i ∷ is) h = structure_all P is h
structure_all P (structures.Attribute a ∷ is) h = structure_all P is h.1
structure_all P (structures.Reference r ∷ is) h = structure_all P is h.1
structure_all P (structures.Binding b ∷ is) h = structure_all P is h
structure_all P (structures.Layer l ∷ is) h = structure_all P is h

structure_distinct : (is : List StructureItem) → AreDistinct (filter_map declared_name is) → AreDistinct (filter_map structure_name is)
unfolding IsDistinct
structure_distinct [] h = tt
structure_distinct (structures.Usercode u ∷ is) h = structure_distinct is h
structure_distinct (structures.External e ∷ is) h = structure_distinct is h
structure_distinct (structures.Port p ∷ is) h = (structure_all (λ y. same p.name y ≡ false) is h.0, structure_distinct is h.1)
structure_distinct (structures.Access s ∷ is) h = (structure_all (λ y. same s.name y ≡ false) is h.0, structure_distinct is h.1)
structure_distinct (structures.Implementation i ∷ is) h = structure_distinct is h
structure_distinct (structures.Attribute a ∷ is) h = structure_distinct is h.1
structure_distinct (structures.Reference r ∷ is) h = structure_distinct is h.1
structure_distinct (structures.Binding b ∷ is) h = structure_distinct is h
structure_distinct (structures.Layer l ∷ is) h = structure_distinct is h

both_all : (P : List ℕ → Type 0) (xs : List (List ℕ)) (is : List StructureItem) → AllByRecursion P (xs ++ filter_map declared_name is) → AllByRecursion P (xs ++ filter_map structure_name is)
both_all P [] is h = structure_all P is h
both_all P (x ∷ xs) is h = (h.0, both_all P xs is h.1)

both_distinct : (xs : List (List ℕ)) (is : List StructureItem) → AreDistinct (xs ++ filter_map declared_name is) → AreDistinct (xs ++ filter_map structure_name is)
unfolding IsDistinct
both_distinct [] is h = structure_distinct is h
both_distinct (x ∷ xs) is h = (both_all (λ y. same x y ≡ false) xs is h.0, both_distinct xs is h.1)

-- no part is called as the port of the frame service
not_frame : (n : List ℕ) (t : Bool) → is_among part_words n ≡ false → same frame_name n ≡ t → t ≡ false
unfolding part_words
not_frame n false h e = refl
not_frame n true h e =
    let is : frame_name ≡ n = (bytes_decides frame_name n).0 e in
    let both : true ≡ false = ap (is_among part_words) is ∙ h in
    absurd cc

left_fails : (a b : Bool) → (a || b) ≡ false → a ≡ false
left_fails true b e = absurd cc
left_fails false b e = refl

right_fails : (a b : Bool) → (a || b) ≡ false → b ≡ false
right_fails true b e = absurd cc
right_fails false b e = e

none_frame : (ns : List (List ℕ)) → list_any (is_among part_words) ns ≡ false → AllByRecursion (λ y. same frame_name y ≡ false) ns
none_frame [] h = tt
none_frame (n ∷ ns) h =
    (not_frame n (same frame_name n) (left_fails (is_among part_words n) (list_any (is_among part_words) ns) h) refl, none_frame ns (right_fails (is_among part_words n) (list_any (is_among part_words) ns) h))

pub port_names_distinct : (interface : List InterfaceItem) (structure : List StructureItem) → are_part_names (part_names interface structure) ≡ true → AreDistinct (names_in interface structure)
unfolding names_in are_part_names IsDistinct
port_names_distinct interface structure h =
    let parts = and_parts (is_distinct (part_names interface structure)) (not (list_any (is_among part_words) (part_names interface structure))) h in (
      both_all (λ y. same frame_name y ≡ false) (map interface_name interface) structure (none_frame (part_names interface structure) (not-true _ parts.1)),
      both_distinct (map interface_name interface) structure (fact_of (part_names interface structure) parts.0),
    )
