-- The rules over a whole model.
use Rattle.std.proofs.Common.{◌≡◌, ℕ, ◌+◌, ◌<◌, ◌∷◌, [], ◌++◌, Bool, List, Option, Some, None, length, take, get_or, map, sym, ◌∙◌, ap, refl}
use Rattle.std.specs.List.{filter_map, list_all}
use Rattle.std.specs.Option.{option_to_list}
use Rattle.std.proofs.lemmas.List.{take_more, map-append}
use Rattle.std.proofs.lemmas.List.Elements.{filter_map-append}
use Rattle.name_tables.specs.distinct_names.Distinct.{is_distinct}
use Rattle.room_ast.specs.Trees.{ModelTree, SubsystemItemTree, subsystem_item_view}
use Rattle.room_ast.specs.declared.system.SubsystemItem.{SubsystemItem}
use Rattle.check_tables.specs.class_tables.Containers.{subsystem_containers, tables_of, tables_with}
use Rattle.check_tables.specs.declared.class_tables.tables.Tables.{Tables}
use Rattle.check_mappings.specs.mapping_rules.Rules.{thread_name, Wired, wired_in, subsystem_known, mappings_are_known, subsystem_allowed, mappings_are_allowed, mapped_texts, mappings_are_distinct}
use Rattle.check_mappings.specs.mapping_rules.Wireds.{wired_view}
use Rattle.check_mappings.specs.declared.mapping_rules.wired.Wired.{Wired as CodeWired}

-- the tables' subsystems are those of the classes
those : (m : ModelTree) → (tables_of m).subsystems ≡ subsystem_containers (tables_of m).names.actors m.classes
unfolding tables_with
those m = refl

module _ (m : ModelTree) (t : Tables) (is : t ≡ tables_of m) (ws : List CodeWired) (pairs : (actors : List (List ℕ)) → t.subsystems ≡ subsystem_containers actors m.classes → map wired_view ws ≡ wired_in actors m.classes) where
  paired : map wired_view ws ≡ wired_in (tables_of m).names.actors m.classes
  paired = pairs (tables_of m).names.actors (ap (λ (x : Tables). x.subsystems) is ∙ those m)

  pub known_top : (b : Bool) → b ≡ list_all (subsystem_known t.actors) (map wired_view ws) → b ≡ mappings_are_known m
  unfolding mappings_are_known
  known_top b e = e ∙ ap (λ (x : Tables). list_all (subsystem_known x.actors) (map wired_view ws)) is ∙ ap (list_all (subsystem_known (tables_of m).actors)) paired

  pub allowed_top : (b : Bool) → b ≡ list_all (subsystem_allowed t.actors) (map wired_view ws) → b ≡ mappings_are_allowed m
  unfolding mappings_are_allowed
  allowed_top b e = e ∙ ap (λ (x : Tables). list_all (subsystem_allowed x.actors) (map wired_view ws)) is ∙ ap (list_all (subsystem_allowed (tables_of m).actors)) paired

  pub distinct_top : (b : Bool) → b ≡ list_all (λ (s : Wired). is_distinct (mapped_texts s.items)) (map wired_view ws) → b ≡ mappings_are_distinct m
  unfolding mappings_are_distinct
  distinct_top b e = e ∙ ap (list_all (λ (s : Wired). is_distinct (mapped_texts s.items))) paired

-- ---- threads

one_name : (o : Option (List ℕ)) (x : SubsystemItemTree) → thread_name x ≡ o → filter_map thread_name (x ∷ []) ≡ option_to_list o
one_name None x e = rw e refl
one_name (Some n) x e = rw e refl

-- one item more
pub threads_more : (items : List SubsystemItem) (i : ℕ) (x : SubsystemItem) (old new : List (List ℕ)) → i < length items → x ≡ get_or items i x → old ≡ filter_map thread_name (map subsystem_item_view (take i items))
    → new ≡ old ++ option_to_list (thread_name (subsystem_item_view x)) → new ≡ filter_map thread_name (map subsystem_item_view (take (i + 1) items))
threads_more items i x old new l is before e =
    e ∙ ap (λ ns. ns ++ option_to_list (thread_name (subsystem_item_view x))) before
    ∙ ap (λ ns. filter_map thread_name (map subsystem_item_view (take i items)) ++ ns) (sym (one_name (thread_name (subsystem_item_view x)) (subsystem_item_view x) refl))
    ∙ sym (filter_map-append thread_name (map subsystem_item_view (take i items)) (subsystem_item_view x ∷ []))
    ∙ ap (filter_map thread_name) (sym (ap (map subsystem_item_view) (take_more items i x l ∙ ap (λ y. take i items ++ y ∷ []) (sym is)) ∙ map-append subsystem_item_view (take i items) (x ∷ [])))
