-- Slots that wait without their paths are those of the definition.
use Rattle.std.proofs.Common.{◌≡◌, ◌∙◌, ℕ, zero, suc, ◌<◌, Bool, true, false, cond, List, [], ◌∷◌, ◌++◌, Option, Some, None, length, map, append_assoc, refl, sym, ap, subst}
use Rattle.std.specs.Prelude.{All, slice_get}
use Rattle.std.specs.List.{enumerate_from, flat_map, range_with_len}
use Rattle.std.specs.Option.{option_map_or}
use Rattle.std.proofs.Math.Seq.{get_or-append_seam}
use Rattle.std.proofs.lemmas.List.{map-append, get_or_append_left}
use Rattle.std.proofs.lemmas.List.Elements.{All-nil, All-cons, All-head, All-tail, All-append}
use Rattle.room_kinds.specs.Structure.{is_imported}
use Rattle.room_kinds.specs.declared.numbers.SlotId.{SlotId}
use Rattle.room_wiring.specs.Paths.{path_at}
use Rattle.wiring_plan.specs.declared.structure_plan.plan.ReferencePlan.{ReferencePlan}
use Rattle.wiring_plan.specs.declared.structure_plan.plan.StructurePlan.{StructurePlan}
use Rattle.wiring_slots.specs.declared.slot_tree.children.Container.{Container}
use Rattle.wiring_slots.specs.declared.slot_tree.children.Waiting.{Waiting}
use Rattle.wiring_slots.specs.declared.slot_tree.names.MappingPlan.{MappingPlan}
use Rattle.wiring_slots.specs.declared.slot_tree.names.SlotNames.{SlotNames}
use Rattle.wiring_slots.specs.slot_tree.Placing.{inside_to, inside_of}
use Rattle.wiring_slots.specs.slot_tree.PlacedSlots.{with_path, number_of}
use Rattle.wiring_slots.specs.slot_tree.Slots.{Pending, Above, segment_text, pending_at, slots_of_reference, slots_of_references, above_in, labels_of_class, references_of_class, top_slots}
use Rattle.wiring_slots.specs.slot_tree.WaitingSlots.{slash_behind, labels_in, end_in, path_in, pending_of, above_of, waiting_at, waiting_of_reference, waiting_of_references, container_of, waiting_to, waiting_inside, subsystem, waiting_tops, IsReady}

-- ---- the slots inside a container, with their paths
module _ (names : SlotNames) (mappings : List MappingPlan) (paths : List (List ℕ)) (c : Container) where
  abbrev read : Waiting → Pending
  read = pending_of names paths

  abbrev meant : ℕ × ReferencePlan → ℕ → Pending
  meant r = pending_at mappings (above_of paths c) (labels_in names c.class) r.0 r.1

  one_is : (r : ℕ × ReferencePlan) (i : ℕ) → read (waiting_at mappings c r.0 r.1 i) ≡ meant r i
  unfolding waiting_at pending_at
  one_is r i = ap (λ (t : List ℕ). record { slot = with_path t (waiting_at mappings c r.0 r.1 i).slot; trails = (waiting_at mappings c r.0 r.1 i).trails; depth = c.depth }) joined
    where
      name : List ℕ
      name = option_map_or (segment_text i) (slice_get (labels_in names c.class) r.0) []

      joined : path_at paths (number_of c.number) ++ (slash_behind c.class ++ name) ≡ (path_at paths (number_of c.number) ++ slash_behind c.class) ++ name
      joined = sym (append_assoc (path_at paths (number_of c.number)) (slash_behind c.class) name)

  indexes_are : (r : ℕ × ReferencePlan) (is : List ℕ) → map read (map (waiting_at mappings c r.0 r.1) is) ≡ map (meant r) is
  indexes_are r [] = refl
  indexes_are r (i ∷ is) =
      ap (λ (p : Pending). p ∷ map read (map (waiting_at mappings c r.0 r.1) is)) (one_is r i)
      ∙ ap (λ (ps : List Pending). meant r i ∷ ps) (indexes_are r is)

  abbrev meant_all : List (ℕ × ReferencePlan) → List Pending
  meant_all = flat_map (slots_of_reference mappings (above_of paths c) (labels_in names c.class))

  each_is : (rs : List (ℕ × ReferencePlan)) → map read (flat_map (waiting_of_reference mappings c) rs) ≡ meant_all rs
  each_is [] = refl
  each_is (r ∷ rs) =
      map-append read (waiting_of_reference mappings c r) (flat_map (waiting_of_reference mappings c) rs)
      ∙ ap (λ (ps : List Pending). ps ++ map read (flat_map (waiting_of_reference mappings c) rs)) (indexes_are r (range_with_len 0 r.1.count))
      ∙ ap (λ (ps : List Pending). slots_of_reference mappings (above_of paths c) (labels_in names c.class) r ++ ps) (each_is rs)

  children_are : (rs : List ReferencePlan) → map read (waiting_of_references mappings c rs) ≡ slots_of_references mappings (above_of paths c) (labels_in names c.class) rs
  unfolding waiting_of_references slots_of_references
  children_are rs = each_is (enumerate_from 0 rs)

-- those inside a slot whose path is added to the others
module _ (plan : StructurePlan) (names : SlotNames) (mappings : List MappingPlan) (paths : List (List ℕ)) (w : Waiting) where
  abbrev more : List (List ℕ)
  more = paths ++ path_in names paths w ∷ []

  abbrev own : Pending
  own = pending_of names paths w

  above_is : (depth : ℕ) → above_of more (container_of depth (length paths) w) ≡ above_in depth (length paths) own
  above_is depth = ap with_prefix (get_or-append_seam paths (path_in names paths w) [] [])
    where
      with_prefix : List ℕ → Above
      with_prefix t = record { prefix = t ++ 47 ∷ []; parent = Some (record { 0 = length paths }); owner = w.slot.owner; trails = w.trails; depth = depth }

  to_are : (depth : ℕ) → map (pending_of names more) (waiting_to plan mappings depth (length paths) w) ≡ inside_to plan names mappings depth (length paths) own
  to_are zero = refl
  to_are (suc depth) = pick (is_imported w.slot.kind)
    where
      references : List ReferencePlan
      references = references_of_class plan w.slot.class

      pick : (b : Bool) → map (pending_of names more) (cond b [] (waiting_of_references mappings (container_of depth (length paths) w) (references_of_class plan w.slot.class)))
          ≡ cond b [] (slots_of_references mappings (above_in depth (length paths) own) (labels_of_class names w.slot.class) (references_of_class plan w.slot.class))
      pick true = refl
      pick false =
          children_are names mappings more (container_of depth (length paths) w) (references_of_class plan w.slot.class)
          ∙ ap (λ (a : Above). slots_of_references mappings a (labels_of_class names w.slot.class) (references_of_class plan w.slot.class)) (above_is depth)

  pub inside_are : (n : ℕ) → n ≡ length paths → map (pending_of names more) (waiting_inside plan mappings n w) ≡ inside_of plan names mappings n own
  inside_are n is = subst (λ k. map (pending_of names more) (waiting_inside plan mappings k w) ≡ inside_of plan names mappings k own) (sym is) (to_are w.depth)

pub tops_are : (plan : StructurePlan) (names : SlotNames) (mappings : List MappingPlan) → map (pending_of names []) (waiting_tops plan mappings) ≡ top_slots plan names mappings
tops_are plan names mappings = children_are names mappings [] (subsystem plan mappings) plan.subsystem.references

-- ---- they all have their container's number
abbrev pub HasParent : Option SlotId → Waiting → Type 0
HasParent number w = w.slot.parent ≡ number

module _ (mappings : List MappingPlan) (c : Container) where
  one_has : (r : ℕ × ReferencePlan) (i : ℕ) → HasParent c.number (waiting_at mappings c r.0 r.1 i)
  unfolding waiting_at
  one_has r i = refl

  indexes_have : (r : ℕ × ReferencePlan) (is : List ℕ) → All (HasParent c.number) (map (waiting_at mappings c r.0 r.1) is)
  indexes_have r [] = All-nil (HasParent c.number)
  indexes_have r (i ∷ is) = All-cons (HasParent c.number) (waiting_at mappings c r.0 r.1 i) (map (waiting_at mappings c r.0 r.1) is) (one_has r i) (indexes_have r is)

  each_has : (rs : List (ℕ × ReferencePlan)) → All (HasParent c.number) (flat_map (waiting_of_reference mappings c) rs)
  each_has [] = All-nil (HasParent c.number)
  each_has (r ∷ rs) =
      All-append (HasParent c.number) (waiting_of_reference mappings c r) (flat_map (waiting_of_reference mappings c) rs)
      (indexes_have r (range_with_len 0 r.1.count)) (each_has rs)

  pub children_have : (rs : List ReferencePlan) → All (HasParent c.number) (waiting_of_references mappings c rs)
  unfolding waiting_of_references
  children_have rs = each_has (enumerate_from 0 rs)

module _ (plan : StructurePlan) (mappings : List MappingPlan) (n : ℕ) (w : Waiting) where
  abbrev Inner : Waiting → Type 0
  Inner = HasParent (Some (record { 0 = n }))

  pick : (depth : ℕ) (b : Bool) → All Inner (cond b [] (waiting_of_references mappings (container_of depth n w) (references_of_class plan w.slot.class)))
  pick depth true = All-nil Inner
  pick depth false = children_have mappings (container_of depth n w) (references_of_class plan w.slot.class)

  to_have : (depth : ℕ) → All Inner (waiting_to plan mappings depth n w)
  to_have zero = All-nil Inner
  to_have (suc depth) = pick depth (is_imported w.slot.kind)

  pub inside_have : All Inner (waiting_inside plan mappings n w)
  inside_have = to_have w.depth

-- ---- what can be placed keeps its path where paths are added
module _ (names : SlotNames) (paths more : List (List ℕ)) where
  kept : (o : Option SlotId) → ((s : SlotId) → o ≡ Some s → s.0 < length paths) → path_at (paths ++ more) (number_of o) ≡ path_at paths (number_of o)
  kept None ready = refl
  kept (Some s) ready = get_or_append_left paths more [] s.0 (ready s refl)

  pub same_pendings : (ws : List Waiting) → All (IsReady (length paths)) ws → map (pending_of names (paths ++ more)) ws ≡ map (pending_of names paths) ws
  same_pendings [] ready = refl
  same_pendings (w ∷ ws) ready =
      ap behind (kept w.slot.parent (All-head (IsReady (length paths)) w ws ready))
      ∙ ap (λ (ps : List Pending). pending_of names paths w ∷ ps) (same_pendings ws (All-tail (IsReady (length paths)) w ws ready))
    where
      behind : List ℕ → List Pending
      behind t = record { slot = with_path (t ++ end_in names w) w.slot; trails = w.trails; depth = w.depth } ∷ map (pending_of names (paths ++ more)) ws
