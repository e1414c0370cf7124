-- The loop that places the slots that wait.
use Rattle.std.proofs.Common.{◌≡◌, ◌∙◌, ℕ, ◌+◌, ◌-◌, ◌<◌, ◌≤◌, suc, List, [], ◌∷◌, ◌++◌, Option, Some, None, length, map, reverse, sym, ap, subst, arith}
use Rattle.std.specs.Prelude.{All}
use Rattle.std.specs.Global.{Vec}
use Rattle.std.proofs.lemmas.List.{reverse-append, reverse-reverse, length-reverse, length-map, length_push, map-append}
use Rattle.std.proofs.lemmas.List.Elements.{All-append, All-tail, All-weaker}
use Rattle.std.proofs.lemmas.Option.{none-some, same_Some}
use Rattle.room_kinds.specs.declared.numbers.SlotId.{SlotId}
use Rattle.room_wiring.specs.declared.slot.Slot.{Slot}
use Rattle.wiring_plan.specs.declared.structure_plan.plan.StructurePlan.{StructurePlan}
use Rattle.wiring_slots.specs.declared.slot_tree.children.Waiting.{Waiting}
use Rattle.wiring_slots.specs.declared.slot_tree.names.MappingPlan.{MappingPlan}
use Rattle.wiring_slots.specs.declared.slot_tree.names.SlotNames.{SlotNames}
use Rattle.wiring_slots.specs.declared.slot_tree.placed_slots.BareSlot.{BareSlot}
use Rattle.wiring_slots.specs.declared.slot_tree.placed_slots.Placed.{Placed}
use Rattle.wiring_slots.specs.slot_tree.Slots.{Pending, slots_of, top_slots}
use Rattle.wiring_slots.specs.slot_tree.Placing.{at_most, Fits, inside_of, all_from, Placing}
use Rattle.wiring_slots.specs.slot_tree.PlacedSlots.{with_paths, all_placed, container_path}
use Rattle.wiring_slots.specs.slot_tree.WaitingSlots.{end_in, path_in, pending_of, waiting_inside, subsystem, waiting_tops, IsReady, IsPlacing}
use Rattle.wiring_slots.proofs.slot_tree.Placed.{within_most, over_most, placing_starts, placing_on, placing_over, placing_done, slots_are, top_count}
use Rattle.wiring_slots.proofs.slot_tree.PlacedSlots.{one_placed, count_placed}
use Rattle.wiring_slots.proofs.slot_tree.WaitingSlots.{inside_are, tops_are, HasParent, children_have, inside_have, same_pendings}

-- a slot is added, whose path has this end
pub record Added (old new : Placed) (w : Waiting) (end : List ℕ) : Type 0 where
  pub slots : new.slots.items ≡ old.slots.items ++ w.slot ∷ []
  pub paths : new.paths ≡ old.paths ++ (container_path old.paths w.slot ++ end) ∷ []

module _ (plan : StructurePlan) (names : SlotNames) (mappings : List MappingPlan) where
  abbrev read : List (List ℕ) → List Waiting → List Pending
  read paths ws = map (pending_of names paths) ws

  abbrev whole : List Waiting → List Slot
  whole ws = all_from plan names mappings 0 (read [] ws)

  starts : (placed : Placed) (waiting : List Waiting) → placed.slots.items ≡ [] → placed.paths ≡ [] → length waiting ≤ 4096 → All (IsReady 0) waiting → IsPlacing plan names mappings (whole waiting) placed waiting
  starts placed waiting no_slots no_paths few ready =
      let size = length-map waiting (pending_of names []) in
      let start : Placing plan names mappings (whole waiting) [] (read [] waiting) = placing_starts plan names mappings (read [] waiting) (omega (arith, size, few)) in
      record {
        placing = subst (λ (ps : List (List ℕ)). Placing plan names mappings (whole waiting) (with_paths ps placed.slots.items) (read ps waiting)) (sym no_paths) start;
        paths = ap length no_slots ∙ sym (ap length no_paths);
        ready = subst (λ (ps : List (List ℕ)). All (IsReady (length ps)) waiting) (sym no_paths) ready;
      }

  pub loop_starts : (placed : Placed) (stack : List Waiting) → placed.slots.items ≡ [] → placed.paths ≡ [] → length stack ≤ 4096 → All (IsReady 0) (reverse stack) → IsPlacing plan names mappings (whole (reverse stack)) placed (reverse stack)
  loop_starts placed stack no_slots no_paths few ready = let size = length-reverse stack in starts placed (reverse stack) no_slots no_paths (omega (arith, size, few)) ready

  -- the slots inside a slot with this number can be placed behind it, and what could be placed before still can
  inside_ready : (n count : ℕ) (w : Waiting) → n < count → All (IsReady count) (waiting_inside plan mappings n w)
  inside_ready n count w below = All-weaker (HasParent (Some (record { 0 = n }))) (IsReady count) ready (waiting_inside plan mappings n w) (inside_have plan mappings n w)
    where
      ready : (v : Waiting) → HasParent (Some (record { 0 = n })) v → IsReady count v
      ready v has s is = let same = ap (λ (t : SlotId). t.0) (same_Some (record { 0 = n }) s (sym has ∙ is)) in omega (arith, same, below)

  still_ready : (count more : ℕ) (ws : List Waiting) → count ≤ more → All (IsReady count) ws → All (IsReady more) ws
  still_ready count more ws le h = All-weaker (IsReady count) (IsReady more) (λ (v : Waiting) ready s is. let below = ready s is in omega (arith, below, le)) ws h

  module _ (all : List Slot) (placed : Placed) (w : Waiting) (rest : List Waiting) (h : IsPlacing plan names mappings all placed (w ∷ rest)) (n room : ℕ) (n_is : n ≡ length placed.slots.items) (room_is : room ≡ 4096 - 1 - length rest - n) where
    abbrev paths : List (List ℕ)
    paths = placed.paths

    abbrev p : Pending
    p = pending_of names paths w

    counted : n ≡ length (all_placed placed)
    counted = n_is ∙ sym (count_placed paths placed.slots.items h.paths)

    same_room : room ≡ 4096 - 1 - length (read paths rest) - n
    same_room = room_is ∙ ap (λ k. 4096 - 1 - k - n) (sym (length-map rest (pending_of names paths)))

    rest_ready : All (IsReady (length paths)) rest
    rest_ready = All-tail (IsReady (length paths)) w rest h.ready

    -- the slots inside are found and wait
    step : (ws : List Waiting) → ws ≡ waiting_inside plan mappings n w → length ws ≤ room → (placed' : Placed) → Added placed placed' w (end_in names w) → IsPlacing plan names mappings all placed' (ws ++ rest)
    step ws found fit placed' added =
        let more = paths ++ path_in names paths w ∷ [] in
        let children = read more ws in
        let are : children ≡ inside_of plan names mappings n p = ap (read more) found ∙ inside_are plan names mappings paths w n (n_is ∙ h.paths) in
        let count = length-map ws (pending_of names more) in
        let same : read placed'.paths (ws ++ rest) ≡ children ++ read paths rest =
        ap (λ (ps : List (List ℕ)). read ps (ws ++ rest)) added.paths
        ∙ map-append (pending_of names more) ws rest
        ∙ ap (λ (ps : List Pending). children ++ ps) (same_pendings names paths (path_in names paths w ∷ []) rest rest_ready)
        in
        let one : all_placed placed' ≡ all_placed placed ++ p.slot ∷ [] =
        ap (λ (ps : List (List ℕ)). with_paths ps placed'.slots.items) added.paths
        ∙ ap (λ (bs : List BareSlot). with_paths more bs) added.slots
        ∙ one_placed paths placed.slots.items (path_in names paths w) w.slot h.paths
        in
        let on = placing_on plan names mappings all (all_placed placed) p (read paths rest) h.placing n room counted same_room children are (omega (arith, count, fit)) (all_placed placed') one in
        let slots : length placed'.slots.items ≡ length placed.slots.items + 1 = ap length added.slots ∙ length_push placed.slots.items w.slot in
        let long : length placed'.paths ≡ length paths + 1 = ap length added.paths ∙ length_push paths (path_in names paths w) in
        let inner : All (IsReady (length placed'.paths)) ws = subst (λ (vs : List Waiting). All (IsReady (length placed'.paths)) vs) (sym found) (inside_ready n (length placed'.paths) w (omega (arith, long, n_is, h.paths))) in
        record {
          placing = subst (λ (ps : List Pending). Placing plan names mappings all (all_placed placed') ps) (sym same) on;
          paths = omega (arith, slots, long, h.paths);
          ready = All-append (IsReady (length placed'.paths)) ws rest inner (still_ready (length paths) (length placed'.paths) rest (omega (arith, long)) rest_ready);
        }

    over : room < length (waiting_inside plan mappings n w) → 4096 < length all
    over many =
        let more = paths ++ path_in names paths w ∷ [] in
        let count = length-map (waiting_inside plan mappings n w) (pending_of names more) in
        let same = ap length (inside_are plan names mappings paths w n (n_is ∙ h.paths)) in
        placing_over plan names mappings all (all_placed placed) p (read paths rest) h.placing n room counted same_room (omega (arith, many, count, same))

    -- one more slot is placed, of the many that there may be
    smaller : (placed' : Placed) → placed'.slots.items ≡ placed.slots.items ++ w.slot ∷ [] → 4096 - length placed'.slots.items < 4096 - length placed.slots.items
    smaller placed' added =
        let slots : length placed'.slots.items ≡ length placed.slots.items + 1 = ap length added ∙ length_push placed.slots.items w.slot in
        let few : length (all_placed placed) + suc (length (read paths rest)) ≤ 4096 = h.placing.few in
        let count = count_placed paths placed.slots.items h.paths in
        omega (arith, slots, few, count)

  -- the next one is taken off the stack
  module _ (all : List Slot) (placed : Placed) (stack below : List Waiting) (w : Waiting) (h : IsPlacing plan names mappings all placed (reverse stack)) (popped : stack ≡ below ++ w ∷ [])
      (n room : ℕ) (n_is : n ≡ length placed.slots.items) (room_is : room ≡ 4096 - 1 - length below - n) (found : Option (Vec Waiting)) (fits : Fits room (waiting_inside plan mappings n w) found) where
    turned : IsPlacing plan names mappings all placed (w ∷ reverse below)
    turned = subst (λ (ws : List Waiting). IsPlacing plan names mappings all placed ws) (ap reverse popped ∙ reverse-append below (w ∷ [])) h

    same_room_below : room ≡ 4096 - 1 - length (reverse below) - n
    same_room_below = room_is ∙ ap (λ k. 4096 - 1 - k - n) (sym (length-reverse below))

    pub loop_smaller : (placed' : Placed) → placed'.slots.items ≡ placed.slots.items ++ w.slot ∷ [] → 4096 - length placed'.slots.items < 4096 - length placed.slots.items
    loop_smaller placed' added = smaller all placed w (reverse below) turned n room n_is same_room_below placed' added

    pub loop_on : (v : Vec Waiting) → found ≡ Some v → (placed' : Placed) (stack' : List Waiting) (end : List ℕ) → end ≡ end_in names w → Added placed placed' w end → stack' ≡ below ++ reverse v.items → IsPlacing plan names mappings all placed' (reverse stack')
    loop_on v is placed' stack' end written added pushed =
        let fit = subst (λ f. Fits room (waiting_inside plan mappings n w) f) is fits in
        let size = ap length fit.0 in
        let back : reverse stack' ≡ v.items ++ reverse below = ap reverse pushed ∙ reverse-append below (reverse v.items) ∙ ap (λ (ws : List Waiting). ws ++ reverse below) (reverse-reverse v.items) in
        let own : Added placed placed' w (end_in names w) = subst (λ (t : List ℕ). Added placed placed' w t) written added in
        subst (λ (ws : List Waiting). IsPlacing plan names mappings all placed' ws) (sym back) (step all placed w (reverse below) turned n room n_is same_room_below v.items fit.0 (omega (arith, size, fit.1)) placed' own)

    -- the slots inside are too many
    pub loop_over : found ≡ None → 4096 < length all
    loop_over is = over all placed w (reverse below) turned n room n_is same_room_below (subst (λ f. Fits room (waiting_inside plan mappings n w) f) is fits)

  pub loop_few : (all : List Slot) (placed : Placed) (stack : List Waiting) → IsPlacing plan names mappings all placed (reverse stack) → length placed.slots.items + length stack ≤ 4096
  loop_few all placed stack h =
      let count = count_placed placed.paths placed.slots.items h.paths in
      let size = length-map (reverse stack) (pending_of names placed.paths) in
      let back = length-reverse stack in
      omega (arith, count, size, back, h.placing.few)

  pub loop_done : (all : List Slot) (placed : Placed) (stack : List Waiting) → stack ≡ [] → IsPlacing plan names mappings all placed (reverse stack) → (all_placed placed ≡ all) × (length all ≤ 4096)
  loop_done all placed stack none h =
      placing_done plan names mappings all (all_placed placed) (subst (λ (ws : List Waiting). IsPlacing plan names mappings all placed (reverse ws)) none h).placing

  -- ---- the slots at the top
  top_size : length (waiting_tops plan mappings) ≡ length (top_slots plan names mappings)
  top_size = sym (length-map (waiting_tops plan mappings) (pending_of names [])) ∙ ap length (tops_are plan names mappings)

  pub too_many_at_top : (found : Option (Vec Waiting)) → found ≡ None → Fits 4096 (waiting_tops plan mappings) found → None ≡ at_most 4096 (slots_of plan names mappings)
  too_many_at_top found is h =
      let over = subst (λ f. Fits 4096 (waiting_tops plan mappings) f) is h in
      let few = top_count plan names mappings in
      over_most (slots_of plan names mappings) (omega (arith, over, few, top_size))

  module _ (found : Option (Vec Waiting)) (tops : Vec Waiting) (is : found ≡ Some tops) (h : Fits 4096 (waiting_tops plan mappings) found) (waiting : List Waiting) (turned : waiting ≡ [] ++ reverse tops.items) where
    fit : (tops.items ≡ waiting_tops plan mappings) × (length (waiting_tops plan mappings) ≤ 4096)
    fit = subst (λ f. Fits 4096 (waiting_tops plan mappings) f) is h

    in_order_again : reverse waiting ≡ waiting_tops plan mappings
    in_order_again = ap reverse turned ∙ reverse-reverse tops.items ∙ fit.0

    all_of_them : whole (reverse waiting) ≡ slots_of plan names mappings
    all_of_them =
        ap (λ (ws : List Waiting). whole ws) in_order_again
        ∙ ap (λ (ps : List Pending). all_from plan names mappings 0 ps) (tops_are plan names mappings)
        ∙ sym (slots_are plan names mappings)

    pub few_waiting : length waiting ≤ 4096
    few_waiting =
        let size = ap length in_order_again in
        let back = length-reverse waiting in
        omega (arith, size, back, fit.1)

    pub ready_waiting : All (IsReady 0) (reverse waiting)
    ready_waiting =
        subst (λ (ws : List Waiting). All (IsReady 0) ws) (sym in_order_again)
        (All-weaker (HasParent None) (IsReady 0) (λ (w : Waiting) at s e. absurd (none-some s (sym at ∙ e))) (waiting_tops plan mappings) (children_have mappings (subsystem plan mappings) plan.subsystem.references))

    pub placed_all : (placed : Option (Vec Slot)) (v : Vec Slot) → placed ≡ Some v → Fits 4096 (whole (reverse waiting)) placed → Some v.items ≡ at_most 4096 (slots_of plan names mappings)
    placed_all placed v some fits =
        let all = subst (λ f. Fits 4096 (whole (reverse waiting)) f) some fits in
        let same = ap length all_of_them in
        ap Some (all.0 ∙ all_of_them) ∙ within_most (slots_of plan names mappings) (omega (arith, all.1, same))

    pub placed_none : (placed : Option (Vec Slot)) → placed ≡ None → Fits 4096 (whole (reverse waiting)) placed → None ≡ at_most 4096 (slots_of plan names mappings)
    placed_none placed none fits =
        let over = subst (λ f. Fits 4096 (whole (reverse waiting)) f) none fits in
        let same = ap length all_of_them in
        over_most (slots_of plan names mappings) (omega (arith, over, same))
