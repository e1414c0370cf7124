use Rattle.std.proofs.Common.{◌≡◌, ◌∙◌, ℕ, ◌-◌, ◌<◌, ◌≤◌, ◌+◌, ◌++◌, length, List, ap, get_or, drop, refl, arith}
use Rattle.std.specs.List.{enumerate_from, flat_map}
use Rattle.std.proofs.lemmas.List.FromFn.{length-map-range_with_len}
use Rattle.wiring_plan.specs.declared.structure_plan.plan.ReferencePlan.{ReferencePlan}
use Rattle.wiring_slots.specs.declared.slot_tree.names.MappingPlan.{MappingPlan}
use Rattle.wiring_slots.specs.declared.slot_tree.children.Waiting.{Waiting}
use Rattle.wiring_slots.specs.declared.slot_tree.children.Container.{Container}
use Rattle.wiring_slots.specs.declared.slot_tree.owners.Trail.{Trail}
use Rattle.wiring_slots.specs.slot_tree.Leading.{by_reference}
use Rattle.wiring_slots.specs.slot_tree.WaitingSlots.{waiting_at, waiting_of_reference, waiting_of_references}
use Rattle.wiring_slots.proofs.slot_tree.Growing.{indexes_fit, reference_added, reference_over}
use Rattle.wiring_slots.proofs.slot_tree.Handing.{length-by_reference, referred}
use Rattle.wiring_slots.proofs.slot_tree.children.waiting_of_references.Goals as goal

pub index-requires : goal.index-requires
index-requires c =
    let size = ap length c.in_ok-lists.ensures ∙ length-by_reference c.args.mappings.now (length c.args.references.now) c.args.container.now.trails in
    omega (arith, size, c.in_ok-lists.lists.ok.0)

pub add_reference-requires : goal.add_reference-requires
add_reference-requires c =
    let mappings = c.args.mappings.now in
    let count = length c.args.references.now in
    let number = c.loop-number.number in
    let found : c.in_ok-lists.lists.items ≡ by_reference mappings count c.args.container.now.trails = c.in_ok-lists.ensures in
    c.index.ensures ∙ ap (λ (ls : List (List Trail)). get_or ls number c.index.result.now) found ∙ referred mappings count number c.args.container.now.trails c.index.result.now (omega arith)

module _ (mappings : List MappingPlan) (container : Container) (references : List ReferencePlan) (i size room : ℕ) (d : ReferencePlan) (now : List Waiting) where
  abbrev whole : List Waiting → ℕ → List Waiting
  whole front n = front ++ flat_map (waiting_of_reference mappings container) (enumerate_from n (drop n references))

  abbrev all : List Waiting
  all = flat_map (waiting_of_reference mappings container) (enumerate_from 0 references)

  none_more : i < length references → size ≡ length now → room - size < (get_or references i d).count → length now ≤ room → whole now i ≡ all → room < length all
  none_more l is less few h =
      let added = length-map-range_with_len (waiting_at mappings container i (get_or references i d)) 0 (get_or references i d).count in
      reference_over (waiting_of_reference mappings container) references i d (get_or references i d) l refl now all room h (omega (arith, added, is, less, few))

  one_more : (new : List Waiting) → new ≡ now ++ waiting_of_reference mappings container (i, get_or references i d) → i < length references → size ≡ length now → (get_or references i d).count ≤ room - size → length now ≤ room → whole now i ≡ all
      → (whole new (i + 1) ≡ all) × (length new ≤ room)
  one_more new more l is fits few h = (
    reference_added (waiting_of_reference mappings container) references i d (get_or references i d) l refl now new all h more,
    indexes_fit (waiting_at mappings container i (get_or references i d)) now new (get_or references i d).count room (omega (arith, is, fits)) few more,
  )

-- there is no room for the next reference
pub returns-then-reference-room : goal.returns-then-reference-room
unfolding waiting_of_references
returns-then-reference-room c =
    none_more c.args.mappings.now c.args.container.now c.args.references.now c.loop-number.number c.len.result c.args.room _ c.loop-number.children.items
    (omega arith) (omega (arith, c.len.ensures, c.loop-number.children.ok.0)) c.if-reference-room.true c.loop-number.invariant.1 c.loop-number.invariant.0

pub loop-number-preserved : goal.loop-number-preserved
loop-number-preserved c =
    one_more c.args.mappings.now c.args.container.now c.args.references.now c.loop-number.number c.len.result c.args.room _ c.loop-number.children.items
    c.add_reference.new.children.items c.in_ok-add_reference.ensures (omega arith) (omega (arith, c.len.ensures, c.loop-number.children.ok.0)) (omega arith) c.loop-number.invariant.1 c.loop-number.invariant.0
