use Rattle.std.proofs.Common.{rules, ◌≡◌, ◌<◌, ◌∙◌, List, length, sym, ap, subst, arith}
use Rattle.room_ast.specs.ChartTree.{state_view}
use Rattle.derived_classes.specs.Refining.{meant_for}
use Rattle.derived_classes.specs.Views.{refining_views}
use Rattle.derived_classes.specs.declared.refining.paths.Pending.{Pending}
use Rattle.derived_classes.proofs.Mixed.{refined_next}
use Rattle.derived_classes.proofs.Nothing.{its_name, name_of, state_unrefined}
use Rattle.derived_classes.proofs.Seen.{names_left, fewer_left}
use Rattle.derived_classes.proofs.refining.graphs.+refining.Goals as goal

pub refine_items-loop-place-preserved : goal.refine_items-loop-place-preserved
refine_items-loop-place-preserved t c = record {
  same_length = search rules;
  same_graph = refined_next (refining_views c.args.pending.now) (refining_views c.in_ok-grouped.grouped.pending.now) (ap refining_views (sym c.in_ok-grouped.ensures.pending)) _ c.loop-place.place c.loop-place.items.items c.index_mut.result.now c.refine_item.new.item c.loop-place.seen c.refine_item.new.seen c.loop-place.invariant.same_graph (search rules) c.index_mut.ensures.value c.in_ok-refine_item.ensures.item c.in_ok-refine_item.ensures.names;
}

pub refine_state-returns-then-is_empty-clause-state :
    goal.refine_state-returns-then-is_empty-clause-state
refine_state-returns-then-is_empty-clause-state t c =
    let none : length c.in_ok-changes.changes.items ≡ 0 = search rules in
    let named : c.as_bytes.result.now ≡ name_of (state_view c.args.state.now) = c.as_bytes.ensures ∙ its_name c.args.state.now in
    state_unrefined (state_view c.args.state.now) c.args.seen.now (refining_views c.args.grouped.now.pending.now) c.in_ok-changes.changes.items (c.in_ok-changes.ensures.meant ∙ ap (λ n. meant_for c.args.seen.now n (refining_views c.args.grouped.now.pending.now)) named) none

pub refine_state-refined_body-requires : goal.refine_state-refined_body-requires
refine_state-refined_body-requires t c =
    let some : length c.in_ok-changes.changes.items ≡ 0 → ⊥ = search rules in
    let less = fewer_left (refining_views c.args.grouped.now.pending.now) c.args.seen.now _ c.in_ok-changes.changes.items c.in_ok-changes.ensures.meant some in
    let P : List Pending → Type 0 = λ ps. names_left (refining_views ps) < names_left (refining_views c.args.grouped.now.pending.now) in
    (omega (arith, subst P (sym c.as_slice.ensures.value) less), tt)
