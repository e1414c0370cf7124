use Rattle.std.proofs.Common.{◌≡◌, ◌+◌, ◌*◌, length}
use Rattle.room_ast.specs.ChartTree.{graph_view}
use Rattle.derived_classes.specs.Refining.{refined}
use Rattle.derived_classes.specs.Views.{refining_views}
use Rattle.derived_classes.proofs.Mixed.{mixed}
use Rattle.derived_classes.proofs.Seen.{names_left}
use Rattle.derived_classes.proofs.refining.graphs.+refining.Given as goal

abbrev pub invariant-refine_items-loop-place : goal.invariant-refine_items-loop-place
invariant-refine_items-loop-place l = record {
  same_length : length l.items.items ≡ length l.initial.items.items;
  same_graph : mixed l.place l.items.items l.seen (refining_views l.pending) ≡ refined (refining_views l.pending) (graph_view l.initial.items.items);
}

-- each call has fewer names left, or stands lower
abbrev pub decreases-refined_body : goal.decreases-refined_body
decreases-refined_body l = 5 * names_left (refining_views l.pending.now) + 4

abbrev pub decreases-refined_inside : goal.decreases-refined_inside
decreases-refined_inside l = 5 * names_left (refining_views l.pending.now) + 3

abbrev pub decreases-refine_items : goal.decreases-refine_items
decreases-refine_items l = 5 * names_left (refining_views l.pending.now) + 2

abbrev pub decreases-refine_item : goal.decreases-refine_item
decreases-refine_item l = 5 * names_left (refining_views l.grouped.now.pending.now) + 1

abbrev pub decreases-refine_state : goal.decreases-refine_state
decreases-refine_state l = 5 * names_left (refining_views l.grouped.now.pending.now)
