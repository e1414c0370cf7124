use Rattle.std.proofs.Common.{◌≡◌, ◌∷◌, [], ◌++◌, ◌+◌, ◌-◌, ◌<◌, length, true, false, arith}
use Rattle.std.proofs.lemmas.Result.{err_from_is_err_and}
use Rattle.std.proofs.lemmas.List.{length-map, map_push}
use Rattle.room_ast.specs.ChartTree.{item_view, item_views}
use Rattle.room_tokens.specs.Single.{left, before_close}
use Rattle.room_tokens.proofs.Loop.{starts, goes, ends, exhausted, is_done}
use Rattle.room_parser.specs.chart_parser.Graphs.{item_to}
use Rattle.room_parser.proofs.chart_parser.graphs.+graph.Goals as goal

pub items-loop-alloc-init : goal.items-loop-alloc-init
items-loop-alloc-init t c = rw c.new-found.ensures.items (simp length-map at (starts before_close (item_to c.args.depth) (left c.args.rest)))

pub items-returns-then-turns-eq0 : goal.items-returns-then-turns-eq0
items-returns-then-turns-eq0 t c = exhausted (item_views c.loop-alloc.found.items) before_close (item_to c.args.depth) c.loop-alloc.turns (left c.loop-alloc.rest) _ (omega arith) (grind arith) c.loop-alloc.invariant

pub items-returns-in_err-one : goal.items-returns-in_err-one
items-returns-in_err-one t c =
    let p = err_from_is_err_and c.from_residual.result c.from_residual.ensures.1 in
    rw (p.1, p.2) (ends c.in_err-one.field-0.0 (item_views c.loop-alloc.found.items) before_close (item_to c.args.depth) c.loop-alloc.turns (left c.loop-alloc.rest) _ (grind arith) c.in_err-one.ensures c.loop-alloc.invariant)

pub items-loop-alloc-smaller : goal.items-loop-alloc-smaller
items-loop-alloc-smaller t c = omega arith

pub items-loop-alloc-preserved : goal.items-loop-alloc-preserved
items-loop-alloc-preserved t c =
    let pushed : item_views c.push.new.self.items ≡ item_views c.loop-alloc.found.items ++ item_view c.in_ok-one.one ∷ [] = rw c.in_ok-push.ensures.items (map_push _ c.loop-alloc.found.items c.in_ok-one.one) in
    rw pushed (goes (item_views c.loop-alloc.found.items) before_close (item_to c.args.depth) c.loop-alloc.turns (left c.loop-alloc.rest) (item_view c.in_ok-one.one) (left c.in_ok-one.after) _ (omega arith) (grind arith) c.in_ok-one.ensures c.loop-alloc.invariant)

pub items-returns : goal.items-returns
items-returns t c = is_done (item_views c.loop-alloc.found.items) before_close (item_to c.args.depth) c.loop-alloc.turns (left c.loop-alloc.rest) _ (grind arith) c.loop-alloc.invariant
