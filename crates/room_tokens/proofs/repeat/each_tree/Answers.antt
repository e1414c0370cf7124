use Rattle.std.proofs.Common.{◌≡◌, ◌∷◌, [], ◌++◌, map, arith}
use Rattle.std.proofs.lemmas.Result.{err_from_is_err_and}
use Rattle.std.proofs.lemmas.List.{length-map, map_push}
use Rattle.room_tokens.specs.Single.{left}
use Rattle.room_tokens.proofs.Loop.{starts, goes, ends, exhausted, is_done}
use Rattle.room_tokens.proofs.repeat.each_tree.Goals as goal

pub loop-alloc-init : goal.loop-alloc-init
loop-alloc-init g c = rw c.new-found.ensures.items (simp length-map at (starts g.P.TreePart.goes_on g.P.TreePart.reads (left c.args.rest)))

pub returns-then-turns-eq0 : goal.returns-then-turns-eq0
returns-then-turns-eq0 g c = exhausted (map g.P.TreePart.tree c.loop-alloc.found.items) g.P.TreePart.goes_on g.P.TreePart.reads c.loop-alloc.turns (left c.loop-alloc.rest) _ (omega arith) (grind arith) c.loop-alloc.invariant

pub returns-in_err-one : goal.returns-in_err-one
returns-in_err-one g c =
    let p = err_from_is_err_and c.from_residual.result c.from_residual.ensures.1 in
    rw (p.1, p.2) (ends c.in_err-one.field-0.0 (map g.P.TreePart.tree c.loop-alloc.found.items) g.P.TreePart.goes_on g.P.TreePart.reads c.loop-alloc.turns (left c.loop-alloc.rest) _ (grind arith) c.in_err-one.ensures c.loop-alloc.invariant)

pub loop-alloc-smaller : goal.loop-alloc-smaller
loop-alloc-smaller g c = omega arith

pub loop-alloc-preserved : goal.loop-alloc-preserved
loop-alloc-preserved g c =
    let pushed : map g.P.TreePart.tree c.push.new.self.items ≡ map g.P.TreePart.tree c.loop-alloc.found.items ++ g.P.TreePart.tree c.in_ok-one.one ∷ [] = rw c.in_ok-push.ensures.items (map_push _ c.loop-alloc.found.items c.in_ok-one.one) in
    rw pushed (goes (map g.P.TreePart.tree c.loop-alloc.found.items) g.P.TreePart.goes_on g.P.TreePart.reads c.loop-alloc.turns (left c.loop-alloc.rest) (g.P.TreePart.tree c.in_ok-one.one) (left c.in_ok-one.after) _ (omega arith) (grind arith) c.in_ok-one.ensures c.loop-alloc.invariant)

pub returns : goal.returns
returns g c = rw c.from.ensures (is_done (map g.P.TreePart.tree c.loop-alloc.found.items) g.P.TreePart.goes_on g.P.TreePart.reads c.loop-alloc.turns (left c.loop-alloc.rest) _ (grind arith) c.loop-alloc.invariant)
