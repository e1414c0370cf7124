use Rattle.std.proofs.Common.{arith}
use Rattle.std.proofs.lemmas.Result.{err_from_is_err_and}
use Rattle.std.proofs.lemmas.List.{length-map}
use Rattle.room_tokens.specs.Single.{left}
use Rattle.room_tokens.proofs.Loop.{starts, goes, ends, exhausted, is_done}
use Rattle.room_tokens.proofs.repeat.each.Goals as goal

pub loop-alloc-init : goal.loop-alloc-init
loop-alloc-init g c = rw c.new-found.ensures.items (simp length-map at (starts g.P.Part.goes_on g.P.Part.reads (left c.args.rest)))

pub returns-then-turns-eq0 : goal.returns-then-turns-eq0
returns-then-turns-eq0 g c = exhausted c.loop-alloc.found.items g.P.Part.goes_on g.P.Part.reads c.loop-alloc.turns (left c.loop-alloc.rest) _ (omega arith) (grind arith) c.loop-alloc.invariant

pub returns-in_err-one : goal.returns-in_err-one
returns-in_err-one g c =
    let p = err_from_is_err_and c.from_residual.result c.from_residual.ensures.1 in
    rw (p.1, p.2) (ends c.in_err-one.field-0.0 c.loop-alloc.found.items g.P.Part.goes_on g.P.Part.reads c.loop-alloc.turns (left c.loop-alloc.rest) _ (grind arith) c.in_err-one.ensures c.loop-alloc.invariant)

pub loop-alloc-smaller : goal.loop-alloc-smaller
loop-alloc-smaller g c = omega arith

pub loop-alloc-preserved : goal.loop-alloc-preserved
loop-alloc-preserved g c =
    rw c.in_ok-push.ensures.items (goes c.loop-alloc.found.items g.P.Part.goes_on g.P.Part.reads c.loop-alloc.turns (left c.loop-alloc.rest) c.in_ok-one.one (left c.in_ok-one.after) _ (omega arith) (grind arith) c.in_ok-one.ensures c.loop-alloc.invariant)

pub returns : goal.returns
returns g c = rw c.from.ensures (is_done c.loop-alloc.found.items g.P.Part.goes_on g.P.Part.reads c.loop-alloc.turns (left c.loop-alloc.rest) _ (grind arith) c.loop-alloc.invariant)
