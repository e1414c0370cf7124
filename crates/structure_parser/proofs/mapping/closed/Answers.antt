use Rattle.std.proofs.Common.{◌≡◌, ℕ, List, take, append-nil, ◌∷◌, [], ◌-◌, sym, ap, ◌∙◌, arith}
use Rattle.std.proofs.lemmas.Result.{err_from_is_err_and}
use Rattle.std.proofs.lemmas.List.{length-map}
use Rattle.room_ast.specs.MappingTree.{mapping_views}
use Rattle.room_tokens.specs.Single.{left}
use Rattle.structure_parser.specs.Mappings.{Frame, closed_in, frames_view, frame_view}
use Rattle.structure_parser.proofs.ClosedTurns.{starts, frames_push, frames_pop, opens, plain, fails, closes, done, exhausted}
use Rattle.structure_parser.proofs.mapping.closed.Goals as goal

pub loop-turns-init : goal.loop-turns-init
loop-turns-init c = rw (c.new-frames.ensures.items, c.new-found.ensures.items) (simp length-map at (starts (left c.args.rest)))

pub returns-in_err-path : goal.returns-in_err-path
returns-in_err-path c =
    let p = err_from_is_err_and c.from_residual.result c.from_residual.ensures.1 in
    rw (p.1, p.2) (fails c.in_err-path.field-0.0 c.loop-turns.turns (c.loop-turns.turns - 1) (frames_view c.loop-turns.frames.items) (mapping_views c.loop-turns.found.items) (left c.loop-turns.rest) _ (omega arith) (grind arith) c.in_err-path.ensures c.loop-turns.invariant)

pub loop-turns-preserved-then-comes : goal.loop-turns-preserved-then-comes
loop-turns-preserved-then-comes c =
    let items = c.loop-turns.frames.items in
    let found = mapping_views c.loop-turns.found.items in
    let frame : Frame = record { path = c.in_ok-path.path; thread = c.in_ok-path.thread; before = found } in
    let pushed : frames_view c.push.new.self.items ≡ frame ∷ frames_view items = ap frames_view c.in_ok-push.ensures.items ∙ frames_push items _ in
    rw (pushed, c.new-found-then-comes.ensures.items, c.skip-rest.ensures)
    (opens c.loop-turns.turns (c.loop-turns.turns - 1) (frames_view items) found (left c.loop-turns.rest) c.in_ok-path.path c.in_ok-path.thread (left c.in_ok-path.after) _ (omega arith) (grind arith) c.in_ok-path.ensures (grind arith) c.loop-turns.invariant)

pub loop-turns-preserved-else-comes : goal.loop-turns-preserved-else-comes
loop-turns-preserved-else-comes c =
    let found = mapping_views c.loop-turns.found.items in
    rw c.in_ok-found.ensures
    (plain c.loop-turns.turns (c.loop-turns.turns - 1) (frames_view c.loop-turns.frames.items) found (left c.loop-turns.rest) c.in_ok-path.path c.in_ok-path.thread (left c.in_ok-path.after) _ (omega arith) (grind arith) c.in_ok-path.ensures (grind arith) c.loop-turns.invariant)

pub returns-in_default : goal.returns-in_default
returns-in_default c =
    let none : c.loop-turns.frames.items ≡ [] = c.in_default.ensures.items ∙ append-nil c.pop.new.self.items ∙ c.in_default.ensures.rest ∙ ap (λ (k : ℕ). take (k - 1) c.loop-turns.frames.items) c.in_default.ensures.cases.0 in
    let found = mapping_views c.loop-turns.found.items in
    let so_far = ap (λ (fs : List Frame). closed_in c.loop-turns.turns fs found (left c.loop-turns.rest)) (sym (ap frames_view none)) ∙ c.loop-turns.invariant in
    rw c.skip-rest-else-before_close.ensures (done c.loop-turns.turns (c.loop-turns.turns - 1) found (left c.loop-turns.rest) _ (omega arith) (grind arith) so_far)

pub loop-turns-preserved : goal.loop-turns-preserved
loop-turns-preserved c =
    let found = mapping_views c.loop-turns.found.items in
    let outer = c.in-Some.outer in
    let popped = frames_pop c.loop-turns.frames.items c.pop.new.self.items outer c.in-Some.ensures.items in
    let so_far = ap (λ (fs : List Frame). closed_in c.loop-turns.turns fs found (left c.loop-turns.rest)) (sym popped) ∙ c.loop-turns.invariant in
    rw (c.in_ok-found-2.ensures, c.skip-rest-else-before_close.ensures)
    (closes c.loop-turns.turns (c.loop-turns.turns - 1) (frame_view outer) (frames_view c.pop.new.self.items) found (left c.loop-turns.rest) _ (omega arith) (grind arith) so_far)

pub returns : goal.returns
returns c = exhausted c.loop-turns.turns (frames_view c.loop-turns.frames.items) (mapping_views c.loop-turns.found.items) (left c.loop-turns.rest) _ (omega arith) c.loop-turns.invariant
