use Rattle.std.proofs.Common.{refl, map, ◌∙◌}
use Rattle.check_scopes.specs.class_scopes.Fields.{field_view}
use Rattle.check_scopes.specs.class_scopes.Walks.{walk_view, pending_view}
use Rattle.check_scopes.proofs.class_scopes.WalkLaws.{walked, popped, fewer_looks}
use Rattle.check_scopes.proofs.class_scopes.numbers.walk_all.Goals as goal

pub loop-top-preserved : goal.loop-top-preserved
loop-top-preserved c = λ first.
    let so_far = c.loop-top.invariant first in
    let now = walked (map (map field_view) c.args.fields.now) (walk_view c.loop-top.walk) (walk_view (record c.loop-top.walk { pending = c.pop.new.self })) (walk_view c.step.new.walk) (pending_view c.in-Some.top)
    (popped pending_view c.loop-top.walk.pending.items c.pop.new.self.items c.in-Some.top c.in-Some.ensures.items) refl refl c.in_ok-step.ensures so_far.0 in
    (now.falls, now.same ∙ so_far.1)

pub loop-top-smaller : goal.loop-top-smaller
loop-top-smaller c =
    fewer_looks (map (map field_view) c.args.fields.now) (walk_view c.loop-top.walk) (walk_view (record c.loop-top.walk { pending = c.pop.new.self })) (walk_view c.step.new.walk) (pending_view c.in-Some.top)
    (popped pending_view c.loop-top.walk.pending.items c.pop.new.self.items c.in-Some.top c.in-Some.ensures.items) c.in_ok-step.ensures
