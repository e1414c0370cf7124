use Rattle.number_graphs.proofs.class_containment.Searching.{search_circle, search_on, search_less}
use Rattle.number_graphs.proofs.class_containment.search.Goals as goal

pub returns-then-branch : goal.returns-then-branch
returns-then-branch c = λ classes w. search_circle classes _ c.turn.new.walk c.loop-top.walk.path.items c.in-Some.top c.in_ok-turn.field-0 c.in-Some.ensures.items (c.loop-top.invariant classes w).0 c.in_ok-turn.ensures c.if-branch.true

pub loop-top-smaller : goal.loop-top-smaller
loop-top-smaller c = search_less _ c.turn.new.walk c.loop-top.walk.path.items c.in-Some.top c.in_ok-turn.field-0 c.in-Some.ensures.items c.in_ok-turn.ensures c.if-branch.false

pub loop-top-preserved : goal.loop-top-preserved
loop-top-preserved c = λ classes w.
    search_on classes _ c.turn.new.walk c.loop-top.walk.path.items c.in-Some.top c.in_ok-turn.field-0 c.in-Some.ensures.items (c.loop-top.invariant classes w).0 c.in_ok-turn.ensures _ (c.loop-top.invariant classes w).1 c.if-branch.false
