use Rattle.std.proofs.Common.{arith, refl}
use Rattle.number_graphs.proofs.class_containment.Searching.{started, walking_as, next_class, ordered}
use Rattle.number_graphs.proofs.class_containment.containment_order.Goals as goal

pub loop-class-init : goal.loop-class-init
loop-class-init c =
    ((walking_as c.args.classes.now _ _ _ _ _ _ refl refl c.new-2.ensures.items (started c.args.classes.now c.in_ok-progress.progress.items c.in_ok-progress.ensures), c.new.ensures.items), λ j lt. absurd (omega arith))

pub loop-class-preserved : goal.loop-class-preserved
loop-class-preserved c = next_class c.args.classes.now c.loop-class.walk c.search_from.new.walk c.loop-class.class c.in_ok-search_from.field-0 c.loop-class.invariant (c.in_ok-search_from.ensures c.args.classes.now) c.if-branch.false

pub returns : goal.returns
returns c = ordered c.args.classes.now c.loop-class.walk c.loop-class.invariant.0 (λ i lt. c.loop-class.invariant.1 i (omega arith))
