use Rattle.std.proofs.Common.{[]}
use Rattle.derived_classes.proofs.Groups.{one_empty_more}
use Rattle.derived_classes.proofs.refining.grouped.no_groups.Goals as goal

pub loop-name-preserved : goal.loop-name-preserved
loop-name-preserved c =
    one_empty_more c.args.names.now (record { ref_ptr = (0, 0); now = [] }) c.loop-name._name-index c.loop-name.groups.items c.push.new.self.items _ c.loop-name-test.true c.loop-name.invariant c.in_ok-push.ensures.items c.new.ensures.items c.new-in-loop-name.ensures.items
