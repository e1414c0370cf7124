use Rattle.model_run.specs.part_source.Calls.{seen}
use Rattle.timed_runs.specs.Unseen.{journal_at}
use Rattle.timed_runs.proofs.Looking.{smaller, still_so_far, none_still, all_so_far}
use Rattle.timed_runs.proofs.unseen.see_all.Goals as goal

pub loop-more-smaller : goal.loop-more-smaller
loop-more-smaller c =
    smaller c.args.wiring.now (journal_at c.args.wiring.now (seen c.args.controllers.now c.args.environment.now)) c.loop-more.counts.items
    c.see_one.new.counts.items c.loop-more.timers c.see_one.new.timers c.loop-more.more c.in_ok-more.more c.loop-more-test.true
    c.in_ok-more.ensures.some c.in_ok-more.ensures.none

pub loop-more-preserved : goal.loop-more-preserved
loop-more-preserved c =
    let t = c.args.wiring.now in
    let journals = journal_at t (seen c.args.controllers.now c.args.environment.now) in
    record {
      so_far = still_so_far t journals c.loop-more.counts.items c.see_one.new.counts.items c.loop-more.timers c.see_one.new.timers
          c.args.counts.now.items c.args.timers.now c.in_ok-more.more c.loop-more.invariant.so_far c.in_ok-more.ensures.some c.in_ok-more.ensures.none;
      none = λ e. none_still t journals c.loop-more.counts.items c.see_one.new.counts.items c.loop-more.timers c.see_one.new.timers
          (c.in_ok-more.ensures.none e);
    }

pub returns : goal.returns
returns c =
    all_so_far c.args.wiring.now (journal_at c.args.wiring.now (seen c.args.controllers.now c.args.environment.now)) c.args.counts.now.items
    c.loop-more.counts.items c.args.timers.now c.loop-more.timers c.loop-more.invariant.so_far (c.loop-more.invariant.none c.loop-more-test.false)
