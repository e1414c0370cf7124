use Rattle.timed_runs.specs.Shown.{shown}
use Rattle.timed_runs.proofs.Sourcing.{ends_again, part_follows, none_left, fits_again}
use Rattle.timed_runs.proofs.timed_lines.TimedLinesPartSource.next_part.Goals as goal

pub invariant_of-self-2 : goal.invariant_of-self-2
invariant_of-self-2 c =
    let source = c.args.self.now in
    record { ends = λ e. ends_again (shown source.walk) (shown c.next.new.self) _ c.in_ok-more.more c.in_ok-more.ensures (source.ends c.if-self.false) }

pub returns-clause-next : goal.returns-clause-next
returns-clause-next c =
    let source = c.args.self.now in
    part_follows (shown source.walk) (shown c.next.new.self) _ c.in_ok-more.more c.in_ok-more.ensures (source.ends c.if-self.false)

pub returns-clause-over : goal.returns-clause-over
returns-clause-over c =
    let source = c.args.self.now in
    none_left (shown source.walk) (shown c.next.new.self) _ c.in_ok-more.more c.in_ok-more.ensures (source.ends c.if-self.false)

pub returns-clause-goes_on : goal.returns-clause-goes_on
returns-clause-goes_on c = (c.in_ok-more.more, c.in_ok-more.ensures)

pub returns-clause-fits : goal.returns-clause-fits
returns-clause-fits c = λ wiring fit.
    fits_again wiring (shown c.args.self.now.walk) (shown c.next.new.self) _ c.in_ok-more.more c.in_ok-more.ensures fit
