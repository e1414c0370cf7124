use Rattle.std.proofs.Common.{ℕ, List, drop, ap, ◌∙◌}
use Rattle.inject_reader.specs.declared.inject_lines.accepted.Line.{Line}
use Rattle.model_run.specs.fixed_lines.Fixed.{message_line}
use Rattle.model_run.proofs.fixed_lines.FixedLaw.{behind}
use Rattle.timed_runs.specs.Passed.{messages_in_front}
use Rattle.timed_runs.proofs.timed_lines.TimedLines.new.Goals as goal

pub invariant_of-result : goal.invariant_of-result
invariant_of-result c =
    let b = c.in_ok-walk.ensures in
    record {
      ends = λ e.
          ap (λ (ls : List Line). messages_in_front (drop c.in_ok-walk.walk.to ls)) b.lines_are ∙ ap (λ (k : ℕ). messages_in_front (drop k c.args.lines.now)) b.to
          ∙ behind message_line c.args.lines.now;
    }
