use Rattle.std.proofs.Common.{ℕ, take, List, sym, subst}
use Rattle.std.proofs.lemmas.List.Sums.{prefix_len-le-length}
use Rattle.inject_reader.specs.declared.inject_lines.accepted.Line.{Line}
use Rattle.model_run.specs.fixed_lines.Fixed.{message_line}
use Rattle.inject_reader.specs.Fitting.{LinesFit}
use Rattle.model_run.specs.part_source.Parts.{IsPart}
use Rattle.model_run.proofs.part_posts.FitLaw.{fit_take}
use Rattle.model_run.proofs.fixed_lines.FixedLaw.{behind, messages_in_front}
use Rattle.model_run.proofs.fixed_lines.FixedLines.new.Goals as goal

pub split_at-requires : goal.split_at-requires
split_at-requires c = rw c.leading_messages-to.ensures (prefix_len-le-length message_line c.args.lines.now)

pub invariant_of-result : goal.invariant_of-result
invariant_of-result c = record {
  within = rw c.leading_messages-to.ensures (prefix_len-le-length message_line c.args.lines.now);
  ends = rw c.leading_messages-to.ensures (behind message_line c.args.lines.now);
}

pub returns-clause-fits : goal.returns-clause-fits
returns-clause-fits c = λ wiring fit.
    subst (λ (z : List Line). LinesFit wiring z) (sym c.split_at.ensures.front) (fit_take wiring c.leading_messages-to.result c.args.lines.now fit)

pub returns-clause-of : goal.returns-clause-of
returns-clause-of c =
    subst (λ (z : List Line). IsPart z) (sym c.split_at.ensures.front)
    (subst (λ (z : ℕ). IsPart (take z c.args.lines.now)) (sym c.leading_messages-to.ensures) (messages_in_front c.args.lines.now))
