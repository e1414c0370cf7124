use Rattle.std.proofs.Common.{◌≡◌, ◌+◌, nat_lt, take, drop, List, sym, ap, ◌∙◌, subst}
use Rattle.std.specs.List.{prefix_len}
use Rattle.std.proofs.lemmas.Bool.{ltb-true}
use Rattle.std.proofs.lemmas.List.Sums.{prefix_len-le-length}
use Rattle.inject_reader.specs.declared.inject_lines.accepted.Line.{Line}
use Rattle.model_run.specs.fixed_lines.Fixed.{message_line, settle_line}
use Rattle.inject_reader.specs.Fitting.{LinesFit}
use Rattle.model_run.specs.part_source.Parts.{NextPart}
use Rattle.model_run.proofs.part_posts.FitLaw.{fit_take, fit_drop}
use Rattle.model_run.proofs.fixed_lines.FixedLaw.{ends_again, within_next, next_part, none_left, none_there}
use Rattle.model_run.proofs.fixed_lines.FixedLinesPartSource.next_part.Goals as goal

pub split_at-requires-2 : goal.split_at-requires-2
split_at-requires-2 c = rw c.leading_settles-settles.ensures (prefix_len-le-length settle_line c.split_at.result.1.now)

pub split_at-requires-3 : goal.split_at-requires-3
split_at-requires-3 c = rw c.leading_messages-messages.ensures (prefix_len-le-length message_line c.split_at-2.result.1.now)

pub invariant_of-self : goal.invariant_of-self
invariant_of-self c =
    let source = c.args.self.now in
    let lines = source.lines.now in
    let settles = c.leading_settles-settles.result in
    let messages = c.leading_messages-messages.result in
    let after : c.split_at-2.result.1.now ≡ drop settles (drop source.to lines) = c.split_at-2.ensures.back ∙ ap (λ (z : List Line). drop settles z) c.split_at.ensures.back in
    let s : settles ≡ prefix_len settle_line (drop source.to lines) = c.leading_settles-settles.ensures ∙ ap (λ (z : List Line). prefix_len settle_line z) c.split_at.ensures.back in
    let m : messages ≡ prefix_len message_line (drop settles (drop source.to lines)) = c.leading_messages-messages.ensures ∙ ap (λ (z : List Line). prefix_len message_line z) after in
    record {
      within = within_next lines source.to settles messages source.ends s m source.within;
      ends = ends_again lines source.to settles messages source.ends s m;
    }

pub returns-clause-next : goal.returns-clause-next
returns-clause-next c =
    let source = c.args.self.now in
    let lines = source.lines.now in
    let settles = c.leading_settles-settles.result in
    let messages = c.leading_messages-messages.result in
    let after : c.split_at-2.result.1.now ≡ drop settles (drop source.to lines) = c.split_at-2.ensures.back ∙ ap (λ (z : List Line). drop settles z) c.split_at.ensures.back in
    let s : settles ≡ prefix_len settle_line (drop source.to lines) = c.leading_settles-settles.ensures ∙ ap (λ (z : List Line). prefix_len settle_line z) c.split_at.ensures.back in
    let m : messages ≡ prefix_len message_line (drop settles (drop source.to lines)) = c.leading_messages-messages.ensures ∙ ap (λ (z : List Line). prefix_len message_line z) after in
    let part : c.split_at-3.result.0.now ≡ take messages (drop settles (drop source.to lines)) = c.split_at-3.ensures.front ∙ ap (λ (z : List Line). take messages z) after in
    subst (λ (z : List Line). NextPart (take source.to lines) (take ((source.to + settles) + messages) lines) z (nat_lt 0 messages)) (sym part)
    (next_part lines source.to settles messages source.ends s m (nat_lt 0 messages) (λ e. ltb-true 0 messages e) (λ e. none_there messages e))

pub returns-clause-fits : goal.returns-clause-fits
returns-clause-fits c = λ wiring fit.
    let source = c.args.self.now in
    let lines = source.lines.now in
    let settles = c.leading_settles-settles.result in
    let messages = c.leading_messages-messages.result in
    let after : c.split_at-2.result.1.now ≡ drop settles (drop source.to lines) = c.split_at-2.ensures.back ∙ ap (λ (z : List Line). drop settles z) c.split_at.ensures.back in
    let part : c.split_at-3.result.0.now ≡ take messages (drop settles (drop source.to lines)) = c.split_at-3.ensures.front ∙ ap (λ (z : List Line). take messages z) after in (
      fit.0,
      subst (λ (z : List Line). LinesFit wiring z) (sym part)
          (fit_take wiring messages (drop settles (drop source.to lines)) (fit_drop wiring settles (drop source.to lines) (fit_drop wiring source.to lines fit.0))),
    )

pub returns-clause-over : goal.returns-clause-over
returns-clause-over c = λ e.
    let source = c.args.self.now in
    let lines = source.lines.now in
    let settles = c.leading_settles-settles.result in
    let messages = c.leading_messages-messages.result in
    let after : c.split_at-2.result.1.now ≡ drop settles (drop source.to lines) = c.split_at-2.ensures.back ∙ ap (λ (z : List Line). drop settles z) c.split_at.ensures.back in
    let s : settles ≡ prefix_len settle_line (drop source.to lines) = c.leading_settles-settles.ensures ∙ ap (λ (z : List Line). prefix_len settle_line z) c.split_at.ensures.back in
    let m : messages ≡ prefix_len message_line (drop settles (drop source.to lines)) = c.leading_messages-messages.ensures ∙ ap (λ (z : List Line). prefix_len message_line z) after in
    none_left lines source.to settles messages source.ends s m (none_there messages e)
