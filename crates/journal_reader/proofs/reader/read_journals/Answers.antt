use Rattle.std.proofs.Common.{sym, ◌∙◌}
use Rattle.journal_reader.proofs.Judging.{in_first_form, in_second_form}
use Rattle.journal_reader.proofs.reader.read_journals.Goals as goal

pub returns-then-is_second_form-clause-only : goal.returns-then-is_second_form-clause-only
returns-then-is_second_form-clause-only c = λ named j fits range text.
    let second = sym c.is_second_form.ensures ∙ c.if-is_second_form.true in
    c.read_second_form.ensures.only named j fits range (in_second_form c.args.wiring.now j c.args.bytes.now second text)

pub returns-clause-only : goal.returns-clause-only
returns-clause-only c = λ named j fits range text.
    let first = sym c.is_second_form.ensures ∙ c.if-is_second_form.false in
    c.read_first_form.ensures.only named j fits range (in_first_form c.args.wiring.now j c.args.bytes.now first text)
