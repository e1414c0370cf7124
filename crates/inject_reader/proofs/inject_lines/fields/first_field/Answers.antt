use Rattle.std.proofs.Common.{◌≡◌, ◌<◌, length, sym, ◌∙◌, arith}
use Rattle.std.proofs.lemmas.Bool.Decides.{nat_tests}
use Rattle.inject_reader.proofs.inject_lines.FieldCuts.{no_field, one_field}
use Rattle.inject_reader.proofs.inject_lines.fields.first_field.Goals as goal

pub returns-then-is_empty : goal.returns-then-is_empty
returns-then-is_empty c =
    let none : c.word_len.result ≡ 0 = grind (arith, nat_tests) in
    no_field c.args.bytes.now c.behind_blanks-text.result.now c.behind_blanks-text.ensures.same c.behind_blanks-text.ensures.begins (sym c.word_len.ensures.len ∙ none)

pub returns-else-is_empty : goal.returns-else-is_empty
returns-else-is_empty c =
    let some : 0 < length c.split_at.result.0.now = grind (arith, nat_tests) in
    one_field c.args.bytes.now c.behind_blanks-text.result.now c.split_at.result.0.now c.split_at.result.1.now c.word_len.result
    c.behind_blanks-text.ensures.same c.word_len.ensures.len c.split_at.ensures.front c.split_at.ensures.back some
