use Rattle.std.proofs.Common.{ℕ, drop, ap, ◌∙◌}
use Rattle.std.specs.List.{prefix_len}
use Rattle.inject_reader.specs.inject_lines.Fields.{is_blank, fields}
use Rattle.inject_reader.proofs.inject_lines.FieldCuts.{skip_blanks, none_comes}
use Rattle.inject_reader.proofs.inject_lines.fields.behind_blanks.Goals as goal

pub returns-clause-same : goal.returns-clause-same
returns-clause-same c =
    ap fields c.split_at.ensures.back ∙ ap (λ (n : ℕ). fields (drop n c.args.bytes.now)) c.blanks.ensures.len ∙ skip_blanks c.args.bytes.now

pub returns-clause-begins : goal.returns-clause-begins
returns-clause-begins c =
    ap (prefix_len is_blank) c.split_at.ensures.back ∙ ap (λ (n : ℕ). prefix_len is_blank (drop n c.args.bytes.now)) c.blanks.ensures.len ∙ none_comes is_blank c.args.bytes.now
