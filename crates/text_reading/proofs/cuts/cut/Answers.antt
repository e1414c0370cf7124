use Rattle.std.proofs.Common.{ℕ, take, ap, ◌∙◌}
use Rattle.text_reading.proofs.CutSteps.{cut_front, cut_none, cut_some}
use Rattle.text_reading.proofs.cuts.cut.Goals as goal

pub returns-in-empty-clause-before : goal.returns-in-empty-clause-before
returns-in-empty-clause-before c = c.split_at.ensures.front ∙ ap (λ (n : ℕ). take n c.args.bytes.now) c.length_before.ensures.len ∙ cut_front c.args.at c.args.bytes.now

pub returns-in-empty-clause-behind : goal.returns-in-empty-clause-behind
returns-in-empty-clause-behind c = cut_none c.args.at c.length_before.result c.args.bytes.now c.split_at.result.1.now c.length_before.ensures.len c.split_at.ensures.back c.in-empty.len_below

pub returns-in-len1-up-clause-before : goal.returns-in-len1-up-clause-before
returns-in-len1-up-clause-before c = c.split_at.ensures.front ∙ ap (λ (n : ℕ). take n c.args.bytes.now) c.length_before.ensures.len ∙ cut_front c.args.at c.args.bytes.now

pub returns-in-len1-up-clause-behind : goal.returns-in-len1-up-clause-behind
returns-in-len1-up-clause-behind c = cut_some c.args.at c.length_before.result c.args.bytes.now c.split_at.result.1.now c.length_before.ensures.len c.split_at.ensures.back c.in-len1-up.len_at_least
