use Rattle.std.proofs.Common.{◌∙◌, sym}
use Rattle.law_merges.proofs.One.{one_merge}
use Rattle.law_merges.proofs.merges_are_one.Goals as goal

pub returns : goal.returns
returns c = λ journals xs ys a b. one_merge xs ys a.ordered b.ordered (λ p. a.whole p ∙ sym (b.whole p))
