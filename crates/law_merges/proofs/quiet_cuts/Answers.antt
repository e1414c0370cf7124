use Rattle.law_merges.proofs.Cuts.{holds_all, one_cut}
use Rattle.law_merges.proofs.quiet_cuts.Goals as goal

pub returns : goal.returns
returns g c =
    record {
      all = λ plant lines xs ys end other run more cuts quiet posts p. holds_all plant lines xs ys end other run more cuts quiet posts p;
      one = λ plant lines xs ys end other run more cuts quiet still posts a b. one_cut plant lines xs ys end other run more cuts quiet still posts a b;
    }
