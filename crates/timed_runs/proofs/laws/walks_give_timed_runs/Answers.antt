use Rattle.timed_runs.proofs.Whole.{timed, plain_run}
use Rattle.timed_runs.proofs.laws.walks_give_timed_runs.Goals as goal

pub returns : goal.returns
returns c =
    record {
      timed = λ plant lines fuel j first end fit begins asked ran. timed plant lines fuel j first end begins asked ran fit;
      plain = λ plant lines fuel j first end plain begins asked ran. plain_run plant lines fuel j first end begins asked ran plain;
    }
