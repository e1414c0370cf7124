use Rattle.timed_runs.proofs.Sourcing.{ends_again, part_follows, none_left, fits_again}
use Rattle.timed_runs.proofs.laws.walks_give_parts.Goals as goal

pub returns : goal.returns
returns c =
    record {
      parts = λ old new js more w ends. (part_follows old new js more w ends, ends_again old new js more w ends, none_left old new js more w ends);
      fits = λ t old new js more w f. fits_again t old new js more w f;
    }
