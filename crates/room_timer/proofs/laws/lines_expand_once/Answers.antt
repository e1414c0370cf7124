use Rattle.room_timer.proofs.Once.{one_expansion, plain}
use Rattle.room_timer.proofs.laws.lines_expand_once.Goals as goal

pub returns : goal.returns
returns c =
    record {
      once = λ t done p lines xs ys left rest a b. one_expansion t done p lines xs ys left rest a b;
      plain = λ t done p lines xs left h a. plain t done p lines xs left h a;
    }
