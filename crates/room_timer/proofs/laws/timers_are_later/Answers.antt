use Rattle.room_timer.proofs.Later.{seen_later, moment_later, wait_later}
use Rattle.room_timer.proofs.laws.timers_are_later.Goals as goal

pub returns : goal.returns
returns c =
    record {
      seeing = λ t ts party e h. seen_later t ts party e h;
      moments = λ number ts next until ms h is. moment_later number ts next until ms h is;
      waiting = λ number ts until h is. wait_later number ts until h is;
    }
