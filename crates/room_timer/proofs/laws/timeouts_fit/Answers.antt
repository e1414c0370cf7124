use Rattle.room_timer.proofs.Fits.{seen_hears, moment_fits}
use Rattle.room_timer.proofs.laws.timeouts_fit.Goals as goal

pub returns : goal.returns
returns c =
    record {
      seeing = λ t ts party e h. seen_hears t ts party e h;
      moments = λ t number ts next until ms h is. moment_fits t number ts next until ms h is;
    }
