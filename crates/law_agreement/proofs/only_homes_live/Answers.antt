use Rattle.law_agreement.proofs.Parting.{runs_whole}
use Rattle.law_agreement.proofs.only_homes_live.Goals as goal

pub returns : goal.returns
returns g c = λ model t lines clear clear_lines first xs end r n.
    let whole = (runs_whole model clear t first lines clear_lines xs end r).whole n in
    record { homes = whole.homes; counted = whole.sound.created }
