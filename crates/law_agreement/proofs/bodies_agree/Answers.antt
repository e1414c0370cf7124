use Rattle.law_agreement.proofs.Parting.{runs_whole, parts_whole, own_parts, quiet_bodies}
use Rattle.law_agreement.proofs.bodies_agree.Goals as goal

pub returns : goal.returns
returns g c =
    record {
      runs = λ model t lines clear clear_lines first xs end r.
          let inv = runs_whole model clear t first lines clear_lines xs end r in
          (parts_whole model clear t first lines clear_lines end inv, own_parts model clear t first lines clear_lines end inv, inv.parts, inv.alternate);
      quiet = λ model t lines clear clear_lines first xs end r quiet o s body near.
          quiet_bodies model clear t first lines clear_lines end (runs_whole model clear t first lines clear_lines xs end r) quiet o s body near;
    }
