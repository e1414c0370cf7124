use Rattle.std.proofs.Common.{refl, ◌∙◌}
use Rattle.frame_lives.specs.Items.{item_in}
use Rattle.frame_lives.proofs.Items.{written_reached}
use Rattle.frame_lives.proofs.pages.Pages.reach.Goals as goal

pub returns : goal.returns
returns g c =
    let reached = c.in_ok-lengthen.ensures in (
      (refl, λ w _. written_reached g.T.Blank.no_item c.args.self.now c.lengthen.new.self c.args.place w reached, tt),
      record { writes_back = tt; value = ◌∙◌ {b = item_in g.T.Blank.no_item c.lengthen.new.self c.args.place} c.item_mut.ensures.value (reached.same c.args.place) },
    )
