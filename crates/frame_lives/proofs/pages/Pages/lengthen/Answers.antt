use Rattle.frame_lives.proofs.Items.{page_reached}
use Rattle.frame_lives.proofs.pages.Pages.lengthen.Goals as goal

pub returns : goal.returns
returns g c =
    rw (← c.self.view_is)
    (page_reached g.T.Blank.no_item c.self.inside.pages.items c.lengthen.new.items.items c.args.place c.index_mut.result.now c.lengthen-2.new.self
    c.in_ok-lengthen.ensures c.index_mut.ensures.value c.in_ok-lengthen-2.ensures)
