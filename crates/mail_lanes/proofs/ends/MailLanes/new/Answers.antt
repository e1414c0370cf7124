use Rattle.std.proofs.Common.{refl, ap, ◌∙◌, slice_index}
use Rattle.mail_core.proofs.FreshLemmas.{slice_index-replicate}
use Rattle.mail_lanes.proofs.SetUpLemmas.{IsEnd-new}
use Rattle.mail_lanes.proofs.ends.MailLanes.new.Goals as goal

pub returns : goal.returns
returns c = IsEnd-new c.args.parties c.args.party _ refl refl c.requires.posted c.requires.taken (ap slice_index (c.in_ok-looks.ensures.items_if_clones_equal (λ y h. h)) ∙ slice_index-replicate _)
