use Rattle.made_model.specs.Texts.{model_text}
use Rattle.made_model.proofs.Rows.{four_behind}
use Rattle.made_model.proofs.texts.model_text.Goals as goal

pub returns : goal.returns
unfolding model_text
returns c = four_behind _ _ _ _ _ _ _ _ _ _ c.in_ok-text.ensures.items c.in_ok-push_rows.ensures c.in_ok-push_rows-2.ensures c.in_ok-push_rows-3.ensures c.in_ok-extend_from_slice.ensures.items
