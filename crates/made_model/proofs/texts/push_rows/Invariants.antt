use Rattle.std.proofs.Common.{◌≡◌, ◌++◌}
use Rattle.made_model.specs.Texts.{row_of, texts_below}
use Rattle.made_model.proofs.texts.push_rows.Given as goal

abbrev pub invariant-loop-actor : goal.invariant-loop-actor
invariant-loop-actor l = l.text.items ≡ l.initial.text.items ++ texts_below (row_of l.row l.count) l.actor
