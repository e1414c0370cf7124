use Rattle.std.proofs.Common.{[], ◌∷◌}
use Rattle.std.specs.List.{concat}
use Rattle.room_outside.specs.line_text.Parts.{part_texts}
use Rattle.room_outside.proofs.line_text.OutputLemmas.{puts_second}
use Rattle.room_outside.proofs.line_text.lines.write_line.Goals as goal

pub returns : goal.returns
returns g c =
    let put = rw c.clear.ensures at c.in_ok-put_all.ensures in
    puts_second _ _ _ _ (concat (part_texts c.args.parts.now)) (10 ∷ []) put c.end_line.ensures
