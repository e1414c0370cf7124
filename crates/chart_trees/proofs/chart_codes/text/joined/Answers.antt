use Rattle.std.proofs.Common.{◌∷◌, ◌++◌, ◌-◌, take, drop, length, ap, ◌∙◌, arith, List, ℕ}
use Rattle.chart_trees.specs.chart_codes.Codes.{text_bytes}
use Rattle.chart_trees.proofs.chart_codes.Joined.{lines_next, joined_end}
use Rattle.chart_trees.proofs.chart_codes.text.joined.Goals as goal

pub loop-text-preserved : goal.loop-text-preserved
loop-text-preserved c =
    lines_next text_bytes (take (length c.args.texts.now - 1) (drop 1 c.args.texts.now)) c.loop-text.text-index c.text-item.result c.in_ok-bytes.bytes.items c.loop-text.bytes.items c.add_line.new.bytes.items c.loop-text-test.true c.text-item.is c.loop-text.invariant
    (c.in_ok-add_line.ensures ∙ ap (λ (t : List ℕ). c.loop-text.bytes.items ++ (10 ∷ t)) c.text_bytes-in-loop-text.ensures)

pub returns : goal.returns
returns c = joined_end text_bytes c.args.texts.now c.first-item.result c.in_ok-bytes.bytes.items c.loop-text.bytes.items c.loop-text.text-index (omega arith) c.first-item.is (c.in_ok-bytes.ensures.items ∙ c.text_bytes.ensures) c.loop-text-test.false c.loop-text.invariant
