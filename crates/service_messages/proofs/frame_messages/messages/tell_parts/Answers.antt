use Rattle.std.proofs.Common.{sym, ◌∙◌}
use Rattle.service_messages.proofs.frame_messages.Parts.{told_on, passed_on}
use Rattle.service_messages.proofs.frame_messages.messages.tell_parts.Goals as goal
use Rattle.service_messages.proofs.frame_messages.messages.tell_parts.Goals.{then-is_other_part+in_ok-tell_part, else-is_other_part}

pub loop-number-preserved : goal.loop-number-preserved
loop-number-preserved c =
    let t = c.args.site.now.wiring.now in
    let n = c.loop-number.number in
    elim c.if-is_other_part.branch [
      | then-is_other_part+in_ok-tell_part w ↦
          told_on t c.args.site.now.me.0 c.args.kind c.args.actor c.args.out.now c.loop-number.out c.if-is_other_part.out n c.loop-number.invariant
          (w.out-is ∙ w.in_ok-tell_part.ensures) (sym c.is_other_part.ensures ∙ w.if-is_other_part.true)
      | else-is_other_part w ↦
          w.out-is ∙ passed_on t c.args.site.now.me.0 c.args.kind c.args.actor c.args.out.now c.loop-number.out n c.loop-number.invariant
          (sym c.is_other_part.ensures ∙ w.if-is_other_part.false)
    ]
