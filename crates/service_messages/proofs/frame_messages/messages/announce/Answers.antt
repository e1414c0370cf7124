use Rattle.std.proofs.Common.{sym, ◌∙◌, pos}
use Rattle.service_messages.proofs.frame_messages.Announced.{told_on, passed_on}
use Rattle.service_messages.proofs.frame_messages.messages.announce.Goals as goal
use Rattle.service_messages.proofs.frame_messages.messages.announce.Goals.{then-tells+in_ok-announce_to, else-tells}

pub loop-number-preserved : goal.loop-number-preserved
loop-number-preserved c =
    let t = c.args.site.now.wiring.now in
    let n = c.loop-number.number in
    elim c.if-tells.branch [
      | then-tells+in_ok-announce_to w ↦
          told_on t c.args.site.now.me.0 c.args.actor (pos c.args.up) c.args.out.now c.loop-number.out c.if-tells.out n c.loop-number.invariant
          (w.out-is ∙ w.in_ok-announce_to.ensures) (sym c.tells.ensures ∙ w.if-tells.true)
      | else-tells w ↦
          w.out-is ∙ passed_on t c.args.site.now.me.0 c.args.actor (pos c.args.up) c.args.out.now c.loop-number.out n c.loop-number.invariant (sym c.tells.ensures ∙ w.if-tells.false)
    ]
