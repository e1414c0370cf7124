use Rattle.std.proofs.Common.{◌<◌, ◌≤◌, ◌++◌, true, false, length, List, min, sym, ap, ◌∙◌, arith}
use Rattle.std.proofs.lemmas.List.{append-nil}
use Rattle.room_kinds.specs.declared.message.Msg.{Msg}
use Rattle.actor_duties.specs.Links.{is_entered}
use Rattle.layer_service.specs.layer_links.Kept.{point_at}
use Rattle.layer_service.proofs.layer_links.Withdrawn.{port_done, none_left}
use Rattle.layer_service.proofs.layer_links.points.Points.withdraw_each.Goals as goal
use Rattle.layer_service.proofs.layer_links.points.Points.withdraw_each.Goals.{then-is_entered+in_ok-ask, else-is_entered}

pub loop-index-preserved : goal.loop-index-preserved
loop-index-preserved c =
    let lt : c.loop-index.index < c.args.ports = omega (arith, c.min-index-end.ensures) in
    let is = sym (ap is_entered c.registration.ensures) ∙ sym c.is_entered.ensures in
    let point = point_at c.args.self.now in
    elim c.if-is_entered.branch [
      | then-is_entered+in_ok-ask w ↦
          let sent = rw (w.point_of-point.ensures, w.empty.ensures) at w.in_ok-ask.ensures in
          port_done c.args.me.0 c.args.actor point c.loop-index.index c.args.ports _ c.loop-index.out c.if-is_entered.out true lt
          (is ∙ w.if-is_entered.true) (w.out-is ∙ sent) c.loop-index.invariant
      | else-is_entered w ↦
          port_done c.args.me.0 c.args.actor point c.loop-index.index c.args.ports _ c.loop-index.out c.if-is_entered.out false lt
          (is ∙ w.if-is_entered.false) (w.out-is ∙ sym (append-nil c.loop-index.out)) c.loop-index.invariant
    ]

pub returns : goal.returns
returns c =
    let through : min c.args.ports (length c.args.self.now) ≤ c.loop-index.index = omega (arith, c.min-index-end.ensures, c.len.ensures.len) in
    let none = none_left c.args.me.0 c.args.actor c.args.self.now c.loop-index.index c.args.ports through in
    sym (c.loop-index.invariant ∙ ap (λ (ms : List Msg). c.loop-index.out ++ ms) none ∙ append-nil c.loop-index.out)
