use Rattle.std.proofs.Common.{◌≡◌, ◌<◌, ◌≤◌, ◌++◌, length, get_or, List, sym, ap, ◌∙◌, arith}
use Rattle.std.specs.List.{range_with_len}
use Rattle.std.proofs.lemmas.List.{append-nil}
use Rattle.room_kinds.specs.declared.message.Msg.{Msg}
use Rattle.layer_service.specs.layer_links.Kept.{PointState, point_in, withdrawals}
use Rattle.layer_service.proofs.layer_links.Withdrawn.{none_listed, listed_withdrawn}
use Rattle.layer_service.proofs.layer_links.links.Links.withdraw_each.Goals as goal

pub returns-then-from-len : goal.returns-then-from-len
returns-then-from-len c =
    let slots : List (List PointState) = c.self.inside.slots.items in
    let s = c.args.actor.slot.0 in
    let lt : s < length slots = omega (arith, c.from.ensures, c.len.ensures) in
    let read : c.index-points.result.now ≡ get_or slots s c.index-points.result.now = rw c.from-then-from-len.ensures at c.index-points.ensures in
    c.in_ok-withdraw_each.ensures
    ∙ ap (λ (ms : List Msg). c.args.out.now ++ ms) (listed_withdrawn c.args.me.0 c.args.actor slots s c.args.ports c.index-points.result.now lt read)
    ∙ ap (λ (xs : List (List PointState)). c.args.out.now ++ withdrawals c.args.me.0 c.args.actor (point_in xs s) (range_with_len 0 c.args.ports)) c.self.view_is

pub returns : goal.returns
returns c =
    let past : length c.args.self.now ≤ c.args.actor.slot.0 =
    omega (arith, c.from.ensures, c.len.ensures, ap (λ (s : List (List PointState)). length s) c.self.view_is) in
    sym (ap (λ (ms : List Msg). c.args.out.now ++ ms) (none_listed c.args.me.0 c.args.actor c.args.self.now c.args.actor.slot.0 c.args.ports past) ∙ append-nil c.args.out.now)
