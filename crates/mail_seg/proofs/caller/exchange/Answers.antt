use Rattle.std.proofs.Common.{◌≡◌, false, Result, Ok, Err, OnOk}
use Rattle.std.specs.Result.{is_err}
use Rattle.mail_core.proofs.ExchangeLemmas.{exchanges_steps}
use Rattle.mail_seg.specs.Ends.{IsSharedBox}
use Rattle.mail_seg.specs.Laws.{one_priority}
use Rattle.mail_seg.proofs.caller.exchange.Goals as goal

-- what holds of a post that was not refused
posted : {T E : Type 0} {P : Type 0} (r : Result T E) → false ≡ is_err r → OnOk r P → P
posted (Ok v) e p = p
posted (Err x) e p = absurd (cc)

pub returns : goal.returns
returns g c =
    exchanges_steps IsSharedBox one_priority c.args.m c.args.n c.args.b c.take_at-first.result c.take_at-second.result _ _ _ _ _ _
    c.requires.first c.requires.second c.requires.in_box c.in_ok-ends.ensures.fresh
    (posted c.post_at.result c.if-is_err.ensures.value c.post_at.ensures.ok)
    c.take_at-first.ensures.log c.take_at-first.ensures.some c.take_at-first.ensures.none
    c.take_at-second.ensures.log c.take_at-second.ensures.some
    (posted c.post_at-2.result c.if-is_err-2.ensures.value c.post_at-2.ensures.ok)
    c.in_ok-left.ensures
