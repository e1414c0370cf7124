use Rattle.std.proofs.Common.{◌≡◌, map, length, slice_get, slice_set, Some, arith, ap, sym, ◌∙◌, subst, refl}
use Rattle.std.proofs.lemmas.Option.{slice_get_read}
use Rattle.std.proofs.lemmas.List.{map-set}
use Rattle.std.proofs.lemmas.Result.{on_ok_weaker}
use Rattle.mail_core.specs.EndLog.{posting}
use Rattle.mail_core.specs.Lanes.{log_at}
use Rattle.mail_core.specs.Tied.{StaysTied}
use Rattle.mail_core.proofs.Tied.{log_at-map}
use Rattle.mail_seg.specs.Ends.{log_of, AreTied}
use Rattle.mail_seg.specs.Laws.{in_order}
use Rattle.mail_seg.proofs.caller.post_at.Given.{Over}
use Rattle.mail_seg.proofs.caller.post_at.Goals as goal
use Rattle.mail_seg.proofs.caller.post_at.Goals.{After-index_mut-end}

-- the sender's end stands at its place
place : (g : Over) (c : After-index_mut-end g) → slice_get c.args.ends.now.items c.from.result ≡ Some c.index_mut-end.result.now
place g c = slice_get_read c.args.ends.now.items (length c.args.ends.now.items) c.from.result c.index_mut-end.result.now refl
    (omega (arith, c.from.ensures, c.requires.from)) c.index_mut-end.ensures.value

pub returns-clause-ok : goal.returns-clause-ok
returns-clause-ok g c =
    let here = place g (goal.at.returns-clause-ok g c).After-index_mut-end in
    let logs = map log_of c.args.ends.now.items in
    on_ok_weaker c.post.result
    (λ e. map-set log_of c.args.ends.now.items c.from.result c.post.new.self
    ∙ ap (λ l. slice_set logs c.from.result l) (e ∙ ap (λ l. posting l c.args.m) (sym (log_at-map log_of c.args.ends.now.items c.from.result c.index_mut-end.result.now here)))
    ∙ ap (λ k. slice_set logs k (posting (log_at logs k) c.args.m)) c.from.ensures)
    c.post.ensures.ok

pub returns-clause-tied : goal.returns-clause-tied
returns-clause-tied g c =
    let here = place g (goal.at.returns-clause-tied g c).After-index_mut-end in
    let order = in_order tt c.args.ends.now.items c.from.result c.index_mut-end.result.now c.requires.tied here in
    let stays : StaysTied AreTied c.from.result tt tt c.index_mut-end.result.now c.post.new.self = subst (λ k. StaysTied AreTied k tt tt c.index_mut-end.result.now c.post.new.self) order.0 c.post.ensures.tied in
    stays.again c.args.ends.now.items c.requires.tied here
