use Rattle.std.proofs.Common.{◌≡◌, map, length, slice_get, slice_set, Some, arith, ap, sym, ◌∙◌, subst, refl}
use Rattle.std.proofs.lemmas.Option.{slice_get_read}
use Rattle.std.proofs.lemmas.List.{map-set}
use Rattle.mail_core.specs.EndLog.{taking}
use Rattle.mail_core.specs.Lanes.{log_at}
use Rattle.mail_core.specs.Tied.{StaysTied}
use Rattle.mail_core.proofs.Tied.{log_at-map}
use Rattle.mail_seg.specs.Ends.{log_of, AreTied}
use Rattle.mail_seg.specs.Laws.{in_order}
use Rattle.mail_seg.proofs.caller.take_at.Given.{Over}
use Rattle.mail_seg.proofs.caller.take_at.Goals as goal
use Rattle.mail_seg.proofs.caller.take_at.Goals.{After-index_mut-end}

-- the party's end stands at its place
place : (g : Over) (c : After-index_mut-end g) → slice_get c.args.ends.now.items c.from.result ≡ Some c.index_mut-end.result.now
place g c = slice_get_read c.args.ends.now.items (length c.args.ends.now.items) c.from.result c.index_mut-end.result.now refl
    (omega (arith, c.from.ensures, c.requires.party)) c.index_mut-end.ensures.value

pub returns-clause-log : goal.returns-clause-log
returns-clause-log g c =
    let here = place g (goal.at.returns-clause-log g c).After-index_mut-end in
    let logs = map log_of c.args.ends.now.items in
    map-set log_of c.args.ends.now.items c.from.result c.take.new.self
    ∙ ap (λ l. slice_set logs c.from.result l) (c.take.ensures.log ∙ ap (λ l. taking l c.args.b c.take.result) (sym (log_at-map log_of c.args.ends.now.items c.from.result c.index_mut-end.result.now here)))
    ∙ ap (λ k. slice_set logs k (taking (log_at logs k) c.args.b c.take.result)) c.from.ensures

pub returns-clause-tied : goal.returns-clause-tied
returns-clause-tied g c =
    let here = place g (goal.at.returns-clause-tied g c).After-index_mut-end in
    let order = in_order tt c.args.ends.now.items c.from.result c.index_mut-end.result.now c.requires.tied here in
    let stays : StaysTied AreTied c.from.result tt tt c.index_mut-end.result.now c.take.new.self = subst (λ k. StaysTied AreTied k tt tt c.index_mut-end.result.now c.take.new.self) order.0 c.take.ensures.tied in
    stays.again c.args.ends.now.items c.requires.tied here
