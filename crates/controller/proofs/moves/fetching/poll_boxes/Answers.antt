use Rattle.std.proofs.Common.{◌≡◌, ◌-◌, length, refl, sym, ap, ◌∙◌, subst, arith}
use Rattle.mail_core.proofs.Tied.{IsTied-step, StaysTied-step, StaysTied-refl}
use Rattle.controller_mail.proofs.controller_moves.Looked.{PollsBoxes-answerable}
use Rattle.controller_mail.proofs.controller_moves.Prompt.{PollsInto-from}
use Rattle.controller.specs.View.{Controller}
use Rattle.controller.proofs.Keeping.{on_err}
use Rattle.controller.proofs.Polling.{Polling, polling_none, polling_more, cut_off_later, fetches_count, fetches_wait}
use Rattle.controller.proofs.moves.fetching.poll_boxes.Goals as goal

pub loop-b-init : goal.loop-b-init
loop-b-init g c = record { polling = polling_none; others = refl; party = refl; parties = refl; now = c.requires.tied; tied = StaysTied-refl }

pub returns-in_err-poll_box-clause-err : goal.returns-in_err-poll_box-clause-err
returns-in_err-poll_box-clause-err g c =
    let here = c.loop-b.invariant in
    on_err c.from_residual.result
    (cut_off_later c.args.controller.now c.loop-b.controller c.poll_box.new.controller here.polling (ap (λ (k : Controller). k.me) here.others) c.in_err-poll_box.ensures.err)

pub returns-in_err-poll_box-clause-tied : goal.returns-in_err-poll_box-clause-tied
returns-in_err-poll_box-clause-tied g c = StaysTied-step c.loop-b.invariant.tied c.in_err-poll_box.ensures.tied (sym c.loop-b.invariant.party)

pub loop-b-preserved : goal.loop-b-preserved
loop-b-preserved g c =
    let here = c.loop-b.invariant in
    let one = c.in_ok-poll_box.ensures in
    record {
      polling = polling_more here.polling one.ok;
      others = one.others ∙ ap (λ (k : Controller). record k { mail = c.poll_box.new.controller.mail }) here.others;
      party = one.party.0 ∙ here.party;
      parties = one.party.1 ∙ here.parties;
      now = IsTied-step here.now one.tied (sym one.party.0);
      tied = StaysTied-step here.tied one.tied (sym here.party);
    }

pub entries_since-requires : goal.entries_since-requires
entries_since-requires g c =
    let p = c.loop-b.invariant.polling in
    omega (arith, ap length c.entries-had.ensures, fetches_count c.args.controller.now.mail c.loop-b.controller.mail p.gave p.fetches)

pub returns-clause-ok : goal.returns-clause-ok
returns-clause-ok g c =
    let log = g.M.Mail.log c.args.end.now in
    let boxes = g.M.Mail.box_count log.party log.parties in
    let old = c.args.controller.now.mail in
    let new = c.loop-b.controller.mail in
    let all : c.loop-b.b ≡ boxes = omega (arith, c.loop-b-test.false, c.loop-b.auto.b-end, c.boxes-b-end.ensures) in
    let p = subst (λ n. Polling g.M.Mail.in_box n old new log (g.M.Mail.log c.loop-b.end)) all c.loop-b.invariant.polling in
    PollsInto-from g.M.Mail.in_box g.M.Mail.box_count g.met.M.Mail.one_priority g.met.M.Mail.poll_order g.met.M.Mail.has_box
    old new log (g.M.Mail.log c.loop-b.end) p.gave c.entries_since.result c.requires.controller p.looks p.fetches
    (omega (arith, c.entries_since.ensures, ap length c.entries-had.ensures, fetches_count old new p.gave p.fetches))

pub returns-clause-waits : goal.returns-clause-waits
returns-clause-waits g c =
    let log = g.M.Mail.log c.args.end.now in
    let p = c.loop-b.invariant.polling in
    fetches_wait (log.parties - 1) c.args.controller.now.mail c.loop-b.controller.mail p.gave p.fetches
    (PollsBoxes-answerable g.M.Mail.in_box (log.parties - 1) c.loop-b.b log (g.M.Mail.log c.loop-b.end) p.gave (omega (arith, c.requires.controller)) p.looks)
