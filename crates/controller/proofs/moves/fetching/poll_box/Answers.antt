use Rattle.std.proofs.Common.{Some, None, refl, sym, ap, ◌∙◌, subst, arith}
use Rattle.mail_core.proofs.Tied.{IsTied-step, StaysTied-step, StaysTied-refl}
use Rattle.controller_mail.specs.Steps.{Fetches}
use Rattle.controller_mail.specs.controller_moves.Moves.{PollsBoxInto}
use Rattle.controller.specs.Calls.{IsCutOff}
use Rattle.controller.specs.View.{Controller}
use Rattle.controller.proofs.Keeping.{on_err}
use Rattle.controller.proofs.Polling.{fetching_none, fetching_more, fetching_fewer, looked_same, cut_off_before, cut_off_behind}
use Rattle.controller.proofs.moves.fetching.poll_box.Goals as goal

pub loop-look-init : goal.loop-look-init
loop-look-init g c = record { fetching = fetching_none; others = refl; party = refl; parties = refl; now = c.requires.tied; tied = StaysTied-refl }

pub returns-in_err-get_ready-clause-err : goal.returns-in_err-get_ready-clause-err
returns-in_err-get_ready-clause-err g c =
    let log = g.M.Mail.log in
    on_err c.from_residual.result
    (subst (λ (k : Controller). IsCutOff c.args.controller.now k (log c.args.end.now) (log c.loop-look.end)) (sym c.get_ready.ensures)
    (cut_off_before c.args.controller.now c.loop-look.controller c.loop-look.invariant.fetching))

pub returns-in_default-clause-ok : goal.returns-in_default-clause-ok
returns-in_default-clause-ok g c =
    let log = g.M.Mail.log in
    subst (λ (k : Controller). PollsBoxInto g.M.Mail.in_box c.args.b c.args.controller.now.mail k.mail (log c.args.end.now) (log c.take.new.self)) (sym c.get_ready.ensures)
    (fetching_fewer c.loop-look.invariant.fetching (omega arith) c.in_default.ensures.log c.in_default.ensures.none)

pub returns-in_default-clause-party : goal.returns-in_default-clause-party
returns-in_default-clause-party g c =
    let log = g.M.Mail.log in
    looked_same (log c.args.end.now) (log c.loop-look.end) (log c.take.new.self) c.args.b None c.in_default.ensures.log c.loop-look.invariant.party c.loop-look.invariant.parties

pub returns-in_default-clause-tied : goal.returns-in_default-clause-tied
returns-in_default-clause-tied g c = StaysTied-step c.loop-look.invariant.tied c.in_default.ensures.tied (sym c.loop-look.invariant.party)

pub returns-in_err-fetch-clause-err : goal.returns-in_err-fetch-clause-err
returns-in_err-fetch-clause-err g c =
    let log = g.M.Mail.log in
    on_err c.from_residual-in_err-fetch.result
    (subst (λ (k : Controller). IsCutOff c.args.controller.now k (log c.args.end.now) (log c.take.new.self)) (sym (c.in_err-fetch.ensures.err ∙ c.get_ready.ensures))
    (cut_off_behind c.args.controller.now c.loop-look.controller c.in-Some.m c.loop-look.invariant.fetching c.in-Some.ensures.log))

pub returns-in_err-fetch-clause-party : goal.returns-in_err-fetch-clause-party
returns-in_err-fetch-clause-party g c =
    let log = g.M.Mail.log in
    looked_same (log c.args.end.now) (log c.loop-look.end) (log c.take.new.self) c.args.b (Some c.in-Some.m) c.in-Some.ensures.log c.loop-look.invariant.party c.loop-look.invariant.parties

pub returns-in_err-fetch-clause-tied : goal.returns-in_err-fetch-clause-tied
returns-in_err-fetch-clause-tied g c = StaysTied-step c.loop-look.invariant.tied c.in-Some.ensures.tied (sym c.loop-look.invariant.party)

pub loop-look-preserved : goal.loop-look-preserved
loop-look-preserved g c =
    let log = g.M.Mail.log in
    let here = c.loop-look.invariant in
    let look = c.in-Some.ensures in
    let before = log c.loop-look.end in
    let behind = log c.take.new.self in
    let fetch : Fetches c.loop-look.controller.mail c.fetch.new.self.mail c.in-Some.m =
    subst (λ (k : Controller). Fetches k.mail c.fetch.new.self.mail c.in-Some.m) c.get_ready.ensures c.in_ok-fetch.ensures.ok in
    let same = looked_same (log c.args.end.now) before behind c.args.b (Some c.in-Some.m) look.log here.party here.parties in
    let stays = looked_same before before behind c.args.b (Some c.in-Some.m) look.log refl refl in
    record {
      fetching = fetching_more c.in-Some.m here.fetching fetch look.some look.level here.party here.parties look.log;
      others = c.in_ok-fetch.ensures.others ∙ ap (λ (k : Controller). record k { mail = c.fetch.new.self.mail }) (c.get_ready.ensures ∙ here.others);
      party = same.0;
      parties = same.1;
      now = IsTied-step here.now look.tied (sym stays.0);
      tied = StaysTied-step here.tied look.tied (sym here.party);
    }
