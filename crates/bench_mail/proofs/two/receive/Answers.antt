use Rattle.std.proofs.Common.{◌≡◌, ap, sym, ◌∙◌}
use Rattle.mail_core.specs.EndLog.{EndLog}
use Rattle.mail_core.proofs.Tied.{IsTied-step}
use Rattle.mail_core.proofs.PollLemmas.{party-taking, parties-taking}
use Rattle.bench_mail.proofs.two.receive.Goals as goal

pub loop-look-preserved : goal.loop-look-preserved
loop-look-preserved g c =
    let log = g.M.Mail.log in
    let i = c.loop-look.invariant in
    let same : (log c.take.new.self).party ≡ (log c.loop-look.end).party = ap (λ (l : EndLog). l.party) c.take.ensures.log ∙ party-taking (log c.loop-look.end) c.args.b c.take.result in
    record {
      party = same ∙ i.party;
      parties = ap (λ (l : EndLog). l.parties) c.take.ensures.log ∙ parties-taking (log c.loop-look.end) c.args.b c.take.result ∙ i.parties;
      now = IsTied-step i.now c.take.ensures.tied (sym same);
    }
