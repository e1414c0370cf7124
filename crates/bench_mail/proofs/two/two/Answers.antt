use Rattle.std.proofs.Common.{◌≡◌, ◌<◌, length, sym, ap, subst, ◌∙◌, arith}
use Rattle.std.proofs.lemmas.List.{length-map}
use Rattle.mail_core.specs.EndLog.{EndLog, fresh}
use Rattle.mail_core.specs.Tied.{IsTied}
use Rattle.mail_core.proofs.Tied.{log_at-map}
use Rattle.bench_mail.proofs.EndsOfThree.{first_two}
use Rattle.bench_mail.proofs.two.two.Goals as goal

pub join-sent-requires-after_bounds : goal.join-sent-requires-after_bounds
join-sent-requires-after_bounds g c κs within =
    let log = g.M.Mail.log in
    let all = c.in_ok-_office.ends.items in
    let together = c.in_ok-_office.ensures.tied in
    let new = c.in_ok-_office.ensures.fresh in
    let first = c.remove-first.result in
    let second = c.remove-second.result in
    let count : length all ≡ 3 = sym (length-map all log) ∙ new.count in
    let at = first_two all c.remove-first.new.self.items first second count c.remove-first.ensures.value c.remove-first.ensures.items c.remove-second.ensures.value in
    let one : log first ≡ fresh 3 0 = sym (log_at-map log all 0 first at.0) ∙ new.each 0 (omega arith) in
    let two : log second ≡ fresh 3 1 = sym (log_at-map log all 1 second at.1) ∙ new.each 1 (omega arith) in
    let tied_one : IsTied g.M.Mail.tied 0 tt first = record { ends = all; together = together; here = at.0 } in
    let tied_two : IsTied g.M.Mail.tied 1 tt second = record { ends = all; together = together; here = at.1 } in (
      (ap (λ (l : EndLog). l.party) one, ap (λ (l : EndLog). l.parties) one, tied_one),
      (
        subst (λ (l : EndLog). c.args.b < g.M.Mail.box_count l.party l.parties) (sym two) c.requires,
        subst (λ (l : EndLog). IsTied g.M.Mail.tied l.party tt second) (sym two) tied_two,
      ),
    )
