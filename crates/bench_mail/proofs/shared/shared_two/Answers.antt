use Rattle.std.proofs.Common.{◌≡◌, length, sym, ◌∙◌}
use Rattle.std.proofs.lemmas.List.{length-map}
use Rattle.mail_seg.specs.Ends.{log_of}
use Rattle.bench_mail.proofs.EndsOfThree.{first_two}
use Rattle.bench_mail.proofs.shared.shared_two.Goals as goal

pub join-sent-requires-after_bounds : goal.join-sent-requires-after_bounds
join-sent-requires-after_bounds g c κs within =
    let all = c.in_ok-ends.ends.items in
    let first = c.remove-first.result in
    let second = c.remove-second.result in
    let count : length all ≡ 3 = sym (length-map all log_of) ∙ c.in_ok-ends.ensures.fresh.count in
    let at = first_two all c.remove-first.new.self.items first second count c.remove-first.ensures.value c.remove-first.ensures.items c.remove-second.ensures.value in
    let one = c.in_ok-ends.ensures.tied.place 0 first at.0 in
    let two = c.in_ok-ends.ensures.tied.place 1 second at.1 in
    ((one.0, one.1 ∙ count), (two.0, two.1 ∙ count))
