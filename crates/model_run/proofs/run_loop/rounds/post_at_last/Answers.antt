use Rattle.std.proofs.Common.{◌≡◌, ◌+◌, ◌<◌, map, length, slice_get, Some, refl, arith}
use Rattle.std.proofs.lemmas.List.{length-map}
use Rattle.std.proofs.lemmas.Option.{slice_get_read}
use Rattle.mail_core.proofs.Tied.{tied-again}
use Rattle.model_run.proofs.run_loop.LastEnd.{posted_there, on_ok_then}
use Rattle.model_run.proofs.run_loop.rounds.post_at_last.Goals as goal

pub returns-clause-posted : goal.returns-clause-posted
returns-clause-posted g c =
    let ends = c.args.ends.now.items in
    let here : c.from.result ≡ length c.args.plant.now.wiring.controllers = omega arith in
    let lists : length (map g.M.Mail.log ends) ≡ length ends = length-map ends g.M.Mail.log in
    let count : length (map g.M.Mail.log ends) ≡ length c.args.plant.now.wiring.controllers + 1 = c.requires.fresh.count in
    let inside : c.from.result < length ends = omega arith in
    let stands : slice_get ends c.from.result ≡ Some c.index_mut-last.result.now = slice_get_read ends (length ends) c.from.result c.index_mut-last.result.now refl inside c.index_mut-last.ensures.value in
    on_ok_then c.post_part.result
    (λ p. posted_there g.M.Mail.log c.args.plant.now c.args.part.now c.args.environment.now c.post_part.new.environment ends c.index_mut-last.result.now c.post_part.new.end
    c.from.result here c.requires.fresh stands p)
    c.post_part.ensures.ok

pub returns-clause-tied : goal.returns-clause-tied
returns-clause-tied g c =
    let ends = c.args.ends.now.items in
    let here : c.from.result ≡ length c.args.plant.now.wiring.controllers = omega arith in
    let lists : length (map g.M.Mail.log ends) ≡ length ends = length-map ends g.M.Mail.log in
    let count : length (map g.M.Mail.log ends) ≡ length c.args.plant.now.wiring.controllers + 1 = c.requires.fresh.count in
    let inside : c.from.result < length ends = omega arith in
    let stands : slice_get ends c.from.result ≡ Some c.index_mut-last.result.now = slice_get_read ends (length ends) c.from.result c.index_mut-last.result.now refl inside c.index_mut-last.ensures.value in
    tied-again g.M.Mail.log g.met.M.Mail.in_order c.from.result c.requires.tied stands c.post_part.ensures.tied
