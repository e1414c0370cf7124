use Rattle.std.proofs.Common.{◌≡◌, ◌<◌, length, ap, arith}
use Rattle.std.proofs.lemmas.Bool.Decides.{nat_tests}
use Rattle.journal_reader.specs.journal_lines.Drafts.{nothing_read}
use Rattle.journal_reader.specs.journal_lines.Reading.{reading}
use Rattle.journal_reader.proofs.journal_lines.NumberSteps.{past_shorter, lines_go_on, lines_end}
use Rattle.journal_reader.proofs.journal_lines.lines.read_lines.Goals as goal

pub loop-rest-smaller : goal.loop-rest-smaller
loop-rest-smaller c =
    let some : 0 < length c.loop-rest.rest = grind (arith, nat_tests) in
    omega (arith, ap length c.take_until-line.ensures.rest, past_shorter 10 c.loop-rest.rest some)

pub loop-rest-preserved : goal.loop-rest-preserved
loop-rest-preserved c =
    lines_go_on c.args.names.now c.loop-rest.draft c.take.new.draft (reading c.args.names.now nothing_read c.args.bytes.now) c.loop-rest.rest c.take_until-line.new.self c.take_until-line.result.now
    c.loop-rest.invariant c.take_until-line.ensures.taken c.take_until-line.ensures.rest c.in_ok-take.ensures

pub returns : goal.returns
returns c =
    let none : length c.loop-rest.rest ≡ 0 = grind (arith, nat_tests) in
    lines_end c.args.names.now c.loop-rest.draft (reading c.args.names.now nothing_read c.args.bytes.now) c.loop-rest.rest c.loop-rest.invariant none
