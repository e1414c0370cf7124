use Rattle.std.proofs.Common.{◌≡◌, ◌<◌, ◌≤◌, [], ◌∷◌, ◌++◌, length, arith, rules, ap, ◌∙◌, ℤ, w64}
use Rattle.std.proofs.lemmas.Int.{to_z-of_z}
use mir.Val.{SFits}
use Rattle.std.proofs.lemmas.Bool.Decides.{nat_tests}
use Rattle.journal_reader.specs.journal_lines.Messages.{numbers_in}
use Rattle.journal_reader.proofs.journal_lines.NumberSteps.{past_shorter, reading_begins, reading_goes_on, reading_ends_empty, reading_ends_full}
use Rattle.journal_reader.proofs.journal_lines.messages.payload.Goals as goal
use Rattle.journal_reader.proofs.journal_lines.messages.payload.Goals.{then-loop-payload-test+else-numbers-lt-MAX_LEN, else-loop-payload-test}

pub loop-payload-init : goal.loop-payload-init
loop-payload-init c = reading_begins c.empty-payload.result c.new-rest.result c.args.bytes.now c.empty-payload.ensures c.new-rest.ensures

pub loop-payload-smaller : goal.loop-payload-smaller
loop-payload-smaller c =
    let some : 0 < length c.loop-payload.rest = grind (arith, nat_tests) in
    omega (arith, ap length c.take_until.ensures.rest, past_shorter 32 c.loop-payload.rest some)

pub loop-payload-preserved : goal.loop-payload-preserved
loop-payload-preserved c =
    let few : length c.loop-payload.payload < 64 = grind (arith, nat_tests) in
    let some : 0 < length c.loop-payload.rest = grind (arith, nat_tests) in
    let fits : SFits w64 c.signed.result = search rules in
    let pushed : c.push.new.self ≡ c.loop-payload.payload ++ c.signed.result ∷ [] = c.in_ok-push.ensures.ok ∙ ap (λ (z : ℤ). c.loop-payload.payload ++ z ∷ []) (to_z-of_z w64 c.signed.result fits) in
    reading_goes_on c.loop-payload.payload c.push.new.self c.loop-payload.rest c.take_until.new.self c.args.bytes.now c.take_until.result.now c.signed.result c.loop-payload.invariant few some
    c.take_until.ensures.taken c.take_until.ensures.rest c.signed.ensures pushed

pub returns : goal.returns
unfolding numbers_in
returns c =
    elim c.loop-payload-test.branch [
      | then-loop-payload-test+else-numbers-lt-MAX_LEN w ↦
          let full : 64 ≤ length c.loop-payload.payload = omega (arith, ap length w.numbers.ensures.same) in
          reading_ends_full c.loop-payload.payload c.loop-payload.rest c.args.bytes.now c.loop-payload.invariant full
      | else-loop-payload-test w ↦
          let none : length c.loop-payload.rest ≡ 0 = grind (arith, nat_tests) in
          reading_ends_empty c.loop-payload.payload c.loop-payload.rest c.args.bytes.now c.loop-payload.invariant none
    ]
