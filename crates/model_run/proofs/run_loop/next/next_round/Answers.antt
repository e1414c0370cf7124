use Rattle.std.proofs.Common.{◌≡◌, ◌+◌, false, length, map, refl, arith}
use Rattle.std.specs.List.{list_all}
use Rattle.std.proofs.lemmas.Grind.{common_steps}
use Rattle.model_run.specs.part_posts.Items.{items_of}
use Rattle.model_run.specs.part_source.Calls.{seen, StoodQuiet, Asks}
use Rattle.model_run.specs.run_loop.Plays.{rests}
use Rattle.model_run.specs.run_loop.Runs.{BeginsPart, RoundBegins}
use Rattle.model_run.specs.run_loop.Runs.RoundBegins.{goes_on}
use Rattle.model_run.proofs.run_loop.Beginning.{first_part, later_part}
use Rattle.model_run.proofs.part_source.CallsLaw.{asks_none, asks_grew}
use Rattle.model_run.proofs.joined_round.PriorityLaw.{all_fresh}
use Rattle.model_run.proofs.run_loop.PlayLaw.{quiet_on}
use Rattle.model_run.proofs.run_loop.next.next_round.Goals.{then-run+else-not-have_stopped+in_ok-more+else-not-more, else-run}
use Rattle.model_run.proofs.run_loop.next.next_round.Goals as goal

pub returns-then-not-have_stopped-clause-begun : goal.returns-then-not-have_stopped-clause-begun
returns-then-not-have_stopped-clause-begun g c =
    let plant = c.args.plant.now in
    let run = c.args.run.now in
    let part = c.requires.stands.within c.if-run.true in
    record {
      stand = part.so_far.stand;
      in_part = c.if-run.true;
      by_priority = all_fresh (length plant.wiring.controllers) (length plant.wiring.controllers + 1) (map g.M.Mail.log c.in_ok-open.field-0.1.items) c.in_ok-open.ensures.fresh;
      goes_on = quiet_on plant c.args.fuel (items_of plant.wiring (g.S.PartSource.given c.args.source.now)) run.controllers.items run.environment
          (map g.M.Mail.log c.in_ok-open.field-0.1.items) part c.in_ok-open.ensures.fresh;
    }

pub returns-then-not-have_stopped-clause-asks : goal.returns-then-not-have_stopped-clause-asks
returns-then-not-have_stopped-clause-asks g c = asks_none g.S.PartSource.goes_on (λ s js. StoodQuiet c.args.plant.now (g.S.PartSource.given s) c.args.fuel js) c.args.source.now (seen c.args.run.now.controllers.items c.args.run.now.environment)

pub begin_part-requires-clause-fits : goal.begin_part-requires-clause-fits
begin_part-requires-clause-fits g c =
    let here : g.S.PartSource.fits c.args.plant.now.wiring c.if-run.source = elim c.if-run.branch [
      | then-run+else-not-have_stopped+in_ok-more+else-not-more w ↦ rw w.source-is (w.in_ok-more.ensures.fits c.requires.fits)
      | else-run w ↦ rw w.source-is c.requires.fits
    ] in
    here

pub returns-clause-fits : goal.returns-clause-fits
returns-clause-fits g c =
    let here : g.S.PartSource.fits c.args.plant.now.wiring c.if-run.source = elim c.if-run.branch [
      | then-run+else-not-have_stopped+in_ok-more+else-not-more w ↦ rw w.source-is (w.in_ok-more.ensures.fits c.requires.fits)
      | else-run w ↦ rw w.source-is c.requires.fits
    ] in
    here

pub returns-clause-asks : goal.returns-clause-asks
returns-clause-asks g c =
    let goes_on = g.S.PartSource.goes_on in
    let old = c.args.run.now in
    let mid = c.if-run.run in
    let new = c.begin_part.new.run in
    let before = seen old.controllers.items old.environment in
    let here : Asks goes_on (λ s js. StoodQuiet c.args.plant.now (g.S.PartSource.given s) c.args.fuel js) c.args.source.now c.if-run.source before (seen mid.controllers.items mid.environment) = elim c.if-run.branch [
      | then-run+else-not-have_stopped+in_ok-more+else-not-more w ↦ rw (w.source-is, w.run-is) w.in_ok-more.ensures.asks
      | else-run w ↦ rw (w.source-is, w.run-is) (asks_none goes_on (λ s js. StoodQuiet c.args.plant.now (g.S.PartSource.given s) c.args.fuel js) c.args.source.now before)
    ] in
    asks_grew goes_on (λ s js. StoodQuiet c.args.plant.now (g.S.PartSource.given s) c.args.fuel js) c.args.source.now c.if-run.source before (seen mid.controllers.items mid.environment) (seen new.controllers.items new.environment) here c.in_ok-begin_part.ensures.grew

pub returns-then-not-have_stopped-clause-begins : goal.returns-then-not-have_stopped-clause-begins
returns-then-not-have_stopped-clause-begins g c =
    let awake : list_all (rests c.args.fuel) c.args.run.now.controllers.items ≡ false = grind (arith, common_steps, c.if-not-have_stopped.true, c.have_stopped.ensures) in
    goes_on awake refl

pub returns-clause-begins : goal.returns-clause-begins
returns-clause-begins g c =
    let part = c.in_ok-begin_part.ensures.part in
    let lines = g.S.PartSource.stands_at c.if-run.source in
    let new = c.begin_part.new.run in
    let here : BeginsPart lines c.if-run.run new → RoundBegins c.args.fuel c.args.run.now new = elim c.if-run.branch [
      | then-run+else-not-have_stopped+in_ok-more+else-not-more w ↦ rw (w.source-is, w.run-is) (λ b. later_part c.args.fuel _ c.args.run.now _ new w.if-run.true w.in_ok-more.ensures.stays (w.in_ok-more.ensures.some w.if-not-more.false) b)
      | else-run w ↦ rw (w.source-is, w.run-is) (λ b. first_part c.args.fuel _ c.args.run.now new w.if-run.false b)
    ] in
    here part
