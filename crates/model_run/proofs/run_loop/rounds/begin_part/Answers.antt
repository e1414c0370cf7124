use Rattle.std.proofs.Common.{◌≡◌, List, length, map, refl, sym, ap, ◌∙◌, subst, arith}
use Rattle.std.proofs.lemmas.List.{length-map}
use Rattle.journal.specs.declared.entry.Entry.{Entry}
use Rattle.inject_reader.specs.declared.inject_lines.accepted.Line.{Line}
use Rattle.inject_reader.specs.Fitting.{LinesFit}
use Rattle.model_run.specs.part_posts.Items.{items_of}
use Rattle.model_run.specs.part_source.Parts.{IsPart}
use Rattle.model_run.specs.run_loop.Plays.{PartPosted}
use Rattle.model_run.proofs.part_source.CallsLaw.{grew_posts}
use Rattle.model_run.proofs.joined_round.PriorityLaw.{all_posted}
use Rattle.model_run.proofs.run_loop.PlayLaw.{post_on}
use Rattle.model_run.proofs.run_loop.Beginning.{more_entries}
use Rattle.model_run.proofs.run_loop.rounds.begin_part.Goals as goal

pub post_at_last-requires-clause-part : goal.post_at_last-requires-clause-part
post_at_last-requires-clause-part g c = subst IsPart (sym c.part.ensures) c.requires.before.of

pub post_at_last-requires-clause-fits : goal.post_at_last-requires-clause-fits
post_at_last-requires-clause-fits g c =
    let wiring = c.args.plant.now.wiring in
    subst (λ (z : List Line). LinesFit wiring z) (sym c.part.ensures) (g.met.S.PartSource.part_fits wiring c.args.source.now c.requires.fits)

pub returns-clause-begun : goal.returns-clause-begun
returns-clause-begun g c =
    let plant = c.args.plant.now in
    let run = c.args.run.now in
    let lines = g.S.PartSource.stands_at c.args.source.now in
    let logs = map g.M.Mail.log c.post_at_last.new.ends.items in
    let posted : PartPosted plant lines run.environment c.post_at_last.new.environment logs =
    subst (λ (z : List Line). PartPosted plant z run.environment c.post_at_last.new.environment logs) c.part.ensures c.in_ok-post_at_last.ensures.posted in
    record {
      stand = c.requires.before.so_far.stand;
      in_part = refl;
      by_priority = all_posted (length plant.wiring.controllers) logs posted.part.entries posted.ends;
      goes_on = post_on plant c.args.fuel (items_of plant.wiring (g.S.PartSource.given c.args.source.now)) lines run.controllers.items run.environment c.post_at_last.new.environment logs
          c.requires.before posted;
    }

pub returns-clause-count : goal.returns-clause-count
returns-clause-count g c = sym (length-map c.post_at_last.new.ends.items g.M.Mail.log) ∙ c.in_ok-post_at_last.ensures.posted.ends.count

pub returns-clause-grew : goal.returns-clause-grew
returns-clause-grew g c =
    let posted = c.in_ok-post_at_last.ensures.posted in
    grew_posts c.args.run.now.controllers.items c.args.run.now.environment c.post_at_last.new.environment posted.part.entries posted.part.journal

pub returns-clause-part : goal.returns-clause-part
returns-clause-part g c =
    let posted = c.in_ok-post_at_last.ensures.posted in
    let after = c.post_at_last.new.environment.journal in
    let same : length c.entries.result.now ≡ length after = ap (λ (z : List Entry). length z) c.entries.ensures in
    record {
      controllers = refl;
      in_part = refl;
      posted = more_entries c.args.run.now.environment.journal after posted.part.entries _ _ posted.part.journal posted.part.count c.part.ensures;
      counted = omega (arith, same, c.if-prove.false);
    }
