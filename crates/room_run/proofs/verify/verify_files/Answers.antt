use Rattle.std.proofs.Common.{ℕ, List, sym, ap, subst, ◌∙◌}
use Rattle.inject_reader.specs.declared.inject_lines.accepted.Line.{Line}
use Rattle.controller_actors.specs.Plants.{model_of}
use Rattle.model_run.specs.part_posts.Items.{items_of}
use Rattle.room_verify.specs.Verdicts.{IsVerdict}
use Rattle.room_verify.specs.declared.verdict.Verdict.{Verdict}
use Rattle.room_run.specs.Words.{judged_view}
use Rattle.room_run.specs.Causes.{IsJudged, unjudged, unlawful}
use Rattle.room_run.specs.declared.refusal.Refusal.TheVariants as refusals
use Rattle.room_run.proofs.VerifyLemmas.{judged, lawful_is, unlawful_is}
use Rattle.room_run.proofs.verify.verify_files.Goals as goal

pub returns-in-Err-clause-err : goal.returns-in-Err-clause-err
returns-in-Err-clause-err g c = unjudged c.in-Err.ensures.err

pub returns-then-is_lawful-clause-ok : goal.returns-then-is_lawful-clause-ok
returns-then-is_lawful-clause-ok g c =
    let before = g.S.Shelf.shown c.args.shelf.now in
    let it = c.in-Ok.it in
    let verdict = c.in-Ok-verify.verdict in
    let is =
    judged before (judged_view c.args.files) c.args.fuel it verdict c.verdicts_are_by_charts.ensures c.in-Ok.ensures.ok
    (subst (λ (ls : List Line). IsVerdict (model_of it.plant) it.plant.wiring (items_of it.plant.wiring ls) c.args.fuel it.journals verdict)
    c.as_slice.ensures.value c.in-Ok-verify.ensures) in (
      it.plant,
      it.lines.items,
      it.journals,
      subst (λ (v : Verdict). IsJudged before (judged_view c.args.files) c.args.fuel it.plant it.lines.items it.journals v)
          (lawful_is verdict (sym c.is_lawful.ensures ∙ c.if-is_lawful.true)) is,
    )

pub returns-clause-err : goal.returns-clause-err
returns-clause-err g c =
    let before = g.S.Shelf.shown c.args.shelf.now in
    let it = c.in-Ok.it in
    let verdict = c.in-Ok-verify.verdict in
    let is =
    judged before (judged_view c.args.files) c.args.fuel it verdict c.verdicts_are_by_charts.ensures c.in-Ok.ensures.ok
    (subst (λ (ls : List Line). IsVerdict (model_of it.plant) it.plant.wiring (items_of it.plant.wiring ls) c.args.fuel it.journals verdict)
    c.as_slice.ensures.value c.in-Ok-verify.ensures) in
    unlawful it.plant it.lines.items it.journals verdict is (unlawful_is verdict (sym c.is_lawful.ensures ∙ c.if-is_lawful.false))
    (ap (λ (n : ℕ). refusals.Unlawful verdict n) c.controller_count.ensures.count)
