use Rattle.std.proofs.Common.{ℕ, List, refl, ap, subst}
use Rattle.inject_reader.specs.declared.inject_lines.accepted.Line.{Line}
use Rattle.room_verify.specs.Showing.{CameToSee}
use Rattle.room_run.specs.Words.{judged_view}
use Rattle.room_run.specs.Causes.{nothing_to_show, unlawful_by_then}
use Rattle.room_run.specs.declared.refusal.Refusal.TheVariants as refusals
use Rattle.room_run.proofs.ShowLemmas.{are_given, seen, unseen}
use Rattle.room_run.proofs.show.show_files.Goals as goal

pub returns-in-Err-clause-err : goal.returns-in-Err-clause-err
returns-in-Err-clause-err g c = nothing_to_show c.in-Err.ensures.err

pub returns-in-Shown-clause-ok : goal.returns-in-Shown-clause-ok
returns-in-Shown-clause-ok g c =
    let before = g.S.Shelf.shown c.args.shelf.now in
    let files = judged_view c.args.files in
    let it = c.in-Ok.it in
    let came = subst (λ (ls : List Line). CameToSee it.plant ls it.journals c.args.at c.in-Ok-show.seen) c.as_slice.ensures.value c.in-Ok-show.ensures in
    let is = rw c.in-Shown.is at came in (
      it.plant,
      it.lines.items,
      it.journals,
      seen c.shows_are_by_charts.ensures before files it.plant it.lines.items it.journals c.args.at c.in-Shown.snapshot (are_given before files it c.in-Ok.ensures.ok) is,
      refl,
    )

pub returns-in-Unlawful-clause-err : goal.returns-in-Unlawful-clause-err
returns-in-Unlawful-clause-err g c =
    let before = g.S.Shelf.shown c.args.shelf.now in
    let files = judged_view c.args.files in
    let it = c.in-Ok.it in
    let came = subst (λ (ls : List Line). CameToSee it.plant ls it.journals c.args.at c.in-Ok-show.seen) c.as_slice.ensures.value c.in-Ok-show.ensures in
    let is = rw c.in-Unlawful.is at came in
    let verdict = c.in-Unlawful.verdict in
    unlawful_by_then it.plant it.lines.items it.journals verdict
    (unseen c.verdicts_are_by_charts.ensures before files it.plant it.lines.items it.journals c.args.at verdict (are_given before files it c.in-Ok.ensures.ok) is)
    (ap (λ (n : ℕ). refusals.Unlawful verdict n) c.controller_count.ensures.count)
