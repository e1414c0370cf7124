use Rattle.std.proofs.Common.{List, [], sym, subst, ◌∙◌}
use Rattle.journal.specs.declared.entry.Entry.{Entry}
use Rattle.journal.specs.declared.entry.Left.{Left}
use Rattle.model_run.specs.run_ends.Told.{AreTold}
use Rattle.model_run.specs.run_ends.Runs.{RanThrough}
use Rattle.model_run.proofs.run_ends.EndLaw.{ran_told, journals_told}
use Rattle.model_run.proofs.run_ends.telling.told.Goals as goal

pub returns-clause-ran : goal.returns-clause-ran
returns-clause-ran g c =
    let k = c.controller_count-count.result in
    let ks = c.args.controllers.items in
    let told : AreTold k ks [] c.from.result c.from-2.result =
    subst (λ (z : List (List Entry)). AreTold k ks [] z c.from-2.result) (sym c.from.ensures)
    (subst (λ (z : List Left). AreTold k ks [] c.in_ok-finished.finished.journals.items z) (sym c.from-2.ensures) c.in_ok-finished.ensures) in
    subst (λ (z : List Entry). RanThrough c.args.plant.now (g.S.PartSource.given c.args.source.now) (g.S.PartSource.left c.args.source.now) c.args.fuel
    (record { controllers = c.from.result; environment = z; left = c.from-2.result; unposted = c.from-3.result; done = c.args.done })) (sym c.finish-posts.ensures)
    (record {
      runs = λ rest may. ran_told c.args.plant.now (g.S.PartSource.given c.args.source.now) rest c.args.fuel ks c.args.environment c.args.done k c.from.result c.from-2.result
          c.requires.at_end told may;
      unposted = c.from-3.ensures ∙ c.in_ok-unposted.ensures;
      whole = c.requires.whole;
    })

pub returns-clause-seen : goal.returns-clause-seen
returns-clause-seen g c =
    let k = c.controller_count-count.result in
    let ks = c.args.controllers.items in
    let told : AreTold k ks [] c.from.result c.from-2.result =
    subst (λ (z : List (List Entry)). AreTold k ks [] z c.from-2.result) (sym c.from.ensures)
    (subst (λ (z : List Left). AreTold k ks [] c.in_ok-finished.finished.journals.items z) (sym c.from-2.ensures) c.in_ok-finished.ensures) in
    let journals = journals_told k ks c.from.result c.from-2.result told in
    let posts = c.finish-posts.ensures in
    λ i. record { controllers = journals i; environment = posts i }
