use Rattle.std.proofs.Common.{subst}
use Rattle.room_run.specs.Models.{IsGoodWiring}
use Rattle.room_run.specs.Reading.{ChartCauses, faulty}
use Rattle.room_run.proofs.judge.judge_tree.Goals as goal

pub returns-clause-err : goal.returns-clause-err
returns-clause-err c =
    let kept = c.in-Ok.ensures.ok in
    let wiring = c.in-Ok-keep_wiring.wiring in
    faulty wiring kept.keeps (subst (λ t. IsGoodWiring t wiring) kept.model c.in-Ok-keep_wiring.ensures.ok) (subst (λ t. ChartCauses t c.in-Err-keep_charts.why) kept.model c.in-Err-keep_charts.ensures.err)
