use Rattle.std.proofs.Common.{◌∙◌, arith}
use Rattle.std.proofs.Math.Path.{fun_ext}
use Rattle.wiring_places.proofs.place_spans.CountSteps.{served_few, served_more, served_end}
use Rattle.wiring_places.proofs.place_spans.served.served_table.Goals as goal

pub take-requires : goal.take-requires
take-requires c =
    let key = c.service_key.result in
    let few = served_few c.args.joins.now c.loop-join.join-index key _ c.loop-join.auto.join-index-end (c.loop-join.invariant key) in
    omega (arith, few, c.loop-join-test.true)

pub loop-join-preserved : goal.loop-join-preserved
loop-join-preserved c = λ key. served_more _ _ key _ _ _ _ c.loop-join-test.true c.service_key.ensures (c.loop-join.invariant key) (c.in_ok-take.ensures key)

pub returns : goal.returns
returns c = fun_ext (λ key. c.loop-join.invariant key ∙ served_end _ _ key c.loop-join-test.false)
