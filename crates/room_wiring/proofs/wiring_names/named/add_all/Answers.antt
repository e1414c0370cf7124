use Rattle.std.proofs.Common.{◌≡◌, List, ℕ, ◌++◌, ◌∷◌, [], cond, get_or, not, subst}
use Rattle.name_tables.specs.name_numbers.Names.{is_among}
use Rattle.room_wiring.proofs.wiring_names.Fresh.{next_added}
use Rattle.room_wiring.proofs.wiring_names.named.add_all.Goals as goal

pub loop-item-preserved : goal.loop-item-preserved
loop-item-preserved g c =
    let item = c.item-item.result in
    let name = g.T.Named.name_of in
    let now = c.loop-item.numbers in
    let flag = c.in_ok-add.field-0 in
    let called : c.name.result.now ≡ name (get_or c.args.items.now c.loop-item.item-index item) = cc (c.name.ensures, c.item-item.is) in
    next_added name c.args.numbers.now c.args.items.now c.loop-item.item-index item flag now c.add.new.self c.loop-item-test.true c.loop-item.invariant
    (subst (λ (n : List ℕ). flag ≡ not (is_among now n)) called c.in_ok-add.ensures.new)
    (subst (λ (n : List ℕ). c.add.new.self ≡ cond flag (now ++ n ∷ []) now) called c.in_ok-add.ensures.names)
