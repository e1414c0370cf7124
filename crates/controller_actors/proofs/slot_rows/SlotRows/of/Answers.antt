use Rattle.std.proofs.Common.{◌≡◌, ◌+◌, ◌<◌, length, get_or, set, length-set, sym, ap, ◌∙◌, subst, arith}
use Rattle.std.proofs.lemmas.List.{get_or-replicate, length-replicate}
use Rattle.controller_actors.proofs.OwnRows.{own_none, own_few, count_read, counts_more, rows_more}
use Rattle.controller_actors.proofs.slot_rows.SlotRows.of.Goals as goal

pub loop-number-init : goal.loop-number-init
loop-number-init c =
    let t = c.args.wiring.now in
    let zeros = c.in_ok-counts.ensures.items_if_clones_equal (λ y e. e) in
    let many : c.from.result ≡ length t.controllers = c.from.ensures ∙ c.controller_count.ensures.count in
    record {
      rows = c.in_ok-rows.ensures.items;
      controllers = ap length zeros ∙ length-replicate c.from.result 0 ∙ many;
      counts = λ k less.
          let within : k < c.from.result = omega (arith, less, many) in
          ap (λ xs. get_or xs k 0) zeros ∙ get_or-replicate c.from.result k 0 0 within ∙ sym (own_none t k);
    }

pub overflow_cast-count : goal.overflow_cast-count
overflow_cast-count c =
    let x = c.slot.result.now in
    let n = c.loop-number.number in
    let known = c.slot.ensures.consistent.owners_known n x c.slot.ensures.slot in
    let count =
    count_read c.args.wiring.now n x c.slot.ensures.slot c.loop-number.counts.items c.from-owner.result c.index-count.result.now c.from-owner.ensures
    (subst (λ k. x.owner.0 < k) (sym c.loop-number.invariant.controllers) known) c.index-count.ensures
    ∙ c.loop-number.invariant.counts x.owner.0 known in
    let few = own_few c.args.wiring.now x.owner.0 n in
    omega (arith, count, few, c.slot.ensures.consistent.slots_numbered, c.loop-number-test.true, c.slot_count-number-end.ensures.count)

pub overflow_add-count : goal.overflow_add-count
overflow_add-count c =
    let x = c.slot.result.now in
    let n = c.loop-number.number in
    let known = c.slot.ensures.consistent.owners_known n x c.slot.ensures.slot in
    let count =
    count_read c.args.wiring.now n x c.slot.ensures.slot c.loop-number.counts.items c.from-owner.result c.index-count.result.now c.from-owner.ensures
    (subst (λ k. x.owner.0 < k) (sym c.loop-number.invariant.controllers) known) c.index-count.ensures
    ∙ c.loop-number.invariant.counts x.owner.0 known in
    let few = own_few c.args.wiring.now x.owner.0 n in
    omega (arith, count, few, c.slot.ensures.consistent.slots_numbered, c.loop-number-test.true, c.slot_count-number-end.ensures.count)

pub loop-number-preserved : goal.loop-number-preserved
loop-number-preserved c =
    let t = c.args.wiring.now in
    let x = c.slot.result.now in
    let n = c.loop-number.number in
    let counts = c.loop-number.counts.items in
    let row = c.index-count.result.now in
    let at = c.slot.ensures.slot in
    let known = c.slot.ensures.consistent.owners_known n x at in
    let count =
    count_read t n x at counts c.from-owner.result row c.from-owner.ensures (subst (λ k. x.owner.0 < k) (sym c.loop-number.invariant.controllers) known) c.index-count.ensures in
    record {
      rows =
          c.in_ok-push.ensures.items
          ∙ rows_more t n x at c.loop-number.rows.items row c.loop-number.invariant.rows (count ∙ c.loop-number.invariant.counts x.owner.0 known);
      controllers = length-set counts c.from-owner.result (row + 1) ∙ c.loop-number.invariant.controllers;
      counts = λ k less.
          ap (λ i. get_or (set counts i (row + 1)) k 0) c.from-owner.ensures
          ∙ ap (λ v. get_or (set counts x.owner.0 (v + 1)) k 0) count
          ∙ counts_more t n x at counts (length t.controllers) c.loop-number.invariant.controllers known c.loop-number.invariant.counts k less;
    }
