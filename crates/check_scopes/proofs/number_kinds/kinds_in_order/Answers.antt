use Rattle.std.proofs.Common.{◌≡◌, ℕ, length, ap, ◌∙◌, subst, arith}
use Rattle.std.proofs.lemmas.List.{length-set}
use Rattle.check_scopes.proofs.number_kinds.KindLaws.{Noted, noted_more, all_noted}
use Rattle.check_scopes.proofs.number_kinds.kinds_in_order.Goals as goal

pub loop-class-preserved : goal.loop-class-preserved
loop-class-preserved c = (
  ap length c.in_ok-note_kinds.ensures ∙ length-set _ _ _ ∙ c.loop-class.invariant.0,
  λ is. noted_more c.args.classes.now c.args.order.now is c.loop-class.class-index c.loop-class.table.items (omega arith) (c.loop-class.invariant.1 is) _ c.in_ok-note_kinds.ensures,
)

pub returns : goal.returns
returns c = λ is.
    let over : c.loop-class.class-index ≡ length c.args.order.now = omega arith in
    let P : ℕ → Type 0 = λ k. Noted c.args.classes.now c.args.order.now k c.loop-class.table.items in
    all_noted c.args.classes.now c.args.order.now c.loop-class.table.items is (subst P over (c.loop-class.invariant.1 is))
