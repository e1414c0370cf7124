use Rattle.std.proofs.Common.{◌≡◌, ℕ, length, ap, ◌∙◌, subst, arith}
use Rattle.std.proofs.lemmas.List.{length-set}
use Rattle.check_classes.proofs.class_sizes.SizeLaws.{Sized, sized_more, all_sized}
use Rattle.check_classes.proofs.class_sizes.sizes.sizes_in_order.Goals as goal

pub loop-class-preserved : goal.loop-class-preserved
loop-class-preserved c = (
  ap length c.note_size.ensures ∙ length-set _ _ _ ∙ c.loop-class.invariant.0,
  λ is. sized_more c.args.classes.now c.args.order.now is c.loop-class.class-index c.loop-class.sizes.items (omega arith) (c.loop-class.invariant.1 is) c.note_size.new.sizes.items c.note_size.ensures,
)

pub returns : goal.returns
returns c = λ is.
    let over : c.loop-class.class-index ≡ length c.args.order.now = omega arith in
    let P : ℕ → Type 0 = λ k. Sized c.args.classes.now c.args.order.now k c.loop-class.sizes.items in
    all_sized c.args.classes.now c.args.order.now c.loop-class.sizes.items is (subst P over (c.loop-class.invariant.1 is))
