use Rattle.std.proofs.Common.{rules, ◌≡◌, length}
use Rattle.derived_classes.proofs.Found.{less_toil}
use Rattle.derived_classes.proofs.rules.search.all_succeed.Goals as goal

pub loop-alloc-smaller : goal.loop-alloc-smaller
loop-alloc-smaller c =
    let some : length c.loop-alloc.searches.items ≡ 0 → ⊥ = search rules in
    less_toil c.loop-alloc.searches.items _ c.in_ok-next.field-0 c.in-Some.next c.in_ok-next.ensures c.as_slice.ensures.value c.in-Some.is some
