-- The first rule that a model breaks is the lowest one.
use Rattle.std.proofs.Common.{◌≡◌, ℕ, Option, sym, subst, lit<}
use Rattle.room_ast.specs.Trees.{ModelTree}
use Rattle.structure_check.specs.Rules.{first_broken, RiseAbove, IsLowest}
use Rattle.structure_check.specs.List.{all_rules}
use Rattle.structure_check.proofs.Laws.{lowest}

numbers_rise : RiseAbove 0 all_rules
unfolding all_rules
numbers_rise = (lit< tt, (lit< tt, (lit< tt, (lit< tt, (lit< tt, (lit< tt, (lit< tt, (lit< tt, (lit< tt, (lit< tt, (lit< tt, (lit< tt, (lit< tt, (lit< tt, (lit< tt, (lit< tt, (lit< tt, (lit< tt, (lit< tt, (lit< tt, (lit< tt, (lit< tt, (lit< tt, (lit< tt, (lit< tt, tt)))))))))))))))))))))))))

pub lowest_broken : (m : ModelTree) (o : Option ℕ) → o ≡ first_broken all_rules m → IsLowest all_rules m o
lowest_broken m o e = let P : Option ℕ → Type 0 = λ x. IsLowest all_rules m x in subst P (sym e) (lowest all_rules m numbers_rise)
