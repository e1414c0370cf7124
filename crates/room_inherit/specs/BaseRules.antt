-- The numbers of the rules on classes that extend others.
use Rattle.std.specs.Prelude.{ℕ}
use Rattle.room_inherit.specs.declared.base_rule.BaseRule.{BaseRule}
use Rattle.room_inherit.specs.declared.base_rule.BaseRule.TheVariants as rules

-- The number by which a rule is told.
abbrev pub number_of : BaseRule → ℕ
number_of rules.KnownBases = 26
number_of rules.NoCircle = 27
number_of rules.RightPlaces = 28
number_of rules.KnownRefinements = 29
number_of rules.RefinedOnce = 30
number_of rules.SmallModel = 31
