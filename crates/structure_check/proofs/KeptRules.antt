-- What a model keeps that breaks no rule.
use Rattle.std.proofs.Common.{◌≡◌, ℕ, zero, suc, ◌-◌, Bool, true, false, cond, List, [], ◌∷◌, map, slice_get, Option, Some, None, refl, subst}
use Rattle.std.proofs.lemmas.Option.{same_Some}
use Rattle.room_ast.specs.Trees.{ModelTree}
use Rattle.check_classes.specs.class_rules.Types.{has_fitting_values}
use Rattle.check_tables.specs.containment_rules.Circles.{data_is_finite}
use Rattle.check_mappings.specs.count_rules.Counts.{has_few_parts}
use Rattle.structure_check.specs.Rules.{first_broken}
use Rattle.structure_check.specs.List.{rule_of, flat_rules, all_rules}
use Rattle.structure_check.specs.declared.flat_rule.FlatRule.{FlatRule}
use Rattle.structure_check.specs.declared.flat_rule.FlatRule.TheVariants as rules
use Rattle.structure_check.specs.Ranks.{ReferencesFall}
use Rattle.structure_check.proofs.RankLaws.{references_fall}

-- a rule at the head that isn't broken is kept, and so are those behind it
head_kept : (b : Bool) (number : ℕ) (o : Option ℕ) → cond b o (Some number) ≡ None → b ≡ true
head_kept true number o e = refl
head_kept false number o e = absurd cc

tail_kept : (b : Bool) (number : ℕ) (o : Option ℕ) → cond b o (Some number) ≡ None → o ≡ None
tail_kept true number o e = e
tail_kept false number o e = absurd cc

-- each rule of a list of which none is broken is kept
kept_in : (m : ModelTree) (rs : List FlatRule) → first_broken (map rule_of rs) m ≡ None → (i : ℕ) (r : FlatRule) → slice_get rs i ≡ Some r → (rule_of r).keeps m ≡ true
kept_in m [] e i r at = absurd cc
kept_in m (x ∷ rs) e zero r at =
    let P : FlatRule → Type 0 = λ y. (rule_of y).keeps m ≡ true in subst P (same_Some x r at) (head_kept ((rule_of x).keeps m) (rule_of x).number _ e)
kept_in m (x ∷ rs) e (suc i) r at = kept_in m rs (tail_kept ((rule_of x).keeps m) (rule_of x).number _ e) i r at

-- where each rule stands in the list
place_of : FlatRule → ℕ
place_of rules.OneSystem = 0
place_of rules.ClassNames = 1
place_of rules.PartNames = 2
place_of rules.MessageNames = 3
place_of rules.FieldNames = 4
place_of rules.KnownTypes = 5
place_of rules.FiniteData = 6
place_of rules.SmallClasses = 7
place_of rules.FittingValues = 8
place_of rules.KnownProtocols = 9
place_of rules.OwnPorts = 10
place_of rules.KnownActors = 11
place_of rules.FiniteActors = 12
place_of rules.Replication = 13
place_of rules.AnyPlacesAtEnds = 14
place_of rules.PlainSubsystems = 15
place_of rules.ImportedEnds = 16
place_of rules.BindingSides = 17
place_of rules.SidesAgree = 18
place_of rules.AnyPlacesOnce = 19
place_of rules.KnownLayers = 20
place_of rules.FewThreads = 21
place_of rules.KnownMappings = 22
place_of rules.AllowedMappings = 23
place_of rules.FewParts = 24

stands : (r : FlatRule) → slice_get flat_rules (place_of r) ≡ Some r
unfolding place_of
stands rules.OneSystem = refl
stands rules.ClassNames = refl
stands rules.PartNames = refl
stands rules.MessageNames = refl
stands rules.FieldNames = refl
stands rules.KnownTypes = refl
stands rules.FiniteData = refl
stands rules.SmallClasses = refl
stands rules.FittingValues = refl
stands rules.KnownProtocols = refl
stands rules.OwnPorts = refl
stands rules.KnownActors = refl
stands rules.FiniteActors = refl
stands rules.Replication = refl
stands rules.AnyPlacesAtEnds = refl
stands rules.PlainSubsystems = refl
stands rules.ImportedEnds = refl
stands rules.BindingSides = refl
stands rules.SidesAgree = refl
stands rules.AnyPlacesOnce = refl
stands rules.KnownLayers = refl
stands rules.FewThreads = refl
stands rules.KnownMappings = refl
stands rules.AllowedMappings = refl
stands rules.FewParts = refl

-- a model that breaks no rule keeps each of them
pub rule_kept : (m : ModelTree) → first_broken all_rules m ≡ None → (r : FlatRule) → (rule_of r).keeps m ≡ true
unfolding all_rules
rule_kept m e r = kept_in m flat_rules e (place_of r) r (stands r)

pub all_finite : (m : ModelTree) → first_broken all_rules m ≡ None → data_is_finite m ≡ true
all_finite m e = rule_kept m e rules.FiniteData

pub all_fitting : (m : ModelTree) → first_broken all_rules m ≡ None → has_fitting_values m ≡ true
all_fitting m e = rule_kept m e rules.FittingValues

pub all_few : (m : ModelTree) → first_broken all_rules m ≡ None → has_few_parts m ≡ true
all_few m e = rule_kept m e rules.FewParts

pub all_fall : (m : ModelTree) → first_broken all_rules m ≡ None → ReferencesFall m
all_fall m e = references_fall m (rule_kept m e rules.FiniteActors)
