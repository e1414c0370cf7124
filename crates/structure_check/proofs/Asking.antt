-- One rule after another is asked.
use Rattle.std.proofs.Common.{◌≡◌, ◌⊎◌, inl, inr, ℕ, suc, ◌+◌, ◌<◌, Bool, true, false, cond, List, map, drop, drop-cons, length, Option, Some, None, option_map, sym, ap, ◌∙◌, subst, arith}
use Rattle.std.specs.List.{slice_index_or}
use Rattle.std.proofs.lemmas.Bool.{cases_eq}
use Rattle.room_ast.specs.Trees.{ModelTree}
use Rattle.check_tables.specs.containment_rules.Circles.{data_is_finite}
use Rattle.structure_check.specs.Rules.{first_broken}
use Rattle.structure_check.specs.List.{rule_of, flat_rules, all_rules}
use Rattle.structure_check.specs.declared.flat_rule.FlatRule.{FlatRule}

-- at first all are still to be asked
pub all_left : (m : ModelTree) (rs : List FlatRule) → rs ≡ flat_rules → first_broken all_rules m ≡ first_broken (map rule_of (drop 0 rs)) m
unfolding all_rules
all_left m rs same = ap (λ (z : List FlatRule). first_broken (map rule_of z) m) (sym same)

-- the next one, and those behind it
next_left : (m : ModelTree) (rs : List FlatRule) (i : ℕ) (none : FlatRule) → i < length rs
    → first_broken (map rule_of (drop i rs)) m
    ≡ cond ((rule_of (slice_index_or rs i none)).keeps m) (first_broken (map rule_of (drop (suc i) rs)) m) (Some (rule_of (slice_index_or rs i none)).number)
next_left m rs i none lt = ap (λ (z : List FlatRule). first_broken (map rule_of z) m) (drop-cons rs i none lt)

-- if it is broken, it is the first
pub left_broken : (m : ModelTree) (rs : List FlatRule) (i : ℕ) (none : FlatRule) → i < length rs
    → first_broken all_rules m ≡ first_broken (map rule_of (drop i rs)) m → (rule_of (slice_index_or rs i none)).keeps m ≡ false
    → Some (rule_of (slice_index_or rs i none)).number ≡ first_broken all_rules m
left_broken m rs i none lt left broken =
    let P : Bool → Type 0 = λ b. first_broken all_rules m ≡ cond b (first_broken (map rule_of (drop (suc i) rs)) m) (Some (rule_of (slice_index_or rs i none)).number) in
    sym (subst P broken (left ∙ next_left m rs i none lt))

-- if it is kept, those behind it are left
pub left_kept : (m : ModelTree) (rs : List FlatRule) (i : ℕ) (none : FlatRule) → i < length rs
    → first_broken all_rules m ≡ first_broken (map rule_of (drop i rs)) m → (rule_of (slice_index_or rs i none)).keeps m ≡ true
    → first_broken all_rules m ≡ first_broken (map rule_of (drop (i + 1) rs)) m
left_kept m rs i none lt left kept =
    let P : Bool → Type 0 = λ b. first_broken all_rules m ≡ cond b (first_broken (map rule_of (drop (suc i) rs)) m) (Some (rule_of (slice_index_or rs i none)).number) in
    let Q : ℕ → Type 0 = λ n. first_broken all_rules m ≡ first_broken (map rule_of (drop n rs)) m in
    let same : suc i ≡ i + 1 = omega arith in
    subst Q same (subst P kept (left ∙ next_left m rs i none lt))

-- the seventh rule is that data classes are finite
pub finite_kept : (m : ModelTree) (rs : List FlatRule) (i : ℕ) (none : FlatRule) → rs ≡ flat_rules → (6 < i → data_is_finite m ≡ true)
    → (rule_of (slice_index_or rs i none)).keeps m ≡ true → 6 < i + 1 → data_is_finite m ≡ true
finite_kept m rs i none same known kept lt = go (cases_eq i 6)
  where
    go : (i ≡ 6) ⊎ (i ≡ 6 → ⊥) → data_is_finite m ≡ true
    go (inl at) =
        let P : List FlatRule → Type 0 = λ z. (rule_of (slice_index_or z i none)).keeps m ≡ true in
        let Q : ℕ → Type 0 = λ n. (rule_of (slice_index_or flat_rules n none)).keeps m ≡ true in
        subst Q at (subst P same kept)
    go (inr other) = known (omega (arith, lt, other))

-- what was told of the first that is broken
pub told_broken : (m : ModelTree) (o : Option FlatRule) (r : FlatRule) → option_map (λ x. (rule_of x).number) o ≡ first_broken all_rules m → o ≡ Some r
    → first_broken all_rules m ≡ Some (rule_of r).number
told_broken m o r told is = sym told ∙ ap (option_map (λ x. (rule_of x).number)) is

pub told_none : (m : ModelTree) (o : Option FlatRule) → option_map (λ x. (rule_of x).number) o ≡ first_broken all_rules m → o ≡ None → first_broken all_rules m ≡ None
told_none m o told is = sym told ∙ ap (option_map (λ x. (rule_of x).number)) is
