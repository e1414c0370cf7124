use Rattle.std.proofs.Common.{◌≡◌, true, false, sym, ◌∙◌, arith}
use Rattle.std.specs.List.{slice_index_or}
use Rattle.room_ast.specs.Trees.{model_view}
use Rattle.structure_check.specs.List.{rule_of}
use Rattle.structure_check.specs.declared.flat_rule.FlatRule.TheVariants as rules
use Rattle.structure_check.proofs.Asking.{all_left, left_broken, left_kept, finite_kept}
use Rattle.structure_check.proofs.checking.first_broken.Goals as goal

pub loop-rule-init : goal.loop-rule-init
loop-rule-init c = record { left = all_left (model_view c.args.model.now) c.args.rules.now c.requires.rules; finite = λ h. absurd (omega (arith, h)) }

pub returns-then-not-branch : goal.returns-then-not-branch
returns-then-not-branch c =
    left_broken (model_view c.args.model.now) c.args.rules.now c.loop-rule.rule-index rules.OneSystem c.loop-rule-test.true c.loop-rule.invariant.left
    (sym c.in_ok-keeps.ensures ∙ c.if-not-branch.true)

pub loop-rule-preserved : goal.loop-rule-preserved
loop-rule-preserved c =
    let m = model_view c.args.model.now in
    let rs = c.args.rules.now in
    let i = c.loop-rule.rule-index in
    let kept : (rule_of (slice_index_or rs i rules.OneSystem)).keeps m ≡ true = sym c.in_ok-keeps.ensures ∙ c.if-not-branch.false in
    record {
      left = left_kept m rs i rules.OneSystem c.loop-rule-test.true c.loop-rule.invariant.left kept;
      finite = finite_kept m rs i rules.OneSystem c.requires.rules c.loop-rule.invariant.finite kept;
    }
