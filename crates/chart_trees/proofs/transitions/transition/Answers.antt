use Rattle.std.proofs.Common.{◌≡◌, Option, sym, ap, ◌∙◌, subst}
use Rattle.room_ast.specs.declared.chart.TransitionBody.{TransitionBody}
use Rattle.chart_trees.specs.chart_codes.Progress.{Progress, progress, after_action}
use Rattle.chart_trees.specs.chart_codes.Events.{trigger_list}
use Rattle.chart_trees.specs.Reading.{after_transition}
use Rattle.chart_trees.proofs.Steps.{before_met}
use Rattle.chart_trees.proofs.transitions.transition.Goals as goal

pub returns-clause-met : goal.returns-clause-met
returns-clause-met c =
    let before = before_met c.args.scope.now c.args.marks.now c.triggers.new.marks c.guard.new.marks (trigger_list c.in-Some.body.triggers) c.in-Some.body.condition c.args.names.now c.in_ok-triggers.ensures.events c.in_ok-triggers.ensures.codes c.in_ok-condition.ensures.marks in
    subst (λ (b : Option TransitionBody). progress c.action.new.marks c.action.new.names ≡ after_transition c.args.scope.now (progress c.args.marks.now c.args.names.now) b) (sym c.in-Some.is)
    (c.in_ok-action.ensures.progress ∙ ap (λ (p : Progress). after_action c.args.scope.now p c.in-Some.body.action) before)
