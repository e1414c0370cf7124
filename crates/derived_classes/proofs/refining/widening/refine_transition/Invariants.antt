use Rattle.std.proofs.Common.{◌≡◌, drop}
use Rattle.derived_classes.specs.Refining.{all_acting, refined_transition}
use Rattle.derived_classes.specs.Views.{code_views, refining_views}
use Rattle.derived_classes.proofs.refining.widening.refine_transition.Given as goal

abbrev pub invariant-loop-code : goal.invariant-loop-code
invariant-loop-code l = record l.transition { body = all_acting (code_views (drop l.code-index l.code-items)) l.transition.body } ≡ refined_transition (refining_views l.grouped.pending.now) l.initial.transition
