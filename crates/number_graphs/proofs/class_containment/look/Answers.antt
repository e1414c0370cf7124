use Rattle.std.proofs.Common.{List, ℕ, [], ◌∷◌, ◌++◌, refl, ap, ◌∙◌}
use Rattle.number_graphs.specs.class_containment.Walks.{reaches, passes, circles, is_settled}
use Rattle.number_graphs.proofs.class_containment.Searching.{read_at}
use Rattle.number_graphs.proofs.class_containment.look.Goals as goal

pub returns-in-Open : goal.returns-in-Open
returns-in-Open c = circles c.in-Open.field-0 (read_at _ _ _ _ _ c.as_slice.ensures.value c.at.ensures c.in-Open.is)

pub returns-in_ok-push-in-Untouched-2 : goal.returns-in_ok-push-in-Untouched-2
returns-in_ok-push-in-Untouched-2 c =
    reaches c.in-Untouched.parts (read_at _ _ _ _ _ c.as_slice.ensures.value c.at.ensures c.in-Untouched.is) refl refl
    (c.in_ok-push-in-Untouched-2.ensures.items ∙ ap (λ (xs : List ℕ). xs ++ c.args.part ∷ []) c.in_ok-push-in-Untouched.ensures.items)

pub returns-in_ok-push-in-Settled : goal.returns-in_ok-push-in-Settled
returns-in_ok-push-in-Settled c =
    passes (ap is_settled (read_at _ _ _ _ _ c.as_slice.ensures.value c.at.ensures c.in-Settled.is)) refl refl c.in_ok-push-in-Settled.ensures.items
