use Rattle.std.proofs.Common.{List, ℕ, refl, ap, ◌∙◌}
use Rattle.std.specs.Prelude.{slice_set}
use Rattle.std.proofs.lemmas.Result.{IfOk-weaker}
use Rattle.number_graphs.specs.class_containment.Walks.{leaves, drops, looks, is_open}
use Rattle.number_graphs.specs.declared.class_containment.Progress.TheVariants.{Settled}
use Rattle.number_graphs.proofs.class_containment.Searching.{read_at, none_left, first_and_rest}
use Rattle.number_graphs.proofs.class_containment.turn.Goals as goal

pub returns-in_ok-push-in-Open-empty : goal.returns-in_ok-push-in-Open-empty
returns-in_ok-push-in-Open-empty c =
    leaves c.in-Open-empty.field-0 (read_at _ _ _ _ _ c.as_slice.ensures.value c.at.ensures c.in-Open-empty.is) (none_left _ c.in-Open-empty.len_below)
    (ap (λ (n : ℕ). slice_set c.args.walk.now.progress.items c.args.top (Settled n)) (c.len-place.ensures ∙ c.args.walk.now.order.ok.0)) c.in_ok-push-in-Open-empty.ensures.items refl

pub returns-in-Open-len1-up : goal.returns-in-Open-len1-up
returns-in-Open-len1-up c =
    IfOk-weaker c.look.result _ _
    (λ found h. looks c.in-Open-len1-up.field-0 _ _ found (read_at _ _ _ _ _ c.as_slice.ensures.value c.at.ensures c.in-Open-len1-up.is) (first_and_rest c.in-Open-len1-up.field-0.now c.in-Open-len1-up.len_at_least) h) c.look.ensures

pub returns-in-Untouched : goal.returns-in-Untouched
returns-in-Untouched c = drops (ap is_open (read_at _ _ _ _ _ c.as_slice.ensures.value c.at.ensures c.in-Untouched.is)) refl refl refl

pub returns-in-Settled : goal.returns-in-Settled
returns-in-Settled c = drops (ap is_open (read_at _ _ _ _ _ c.as_slice.ensures.value c.at.ensures c.in-Settled.is)) refl refl refl
