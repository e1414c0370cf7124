use Rattle.std.proofs.lemmas.Result.{err_from_is_err_and}
use Rattle.std.proofs.Common.{◌++◌}
use Rattle.room_outside.proofs.line_text.OutputLemmas.{puts_second, breaks_first, breaks_second}
use Rattle.binding_expand.specs.declared.tree_text.place.Tie.TheVariants.{Join, Socket}
use Rattle.binding_expand.specs.tree_text.Text.{slots_text, ties_text, tree_text}
use Rattle.binding_expand.proofs.tree_text.text.write_tree.Goals as goal

pub returns-in_err-write_slots : goal.returns-in_err-write_slots
unfolding tree_text
returns-in_err-write_slots g c =
    let p = err_from_is_err_and c.from_residual.result c.from_residual.ensures.1 in
    let t = c.args.wiring.now in
    rw p.1 (breaks_first _ _ (slots_text t) (ties_text t Join ++ ties_text t Socket) c.in_err-write_slots.ensures)

pub returns-in_err-write_ties : goal.returns-in_err-write_ties
unfolding tree_text
returns-in_err-write_ties g c =
    let p = err_from_is_err_and c.from_residual-in_err-write_ties.result c.from_residual-in_err-write_ties.ensures.1 in
    let t = c.args.wiring.now in
    rw p.1 (breaks_second _ _ _ (slots_text t) (ties_text t Join ++ ties_text t Socket) c.in_ok-write_slots.ensures (breaks_first _ _ (ties_text t Join) (ties_text t Socket) c.in_err-write_ties.ensures))

pub returns : goal.returns
unfolding tree_text
returns g c =
    let t = c.args.wiring.now in
    puts_second _ _ _ _ (slots_text t) (ties_text t Join ++ ties_text t Socket) c.in_ok-write_slots.ensures
    (puts_second _ _ _ _ (ties_text t Join) (ties_text t Socket) c.in_ok-write_ties.ensures c.write_ties-2.ensures)
