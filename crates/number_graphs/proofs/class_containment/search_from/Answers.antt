use Rattle.std.proofs.Common.{refl}
use Rattle.std.specs.Vec.{with_item}
use Rattle.std.proofs.lemmas.Result.{IfOk-weaker}
use Rattle.number_graphs.specs.declared.class_containment.Progress.TheVariants.{Open}
use Rattle.number_graphs.proofs.class_containment.Searching.{read_at, from_one}
use Rattle.number_graphs.proofs.class_containment.search_from.Goals as goal

pub returns-in_ok-push-in-Untouched : goal.returns-in_ok-push-in-Untouched
returns-in_ok-push-in-Untouched c =
    IfOk-weaker c.search.result _ _
    (λ found h. from_one c.args.walk.now (record { progress = with_item c.args.walk.now.progress c.args.class (Open c.in-Untouched.parts); path = c.push.new.self; order = c.args.walk.now.order }) c.search.new.walk c.args.class c.in-Untouched.parts found
    (read_at _ _ _ _ _ c.as_slice.ensures.value c.at.ensures c.in-Untouched.is) refl c.in_ok-push-in-Untouched.ensures.items refl h) c.search.ensures
