use Rattle.std.proofs.Common.{Bool, not, rules, ap, ◌∙◌}
use Rattle.std.specs.Prelude.{filter}
use Rattle.std.proofs.lemmas.Fn.{filter_same}
use Rattle.room_kinds.specs.declared.numbers.Incarnation.{Incarnation}
use Rattle.actor_duties.specs.Words.{is_incarnation}
use Rattle.frame_service.proofs.frame_imports.import_places.plugs.Plugs.remove.Goals as goal

pub returns : goal.returns
returns c =
    let stays : Incarnation → Bool = λ q. not (is_incarnation q c.args.plug) in
    filter_same _ stays _ (λ x b f' called. search rules) _ _ c.retain.ensures.filtered ∙ ap (filter stays) c.self.view_is
