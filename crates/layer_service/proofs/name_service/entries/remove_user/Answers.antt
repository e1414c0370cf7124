use Rattle.std.proofs.Common.{rules, not}
use Rattle.std.proofs.lemmas.Fn.{filter_same}
use Rattle.actor_duties.specs.State.{User}
use Rattle.actor_duties.specs.Names.{is_user}
use Rattle.layer_service.proofs.name_service.entries.remove_user.Goals as goal

pub returns : goal.returns
returns c = filter_same _ (λ (u : User). not (is_user c.args.endpoint u)) _ (λ x b f' called. search rules) _ _ c.retain.ensures.filtered
