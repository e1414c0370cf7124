use Rattle.std.proofs.Common.{◌++◌, sym, ap, ◌∙◌}
use Rattle.std.proofs.lemmas.List.{append-nil}
use Rattle.actor_duties.specs.State.{Links, Done}
use Rattle.layer_service.specs.layer_links.Kept.{links_of}
use Rattle.layer_service.proofs.layer_links.Duties.{other_of}
use Rattle.layer_service.proofs.layer_links.links.Links.duty_from.Goals as goal

pub returns-in_default : goal.returns-in_default
returns-in_default c =
    let whole = other_of c.args.wiring.now c.args.me.0 (links_of c.args.self.now) c.args.kind c.args.source c.args.m.now.target c.args.m.now.payload c.in_default.not-Bound c.in_default.not-Ended c.in_default.not-NameReply in
    record {
      now = sym (ap (λ (r : Done Links). r.now) whole);
      sent = sym (ap (λ (r : Done Links). c.args.out.now ++ r.sent) whole ∙ append-nil c.args.out.now);
    }
