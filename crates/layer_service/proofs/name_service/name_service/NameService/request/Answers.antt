use Rattle.std.proofs.Common.{◌++◌, sym, ap, ◌∙◌}
use Rattle.std.proofs.lemmas.List.{append-nil}
use Rattle.actor_duties.specs.State.{NameTable, Done}
use Rattle.layer_service.proofs.name_service.ByKind.{other_request}
use Rattle.layer_service.proofs.name_service.name_service.NameService.request.Goals as goal

pub returns-in_default : goal.returns-in_default
returns-in_default c =
    let whole = other_request c.args.wiring.now c.args.self.now c.args.kind c.args.point c.args.numbers.now c.in_default.not-Register c.in_default.not-Withdraw in
    record {
      now = sym (ap (λ (r : Done NameTable). r.now) whole);
      sent = sym (ap (λ (r : Done NameTable). c.args.out.now ++ r.sent) whole ∙ append-nil c.args.out.now);
    }
