use Rattle.std.proofs.Common.{◌≡◌, ◌<◌, true, arith}
use Rattle.std.specs.List.{list_any}
use Rattle.std.proofs.lemmas.Grind.{common_steps}
use Rattle.controller_mail.specs.MailState.{has_messages}
use Rattle.model_run.proofs.joined_round.JoinLaw.{turn_taken}
use Rattle.model_run.proofs.joined_round.joined.last_turn.Goals as goal

pub returns-clause-ok : goal.returns-clause-ok
returns-clause-ok c =
    let old = c.args.controller.now in
    let fuel : old.mail.turns < old.fuel = grind (arith, common_steps, c.is_spent.ensures, c.if-is_spent.false) in
    let some : list_any has_messages old.mail.pending ≡ true = grind (arith, common_steps, c.has_pending.ensures.waits, c.if-not-has_pending.false) in
    turn_taken c.args.plant.now old c.turn.new.self c.in_ok-turn.field-0 c.requires.ready.works fuel c.has_pending.ensures.six some c.in_ok-turn.ensures.ok
