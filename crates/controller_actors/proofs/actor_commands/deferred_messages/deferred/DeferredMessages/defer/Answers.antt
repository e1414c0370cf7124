use Rattle.std.proofs.Common.{[], Bool, refl, sym, subst}
use Rattle.actor_duties.specs.Commands.{defer}
use Rattle.controller_actors.specs.actor_commands.deferred_messages.Steps.{Applies}
use Rattle.controller_actors.proofs.actor_commands.deferred_messages.Kept.{kept_already, nothing_in_hand}
use Rattle.controller_actors.proofs.actor_commands.deferred_messages.deferred.DeferredMessages.defer.Goals as goal

pub returns-then-kept : goal.returns-then-kept
returns-then-kept c =
    let ds = c.args.self.now in
    let ns = c.args.notes.now in
    subst (λ (b : Bool). Applies (defer b c.args.message ds) ds [] [] ns ns) (sym c.if-kept.true) (kept_already c.args.message ds ds ns ns refl refl)

pub returns-in_ok-push-in-None : goal.returns-in_ok-push-in-None
returns-in_ok-push-in-None c =
    let ds = c.args.self.now in
    let ns = c.args.notes.now in
    subst (λ (b : Bool). Applies (defer b c.args.message ds) ds [] [] ns c.push.new.self) (sym c.if-kept.false)
    (rw c.in-None.is (nothing_in_hand ds ds ns c.push.new.self refl c.in_ok-push-in-None.ensures.ok))
