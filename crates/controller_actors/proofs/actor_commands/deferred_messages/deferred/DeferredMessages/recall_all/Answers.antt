use Rattle.controller_actors.proofs.actor_commands.deferred_messages.Kept.{all_back}
use Rattle.controller_actors.proofs.actor_commands.deferred_messages.deferred.DeferredMessages.recall_all.Goals as goal

pub returns : goal.returns
returns c =
    all_back c.args.self.now c.move_to.new.self c.args.back.now c.move_to.new.back c.args.notes.now c.push.new.self c.len-count.result
    c.in_ok-move_to.ensures.none c.in_ok-move_to.ensures.back c.len-count.ensures c.in_ok-push.ensures.ok
