use Rattle.std.proofs.Common.{refl}
use Rattle.controller_actors.proofs.actor_commands.deferred_messages.Kept.{oldest_back, none_back}
use Rattle.controller_actors.proofs.actor_commands.deferred_messages.deferred.DeferredMessages.recall.Goals as goal

pub returns-in_ok-push-in-Some : goal.returns-in_ok-push-in-Some
returns-in_ok-push-in-Some c =
    oldest_back c.in-Some.m c.args.self.now c.take_oldest.new.self c.args.back.now c.put_in_front.new.self c.args.notes.now c.push.new.self
    c.in-Some.ensures c.in_ok-put_in_front-in-Some.ensures.ok c.in_ok-push-in-Some.ensures.ok

pub returns-in_ok-push-in-None : goal.returns-in_ok-push-in-None
returns-in_ok-push-in-None c =
    none_back c.args.self.now c.take_oldest.new.self c.args.back.now c.args.back.now c.args.notes.now c.push-in-None.new.self
    c.in-None.ensures.0 c.in-None.ensures.1 refl c.in_ok-push-in-None.ensures.ok
