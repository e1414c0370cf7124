use Rattle.std.proofs.Common.{◌≡◌, Result, Ok, Err, Option, Some, None, IfOk, OnErr, IfNone, IfSome, MatchOption, option_map, [], refl, ap}
use Rattle.journal.specs.declared.entry.Entry.TheVariants as entry
use Rattle.actor_merge.specs.Parties.{post}
use Rattle.controller_mail.specs.Queues.{Queues, alone}
use Rattle.controller_mail.specs.declared.mail_queues.Posted.{Posted}
use Rattle.controller_mail.proofs.Mails.{none-posted}
use Rattle.controller_actors.specs.Bodies.{body_of}
use Rattle.controller_actors.specs.declared.plant.Plant.{Plant}
use Rattle.controller.specs.Controllers.{run_plant}
use Rattle.controller.specs.States.{Makes}
use Rattle.controller.specs.declared.controller_state.ControllerState.{ControllerState}
use Rattle.controller.proofs.Making.{post_made}
use Rattle.controller.proofs.controller_state.ControllerState.post.Goals as goal

module _ {E : Type 0} (s : ControllerState) (new : Queues) where
  made : (r : Result (Option Posted) E) → IfOk r (λ o. post s.me.0 (alone s.mail) ≡ option_map (λ (p : Posted). (alone new, p.entry)) o)
      → IfOk r (λ o. IfSome o (λ (p : Posted). p.entry ≡ entry.Post p.message.stamp p.message))
      → IfOk r (λ o. MatchOption o (s.mail.outbox ≡ []) (λ (p : Posted). (plant : Plant) → Makes plant s (record s { mail = new }) p.entry))
  made (Ok None) is at = none-posted s.me.0 s.mail is
  made (Ok (Some p)) is at = λ plant. record {
    me = refl;
    does = λ lines. post_made (run_plant plant lines) s.me.0 s.mail new p.message p.entry (body_of plant s.me.0 s.actors) is at;
  }
  made (Err x) is at = tt

  none : (r : Result (Option Posted) E) → IfOk r (λ o. IfNone o (new ≡ s.mail)) → IfOk r (λ o. IfNone o (record s { mail = new } ≡ s))
  none (Ok None) is = ap (λ (q : Queues). record s { mail = q }) is
  none (Ok (Some p)) is = tt
  none (Err x) is = tt

  same : (r : Result (Option Posted) E) → OnErr r (new ≡ s.mail) → OnErr r (record s { mail = new } ≡ s)
  same (Ok o) is = tt
  same (Err x) is = ap (λ (q : Queues). record s { mail = q }) is

pub returns-clause-made : goal.returns-clause-made
returns-clause-made c = made c.args.self.now c.post.new.self c.post.result c.post.ensures.ok c.post.ensures.entry

pub returns-clause-none : goal.returns-clause-none
returns-clause-none c = none c.args.self.now c.post.new.self c.post.result c.post.ensures.none

pub returns-clause-err : goal.returns-clause-err
returns-clause-err c = same c.args.self.now c.post.new.self c.post.result c.post.ensures.err

pub returns-clause-of : goal.returns-clause-of
returns-clause-of c = λ plant of. record { me = of.me; well = of.well }
