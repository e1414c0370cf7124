use Rattle.std.proofs.Common.{List, false, refl, sym, ◌∙◌, subst, arith}
use Rattle.room_kinds.specs.declared.command.Command.{Command}
use Rattle.controller_actors.specs.actor_commands.Doings.{AppliesAll, Doing}
use Rattle.controller_actors.proofs.actor_commands.Steps.{none_applied, first_applied, nothing_left}
use Rattle.controller_actors.proofs.actor_commands.commands.apply_all.Goals as goal

pub loop-command-init : goal.loop-command-init
loop-command-init g c =
    let s = c.args.speaker.now in
    let f = g.S.Services.frame_of c.args.services.now in
    let l = g.S.Services.links_of c.args.services.now in
    let first : Doing = record { deferred = c.args.deferred.now; output = c.args.output.now; kept = false } in
    record {
      serves = c.requires.serves;
      hand = λ e. refl;
      rest = λ f' l' new h. subst (λ (cs : List Command). AppliesAll s.wiring.now s.me.0 f l f' l' s.who c.args.message cs first new) (c.from_vec-queue.ensures.items ∙ c.into_vec.ensures) h;
    }

pub loop-command-preserved : goal.loop-command-preserved
loop-command-preserved g c =
    let s = c.args.speaker.now in
    let m = c.args.message in
    let f = g.S.Services.frame_of c.loop-command.services in
    let l = g.S.Services.links_of c.loop-command.services in
    let f1 = g.S.Services.frame_of c.apply.new.services in
    let l1 = g.S.Services.links_of c.apply.new.services in
    let i = c.loop-command.invariant in
    let a = c.in_ok-apply.ensures.applied in
    let old : Doing = record { deferred = c.loop-command.deferred; output = c.loop-command.output; kept = c.loop-command.hand.kept } in
    let next : Doing = record { deferred = c.apply.new.deferred; output = c.apply.new.output; kept = c.apply.new.hand.kept } in
    record {
      serves = c.in_ok-apply.ensures.serves;
      hand = a.left m i.hand;
      rest = λ f' l' new h. i.rest f' l' new
          (subst (λ (cs : List Command). AppliesAll s.wiring.now s.me.0 f l f' l' s.who m cs old new) (sym c.in-Some.ensures.items)
          (first_applied s.wiring.now s.me.0 f l s.who m f1 l1 f' l' c.in-Some.command c.pop_front.new.self.items old next new (a.on m i.hand) h));
    }

pub returns-clause-applied : goal.returns-clause-applied
returns-clause-applied g c =
    let s = c.args.speaker.now in
    let f = g.S.Services.frame_of c.loop-command.services in
    let l = g.S.Services.links_of c.loop-command.services in
    let last : Doing = record { deferred = c.loop-command.deferred; output = c.loop-command.output; kept = c.loop-command.hand.kept } in
    record {
      kept = c.loop-command.hand.kept;
      all = c.loop-command.invariant.rest f l last
          (subst (λ (cs : List Command). AppliesAll s.wiring.now s.me.0 f l f l s.who c.args.message cs last last) (sym (nothing_left c.loop-command.queue.items (omega (arith, c.loop-command.queue.ok.0, c.in_default.ensures.cases.0))))
          (none_applied s.wiring.now s.me.0 f l s.who c.args.message last));
    }
