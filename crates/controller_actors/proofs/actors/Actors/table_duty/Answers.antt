use Rattle.std.proofs.Common.{List, ◌++◌, ap, ◌∙◌}
use Rattle.room_kinds.specs.declared.message.Msg.{Msg}
use Rattle.actor_duties.specs.Names.{table_duty}
use Rattle.controller_actors.proofs.Naming.{has_table}
use Rattle.controller_actors.proofs.actors.Actors.table_duty.Goals as goal

pub returns : goal.returns
returns c =
    let p = c.args.plant.now in
    let me = c.args.me.0 in
    let m = c.args.m.now in
    let old = c.args.self.now in
    let done = table_duty p.wiring me old.table c.args.kind m in
    has_table p me m c.args.kind old c.only_sends.result c.requires.well c.duty.new.self c.duty.new.out c.requires.table c.in_ok-duty.ensures.now
    (c.in_ok-duty.ensures.sent ∙ ap (λ (ms : List Msg). ms ++ done.sent) c.new-sent.ensures) c.only_sends.ensures
