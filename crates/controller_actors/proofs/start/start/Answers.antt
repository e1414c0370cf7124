use Rattle.std.proofs.Common.{ap, ◌∙◌, replicate}
use Rattle.room_kinds.specs.declared.numbers.ControllerId.{ControllerId}
use Rattle.controller_actors.specs.declared.actor_commands.output.Output.{Output}
use Rattle.controller_actors.specs.declared.actors.Actors.{Actors}
use Rattle.controller_actors.specs.declared.start.Starting.{Starting}
use Rattle.controller_actors.specs.Bodies.{vacant}
use Rattle.controller_actors.proofs.Beginnings.{starts_none, whole_state, whole_entries}
use Rattle.controller_actors.proofs.start.start.Goals as goal

pub start_all-requires : goal.start_all-requires
start_all-requires c =
    let actors : Actors = record { alloc = c.args.alloc; services = record { frame = c.in_ok-frame.frame; links = c.new.result }; table = c.new-2.result; slots = c.in_ok-slots.slots } in
    let none : Starting = record { actors = actors; output = c.new-4.result; entries = c.new-5.result } in
    record {
      started = starts_none c.args.plant.now c.args.me.0 none (record { fits = c.in_ok-frame.ensures.fits; owner = ap (λ (x : ControllerId). x.0) c.in_ok-frame.ensures.me }) c.in_ok-frame.ensures.frame c.new.ensures c.new-2.ensures (c.in_ok-slots.ensures ∙ ap (λ n. replicate n vacant) c.own_count.ensures)
          (ap (λ (o : Output). o.messages) c.new-4.ensures) (ap (λ (o : Output). o.back) c.new-4.ensures) c.new-5.ensures;
    }

pub returns-clause-state : goal.returns-clause-state
returns-clause-state c = whole_state c.args.plant.now c.args.me.0 c.start_all.new.self c.in_ok-start_all.ensures

pub returns-clause-entries : goal.returns-clause-entries
returns-clause-entries c = whole_entries c.args.plant.now c.args.me.0 c.start_all.new.self c.in_ok-start_all.ensures
