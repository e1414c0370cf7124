use Rattle.std.proofs.Common.{List, sym, subst}
use Rattle.room_kinds.specs.declared.numbers.Incarnation.{Incarnation}
use Rattle.controller_actors.specs.Steps.{Starts}
use Rattle.controller_actors.proofs.Beginnings.{first_none, first_more}
use Rattle.controller_actors.proofs.start.Starting.start_all.Goals as goal

pub loop-number-init : goal.loop-number-init
loop-number-init c =
    subst (λ (xs : List Incarnation). Starts c.args.plant.now c.args.me.0 xs c.args.self.now) (sym (first_none c.args.plant.now c.args.me.0)) c.requires.started

pub loop-number-preserved : goal.loop-number-preserved
loop-number-preserved c =
    subst (λ (xs : List Incarnation). Starts c.args.plant.now c.args.me.0 xs c.consider.new.self) (first_more c.args.plant.now c.args.me.0 c.loop-number.number) c.in_ok-consider.ensures
